-- Document 01, "One call": "A call repeats passes until one stops".
use Rattle.std.specs.Prelude.{ℕ, zero, suc, ◌+◌, ◌≤◌, true, false, cond, List, [], ◌++◌, ◌≡◌, length}
use Rattle.block.specs.Sound.{sound}
use Rattle.block.specs.Event.{emitted}
use Rattle.block.specs.Rules.{pass}
use Rattle.block.specs.declared.record.Record.{Record}
use Rattle.block.specs.declared.event.Event.{Event}
use Rattle.block.specs.declared.entry.Inputs.{Inputs}
use Rattle.block.specs.Entry.{Entry}
use Rattle.block.specs.declared.pass.Pass.{Pass}

-- what a call leaves: the record, its events in order, the pieces used, and the passes
pub record Outcome : Type 0 where
  pub next : Record
  pub events : List Event
  pub used : ℕ
  pub passes : ℕ

-- "Passes count each pass of a call, the stopping one included"
abbrev pub last_pass : Pass → Outcome
last_pass p = record { next = p.next; events = emitted p.event; used = p.used; passes = 1 }

-- a pass, and the rest of the call after it; "Pieces used count the pieces that Executing took."
abbrev pub pass_then : Pass → Outcome → Outcome
pass_then p o = record { next = o.next; events = emitted p.event ++ o.events; used = p.used + o.used; passes = suc o.passes }

-- the outcome of a call whose only pass stops and changes nothing
abbrev pub unchanged : Record → Outcome
unchanged r = record { next = r; events = []; used = 0; passes = 1 }

-- A call, with no bound on its passes: "the last is the first whose rule doesn't go on again".
pub data Call (k : ℕ) (i : Inputs) (e : Entry) : Record → Outcome → Type 0 where
  stops : (r : Record) → (pass k i e r).again ≡ false → Call k i e r (last_pass (pass k i e r))
  goes : (r : Record) (o : Outcome) → (pass k i e r).again ≡ true → Call k i e (pass k i e r).next o → Call k i e r (pass_then (pass k i e r) o)

-- A call computed, with at most n passes before the last. From a sound record it is the Call for n = 5: CallIsWhole.
unfoldable pub call_within : ℕ → ℕ → Inputs → Entry → Record → Outcome
call_within zero k i e r = last_pass (pass k i e r)
call_within (suc n) k i e r =
    cond (pass k i e r).again (pass_then (pass k i e r) (call_within n k i e (pass k i e r).next)) (last_pass (pass k i e r))

unfoldable pub call_of : ℕ → Inputs → Entry → Record → Outcome
call_of k i e r = call_within 5 k i e r

-- "A call repeats passes until one stops": a call of at most six passes, its events "at most two a block"
pub record Whole (k : ℕ) (i : Inputs) (e : Entry) (r : Record) (o : Outcome) : Type 0 where
  pub called : Call k i e r o
  pub passes : o.passes ≤ 6
  pub events : length o.events ≤ 2

-- the computed call of a sound record is whole: proved in proofs/CallLaws.antt
abbrev pub CallIsWhole : Type 0
CallIsWhole = (k : ℕ) (i : Inputs) (e : Entry) (r : Record) → sound k r ≡ true → Whole k i e r (call_of k i e r)

-- and a call has one outcome: call_unique, proved there too
abbrev pub CallIsUnique : Type 0
CallIsUnique = (k : ℕ) (i : Inputs) (e : Entry) (r : Record) (o p : Outcome) → Call k i e r o → Call k i e r p → o ≡ p
