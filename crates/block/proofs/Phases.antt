-- What is left of a call when one of its phases begins: how many passes can still come, and how the account and the rest make the call. For the laws of calls
-- and for `phases`.
use Rattle.std.specs.Prelude.{ℕ, ◌+◌, ◌*◌, ◌≤◌, ◌<◌, true, false, cond, ◌&&◌, ◌++◌, ◌≡◌, eqb, length}
use Rattle.block.specs.Record.{Dormant, Executing, Aborting, Resetting}
use Rattle.block.specs.Entry.{Entry, most_pieces}
use Rattle.block.specs.Ended.{is_end}
use Rattle.block.specs.Rules.{pass}
use Rattle.block.specs.Call.{Outcome, last_pass, pass_then}
use Rattle.block.specs.CallResult.{events_of, outcome_of}
use Rattle.block.specs.declared.record.Record.{Record}
use Rattle.block.specs.declared.entry.Inputs.{Inputs}
use Rattle.block.specs.declared.call.CallResult.{CallResult}

-- the most passes that can still come
unfoldable pub rank : Record → ℕ
rank r =
    cond (eqb r.step Dormant) 4
    (cond (eqb r.step Executing) 3
    (cond (eqb r.step Aborting) 2
    (cond (eqb r.step Resetting) (cond r.request 5 1)
    (cond (is_end r.step && r.flags.busy) 1 6))))

-- a call in which each pass that goes on lowers the rank
pub data Falling (k : ℕ) (i : Inputs) (e : Entry) : Record → Outcome → Type 0 where
  halts : (r : Record) → (pass k i e r).again ≡ false → Falling k i e r (last_pass (pass k i e r))
  falls : (r : Record) (o : Outcome) → (pass k i e r).again ≡ true → rank (pass k i e r).next < rank r → Falling k i e (pass k i e r).next o → Falling k i e r (pass_then (pass k i e r) o)

-- the outcome a, and o after it
abbrev pub joined : Outcome → Outcome → Outcome
joined a o = record { next = o.next; events = a.events ++ o.events; used = a.used + o.used; passes = a.passes + o.passes }

-- when the phase of rank n begins, with the account a, of a call that leaves `all`: what is left is a call, of that rank at most, which with the account makes it
-- whole, and the account has room for it
pub record Phase (k : ℕ) (i : Inputs) (e : Entry) (all : Outcome) (n : ℕ) (a : CallResult) : Type 0 where
  pub rest : Outcome
  pub left : Falling k i e a.next rest
  pub below : rank a.next ≤ n
  pub pieces : a.used ≤ most_pieces * a.passes
  pub passes : a.passes + rest.passes ≤ 6
  pub events : length (events_of a.first a.second) + length rest.events ≤ 2
  pub whole : joined (outcome_of a) rest ≡ all
