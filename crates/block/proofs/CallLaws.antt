-- A call from a sound record, as it is computed, is a whole call by the rules: passes that go on again and a last one that stops, at most
-- six, with at most two events; and a call has one outcome. For the laws of histories and, with the
-- rank that each pass lowers (`call_falls`), for PhaseLaws and CallPhases.
use Prim.Native.Nat.{ℕ, zero, suc, ◌+◌, ◌≤◌}
use native.Mathlib.Omega.{arith}
use mathlib.Core.Bool.{Bool, true, false}
use mathlib.Core.Path.{◌≡◌, ◌∙◌, refl, sym, ap}
use lib.ListN.{length, length-append}
use Rattle.block.specs.Sound.{sound}
use Rattle.block.specs.Entry.{Entry, entry_fits}
use Rattle.block.specs.Event.{emitted}
use Rattle.block.specs.Rules.{pass}
use Rattle.block.specs.Call.{Outcome, last_pass, pass_then, Call, stops, goes, call_within, call_of, CallIsWhole, CallIsUnique}
use Rattle.block.proofs.Phases.{rank, Falling, halts, falls}
use Rattle.block.specs.declared.record.Record.{Record}
use Rattle.block.specs.declared.entry.Inputs.{Inputs}
use Rattle.std.proofs.lemmas.Bool.{cond_both}
use Rattle.block.proofs.Tests.{never}
use Rattle.block.proofs.Shapes.{Shape, settled, settled_of}
use Rattle.block.proofs.Passes.{room, passed, rank_least, rank_most, room_most}

-- a falling call with the passes and events that the record has left
record Ranked (k : ℕ) (i : Inputs) (e : Entry) (r : Record) (o : Outcome) : Type 0 where
  called : Falling k i e r o
  passes : o.passes ≤ rank r
  events : length o.events ≤ room r

module _ (k : ℕ) (i : Inputs) (e : Entry) where
  ends : (r : Record) → Shape k (entry_fits e ≡ true) r → (pass k i e r).again ≡ false → Ranked k i e r (last_pass (pass k i e r))
  ends r s h =
      let p = passed k i e s in
      record { called = halts r h; passes = rank_least r; events = let f : length (emitted (pass k i e r).event) + 0 ≤ room r = rw h at p.few in omega arith }

  goes_on : (r : Record) → Shape k (entry_fits e ≡ true) r → (pass k i e r).again ≡ true → (o : Outcome) → Ranked k i e (pass k i e r).next o → Ranked k i e r (pass_then (pass k i e r) o)
  goes_on r s h o c =
      let p = passed k i e s in
      let f : length (emitted (pass k i e r).event) + room (pass k i e r).next ≤ room r = rw h at p.few in
      record {
        called = falls r o h (p.lower h) c.called;
        passes = let l = p.lower h in omega (arith, c.passes);
        events = simp length-append (omega (arith, c.events));
      }

  within : (n : ℕ) (r : Record) → Shape k (entry_fits e ≡ true) r → rank r ≤ suc n → Ranked k i e r (call_within n k i e r)
  unfolding call_within
  within zero r s l = ends r s (last (pass k i e r).again refl)
    where
      last : (b : Bool) → (pass k i e r).again ≡ b → (pass k i e r).again ≡ false
      last true h = let g = (passed k i e s).lower h in let z : ⊥ = omega (arith, rank_least (pass k i e r).next) in absurd z
      last false h = h
  within (suc n) r s l =
      cond_both (pass k i e r).again _ _ (Ranked k i e r)
      (λ h. let g = (passed k i e s).lower h in goes_on r s h _ (within n (pass k i e r).next (passed k i e s).after (omega arith)))
      (λ h. ends r s h)

pub falling_call : {k : ℕ} {i : Inputs} {e : Entry} {r : Record} {o : Outcome} → Falling k i e r o → Call k i e r o
falling_call (halts r h) = stops r h
falling_call (falls r o h l c) = goes r o h (falling_call c)

computed : (k : ℕ) (i : Inputs) (e : Entry) (r : Record) → sound k r ≡ true → Ranked k i e r (call_of k i e r)
unfolding call_of
computed k i e r h = within k i e 5 r (settled (settled_of k (entry_fits e ≡ true) r h)) (rank_most r)

-- each pass of it that goes on lowers the rank
pub call_falls : (k : ℕ) (i : Inputs) (e : Entry) (r : Record) → sound k r ≡ true → Falling k i e r (call_of k i e r)
call_falls k i e r h = (computed k i e r h).called

pub call_whole : CallIsWhole
call_whole k i e r h =
    let w = computed k i e r h in
    record { called = falling_call w.called; passes = omega (arith, w.passes, rank_most r); events = omega (arith, w.events, room_most r) }

one_outcome : {k : ℕ} {i : Inputs} {e : Entry} {r : Record} {o p : Outcome} → Call k i e r o → Call k i e r p → o ≡ p
one_outcome (stops r h) (stops s g) = refl
one_outcome (stops r h) (goes s o g c) = never (sym g ∙ h)
one_outcome (goes r o h c) (stops s g) = never (sym h ∙ g)
one_outcome {k} {i} {e} (goes r o h c) (goes s p g d) = ap (λ (x : Outcome). pass_then (pass k i e r) x) (one_outcome c d)

pub call_unique : CallIsUnique
call_unique k i e r o p c d = one_outcome c d

-- what a call from a sound record computes is a call
pub is_call : {k : ℕ} {i : Inputs} {e : Entry} {r : Record} {o : Outcome} → sound k r ≡ true → o ≡ call_of k i e r → Call k i e r o
is_call {k} {i} {e} {r} s is = rw is (call_whole k i e r s).called
