-- The idle blocks are the Dormant ones whose pass stops; a call of one is that pass, which keeps the record, writes no event and uses no piece. For the
-- engine, which serves such a block without a call.
use Prim.Native.Nat.{ℕ}
use mathlib.Core.Bool.{Bool, true, false, not}
use mathlib.Core.Path.{◌≡◌, ◌∙◌, refl, ap}
use lib.Dec.{eqb}
use borrow.Author.Tests.{eqb-true, not-true}
use Rattle.membership.proofs.Logic.{by_test, and_left, and_right}
use Rattle.block.specs.Record.{Dormant}
use Rattle.block.specs.Dormant.{dormant}
use Rattle.block.specs.Rules.{rule, pass}
use Rattle.block.specs.Pass.{stop}
use Rattle.block.specs.Call.{last_pass, call_within, call_of}
use Rattle.block.specs.Idle.{idle, IdleIsStopped, IdleCallIsUnchanged}
use Rattle.block.specs.declared.record.Record.{Record}
use Rattle.block.specs.declared.entry.Inputs.{Inputs}
use Rattle.block.specs.Entry.{Entry}
use Rattle.block.specs.declared.pass.Pass.{Pass}
use Rattle.std.proofs.lemmas.Bool.{cond-false}

pub idle_stops : IdleIsStopped
unfolding rule dormant
idle_stops k i e r = by_test (eqb r.step Dormant) (λ d. rw d (by_test i.start (λ s. rw s refl) (λ s. rw s refl))) (λ d. rw d refl)

pub idle_dormant : (start : Bool) (step : ℕ) → idle start step ≡ true → step ≡ Dormant
idle_dormant start step h = eqb-true step Dormant (and_left (eqb step Dormant) (not start) h)

idle_pass : (k : ℕ) (i : Inputs) (e : Entry) (r : Record) → idle i.start r.step ≡ true → pass k i e r ≡ stop 0 r
unfolding rule dormant
idle_pass k i e r h =
    let low : i.start ≡ false = not-true i.start (and_right (eqb r.step Dormant) (not i.start) h) in
    rw (idle_dormant i.start r.step h, low)

pub idle_call : IdleCallIsUnchanged
unfolding call_of call_within
idle_call k i e r h =
    let p = idle_pass k i e r h in
    cond-false (pass k i e r).again _ _ (ap (λ (q : Pass). q.again) p) ∙ ap last_pass p
