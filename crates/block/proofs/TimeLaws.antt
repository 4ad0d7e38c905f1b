-- What a call that stops in Executing says of time: elapsed is counted from the start, or from the record before, over the call clock and the
-- clocks of the pieces used, of those in step alone; it is not past the time-out in force; and the stored time-out is kept, or taken at the start. For histories.
use Prim.Native.Nat.{ℕ, ◌≤◌, ◌<◌}
use native.Mathlib.Omega.{arith}
use native.Mathlib.Nat.{zero-add}
use mathlib.Core.Bool.{Bool, true, false, cond}
use mathlib.Core.Logic.{◌≢◌}
use mathlib.Core.List.{List, [], ◌∷◌}
use mathlib.Core.Path.{◌≡◌, ◌∙◌, refl, sym, ap}
use lib.ListN.{take}
use Rattle.clock.specs.Clock.{clock_modulus, most_elapsed, out_of_step, start, tick}
use Rattle.clock.specs.declared.Timer.{Timer}
use Rattle.clock.proofs.ClockLaws.{tick_held, tick_start, tick_out_of_step, tick_in_step, in_time_lem}
use Rattle.block.specs.Event.{emitted}
use Rattle.block.specs.Record.{Executing}
use Rattle.block.specs.Entry.{Entry, entry_fits}
use Rattle.block.specs.Dormant.{time_out_taken}
use Rattle.block.specs.Executing.{time_out_of}
use Rattle.block.specs.Sound.{sound}
use Rattle.block.specs.Rules.{pass}
use Rattle.block.specs.Call.{Outcome, pass_then, Call, stops, goes}
use Rattle.block.specs.Turns.{has_start}
use Rattle.block.specs.History.{tick_all, clocks_of, in_step}
use Rattle.block.proofs.Phases.{rank}
use Rattle.block.specs.declared.record.Record.{Record}
use Rattle.block.specs.declared.entry.Inputs.{Inputs}
use Rattle.block.specs.declared.pass.Pass.{Pass}
use Rattle.membership.proofs.Logic.{by_test}
use Rattle.block.proofs.Tests.{never}
use Rattle.block.proofs.Shapes.{Shape, settled, settled_of, sound_held}
use Rattle.block.proofs.Passes.{Goes, starts, leaves, returns, passed}
use Rattle.block.proofs.EventLaws.{has_start_append, Events, events}

pub record Timing (k : ℕ) (e : Entry) (r : Record) (o : Outcome) : Type 0 where
  -- without a start the record before was in Executing
  pub came : has_start o.events ≡ false → r.step ≡ Executing
  pub timer : o.next.timer ≡ tick_all (cond (has_start o.events) (start e.clock) (tick r.timer e.clock)) (take o.used (clocks_of e.pieces))
  pub timeout : o.next.timeout ≡ cond (has_start o.events) (time_out_taken k e) r.timeout
  pub in_time : time_out_of k e o.next ≢ 0 → o.next.timer.elapsed ≤ time_out_of k e o.next

rank_executing : (r : Record) → r.step ≡ Executing → rank r ≡ 3
unfolding rank
rank_executing r h = rw h

module _ (k : ℕ) (i : Inputs) (e : Entry) (fits : e.clock < clock_modulus) where
  -- a pass that goes on, and the rest of the call after it
  joined : (r : Record) (p : Pass) (o : Outcome) → Goes k e r p → Events k e p.next o → Timing k e p.next o → Timing k e r (pass_then p o)
  unfolding has_start
  joined r p o (starts u v t w n) x y =
      let q : has_start o.events ≡ false = x.quiet (omega arith) in
      record {
        came = λ h. never (sym (rw (has_start_append, v)) ∙ h);
        timer = rw (has_start_append, v, u, zero-add) (rw (q, t, tick_start e.clock fits) at y.timer);
        timeout = rw (has_start_append, v) (rw (q, w) at y.timeout);
        in_time = y.in_time;
      }
  joined r p o (leaves low) x y =
      let q = y.came (x.quiet (omega arith)) in
      let z : ⊥ = omega (arith, rank_executing p.next q) in
      absurd z
  joined r p o (returns u v n) x y =
      by_test (has_start o.events)
      (λ h. record {
        came = λ g. never (sym (rw v h) ∙ g);
        timer = rw (v, u, zero-add, h) (rw h at y.timer);
        timeout = rw (v, h) (rw h at y.timeout);
        in_time = y.in_time;
      })
      (λ h. let z : ⊥ = omega (arith, rank_executing p.next (y.came h)) in absurd z)

  timing : {r : Record} {o : Outcome} → Shape k (entry_fits e ≡ true) r → Call k i e r o → o.next.step ≡ Executing → Timing k e r o
  unfolding has_start
  timing s (stops r h) x =
      let p = (passed k i e s).halts h x in
      let quiet : has_start (emitted (pass k i e r).event) ≡ false = ap has_start p.quiet in
      let timeout : (pass k i e r).next.timeout ≡ r.timeout = ap (λ (x : Record). x.timeout) p.after in
      record { came = λ _. ap (λ (x : Record). x.step) p.before; timer = rw quiet p.timer; timeout = rw quiet timeout; in_time = in_time_lem _ _ p.in_time }
  timing s (goes r o h c) x =
      let p = passed k i e s in
      joined r (pass k i e r) o (p.goes h) (events p.after c) (timing p.after c x)

pub call_time : {k : ℕ} {i : Inputs} {e : Entry} {r : Record} {o : Outcome} → e.clock < clock_modulus → sound k r ≡ true → Call k i e r o → o.next.step ≡ Executing → Timing k e r o
call_time {k} {i} {e} {r} {o} fits h c = timing k i e fits (settled (settled_of k (entry_fits e ≡ true) r h)) c

-- readings out of step can be left out
counted_in_step : (t : Timer) (readings : List ℕ) → t.elapsed ≤ most_elapsed → tick_all t readings ≡ tick_all t (in_step t.last readings)
unfolding tick_all in_step
counted_in_step t [] h = refl
counted_in_step t (c ∷ cs) h =
    by_test (out_of_step t.last c)
    (λ o. rw (o, tick_out_of_step t c h o) (counted_in_step t cs h))
    (λ o. rw o (counted_in_step (tick t c) cs (tick_held t c) ∙ ap (λ (last : ℕ). tick_all (tick t c) (in_step last cs)) (tick_in_step t c o)))

-- the call clock is added to the timer of a start too, and changes nothing there
from_clock : (b : Bool) (t : Timer) (c : ℕ) → c < clock_modulus → cond b (start c) (tick t c) ≡ tick (cond b (start c) t) c
from_clock true t c fits = sym (tick_start c fits)
from_clock false t c fits = refl

from_held : (b : Bool) (t : Timer) (c : ℕ) → t.elapsed ≤ most_elapsed → (cond b (start c) t).elapsed ≤ most_elapsed
from_held true t c h = omega arith
from_held false t c h = h

pub call_in_step : {k : ℕ} {i : Inputs} {e : Entry} {r : Record} {o : Outcome} → e.clock < clock_modulus → sound k r ≡ true → Call k i e r o → o.next.step ≡ Executing
    → o.next.timer
    ≡ tick_all (cond (has_start o.events) (start e.clock) r.timer)
    (in_step (cond (has_start o.events) (start e.clock) r.timer).last (e.clock ∷ take o.used (clocks_of e.pieces)))
unfolding tick_all
call_in_step {k} {i} {e} {r} {o} fits h c to =
    let used = take o.used (clocks_of e.pieces) in
    let b = has_start o.events in
    (call_time fits h c to).timer
    ∙ ap (λ (t : Timer). tick_all t used) (from_clock b r.timer e.clock fits)
    ∙ counted_in_step (cond b (start e.clock) r.timer) (e.clock ∷ used) (from_held b r.timer e.clock (sound_held k r h))
