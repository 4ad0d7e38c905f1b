-- What one pass does from each shape: the shape after it, its event, its time, and that few passes and events can still come.
-- For the laws of calls.
use Prim.Native.Nat.{ℕ, ◌+◌, ◌≤◌, ◌<◌}
use native.Mathlib.Omega.{arith}
use mathlib.Core.Bool.{Bool, true, false, cond, not, ◌&&◌, ◌||◌}
use mathlib.Core.List.{[], ◌∷◌}
use mathlib.Core.Option.{Option, none, some}
use mathlib.Core.Path.{◌≡◌, ◌∙◌, refl, sym}
use lib.Dec.{eqb, leb}
use lib.ListN.{length, take}
use borrow.Author.Tests.{not-true, leb-true, ne_eqb, eqb-true}
use Rattle.kind.specs.Kind.{is_edge, has_abort, has_time_limit, has_time_out, is_continuous}
use Rattle.clock.specs.Clock.{most_elapsed, start, tick, past_time_out}
use Rattle.clock.proofs.ClockLaws.{time_out_none}
use Rattle.clock.specs.declared.Timer.{Timer}
use Rattle.block.specs.Record.{Dormant, Executing, Done, Error, Aborting, Aborted, Resetting, TimedOut, fresh_record}
use Rattle.block.specs.Event.{emitted}
use Rattle.block.specs.Entry.{Entry, Complete, ErrorReply, least_error_code, entry_fits}
use Rattle.block.specs.Pass.{go_on}
use Rattle.block.specs.Dormant.{dormant, started, limit_taken, time_out_taken}
use Rattle.block.specs.Executing.{executing, judge, called_off, time_out_of, worked, timed}
use Rattle.block.specs.Ended.{ended}
use Rattle.block.specs.Aborting.{aborting}
use Rattle.block.specs.Resetting.{resetting}
use Rattle.block.specs.Rules.{rule, pass}
use Rattle.block.specs.Ended.{is_end}
use Rattle.block.proofs.Phases.{rank}
use Rattle.block.specs.Turns.{admits, has_start, Turns, end, StartsHave, nothing, one}
use Rattle.block.specs.History.{tick_all, clocks_of}
use Rattle.block.specs.declared.record.Record.{Record}
use Rattle.block.specs.declared.entry.Inputs.{Inputs}
use Rattle.block.specs.declared.executing.Work.{Work}
use Rattle.block.specs.declared.pass.Pass.{Pass}
use Rattle.membership.proofs.Logic.{by_test, and_left, and_right}
use Rattle.std.proofs.lemmas.Bool.{cond_both, or_right}
use Rattle.block.proofs.Tests.{never, each}
use Rattle.block.proofs.Tests.{none as no_case}
use Rattle.block.proofs.Shapes.{End, is_done, is_error, is_aborted, end_step, end_flags, busy, rec, times_fit, error_code, EndFits}
use Rattle.block.proofs.Shapes.{Settled, idle, runs, aborts, shows, resets, withdraws, Shape, settled, unshown}
use Rattle.block.proofs.WorkLaws.{coded, form, Worked, worked_laws}
use Rattle.block.proofs.TurnLaws.{turn_start, turn_finish}

-- the most events that can still come
unfoldable pub room : Record → ℕ
room r =
    cond (eqb r.step Dormant) 2
    (cond (eqb r.step Executing) 1
    (cond (eqb r.step Aborting) 1
    (cond (eqb r.step Resetting) (cond r.request 2 0)
    (cond r.flags.busy 1 2))))

-- the job that is open between passes: an end step has it open until it is shown
unfoldable pub open_in : Record → Option ℕ
open_in r = cond (not (eqb r.step Resetting) && r.flags.busy) (some r.job) none

-- a record at Executing between calls, by what such records differ in
abbrev pub running : ℕ → ℕ → ℕ → Timer → Record
running j l t w = rec Executing busy false j 0 l t w

-- a pass that stops in Executing: it came from there, nothing of the record changes but the timer, and it has no event
pub record Halts (k : ℕ) (e : Entry) (r : Record) (p : Pass) : Type 0 where
  pub before : r ≡ running r.job r.limit r.timeout r.timer
  pub after : p.next ≡ running r.job r.limit r.timeout p.next.timer
  pub quiet : emitted p.event ≡ []
  pub timer : p.next.timer ≡ tick_all (tick r.timer e.clock) (take p.used (clocks_of e.pieces))
  pub in_time : past_time_out (time_out_of k e p.next) p.next.timer ≡ false

-- a pass that goes on: it starts a job, it leaves for a step from which no start comes, or it only resets
pub data Goes (k : ℕ) (e : Entry) (r : Record) (p : Pass) : Type 0 where
  starts : p.used ≡ 0 → has_start (emitted p.event) ≡ true → p.next.timer ≡ start e.clock → p.next.timeout ≡ time_out_taken k e → rank p.next ≡ 3 → Goes k e r p
  leaves : rank p.next < 3 → Goes k e r p
  returns : p.used ≡ 0 → emitted p.event ≡ [] → 3 < rank p.next → Goes k e r p

-- all that a pass does
pub record Passed (k : ℕ) (e : Entry) (r : Record) (p : Pass) : Type 0 where
  pub after : Shape k (entry_fits e ≡ true) p.next
  pub turns : entry_fits e ≡ true → Turns k (open_in r) (emitted p.event) (open_in p.next)
  pub jobs : StartsHave e.job (emitted p.event)
  pub quiet : rank r ≤ 3 → has_start (emitted p.event) ≡ false
  pub few : length (emitted p.event) + cond p.again (room p.next) 0 ≤ room r
  pub lower : p.again ≡ true → rank p.next < rank r
  pub goes : p.again ≡ true → Goes k e r p
  pub rests : p.again ≡ false → Settled k (entry_fits e ≡ true) p.next
  pub halts : p.again ≡ false → p.next.step ≡ Executing → Halts k e r p

-- the times of a record, taken at a start and read in a call
taken_fits : (b : Bool) (x : ℕ) → (eqb (cond b x 0) 0 || b) ≡ true
taken_fits true x = or_right (eqb x 0) true refl
taken_fits false x = refl

taken_times : (k : ℕ) (e : Entry) → times_fit k (limit_taken k e) (time_out_taken k e) (start e.clock) ≡ true
taken_times k e = rw (taken_fits (is_edge k && has_time_limit k) e.limit) (taken_fits (is_edge k && has_time_out k) e.timeout)

read_times : (k l t : ℕ) (w v : Timer) → leb v.elapsed most_elapsed ≡ true → times_fit k l t w ≡ true → times_fit k l t v ≡ true
read_times k l t w v h x =
    let p = each (leb w.elapsed most_elapsed) ((eqb l 0 || (is_edge k && has_time_limit k)) ∷ (eqb t 0 || (is_edge k && has_time_out k)) ∷ []) x in
    rw (h, p.1.0) p.1.1

-- what a start sets
started_timer : (k : ℕ) (e : Entry) (r : Record) → (started k e r).timer ≡ start e.clock
started_timer k e r = refl

started_timeout : (k : ℕ) (e : Entry) (r : Record) → (started k e r).timeout ≡ time_out_taken k e
started_timeout k e r = refl

-- the codes of an error
code_two : (k c : ℕ) → leb least_error_code c ≡ true → error_code k c ≡ true
code_two k c h = rw (ne_eqb c 0 (λ q. omega (arith, leb-true least_error_code c h)), ne_eqb c TimedOut (λ q. omega (arith, leb-true least_error_code c h)))

has_time_out_lem : (k : ℕ) (e : Entry) (r : Record) (t : Timer) → past_time_out (time_out_of k e r) t ≡ true → has_time_out k ≡ true
has_time_out_lem k e r t h = by_test (has_time_out k) (λ g. g) (λ g. no_case (sym (time_out_none t) ∙ (rw g at h)))

called_aborts : (k : ℕ) (i : Inputs) → called_off k i ≡ true → is_edge k ≡ true → has_abort k ≡ true
called_aborts k i h g = and_left (has_abort k) i.abort (rw g at h)

module _ (k : ℕ) (i : Inputs) (e : Entry) where
  going : (r : Record) (p : Pass) → p.again ≡ true → Shape k (entry_fits e ≡ true) p.next
      → (entry_fits e ≡ true → Turns k (open_in r) (emitted p.event) (open_in p.next)) → StartsHave e.job (emitted p.event)
      → (rank r ≤ 3 → has_start (emitted p.event) ≡ false) → length (emitted p.event) + room p.next ≤ room r → rank p.next < rank r → Goes k e r p → Passed k e r p
  going r p a s t j q f l g =
      record {
        after = s;
        turns = t;
        jobs = j;
        quiet = q;
        few = rw a f;
        lower = λ _. l;
        goes = λ _. g;
        rests = λ h. never (sym a ∙ h);
        halts = λ h. never (sym a ∙ h);
      }

  -- a pass that stops outside Executing
  stopped : (r : Record) (p : Pass) → p.again ≡ false → Settled k (entry_fits e ≡ true) p.next → (p.next.step ≡ Executing → ⊥)
      → (entry_fits e ≡ true → Turns k (open_in r) (emitted p.event) (open_in p.next)) → StartsHave e.job (emitted p.event)
      → has_start (emitted p.event) ≡ false → length (emitted p.event) + 0 ≤ room r → Passed k e r p
  stopped r p a s n t j q f =
      record {
        after = settled s;
        turns = t;
        jobs = j;
        quiet = λ _. q;
        few = rw a f;
        lower = λ h. never (sym h ∙ a);
        goes = λ h. never (sym h ∙ a);
        rests = λ h. s;
        halts = λ h x. absurd (n x);
      }

  from_idle : Passed k e fresh_record (dormant k i e fresh_record)
  unfolding dormant rank room open_in has_start admits
  from_idle =
      cond_both i.start _ _ (Passed k e fresh_record)
      (λ h. going fresh_record _ refl (settled (runs (taken_times k e))) (λ _. turn_start _ refl refl end) (one _ (λ _. refl) nothing)
      (λ l. let z : ⊥ = omega arith in absurd z) (omega arith) (omega arith) (starts refl refl (started_timer k e fresh_record) (started_timeout k e fresh_record) refl))
      (λ h. stopped fresh_record _ refl idle (λ x. omega arith) (λ _. end) nothing refl (omega arith))

  module _ (j l t : ℕ) (w : Timer) (x : times_fit k l t w ≡ true) where
    abbrev run : Record
    run = rec Executing busy false j 0 l t w

    -- to an end step
    leaving : (z : End) (c : ℕ) (v : Work) (p : Pass) → p ≡ go_on v.used (rec (end_step z) busy false j c l t v.timer) → leb v.timer.elapsed most_elapsed ≡ true
        → EndFits k (entry_fits e ≡ true) z false c → Passed k e run p
    unfolding rank room open_in has_start
    leaving is_done c v p h g f =
        let shape = unshown is_done f (read_times k l t w v.timer g x) in
        rw h (going run _ refl shape (λ _. end) nothing (λ _. refl) (omega arith) (omega arith) (leaves (omega arith)))
    leaving is_error c v p h g f =
        let shape = unshown is_error f (read_times k l t w v.timer g x) in
        rw h (going run _ refl shape (λ _. end) nothing (λ _. refl) (omega arith) (omega arith) (leaves (omega arith)))
    leaving is_aborted c v p h g f =
        let shape = unshown is_aborted f (read_times k l t w v.timer g x) in
        rw h (going run _ refl shape (λ _. end) nothing (λ _. refl) (omega arith) (omega arith) (leaves (omega arith)))

    from_judge : (v : Work) → Worked e w v → Passed k e run (judge (is_continuous k) (time_out_of k e run) v run)
    unfolding judge rank room open_in has_start
    from_judge v f =
        cond_both (eqb v.reply ErrorReply) _ _ (Passed k e run)
        (λ h. leaving is_error v.code v _ refl f.held (λ g. code_two k v.code (f.code g h)))
        (λ _. cond_both (past_time_out (time_out_of k e run) v.timer) _ _ (Passed k e run)
        (λ h. leaving is_error TimedOut v _ refl f.held (λ g. has_time_out_lem k e run v.timer h))
        (λ late. cond_both (eqb v.reply Complete && not (is_continuous k)) _ _ (Passed k e run)
        (λ h. leaving is_done 0 v _ refl f.held (refl, not-true (is_continuous k) (and_right (eqb v.reply Complete) (not (is_continuous k)) h), λ _. refl))
        (λ _.
        let s : Settled k (entry_fits e ≡ true) (timed v run) = runs (read_times k l t w v.timer f.held x) in
        record {
          after = settled s;
          turns = λ _. end;
          jobs = nothing;
          quiet = λ _. refl;
          few = omega arith;
          lower = no_case;
          goes = no_case;
          rests = λ _. s;
          halts = λ _ _. record { before = refl; after = refl; quiet = refl; timer = f.timer; in_time = late };
        })))

    from_runs : Passed k e run (executing k i e run)
    unfolding executing rank room open_in has_start
    from_runs =
        cond_both (called_off k i) _ _ (Passed k e run)
        (λ h. going run _ refl (settled (aborts (called_aborts k i h) x)) (λ _. end) nothing (λ _. refl) (omega arith) (omega arith) (leaves (omega arith)))
        (λ _. from_judge (worked k e run) (worked_laws k e run))

    abbrev abt : Record
    abt = rec Aborting busy false j 0 l t w

    from_aborts : (is_edge k ≡ true → has_abort k ≡ true) → Passed k e abt (aborting k e abt)
    unfolding aborting rank room open_in has_start admits
    from_aborts a =
        cond_both (eqb e.abort_reply ErrorReply) _ _ (Passed k e abt)
        (λ h.
        let shape = unshown is_error (λ f. code_two k e.abort_code (coded e.abort_reply e.abort_code (form e f).abort h)) x in
        going abt _ refl shape (λ _. end) nothing (λ _. refl) (omega arith) (omega arith) (leaves (omega arith)))
        (λ _. cond_both (eqb e.abort_reply Complete) _ _ (Passed k e abt)
        (λ _. cond_both (is_edge k) _ _ (Passed k e abt)
        (λ h. going abt _ refl (unshown is_aborted (refl, a h) x) (λ _. end) nothing (λ _. refl) (omega arith) (omega arith) (leaves (omega arith)))
        (λ h. going abt _ refl (settled (withdraws h x)) (λ _. turn_finish _ refl (rw h) refl end) (one _ no_case nothing) (λ _. refl) (omega arith) (omega arith) (leaves (omega arith))))
        (λ _. stopped abt _ refl (aborts a x) (λ q. omega arith) (λ _. end) nothing refl (omega arith)))

    from_withdraws : is_edge k ≡ false → Passed k e (rec Resetting busy false j 0 l t w) (resetting e (rec Resetting busy false j 0 l t w))
    unfolding resetting rank room open_in has_start
    from_withdraws h =
        cond_both (eqb e.reset_reply Complete) _ _ (Passed k e (rec Resetting busy false j 0 l t w))
        (λ _. stopped _ _ refl idle (λ q. omega arith) (λ _. end) nothing refl (omega arith))
        (λ _. stopped _ _ refl (withdraws h x) (λ q. omega arith) (λ _. end) nothing refl (omega arith))

    module _ (c : ℕ) where
      from_resets : (z : End) (q : Bool) → EndFits k (entry_fits e ≡ true) z q c → Passed k e (rec Resetting (end_flags z) q j c l t w) (resetting e (rec Resetting (end_flags z) q j c l t w))
      unfolding resetting rank room open_in has_start
      from_resets z true f =
          cond_both (eqb e.reset_reply Complete) _ _ (Passed k e (rec Resetting (end_flags z) true j c l t w))
          (λ _. going _ _ refl (settled idle) (λ _. end) nothing (λ _. refl) (omega arith) (omega arith) (returns refl refl (omega arith)))
          (λ _. stopped _ _ refl (resets z f x) (λ q. omega arith) (λ _. end) nothing refl (omega arith))
      from_resets z false f =
          cond_both (eqb e.reset_reply Complete) _ _ (Passed k e (rec Resetting (end_flags z) false j c l t w))
          (λ _. stopped _ _ refl idle (λ q. omega arith) (λ _. end) nothing refl (omega arith))
          (λ _. stopped _ _ refl (resets z f x) (λ q. omega arith) (λ _. end) nothing refl (omega arith))

      -- an end step that is shown, to Resetting
      to_reset : (z : End) (q : Bool) → EndFits k (entry_fits e ≡ true) z q c → (r : Record) → rank r ≡ 6 → room r ≡ 2 → open_in r ≡ none
          → Passed k e r (go_on 0 (rec Resetting (end_flags z) q j c l t w))
      unfolding rank room open_in has_start
      to_reset z true f r a b o = going r _ refl (settled (resets z f x)) (λ _. rw o end) nothing (λ _. refl) (omega (arith, b)) (omega (arith, a)) (returns refl refl (omega arith))
      to_reset z false f r a b o = going r _ refl (settled (resets z f x)) (λ _. rw o end) nothing (λ _. refl) (omega (arith, b)) (omega (arith, a)) (leaves (omega arith))

      from_shows : (z : End) (q : Bool) → EndFits k (entry_fits e ≡ true) z q c → Passed k e (rec (end_step z) (end_flags z) q j c l t w) (ended k i (rec (end_step z) (end_flags z) q j c l t w))
      unfolding ended rank room open_in has_start
      from_shows is_done q f =
          cond_both (not i.start || q) _ _ (Passed k e (rec Done (end_flags is_done) q j c l t w))
          (λ _. to_reset is_done q f _ refl refl refl)
          (λ _. stopped _ _ refl (shows is_done (f.0, f.1, λ g. rw g) x) (λ q. omega arith) (λ _. end) nothing refl (omega arith))
      from_shows is_error q f =
          cond_both (not i.start || q) _ _ (Passed k e (rec Error (end_flags is_error) q j c l t w))
          (λ _. to_reset is_error q f _ refl refl refl)
          (λ _. stopped _ _ refl (shows is_error f x) (λ q. omega arith) (λ _. end) nothing refl (omega arith))
      from_shows is_aborted q f =
          cond_both (not i.start || q) _ _ (Passed k e (rec Aborted (end_flags is_aborted) q j c l t w))
          (λ _. to_reset is_aborted q f _ refl refl refl)
          (λ _. stopped _ _ refl (shows is_aborted f x) (λ q. omega arith) (λ _. end) nothing refl (omega arith))

      from_unshown : (z : End) → EndFits k (entry_fits e ≡ true) z false c → Passed k e (rec (end_step z) busy false j c l t w) (ended k i (rec (end_step z) busy false j c l t w))
      unfolding ended rank room open_in has_start admits
      from_unshown is_done f = stopped _ _ refl (shows is_done (f.0, f.1, λ g. rw g) x) (λ q. omega arith) (λ _. turn_finish _ refl (rw f.1) refl end) (one _ no_case nothing) refl (omega arith)
      from_unshown is_error f = stopped _ _ refl (shows is_error f x) (λ q. omega arith) (λ g. turn_finish _ refl (f g) refl end) (one _ no_case nothing) refl (omega arith)
      from_unshown is_aborted f = stopped _ _ refl (shows is_aborted f x) (λ q. omega arith) (λ _. turn_finish _ refl (rw f.1) refl end) (one _ no_case nothing) refl (omega arith)

  from_settled : {r : Record} → Settled k (entry_fits e ≡ true) r → Passed k e r (pass k i e r)
  unfolding rule
  from_settled idle = from_idle
  from_settled (runs {j} {l} {t} {w} x) = from_runs j l t w x
  from_settled (aborts {j} {l} {t} {w} a x) = from_aborts j l t w x a
  from_settled (shows is_done {q} {j} {c} {l} {t} {w} f x) = from_shows j l t w x c is_done q f
  from_settled (shows is_error {q} {j} {c} {l} {t} {w} f x) = from_shows j l t w x c is_error q f
  from_settled (shows is_aborted {q} {j} {c} {l} {t} {w} f x) = from_shows j l t w x c is_aborted q f
  from_settled (resets z {q} {j} {c} {l} {t} {w} f x) = from_resets j l t w x c z q f
  from_settled (withdraws {j} {l} {t} {w} a x) = from_withdraws j l t w x a

  pub passed : {r : Record} → Shape k (entry_fits e ≡ true) r → Passed k e r (pass k i e r)
  unfolding rule
  passed (settled s) = from_settled s
  passed (unshown is_done {j} {c} {l} {t} {w} f x) = from_unshown j l t w x c is_done f
  passed (unshown is_error {j} {c} {l} {t} {w} f x) = from_unshown j l t w x c is_error f
  passed (unshown is_aborted {j} {c} {l} {t} {w} f x) = from_unshown j l t w x c is_aborted f

pub cond_most : (n : ℕ) (b : Bool) (x y : ℕ) → x ≤ n → y ≤ n → cond b x y ≤ n
cond_most n true x y h g = h
cond_most n false x y h g = g

-- what holds of a number by the step, and so of the rank
pub rank_cases : (P : ℕ → Type 0) (r : Record) → (r.step ≡ Dormant → P 4) → (r.step ≡ Executing → P 3) → (r.step ≡ Aborting → P 2) → (r.step ≡ Resetting → P 5)
    → (r.step ≡ Resetting → P 1) → (is_end r.step ≡ true → P 1) → P 6 → P (rank r)
unfolding rank
rank_cases P r f4 f3 f2 f5 f1 g1 f6 =
    cond_both (eqb r.step Dormant) _ _ P (λ h. f4 (eqb-true _ _ h))
    (λ _. cond_both (eqb r.step Executing) _ _ P (λ h. f3 (eqb-true _ _ h))
    (λ _. cond_both (eqb r.step Aborting) _ _ P (λ h. f2 (eqb-true _ _ h))
    (λ _. cond_both (eqb r.step Resetting) _ _ P (λ h. cond_both r.request _ _ P (λ _. f5 (eqb-true _ _ h)) (λ _. f1 (eqb-true _ _ h)))
    (λ _. cond_both (is_end r.step && r.flags.busy) _ _ P
    (λ h. g1 (and_left (is_end r.step) r.flags.busy h)) (λ _. f6)))))

-- a pass is to come, and at most six, with at most two events
pub rank_least : (r : Record) → 1 ≤ rank r
rank_least r = rank_cases (λ (n : ℕ). 1 ≤ n) r (λ _. omega arith) (λ _. omega arith) (λ _. omega arith) (λ _. omega arith) (λ _. omega arith) (λ _. omega arith) (omega arith)

pub rank_most : (r : Record) → rank r ≤ 6
rank_most r = rank_cases (λ (n : ℕ). n ≤ 6) r (λ _. omega arith) (λ _. omega arith) (λ _. omega arith) (λ _. omega arith) (λ _. omega arith) (λ _. omega arith) (omega arith)

pub room_most : (r : Record) → room r ≤ 2
unfolding room
room_most r =
    cond_most 2 (eqb r.step Dormant) _ _ (omega arith)
    (cond_most 2 (eqb r.step Executing) _ _ (omega arith)
    (cond_most 2 (eqb r.step Aborting) _ _ (omega arith)
    (cond_most 2 (eqb r.step Resetting) _ _ (cond_most 2 r.request _ _ (omega arith) (omega arith))
    (cond_most 2 r.flags.busy _ _ (omega arith) (omega arith)))))
