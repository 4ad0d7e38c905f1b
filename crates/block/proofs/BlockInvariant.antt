-- Demand 3 of document 01 for one block: its statement is in specs/BlockInvariant.antt. By induction on the history, a call a time, from the
-- laws of calls, soundness, events and time. For the list of scans.
use Prim.Native.Nat.{ℕ, ◌≤◌, ◌<◌}
use native.Mathlib.Omega.{arith}
use mathlib.Core.Bool.{Bool, true, false, cond}
use mathlib.Core.Logic.{◌≢◌}
use mathlib.Core.Option.{none, some}
use mathlib.Core.Path.{◌≡◌, ◌∙◌, refl, sym, ap}
use lib.Dec.{eqb}
use lib.ListN.{take}
use Rattle.kind.specs.Kind.{is_kind, is_edge, has_time_out}
use Rattle.clock.specs.Clock.{clock_modulus, tick}
use Rattle.clock.specs.Clock.{start as begin}
use Rattle.clock.specs.declared.Timer.{Timer}
use Rattle.block.specs.Record.{Dormant, Executing, bit}
use Rattle.block.specs.Entry.{Entry, entry_fits}
use Rattle.block.specs.Dormant.{time_out_taken}
use Rattle.block.specs.Executing.{time_out_of}
use Rattle.block.specs.Sound.{sound, zeroed, flags_fit, code_sound, request_sound, step_sound, times_sound}
use Rattle.block.specs.Call.{Outcome, call_of, Whole}
use Rattle.block.specs.Turns.{Turns, end, has_start}
use Rattle.block.specs.History.{History, fresh, ◌then◌, events_of, record_after, tick_all, clocks_of, timer_of, taken_time_out, time_out_in_force}
use Rattle.block.specs.BlockInvariant.{seen_call, MachineHistory, no_call, and_call, is_open, open_job, flag_count, EachCall, nothing, and_seen, BlockInvariantHolds, CallsCountInStep}
use Rattle.block.specs.declared.record.Record.{Record}
use Rattle.block.specs.declared.entry.Inputs.{Inputs}
use Rattle.block.proofs.Shapes.{is_done, is_error, is_aborted, Settled, idle, runs, aborts, shows, resets, withdraws, settled_of}
use Rattle.block.proofs.CallLaws.{call_whole}
use Rattle.block.proofs.SoundLaws.{call_sound}
use Rattle.block.proofs.CountLaws.{open_count, finishes, turns_counts}
use Rattle.block.proofs.EventLaws.{turns_append, call_turns, call_jobs}
use Rattle.block.proofs.TimeLaws.{Timing, call_time, call_in_step}

open_count_lem : (b : Bool) (j : ℕ) → open_count (cond b (some j) none) ≡ bit b
unfolding open_count
open_count_lem true j = refl
open_count_lem false j = refl

settled_flags : {k : ℕ} {F : Type 0} {r : Record} → Settled k F r → flag_count r.flags ≡ cond (eqb r.step Dormant) 0 1
settled_flags idle = refl
settled_flags (runs x) = refl
settled_flags (aborts a x) = refl
settled_flags (shows is_done f x) = refl
settled_flags (shows is_error f x) = refl
settled_flags (shows is_aborted f x) = refl
settled_flags (resets is_done f x) = refl
settled_flags (resets is_error f x) = refl
settled_flags (resets is_aborted f x) = refl
settled_flags (withdraws a x) = refl

-- std has no such law by name; by its cond-true and cond-false the proof would be longer than by cases
cond_same : {A : Type 0} (b : Bool) (x y z : A) → (b ≡ false → y ≡ z) → cond b x y ≡ cond b x z
cond_same true x y z h = refl
cond_same false x y z h = h refl

-- what the induction carries
record Kept (k : ℕ) (h : History) : Type 0 where
  kind : is_kind k ≡ true
  sound : sound k (record_after h) ≡ true
  turns : Turns k none (events_of h) (open_job (record_after h))
  calls : EachCall k h
  elapsed : (record_after h).step ≡ Executing → (record_after h).timer ≡ timer_of h
  stored : (record_after h).step ≡ Executing → (record_after h).timeout ≡ taken_time_out k h
  in_time : (record_after h).step ≡ Executing → time_out_in_force k h ≢ 0 → (timer_of h).elapsed ≤ time_out_in_force k h

kept_fresh : (k : ℕ) → is_kind k ≡ true → Kept k fresh
unfolding events_of record_after sound zeroed flags_fit code_sound request_sound step_sound times_sound
kept_fresh k h =
    record {
      kind = h;
      sound = refl;
      turns = end;
      calls = nothing;
      elapsed = λ x. absurd (omega arith);
      stored = λ x. absurd (omega arith);
      in_time = λ x. absurd (omega arith);
    }

-- one call more
module _ (k : ℕ) (h : History) (x : Kept k h) (i : Inputs) (e : Entry) (fits : entry_fits e ≡ true) (clock : e.clock < clock_modulus) where
  abbrev out : Outcome
  out = call_of k i e (record_after h)

  whole : Whole k i e (record_after h) out
  whole = call_whole k i e (record_after h) x.sound

  time : out.next.step ≡ Executing → Timing k e (record_after h) out
  time s = call_time clock x.sound whole.called s

  kept_elapsed : out.next.step ≡ Executing → out.next.timer ≡ timer_of (h then seen_call k i e (record_after h))
  unfolding timer_of
  kept_elapsed s =
      let t = time s in
      t.timer
      ∙ ap (λ (w : Timer). tick_all w (take out.used (clocks_of e.pieces)))
      (cond_same (has_start out.events) (begin e.clock) (tick (record_after h).timer e.clock) (tick (timer_of h) e.clock)
      (λ n. ap (λ (w : Timer). tick w e.clock) (x.elapsed (t.came n))))

  kept_stored : out.next.step ≡ Executing → out.next.timeout ≡ taken_time_out k (h then seen_call k i e (record_after h))
  unfolding taken_time_out
  kept_stored s =
      let t = time s in
      t.timeout ∙ cond_same (has_start out.events) (time_out_taken k e) (record_after h).timeout (taken_time_out k h) (λ n. x.stored (t.came n))

  in_force : out.next.step ≡ Executing → time_out_of k e out.next ≡ time_out_in_force k (h then seen_call k i e (record_after h))
  unfolding time_out_in_force
  in_force s = ap (λ (n : ℕ). cond (has_time_out k) (cond (is_edge k) n e.timeout) 0) (kept_stored s)

  kept_call : Kept k (h then seen_call k i e (record_after h))
  unfolding events_of record_after
  kept_call =
      record {
        kind = x.kind;
        sound = call_sound x.kind fits x.sound whole.called;
        turns = turns_append x.turns (call_turns fits x.sound whole.called);
        calls = and_seen x.calls (record { before = refl; called = whole.called; few = whole.passes; jobs = call_jobs x.sound whole.called });
        elapsed = kept_elapsed;
        stored = kept_stored;
        in_time = λ s n. rw (← kept_elapsed s, ← in_force s) ((time s).in_time (λ z. n (sym (in_force s) ∙ z)));
      }

kept : {k : ℕ} {h : History} → MachineHistory k h → Kept k h
kept {k} (no_call kind) = kept_fresh k kind
kept {k} (and_call {h = h} m i e fits clock) = kept_call k h (kept m) i e fits clock

pub block_invariant : BlockInvariantHolds
unfolding finishes open_count
block_invariant k h m =
    let x = kept m in
    record {
      turns = x.turns;
      balance = omega (arith, turns_counts x.turns, open_count_lem (is_open (record_after h).step) (record_after h).job);
      flags = settled_flags (settled_of k Unit (record_after h) x.sound);
      calls = x.calls;
      in_time = x.in_time;
      elapsed = x.elapsed;
      stored = x.stored;
      sound = x.sound;
    }

pub counts_in_step : CallsCountInStep
counts_in_step k h s (and_call m i e fits clock) to =
    let x = kept m in
    call_in_step clock x.sound (call_whole k i e (record_after h) x.sound).called to
