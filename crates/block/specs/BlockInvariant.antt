-- Demand 3 of document 01 for one block: what holds of every history that the block machine makes from the fresh record, whatever inputs
-- and frame entries it is fed. The list of scans (crate run) feeds it what the wires and the frames give.
use Rattle.std.specs.Prelude.{ℕ, ◌+◌, ◌≤◌, ◌<◌, Bool, true, cond, ◌||◌, ◌≢◌, ◌≡◌, eqb}
use Rattle.std.proofs.Math.Option.{Option, none, some}
use Rattle.kind.specs.Kind.{is_kind}
use Rattle.clock.specs.Clock.{clock_modulus}
use Rattle.block.specs.Record.{Dormant, Executing, Aborting, bit}
use Rattle.block.specs.Event.{Start, DoneEvent, Failed, AbortedEvent, Withdrawn}
use Rattle.block.specs.Entry.{Entry, entry_fits}
use Rattle.block.specs.Sound.{sound}
use Rattle.block.specs.Call.{Call, call_of}
use Rattle.block.specs.Turns.{Turns, StartsHave, count_of}
use Rattle.block.specs.History.{Seen, History, fresh, ◌then◌, events_of, record_after, tick_all, timer_of, readings_of, counts_from, in_step, taken_time_out, time_out_in_force}
use Rattle.block.specs.declared.record.Flags.{Flags}
use Rattle.block.specs.declared.record.Record.{Record}
use Rattle.block.specs.declared.entry.Inputs.{Inputs}

-- what is seen of a call by the machine
abbrev pub seen_call : ℕ → Inputs → Entry → Record → Seen
seen_call k i e r =
    record { before = r; inputs = i; entry = e; passes = (call_of k i e r).passes; used = (call_of k i e r).used; events = (call_of k i e r).events; after = (call_of k i e r).next }

-- a history of the machine, of a block of one of the fourteen kinds, fed any inputs and any frame entries in form whose clock is a reading
pub data MachineHistory (k : ℕ) : History → Type 0 where
  no_call : is_kind k ≡ true → MachineHistory k fresh
  and_call : {h : History} → MachineHistory k h → (i : Inputs) (e : Entry) → entry_fits e ≡ true → e.clock < clock_modulus → MachineHistory k (h then seen_call k i e (record_after h))

-- a job is open, that is started and not finished, in Executing and Aborting
abbrev pub is_open : ℕ → Bool
is_open n = eqb n Executing || eqb n Aborting

abbrev pub open_job : Record → Option ℕ
open_job r = cond (is_open r.step) (some r.job) none

-- how many flags are set
abbrev pub flag_count : Flags → ℕ
flag_count f = bit f.busy + bit f.done + bit f.error + bit f.aborted

-- One call: it begins with the record that the call before left; it is a call by the rules, with the passes and pieces that were reported;
-- at most six passes; a start has the job of its own frame entry.
pub record CallSeen (k : ℕ) (r : Record) (s : Seen) : Type 0 where
  pub before : s.before ≡ r
  pub called : Call k s.inputs s.entry s.before (record { next = s.after; events = s.events; used = s.used; passes = s.passes })
  pub few : s.passes ≤ 6
  pub jobs : StartsHave s.entry.job s.events

pub data EachCall (k : ℕ) : History → Type 0 where
  nothing : EachCall k fresh
  and_seen : {h : History} {s : Seen} → EachCall k h → CallSeen k (record_after h) s → EachCall k (h then s)

pub record BlockInvariant (k : ℕ) (h : History) : Type 0 where
  -- its events take turns, each finish with its start's job; a job is open exactly in Executing and Aborting
  pub turns : Turns k none (events_of h) (open_job (record_after h))
  -- starts are the finishes and the open job
  pub balance : count_of Start (events_of h)
      ≡ count_of DoneEvent (events_of h) + count_of Failed (events_of h) + count_of AbortedEvent (events_of h) + count_of Withdrawn (events_of h) + bit (is_open (record_after h).step)
  -- no flag in Dormant, one in every other step
  pub flags : flag_count (record_after h).flags ≡ cond (eqb (record_after h).step Dormant) 0 1
  pub calls : EachCall k h
  -- the elapsed time of the history, in Executing, is in time, and it is the record's
  pub in_time : (record_after h).step ≡ Executing → time_out_in_force k h ≢ 0 → (timer_of h).elapsed ≤ time_out_in_force k h
  pub elapsed : (record_after h).step ≡ Executing → (record_after h).timer ≡ timer_of h
  -- the stored time-out is the one that the last start took
  pub stored : (record_after h).step ≡ Executing → (record_after h).timeout ≡ taken_time_out k h
  pub sound : sound k (record_after h) ≡ true

-- proved in proofs/BlockInvariant.antt
abbrev pub BlockInvariantHolds : Type 0
BlockInvariantHolds = (k : ℕ) (h : History) → MachineHistory k h → BlockInvariant k h

-- document 02, 1/14: a reading out of step changes neither elapsed nor the last reading: they are those of the readings in step alone
abbrev pub CountsInStep : Seen → Type 0
CountsInStep s = s.after.timer ≡ tick_all (counts_from s) (in_step (counts_from s).last (readings_of s))

-- theorem counts_in_step, there too
abbrev pub CallsCountInStep : Type 0
CallsCountInStep = (k : ℕ) (h : History) (s : Seen) → MachineHistory k (h then s) → s.after.step ≡ Executing → CountsInStep s
