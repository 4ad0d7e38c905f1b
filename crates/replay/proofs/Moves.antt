-- The machine of one block: for each event that takes its turn, the frame entry with which a call from rest writes just that event, and the entry with which a second call settles it; with the
-- same entry a call of a block at rest changes nothing. For the list of scans that writes a journal.
use Rattle.std.proofs.Common.{◌≡◌, ℕ, Bool, true, false, cond, ◌&&◌, [], ◌∷◌, refl, arith, le-leb, tests}
use Rattle.std.proofs.Math.Option.{Option, none, some}
use Rattle.kind.specs.Kind.{is_edge, has_abort, has_time_out, is_continuous}
use Rattle.clock.specs.Clock.{start, since, tick, past, past_time_out}
use Rattle.clock.specs.declared.Timer.{Timer}
use Rattle.layout.proofs.Fits.{nil, cons, EntryFits, EventFits}
use Rattle.block.specs.Record.{Executing, TimedOut, fresh_record}
use Rattle.block.specs.Event.{Start, DoneEvent, Failed, AbortedEvent, Withdrawn}
use Rattle.block.specs.Entry.{Working, Complete, ErrorReply, pieces_fit, entry_fits}
use Rattle.block.specs.Dormant.{dormant}
use Rattle.block.specs.Executing.{called_off, use_pieces, judge, executing}
use Rattle.block.specs.Ended.{ended}
use Rattle.block.specs.Aborting.{aborting}
use Rattle.block.specs.Resetting.{resetting}
use Rattle.block.specs.Rules.{rule}
use Rattle.block.specs.Call.{Outcome, unchanged, call_within, call_of}
use Rattle.block.specs.declared.record.Flags.{Flags}
use Rattle.block.specs.declared.record.Record.{Record}
use Rattle.block.specs.declared.event.Event.{Event}
use Rattle.block.specs.declared.entry.Piece.{Piece}
use Rattle.block.specs.Entry.{Entry}
use Rattle.block.proofs.Shapes.{End, is_done, is_error, is_aborted, end_step, end_flags, busy, rec}
use Rattle.block.proofs.TurnLaws.{Turn, starts, completes, fails, expires, aborts, withdraws}

abbrev event : ℕ → ℕ → ℕ → Event
event kind code job = record { kind = kind; code = code; job = job }

-- the record of a job that was started with a time-out of 1, at a step, without a reset request
abbrev job_at : ℕ → ℕ → ℕ → ℕ → Flags → Timer → Record
job_at k job n c f t = rec n f false job c 0 (cond (is_edge k && has_time_out k) 1 0) t

-- a block at rest: Dormant, or Executing with a job that is open since the reading 0
abbrev pub at_rest : ℕ → Option ℕ → Record
at_rest k none = fresh_record
at_rest k (some job) = job_at k job Executing 0 busy (start 0)

-- entries with a time-out of 1, abort and reset complete, and one piece or none
abbrev no_piece : Piece
no_piece = record { reply = Working; code = 0; clock = 0 }

abbrev entry_with : Bool → Bool → ℕ → ℕ → ℕ → Piece → Entry
entry_with starting aborting job clock count piece =
    record {
      inputs = record { start = starting; abort = aborting };
      count = count;
      abort_reply = Complete;
      reset_reply = Complete;
      abort_code = 0;
      job = job;
      limit = 0;
      timeout = 1;
      clock = clock;
      pieces = piece ∷ no_piece ∷ no_piece ∷ no_piece ∷ [];
    }

abbrev replied : ℕ → ℕ → Piece
replied reply code = record { reply = reply; code = code; clock = 0 }

-- nothing happens to a block at rest: start is true where a job is open
abbrev is_some : Option ℕ → Bool
is_some none = false
is_some (some job) = true

abbrev pub hold_entry : Option ℕ → Entry
hold_entry q = entry_with (is_some q) false 0 0 0 no_piece

-- the event is written
abbrev pub turn_entry : {k : ℕ} {q s : Option ℕ} {v : Event} → Turn k q v s → Entry
turn_entry (starts job) = entry_with true false job 0 0 no_piece
turn_entry (completes job h) = entry_with true false 0 0 1 (replied Complete 0)
turn_entry (fails job c h) = entry_with true false 0 0 1 (replied ErrorReply c)
turn_entry (expires job h) = entry_with true false 0 2 0 no_piece
turn_entry (aborts job h) = entry_with true true 0 0 0 no_piece
turn_entry (withdraws job h) = entry_with false false 0 0 0 no_piece

-- one call with the entry's own inputs
abbrev pub called_with : ℕ → Entry → Record → Outcome
called_with k e r = call_of k e.inputs e r

-- calls of a block with a job, and what each leaves
module _ (k job : ℕ) where
  abbrev opened : Record
  opened = at_rest k (some job)

  -- at the end of the job, shown with start true
  abbrev finished : End → ℕ → Timer → Record
  finished z c t = job_at k job (end_step z) c (end_flags z) t

  -- a call with start false resets it
  settled : (z : End) (c : ℕ) (t : Timer) → called_with k (hold_entry none) (finished z c t) ≡ record { next = fresh_record; events = []; used = 0; passes = 2 }
  unfolding call_of call_within rule ended resetting
  settled is_done c t = refl
  settled is_error c t = refl
  settled is_aborted c t = refl

  -- called off neither by abort nor by start
  runs_on : called_off k (record { start = true; abort = false }) ≡ false
  runs_on = grind arith

  -- "5-8" are among "1 to 8"
  abort_edge : has_abort k ≡ true → is_edge k ≡ true
  unfolding has_abort is_edge
  abort_edge h = grind (arith, tests)

  -- the calls that write each event
  start_call : called_with k (entry_with true false job 0 0 no_piece) fresh_record ≡ record { next = opened; events = event Start 0 job ∷ []; used = 0; passes = 2 }
  unfolding call_of call_within rule dormant executing judge past_time_out past use_pieces tick since ended aborting resetting
  start_call = grind (arith, tests)

  complete_call : is_continuous k ≡ false → called_with k (entry_with true false 0 0 1 (replied Complete 0)) opened
      ≡ record { next = finished is_done 0 (start 0); events = event DoneEvent 0 job ∷ []; used = 1; passes = 2 }
  unfolding call_of call_within rule dormant executing judge past_time_out past use_pieces tick since ended aborting resetting
  complete_call h = grind (arith, tests, runs_on)

  error_call : (c : ℕ) → called_with k (entry_with true false 0 0 1 (replied ErrorReply c)) opened
      ≡ record { next = finished is_error c (start 0); events = event Failed c job ∷ []; used = 1; passes = 2 }
  unfolding call_of call_within rule dormant executing judge past_time_out past use_pieces tick since ended aborting resetting
  error_call c = grind (arith, tests, runs_on)

  -- the time-out in force is 1, and 2 have elapsed
  late_call : has_time_out k ≡ true → called_with k (entry_with true false 0 2 0 no_piece) opened
      ≡ record { next = finished is_error TimedOut (record { last = 2; elapsed = 2 }); events = event Failed TimedOut job ∷ []; used = 0; passes = 2 }
  unfolding call_of call_within rule dormant executing judge past_time_out past use_pieces tick since ended aborting resetting
  late_call h = grind (arith, tests, runs_on)

  abort_call : has_abort k ≡ true → called_with k (entry_with true true 0 0 0 no_piece) opened
      ≡ record { next = finished is_aborted 0 (start 0); events = event AbortedEvent 0 job ∷ []; used = 0; passes = 3 }
  unfolding call_of call_within rule dormant executing judge past_time_out past use_pieces tick since ended aborting resetting
  abort_call h = grind (arith, tests, abort_edge)

  withdraw_call : is_edge k ≡ false → called_with k (entry_with false false 0 0 0 no_piece) opened ≡ record { next = fresh_record; events = event Withdrawn 0 job ∷ []; used = 0; passes = 3 }
  unfolding call_of call_within rule dormant executing judge past_time_out past use_pieces tick since ended aborting resetting
  withdraw_call h = grind (arith, tests)

-- a job that is open stays so in a call at the reading of its start, without a piece
pub hold_call : (k : ℕ) (q : Option ℕ) → called_with k (hold_entry q) (at_rest k q) ≡ unchanged (at_rest k q)
unfolding call_of call_within rule dormant executing judge past_time_out past use_pieces tick since ended aborting resetting
hold_call k none = refl
hold_call k (some job) = grind (arith, tests, runs_on k job)

-- each event is written by a call from rest, alone, and a second call settles the block
pub record Writes (k : ℕ) (q : Option ℕ) (v : Event) (s : Option ℕ) (e : Entry) : Type 0 where
  pub writes : (called_with k e (at_rest k q)).events ≡ v ∷ []
  pub settles : (called_with k (hold_entry s) (called_with k e (at_rest k q)).next).next ≡ at_rest k s
  pub silent : (called_with k (hold_entry s) (called_with k e (at_rest k q)).next).events ≡ []

pub turn_written : {k : ℕ} {q s : Option ℕ} {v : Event} (m : Turn k q v s) → Writes k q v s (turn_entry m)
unfolding call_of
turn_written {k} (starts job) = grind (arith, start_call k job, hold_call k (some job))
turn_written {k} (completes job h) = grind (arith, complete_call k job h, settled k job is_done 0 (start 0))
turn_written {k} (fails job c h) = grind (arith, error_call k job c, settled k job is_error c (start 0))
turn_written {k} (expires job h) = grind (arith, late_call k job h, settled k job is_error TimedOut (record { last = 2; elapsed = 2 }))
turn_written {k} (aborts job h) = grind (arith, abort_call k job h, settled k job is_aborted 0 (start 0))
turn_written {k} (withdraws job h) = grind (arith, withdraw_call k job h, hold_call k none)

-- the entries are in form
pub hold_form : (q : Option ℕ) → entry_fits (hold_entry q) ≡ true
unfolding entry_fits pieces_fit
hold_form none = refl
hold_form (some job) = refl

pub turn_form : {k : ℕ} {q s : Option ℕ} {v : Event} (m : Turn k q v s) → entry_fits (turn_entry m) ≡ true
unfolding entry_fits pieces_fit
turn_form (starts job) = refl
turn_form (completes job h) = refl
turn_form (fails job c h) = rw (le-leb 2 c h)
turn_form (expires job h) = refl
turn_form (aborts job h) = refl
turn_form (withdraws job h) = refl

-- and fit their bytes
pub hold_fits : (q : Option ℕ) → EntryFits (hold_entry q)
hold_fits q = grind (arith, nil, cons)

pub turn_fits : {k : ℕ} {q s : Option ℕ} {v : Event} → EventFits v → (m : Turn k q v s) → EntryFits (turn_entry m)
turn_fits f (starts job) = grind (arith, nil, cons)
turn_fits f (completes job h) = grind (arith, nil, cons)
turn_fits f (fails job c h) = grind (arith, nil, cons)
turn_fits f (expires job h) = grind (arith, nil, cons)
turn_fits f (aborts job h) = grind (arith, nil, cons)
turn_fits f (withdraws job h) = grind (arith, nil, cons)
