-- Document 01, "A list of scans": the history of one block, which knows no machine, and what is read off it alone.
use Rattle.std.specs.Prelude.{ℕ, cond, List, [], ◌∷◌, ◌++◌, take}
use Rattle.kind.specs.Kind.{is_edge, has_time_out}
use Rattle.clock.specs.Clock.{start, tick, out_of_step}
use Rattle.clock.specs.declared.Timer.{Timer}
use Rattle.block.specs.Record.{fresh_record}
use Rattle.block.specs.Dormant.{time_out_taken}
use Rattle.block.specs.Turns.{has_start}
use Rattle.block.specs.declared.record.Record.{Record}
use Rattle.block.specs.declared.event.Event.{Event}
use Rattle.block.specs.declared.entry.Inputs.{Inputs}
use Rattle.block.specs.declared.entry.Piece.{Piece}
use Rattle.block.specs.Entry.{Entry}

-- What is seen of a block in an accepted scan: the record before, the inputs after wires, its frame entry, the passes and pieces
-- used as its report states them, its events, and the record after.
pub record Seen : Type 0 where
  pub before : Record
  pub inputs : Inputs
  pub entry : Entry
  pub passes : ℕ
  pub used : ℕ
  pub events : List Event
  pub after : Record

-- the accepted scans since fresh, the oldest on the left
infixl 20 ◌then◌
pub data History : Type 0 where
  fresh : History
  ◌then◌ : History → Seen → History

-- the events of its calls, in the order of the scans
unfoldable pub events_of : History → List Event
events_of fresh = []
events_of (h then s) = events_of h ++ s.events

-- the record after the history
unfoldable pub record_after : History → Record
record_after fresh = fresh_record
record_after (h then s) = s.after

-- readings, added in the order they came
unfoldable pub tick_all : Timer → List ℕ → Timer
tick_all t [] = t
tick_all t (c ∷ cs) = tick_all (tick t c) cs

unfoldable pub clocks_of : List Piece → List ℕ
clocks_of [] = []
clocks_of (p ∷ ps) = p.clock ∷ clocks_of ps

-- "0 at the clock of that call, then the clocks of the pieces used and of the later calls, added in the order they came"
unfoldable pub timer_of : History → Timer
timer_of fresh = start 0
timer_of (h then s) =
    tick_all (cond (has_start s.events) (start s.entry.clock) (tick (timer_of h) s.entry.clock)) (take s.used (clocks_of s.entry.pieces))

-- the readings of a call that stops in Executing: its clock and those of the pieces used
abbrev pub readings_of : Seen → List ℕ
readings_of s = s.entry.clock ∷ take s.used (clocks_of s.entry.pieces)

-- what it adds them to: the timer of a start in it, else that of the record before
abbrev pub counts_from : Seen → Timer
counts_from s = cond (has_start s.events) (start s.entry.clock) s.before.timer

-- those of some readings that are in step, each with the last one in step before it
unfoldable pub in_step : ℕ → List ℕ → List ℕ
in_step last [] = []
in_step last (c ∷ cs) = cond (out_of_step last c) (in_step last cs) (c ∷ in_step c cs)

-- the time-out that the last start took, 0 before the first
unfoldable pub taken_time_out : ℕ → History → ℕ
taken_time_out k fresh = 0
taken_time_out k (h then s) = cond (has_start s.events) (time_out_taken k s.entry) (taken_time_out k h)

-- "The time-out in force is the stored one on edge To kinds, that of the block's own entry in the last accepted scan ... on level To kinds, none elsewhere";
-- "Before the first accepted scan no time-out is in force." The stored one is what the last start took, until the reset.
unfoldable pub time_out_in_force : ℕ → History → ℕ
time_out_in_force k fresh = 0
time_out_in_force k (h then s) = cond (has_time_out k) (cond (is_edge k) (taken_time_out k (h then s)) s.entry.timeout) 0
