-- A fourth list of scans over bytes, computed: elapsed is time as it is counted, and no wall clock. Document 02, 1/14: "A gap of that length between calls
-- is now taken as none, and the time-out promise means time counted this way."
use Rattle.std.specs.Prelude.{ℕ, true, false, List, [], ◌∷◌, ◌≡◌, replicate}
use Rattle.refusal.specs.Refusal.{value}
use Rattle.layout.specs.Buffer.{record_length}
use Rattle.layout.specs.EntryLayout.{encode_entry}
use Rattle.block.specs.Record.{Executing, TimedOut}
use Rattle.block.specs.Event.{Start, Failed}
use Rattle.block.specs.History.{timer_of, in_step, time_out_in_force}
use Rattle.block.specs.TimeExamples.{timer}
use Rattle.engine.specs.Serve.{record_in}
use Rattle.run.specs.Scans.{Scans, none, ◌and_then◌, Given, state_after, journal_of, history_of}
use Rattle.run.specs.ExampleParts.{entry_of, scan_on, answers_of, timers_of, at}

-- one block, of kind 3 (ETrigTo), tag LANE0, without wires
unfoldable pub image : List ℕ
image = 1 ∷ 1 ∷ 1 ∷ 0 ∷ 3 ∷ 0 ∷ 0 ∷ 0 ∷ 0 ∷ 0 ∷ 0 ∷ 0 ∷ 76 ∷ 65 ∷ 78 ∷ 69 ∷ 48 ∷ 32 ∷ 32 ∷ 32 ∷ []

unfoldable pub buffer : List ℕ
buffer = replicate record_length 255

-- job 7 with a time-out of 100 and no piece: the clock of the call is the only reading
abbrev called_at : ℕ → Given
called_at clock = scan_on 1 (encode_entry (entry_of true false 7 0 100 clock []))

-- the second call is 2,147,483,648 after the start, more than half an hour, and the fourth one whole count and 50 after it, more than an hour
unfoldable pub running : Scans
running = none and_then called_at 0 and_then called_at 2147483648 and_then called_at 2147483848 and_then called_at 50

unfoldable pub scans : Scans
scans = running and_then called_at 101

-- theorem counted_time_example, proofs/RunExamples.antt
pub record CountedTimeExample : Type 0 where
  pub answers : answers_of image buffer scans ≡ value 1 ∷ value 0 ∷ value 0 ∷ value 0 ∷ value 1 ∷ []
  -- the readings that are in step
  pub readings : in_step 0 (0 ∷ 2147483648 ∷ 2147483848 ∷ 50 ∷ 101 ∷ []) ≡ 0 ∷ 50 ∷ 101 ∷ []
  -- last reading and elapsed after each scan
  pub timers : timers_of (history_of image buffer 0 scans) ≡ timer 0 0 ∷ timer 0 0 ∷ timer 0 0 ∷ timer 50 50 ∷ timer 101 101 ∷ []
  -- in Executing after the fourth, and in time as the promise counts it
  pub step : (record_in (state_after image buffer running) 0).step ≡ Executing
  pub elapsed : timer_of (history_of image buffer 0 running) ≡ timer 50 50
  pub in_force : time_out_in_force 3 (history_of image buffer 0 running) ≡ 100
  -- past the time-out in the fifth
  pub journal : journal_of image buffer scans ≡ at 1 Start 0 7 ∷ at 1 Failed TimedOut 7 ∷ []
