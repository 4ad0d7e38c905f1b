-- A list of scans over bytes, computed: each kind of finish, a refused scan in the middle, a wire, a clock that wraps, and jobs that agree in their low four
-- bytes. Beside the run promise, so that what it speaks of is seen to happen.
use Rattle.std.specs.Prelude.{ℕ, ◌+◌, ◌*◌, true, false, List, [], ◌∷◌, ◌++◌, ◌≡◌, replicate}
use Rattle.refusal.specs.Refusal.{value, refusal, answer_of}
use Rattle.layout.specs.Buffer.{record_length}
use Rattle.layout.specs.EntryLayout.{encode_entry}
use Rattle.block.specs.Record.{Executing, TimedOut}
use Rattle.block.specs.Event.{Start, DoneEvent, Failed, AbortedEvent, Withdrawn}
use Rattle.block.specs.History.{timer_of, time_out_in_force}
use Rattle.block.specs.Entry.{Entry}
use Rattle.engine.specs.Serve.{record_in}
use Rattle.engine.specs.Fresh.{fresh_of}
use Rattle.block.specs.WorkedExamples.{working, complete, error}
use Rattle.run.specs.Scans.{Scans, none, ◌and_then◌, Given, state_after, journal_of, history_of}
use Rattle.run.specs.ExampleParts.{entry_of, scan_on, answers_of, passes_of, starts_of, at}

-- Two blocks: position 1 is slot 2, of kind 7 (ETrigATo), tag PUMP; position 2 is slot 1, of kind 9 (LCon), tag FAN, its start wired to the busy flag of slot 2.
unfoldable pub image : List ℕ
image =
    1 ∷ 2 ∷ 2 ∷ 0
    ∷ 9 ∷ 0 ∷ 2 ∷ 0 ∷ 0 ∷ 0 ∷ 0 ∷ 0 ∷ 70 ∷ 65 ∷ 78 ∷ 32 ∷ 32 ∷ 32 ∷ 32 ∷ 32
    ∷ 7 ∷ 1 ∷ 0 ∷ 0 ∷ 0 ∷ 0 ∷ 0 ∷ 0 ∷ 80 ∷ 85 ∷ 77 ∷ 80 ∷ 32 ∷ 32 ∷ 32 ∷ 32
    ∷ []

-- what fresh is lent
unfoldable pub buffer : List ℕ
buffer = replicate (2 * record_length) 255

-- a job whose low four bytes are 7, and whose others are n
abbrev pub job : ℕ → ℕ
job n = 4294967296 * n + 7

-- all ones in four bytes
abbrev ones : ℕ
ones = 4294967295

-- the entry of FAN: its own start bit is 0, and counts for nothing
abbrev fan : ℕ → Entry
fan n = entry_of false false (job n) 0 0 0 []

abbrev scan : Entry → Entry → Given
scan pump fan = scan_on 2 (encode_entry pump ++ encode_entry fan)

-- job 7 starts at 4,294,967,290, and FAN with job 4,294,967,303
unfoldable pub starts : Given
starts = scan (entry_of true false (job 0) 0 100 4294967290 (working 4294967295 ∷ [])) (fan 1)

-- the clock wraps; job 7 is done, and FAN, no longer started, is withdrawn
unfoldable pub is_done : Given
is_done = scan (entry_of false false (job 3) 0 0 5 (complete 10 ∷ [])) (fan 2)

-- FAN's entry says five pieces: refused
unfoldable pub damaged : Given
damaged = scan (entry_of true false (job 4) 0 0 15 []) (entry_of true false (job 5) 0 0 0 (working 0 ∷ working 0 ∷ working 0 ∷ working 0 ∷ working 0 ∷ []))

-- reset and started again in one call: job 4,294,967,303 fails by its reply
unfoldable pub fails : Given
fails = scan (entry_of true false (job 1) 0 10 20 (error 5 25 ∷ [])) (fan 3)

-- back to Dormant
unfoldable pub rests : Given
rests = scan (entry_of false false 0 0 0 30 []) (fan 4)

-- job 1,099,511,627,783 is complete 11 after its start, past its time-out of 10, as the clock wraps
unfoldable pub is_late : Given
is_late = scan (entry_of true false (job 256) 0 10 4294967290 (complete 5 ∷ [])) (fan 5)

-- a job whose four high bytes are all ones is started and aborted
unfoldable pub is_aborted : Given
is_aborted = scan (entry_of true true (job ones) 0 0 50 []) (fan 6)

-- job 7 is still worked at, past the clock's wrap
unfoldable pub works : Given
works = scan (entry_of true false (job 3) 0 0 5 (working 9 ∷ [])) (fan 2)

unfoldable pub scans : Scans
scans = none and_then starts and_then is_done and_then damaged and_then fails and_then rests and_then is_late and_then rests and_then is_aborted

-- a job that stays open, with a refused scan in between
unfoldable pub running : Scans
running = none and_then starts and_then damaged and_then works

-- theorem run_example, proofs/RunExamples.antt
pub record RunExample : Type 0 where
  pub made : answer_of (fresh_of image buffer).answer ≡ value 2
  pub answers : answers_of image buffer scans
      ≡ value 2 ∷ value 2 ∷ refusal 31 2 ∷ value 2 ∷ value 0 ∷ value 2 ∷ value 0 ∷ value 2 ∷ []
  pub journal : journal_of image buffer scans
      ≡ at 1 Start 0 (job 0) ∷ at 2 Start 0 (job 1) ∷ at 1 DoneEvent 0 (job 0) ∷ at 2 Withdrawn 0 (job 1)
      ∷ at 1 Start 0 (job 1) ∷ at 1 Failed 5 (job 1) ∷ at 1 Start 0 (job 256) ∷ at 1 Failed TimedOut (job 256)
      ∷ at 1 Start 0 (job ones) ∷ at 1 AbortedEvent 0 (job ones) ∷ []
  pub passes : passes_of (history_of image buffer 0 scans) ≡ 2 ∷ 2 ∷ 5 ∷ 2 ∷ 3 ∷ 2 ∷ 4 ∷ []
  -- FAN reads PUMP's flag of the same scan
  pub wired : starts_of (history_of image buffer 1 scans) ≡ true ∷ false ∷ false ∷ false ∷ false ∷ false ∷ false ∷ []
  -- Aborted, flag aborted, last reading 50, the last job; FAN dormant
  pub state : state_after image buffer scans
      ≡ 5 ∷ 8 ∷ 0 ∷ 0 ∷ 0 ∷ 0 ∷ 0 ∷ 0
      ∷ 0 ∷ 0 ∷ 0 ∷ 0 ∷ 0 ∷ 0 ∷ 0 ∷ 0
      ∷ 0 ∷ 0 ∷ 0 ∷ 0 ∷ 50 ∷ 0 ∷ 0 ∷ 0
      ∷ 0 ∷ 0 ∷ 0 ∷ 0 ∷ 0 ∷ 0 ∷ 0 ∷ 0
      ∷ 7 ∷ 0 ∷ 0 ∷ 0 ∷ 255 ∷ 255 ∷ 255 ∷ 255
      ∷ replicate record_length 0
  -- Executing, 15 since the start, with the time-out of the start in force
  pub step : (record_in (state_after image buffer running) 0).step ≡ Executing
  pub elapsed : timer_of (history_of image buffer 0 running) ≡ record { last = 9; elapsed = 15 }
  pub in_force : time_out_in_force 7 (history_of image buffer 0 running) ≡ 100
