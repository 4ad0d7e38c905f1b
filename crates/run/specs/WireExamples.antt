-- A second list of scans over bytes, computed: wires of done, error and inverted busy, a time limit and several pieces, an Error shown with start
-- false, and elapsed at its greatest. The bytes of a frame entry, of a report, of events and of the state are written out.
use Rattle.std.specs.Prelude.{ℕ, ◌*◌, true, false, List, [], ◌∷◌, ◌++◌, ◌≡◌, replicate}
use Rattle.refusal.specs.Refusal.{value, answer_of}
use Rattle.layout.specs.Buffer.{record_length, event_length}
use Rattle.layout.specs.EntryLayout.{encode_entry}
use Rattle.block.specs.Record.{TimedOut}
use Rattle.block.specs.Event.{Start, DoneEvent, Failed}
use Rattle.block.specs.Entry.{Entry}
use Rattle.engine.specs.Fresh.{fresh_of}
use Rattle.block.specs.WorkedExamples.{working, complete, error}
use Rattle.run.specs.Scans.{Scans, none, ◌and_then◌, Given, state_after, result_of, journal_of, history_of}
use Rattle.run.specs.ExampleParts.{entry_of, scan_on, answers_of, passes_of, used_of, starts_of, at}

-- Four blocks. Position 1 is slot 3, of kind 8 (ETrigATITo), tag CAM, its abort wired to the aborted flag of LAMP, which no LConTI shows. Position 2 is
-- slot 1, of kind 9 (LCon), tag GATE, its start wired to CAM's done; position 3 slot 4, of kind 13 (LConC), tag ALARM, to CAM's error; position 4
-- slot 2, of kind 10 (LConTI), tag LAMP, to CAM's busy, inverted.
unfoldable pub image : List ℕ
image =
    1 ∷ 4 ∷ 3 ∷ 0
    ∷ 9 ∷ 4 ∷ 3 ∷ 1 ∷ 0 ∷ 0 ∷ 0 ∷ 0 ∷ 71 ∷ 65 ∷ 84 ∷ 69 ∷ 32 ∷ 32 ∷ 32 ∷ 32
    ∷ 10 ∷ 0 ∷ 3 ∷ 128 ∷ 0 ∷ 0 ∷ 0 ∷ 0 ∷ 76 ∷ 65 ∷ 77 ∷ 80 ∷ 32 ∷ 32 ∷ 32 ∷ 32
    ∷ 8 ∷ 1 ∷ 0 ∷ 0 ∷ 2 ∷ 3 ∷ 0 ∷ 0 ∷ 67 ∷ 65 ∷ 77 ∷ 32 ∷ 32 ∷ 32 ∷ 32 ∷ 32
    ∷ 13 ∷ 2 ∷ 3 ∷ 2 ∷ 0 ∷ 0 ∷ 0 ∷ 0 ∷ 65 ∷ 76 ∷ 65 ∷ 82 ∷ 77 ∷ 32 ∷ 32 ∷ 32
    ∷ []

unfoldable pub buffer : List ℕ
buffer = replicate (4 * record_length) 255

-- the job whose bytes are 1 to 8
abbrev long : ℕ
long = 578437695752307201

-- CAM's first entry: start and abort, three pieces, abort and reset reply complete, limit 50, time-out 100, clock 1,000, pieces working at 1,040, 1,051 and
-- 1,060, and the long job
abbrev cam : Entry
cam = entry_of true true long 50 100 1000 (working 1040 ∷ working 1051 ∷ working 1060 ∷ [])

unfoldable pub cam_bytes : List ℕ
cam_bytes =
    3 ∷ 3 ∷ 1 ∷ 1 ∷ 0 ∷ 0 ∷ 0 ∷ 0
    ∷ 0 ∷ 0 ∷ 0 ∷ 0 ∷ 50 ∷ 0 ∷ 0 ∷ 0
    ∷ 100 ∷ 0 ∷ 0 ∷ 0 ∷ 232 ∷ 3 ∷ 0 ∷ 0
    ∷ 0 ∷ 0 ∷ 0 ∷ 0 ∷ 16 ∷ 4 ∷ 0 ∷ 0
    ∷ 0 ∷ 0 ∷ 0 ∷ 0 ∷ 27 ∷ 4 ∷ 0 ∷ 0
    ∷ 0 ∷ 0 ∷ 0 ∷ 0 ∷ 36 ∷ 4 ∷ 0 ∷ 0
    ∷ 0 ∷ 0 ∷ 0 ∷ 0 ∷ 0 ∷ 0 ∷ 0 ∷ 0
    ∷ 1 ∷ 2 ∷ 3 ∷ 4 ∷ 5 ∷ 6 ∷ 7 ∷ 8
    ∷ []

abbrev scan : List ℕ → Entry → Entry → Entry → Given
scan cam gate alarm lamp = scan_on 4 (cam ++ (encode_entry gate ++ (encode_entry alarm ++ encode_entry lamp)))

-- an entry with nothing but its start bit and its job; on a wired block the bit counts for nothing
abbrev pub start_only : ℕ → Entry
start_only job = entry_of true false job 0 0 0 []

-- CAM starts; the second piece is past the limit of 50, and is the last one used
unfoldable pub starts : Given
starts = scan cam_bytes (start_only 20) (start_only 30) (start_only 40)

-- CAM goes on with the limit and the time-out of its start, not with those of this entry: all three pieces are used
unfoldable pub works : Given
works = scan (encode_entry (entry_of true true 99 5 5 1060 (working 1070 ∷ working 1080 ∷ working 1090 ∷ []))) (start_only 21) (start_only 31) (start_only 41)

-- CAM is past its time-out at the first piece, and shows its Error with start false; ALARM starts and fails with code 513; LAMP starts, and its
-- elapsed reaches its greatest
unfoldable pub times_out : Given
times_out =
    scan (encode_entry (entry_of false false 99 0 0 1095 (working 1101 ∷ complete 1102 ∷ []))) (start_only 22) (entry_of false false 32 0 0 0 (error 513 0 ∷ []))
    (entry_of false false 42 0 0 0 (working 2000000000 ∷ working 4000000000 ∷ working 1000 ∷ []))

-- CAM is reset by its request and starts again, and its complete piece is the last one used; GATE starts, uses one piece of two and ignores its
-- abort bit; ALARM, whose error was shown with start true, is reset
unfoldable pub restarts : Given
restarts =
    scan (encode_entry (entry_of true false 8 50 100 1105 (complete 1110 ∷ error 5 1111 ∷ [])))
    (entry_of false true 23 0 0 5 (working 6 ∷ complete 7 ∷ [])) (start_only 33) (entry_of false false 43 0 0 1001 [])

-- before CAM times out, and all four
unfoldable pub running : Scans
running = none and_then starts and_then works

unfoldable pub scans : Scans
scans = running and_then times_out and_then restarts

-- theorem wire_example, proofs/RunExamples.antt
pub record WireExample : Type 0 where
  pub made : answer_of (fresh_of image buffer).answer ≡ value 4
  pub entry : encode_entry cam ≡ cam_bytes
  pub answers : answers_of image buffer scans ≡ value 1 ∷ value 0 ∷ value 4 ∷ value 3 ∷ []
  pub journal : journal_of image buffer scans
      ≡ at 1 Start 0 long ∷ at 1 Failed TimedOut long ∷ at 3 Start 0 32 ∷ at 3 Failed 513 32 ∷ at 4 Start 0 42
      ∷ at 1 Start 0 8 ∷ at 1 DoneEvent 0 8 ∷ at 2 Start 0 23 ∷ []
  -- CAM
  pub passes : passes_of (history_of image buffer 0 scans) ≡ 2 ∷ 1 ∷ 2 ∷ 5 ∷ []
  pub pieces : used_of (history_of image buffer 0 scans) ≡ 2 ∷ 3 ∷ 1 ∷ 1 ∷ []
  -- GATE reads done, ALARM error, LAMP busy inverted
  pub gate : starts_of (history_of image buffer 1 scans) ≡ false ∷ false ∷ false ∷ true ∷ []
  pub alarm : starts_of (history_of image buffer 2 scans) ≡ false ∷ false ∷ true ∷ false ∷ []
  pub lamp : starts_of (history_of image buffer 3 scans) ≡ false ∷ false ∷ true ∷ true ∷ []
  -- the third scan's report and events
  pub report : (result_of image buffer running times_out).report
      ≡ 4 ∷ 1 ∷ 2 ∷ 3 ∷ 1 ∷ 0 ∷ 0 ∷ 0 ∷ 1 ∷ 2 ∷ 3 ∷ 4 ∷ 5 ∷ 6 ∷ 7 ∷ 8
      ∷ 0 ∷ 0 ∷ 1 ∷ 0 ∷ 0 ∷ 0 ∷ 0 ∷ 0 ∷ 0 ∷ 0 ∷ 0 ∷ 0 ∷ 0 ∷ 0 ∷ 0 ∷ 0
      ∷ 4 ∷ 1 ∷ 3 ∷ 3 ∷ 1 ∷ 2 ∷ 0 ∷ 0 ∷ 32 ∷ 0 ∷ 0 ∷ 0 ∷ 0 ∷ 0 ∷ 0 ∷ 0
      ∷ 1 ∷ 3 ∷ 2 ∷ 1 ∷ 0 ∷ 0 ∷ 0 ∷ 0 ∷ 42 ∷ 0 ∷ 0 ∷ 0 ∷ 0 ∷ 0 ∷ 0 ∷ 0
      ∷ []
  pub events : (result_of image buffer running times_out).journal
      ≡ 3 ∷ 1 ∷ 1 ∷ 0 ∷ 1 ∷ 2 ∷ 3 ∷ 4 ∷ 5 ∷ 6 ∷ 7 ∷ 8
      ∷ 1 ∷ 3 ∷ 0 ∷ 0 ∷ 32 ∷ 0 ∷ 0 ∷ 0 ∷ 0 ∷ 0 ∷ 0 ∷ 0
      ∷ 3 ∷ 3 ∷ 1 ∷ 2 ∷ 32 ∷ 0 ∷ 0 ∷ 0 ∷ 0 ∷ 0 ∷ 0 ∷ 0
      ∷ 1 ∷ 4 ∷ 0 ∷ 0 ∷ 42 ∷ 0 ∷ 0 ∷ 0 ∷ 0 ∷ 0 ∷ 0 ∷ 0
      ∷ replicate (4 * event_length) 255
  -- the state that the last scan leaves
  pub state : state_after image buffer scans
      ≡ 2 ∷ 2 ∷ 0 ∷ 0 ∷ 0 ∷ 0 ∷ 0 ∷ 0
      ∷ 0 ∷ 0 ∷ 0 ∷ 0 ∷ 50 ∷ 0 ∷ 0 ∷ 0
      ∷ 100 ∷ 0 ∷ 0 ∷ 0 ∷ 86 ∷ 4 ∷ 0 ∷ 0
      ∷ 5 ∷ 0 ∷ 0 ∷ 0 ∷ 0 ∷ 0 ∷ 0 ∷ 0
      ∷ 8 ∷ 0 ∷ 0 ∷ 0 ∷ 0 ∷ 0 ∷ 0 ∷ 0
      ∷ 1 ∷ 1 ∷ 0 ∷ 0 ∷ 0 ∷ 0 ∷ 0 ∷ 0
      ∷ 0 ∷ 0 ∷ 0 ∷ 0 ∷ 0 ∷ 0 ∷ 0 ∷ 0
      ∷ 0 ∷ 0 ∷ 0 ∷ 0 ∷ 6 ∷ 0 ∷ 0 ∷ 0
      ∷ 1 ∷ 0 ∷ 0 ∷ 0 ∷ 0 ∷ 0 ∷ 0 ∷ 0
      ∷ 23 ∷ 0 ∷ 0 ∷ 0 ∷ 0 ∷ 0 ∷ 0 ∷ 0
      ∷ 0 ∷ 0 ∷ 0 ∷ 0 ∷ 0 ∷ 0 ∷ 0 ∷ 0
      ∷ 0 ∷ 0 ∷ 0 ∷ 0 ∷ 0 ∷ 0 ∷ 0 ∷ 0
      ∷ 0 ∷ 0 ∷ 0 ∷ 0 ∷ 0 ∷ 0 ∷ 0 ∷ 0
      ∷ 0 ∷ 0 ∷ 0 ∷ 0 ∷ 0 ∷ 0 ∷ 0 ∷ 0
      ∷ 0 ∷ 0 ∷ 0 ∷ 0 ∷ 0 ∷ 0 ∷ 0 ∷ 0
      ∷ 1 ∷ 1 ∷ 0 ∷ 0 ∷ 0 ∷ 0 ∷ 0 ∷ 0
      ∷ 0 ∷ 0 ∷ 0 ∷ 0 ∷ 0 ∷ 0 ∷ 0 ∷ 0
      ∷ 0 ∷ 0 ∷ 0 ∷ 0 ∷ 233 ∷ 3 ∷ 0 ∷ 0
      ∷ 0 ∷ 0 ∷ 0 ∷ 0 ∷ 1 ∷ 0 ∷ 0 ∷ 0
      ∷ 42 ∷ 0 ∷ 0 ∷ 0 ∷ 0 ∷ 0 ∷ 0 ∷ 0
      ∷ []
