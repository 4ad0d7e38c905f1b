-- Every refusal of fresh and of the scan below the table's, computed from bytes: a row for each way to be turned back, with its number and place, beside
-- the nearest bytes that pass. The table's own rows, and what a row is, stand in crate table under the same name. Proved in proofs/Refusals.antt.
use Rattle.std.specs.Prelude.{ℕ, ◌+◌, ◌-◌, ◌*◌, List, [], ◌∷◌, ◌++◌, map, set, take, replicate}
use Rattle.refusal.specs.Refusal.{Answer, value, refusal, answer_of}
use Rattle.table.specs.Refusals.{Row, ◌gives◌, AnswersAll, image}
use Rattle.block.specs.Record.{Executing, Done, Error, Aborting, Aborted, Resetting, TimedOut}
use Rattle.layout.specs.Buffer.{record_length, entry_length, report_length, event_length, job_width, put}
use Rattle.layout.specs.RecordLayout.{record_offset}
use Rattle.layout.specs.EntryLayout.{entry_offset, piece_offset, piece_field}
use Rattle.engine.specs.Fresh.{fresh_of}
use Rattle.engine.specs.Scan.{scan_of}

-- what a scan is given
pub record ScanInput : Type 0 where
  pub image : List ℕ
  pub state : List ℕ
  pub frame : List ℕ
  pub report : List ℕ
  pub journal : List ℕ

-- The two blocks of `image` are of kind 7 (ETrigATo) and of kind 9 (LCon), whose start is wired to the done flag of the first, inverted: it starts where
-- it is Dormant and the first is not Done. A fresh state, a frame of zeros, and a report and a journal of the least length: one event.
unfoldable pub input : ScanInput
input =
    record {
      image = image;
      state = replicate (2 * record_length) 0;
      frame = replicate (2 * entry_length) 0;
      report = replicate (2 * report_length) 0;
      journal = replicate (4 * event_length) 0;
    }

-- the same with another state, frame, report or journal
abbrev with_state : List ℕ → ScanInput
with_state s = record { image = image; state = s; frame = input.frame; report = input.report; journal = input.journal }

abbrev with_frame : List ℕ → ScanInput
with_frame f = record { image = image; state = input.state; frame = f; report = input.report; journal = input.journal }

abbrev with_report : List ℕ → ScanInput
with_report r = record { image = image; state = input.state; frame = input.frame; report = r; journal = input.journal }

abbrev with_journal : List ℕ → ScanInput
with_journal j = record { image = image; state = input.state; frame = input.frame; report = input.report; journal = j }

-- the same blocks, of other kinds and without the abort wire: the first begins at byte 20 of the image, the second at byte 4
abbrev of_kinds : ℕ → ℕ → List ℕ → ScanInput
of_kinds kind kind2 s =
    record {
      image = set (set (set (set image 20 kind) 24 0) 25 0) 4 kind2;
      state = s;
      frame = input.frame;
      report = input.report;
      journal = input.journal;
    }

-- kinds 1 (ETrig) and 13 (LConC)
abbrev plain_and_continuous : List ℕ → ScanInput
plain_and_continuous s = of_kinds 1 13 s

-- one byte of the state or of the frame changed; `second_record` and `second_entry` are where position 2 begins
abbrev in_state : ℕ → ℕ → ScanInput
in_state i b = with_state (set input.state i b)

abbrev in_frame : ℕ → ℕ → ScanInput
in_frame i b = with_frame (set input.frame i b)

abbrev second_record : ℕ
second_record = record_length

abbrev second_entry : ℕ
second_entry = entry_length

-- "1 flags (bits 0-3 busy, done, error, aborted)"
abbrev busy : ℕ
busy = 1

abbrev done : ℕ
done = 2

abbrev error : ℕ
error = 4

abbrev aborted : ℕ
aborted = 8

-- a state whose record that begins at `at` has this step and these flags; the same with a code, and with a request
abbrev record_of : ℕ → ℕ → ℕ → List ℕ
record_of at step flags = set (set input.state at step) (at + record_offset.flags) flags

abbrev coded : ℕ → ℕ → ℕ → ℕ → List ℕ
coded at step flags code = set (record_of at step flags) (at + record_offset.code) code

abbrev asked : ℕ → ℕ → ℕ → ℕ → List ℕ
asked at step flags request = set (record_of at step flags) (at + record_offset.request) request

-- a frame whose entry that begins at `at` has one piece, of this reply
abbrev piece : ℕ → ℕ → List ℕ
piece at reply = set (set input.frame (at + entry_offset.count) 1) (at + piece_offset 0) reply

unfoldable pub fresh_rows : List (Row (List ℕ))
fresh_rows =
    replicate (2 * record_length) 255 gives value 2
    -- 20: length not 40 × blocks
    ∷ [] gives refusal 20 0
    ∷ replicate record_length 0 gives refusal 20 0
    ∷ replicate (2 * record_length + 1) 0 gives refusal 20 0
    ∷ []

-- a stored time limit on each edge TI kind, and a stored time-out on each edge To kind
abbrev edge_bounds : List (Row ScanInput)
edge_bounds =
    map (λ (kind : ℕ). of_kinds kind 9 (set (record_of 0 Executing busy) record_offset.limit 9) gives value 1) (2 ∷ 4 ∷ 6 ∷ 8 ∷ [])
    ++ map (λ (kind : ℕ). of_kinds kind 9 (set (record_of 0 Executing busy) record_offset.timeout 9) gives value 1) (3 ∷ 4 ∷ 7 ∷ 8 ∷ [])

-- the bytes of a number, from the first
abbrev four_bytes : List ℕ
four_bytes = 0 ∷ 1 ∷ 2 ∷ 3 ∷ []

abbrev eight_bytes : List ℕ
eight_bytes = 0 ∷ 1 ∷ 2 ∷ 3 ∷ 4 ∷ 5 ∷ 6 ∷ 7 ∷ []

-- 02, 3/14: "job in 32-39, bytes 4-7 zero": each of them, not zero, in a Dormant record and in one that is Executing
abbrev long_records : List (Row ScanInput)
long_records =
    map (λ (i : ℕ). in_state (record_offset.job + i) 1 gives refusal 21 1) eight_bytes
    ++ map (λ (i : ℕ). with_state (set (record_of 0 Executing busy) (record_offset.job + i) 1) gives value 1) eight_bytes
    ++ map (λ (i : ℕ). in_state (second_record + record_offset.unnamed_quad + i) 1 gives refusal 21 2) four_bytes
    ++ map (λ (i : ℕ). with_state (set (record_of 0 Executing busy) (record_offset.unnamed_quad + i) 1) gives refusal 21 1) four_bytes

unfoldable pub state_rows : List (Row ScanInput)
state_rows =
    input gives value 1
    -- 20: length not 40 × blocks
    ∷ with_state [] gives refusal 20 0
    ∷ with_state (take record_length input.state) gives refusal 20 0
    ∷ with_state (input.state ++ (0 ∷ [])) gives refusal 20 0
    -- 21: unsound; first position. Dormant is all zero, its job and reading too; step is at most 6
    ∷ in_state record_offset.job 1 gives refusal 21 1
    ∷ in_state record_offset.last 1 gives refusal 21 1
    ∷ in_state (second_record + record_offset.elapsed + 7) 1 gives refusal 21 2
    ∷ in_state record_offset.flags busy gives refusal 21 1
    ∷ in_state (second_record + record_offset.request) 1 gives refusal 21 2
    ∷ in_state record_offset.code 5 gives refusal 21 1
    ∷ in_state record_offset.unnamed 1 gives refusal 21 1
    ∷ in_state record_offset.limit 9 gives refusal 21 1
    ∷ in_state record_offset.timeout 9 gives refusal 21 1
    ∷ in_state second_record 7 gives refusal 21 2
    -- Executing has busy only, no request and no code; the unnamed bits and bytes are zero
    ∷ with_state (record_of 0 Executing busy) gives value 1
    ∷ with_state (record_of 0 Executing 0) gives refusal 21 1
    ∷ with_state (record_of 0 Executing (busy + done)) gives refusal 21 1
    ∷ with_state (record_of 0 Executing (busy + 16)) gives refusal 21 1
    ∷ with_state (record_of 0 Executing (busy + 32)) gives refusal 21 1
    ∷ with_state (record_of 0 Executing (busy + 64)) gives refusal 21 1
    ∷ with_state (record_of 0 Executing (busy + 128)) gives refusal 21 1
    ∷ with_state (asked 0 Executing busy 1) gives refusal 21 1
    ∷ with_state (coded 0 Executing busy 5) gives refusal 21 1
    ∷ with_state (set (record_of 0 Executing busy) record_offset.unnamed 1) gives refusal 21 1
    ∷ with_state (set (record_of 0 Executing busy) record_offset.unnamed_pair 1) gives refusal 21 1
    ∷ with_state (set (record_of 0 Executing busy) (record_offset.unnamed_pair + 1) 1) gives refusal 21 1
    -- "Job and reading are free.": all ones
    ∷ with_state (put record_offset.job (replicate job_width 255) (record_of 0 Executing busy)) gives value 1
    ∷ with_state (put record_offset.last (replicate 4 255) (record_of 0 Executing busy)) gives value 1
    -- Aborting too, on kinds 5 to 14
    ∷ with_state (record_of 0 Aborting busy) gives value 1
    ∷ with_state (record_of 0 Aborting (busy + done)) gives refusal 21 1
    ∷ with_state (asked 0 Aborting busy 1) gives refusal 21 1
    ∷ with_state (coded 0 Aborting busy 5) gives refusal 21 1
    ∷ plain_and_continuous (record_of second_record Aborting busy) gives value 0
    ∷ plain_and_continuous (record_of 0 Aborting busy) gives refusal 21 1
    -- Error has error only, and a code; 1 only for To kinds
    ∷ with_state (coded 0 Error error TimedOut) gives value 1
    ∷ with_state (record_of 0 Error error) gives refusal 21 1
    ∷ with_state (coded 0 Error (error + busy) 5) gives refusal 21 1
    ∷ with_state (coded second_record Error error 2) gives value 0
    ∷ with_state (coded second_record Error error TimedOut) gives refusal 21 2
    ∷ with_state (set (asked second_record Error error 1) (second_record + record_offset.code) 2) gives value 0
    -- Done has done only, and on a level kind no request, which is at most 1; not on kinds 13 and 14
    ∷ with_state (asked 0 Done done 1) gives value 0
    ∷ with_state (asked 0 Done done 2) gives refusal 21 1
    ∷ with_state (record_of 0 Done (done + aborted)) gives refusal 21 1
    ∷ with_state (coded 0 Done done 5) gives refusal 21 1
    ∷ with_state (record_of second_record Done done) gives value 0
    ∷ with_state (asked second_record Done done 1) gives refusal 21 2
    ∷ plain_and_continuous (record_of second_record Done done) gives refusal 21 2
    -- Aborted has aborted only, on kinds 5 to 8
    ∷ with_state (record_of 0 Aborted aborted) gives value 1
    ∷ with_state (record_of 0 Aborted busy) gives refusal 21 1
    ∷ with_state (record_of 0 Aborted (aborted + busy)) gives refusal 21 1
    ∷ with_state (coded 0 Aborted aborted 5) gives refusal 21 1
    ∷ with_state (record_of second_record Aborted aborted) gives refusal 21 2
    ∷ plain_and_continuous (record_of 0 Aborted aborted) gives refusal 21 1
    -- Resetting has one of done, error, aborted, or on a level kind busy, each on the kinds that show it
    ∷ with_state (asked 0 Resetting done 1) gives value 0
    ∷ with_state (coded 0 Resetting error 5) gives value 1
    ∷ with_state (record_of 0 Resetting aborted) gives value 1
    ∷ with_state (record_of 0 Resetting 0) gives refusal 21 1
    ∷ with_state (record_of 0 Resetting (done + aborted)) gives refusal 21 1
    ∷ with_state (record_of 0 Resetting error) gives refusal 21 1
    ∷ with_state (coded 0 Resetting done 5) gives refusal 21 1
    ∷ with_state (coded second_record Resetting error TimedOut) gives refusal 21 2
    ∷ with_state (asked second_record Resetting done 1) gives refusal 21 2
    ∷ with_state (record_of 0 Resetting busy) gives refusal 21 1
    ∷ with_state (record_of second_record Resetting busy) gives value 0
    ∷ with_state (asked second_record Resetting busy 1) gives refusal 21 2
    ∷ with_state (record_of second_record Resetting aborted) gives refusal 21 2
    ∷ plain_and_continuous (record_of second_record Resetting done) gives refusal 21 2
    -- elapsed is at most 4,294,967,296; the stored time limit is an edge TI kind's, the stored time-out an edge To kind's
    ∷ with_state (set (record_of 0 Executing busy) (record_offset.elapsed + 4) 1) gives value 1
    ∷ with_state (set (set (record_of 0 Executing busy) (record_offset.elapsed + 4) 1) record_offset.elapsed 1) gives refusal 21 1
    ∷ with_state (set (record_of 0 Executing busy) record_offset.timeout 9) gives value 1
    ∷ with_state (set (record_of 0 Executing busy) record_offset.limit 9) gives refusal 21 1
    ∷ with_state (set (record_of second_record Resetting busy) (second_record + record_offset.timeout) 9) gives refusal 21 2
    ∷ of_kinds 8 12 (set (record_of second_record Executing busy) (second_record + record_offset.limit) 9) gives refusal 21 2
    ∷ of_kinds 8 12 (set (record_of second_record Executing busy) (second_record + record_offset.timeout) 9) gives refusal 21 2
    -- the first position
    ∷ with_state (set (set input.state record_offset.job 1) (second_record + record_offset.job) 1) gives refusal 21 1
    ∷ edge_bounds
    ++ long_records

-- each byte of the piece after the last one, and of the fourth, not zero
abbrev past_count : List (Row ScanInput)
past_count =
    map (λ (i : ℕ). with_frame (set (piece 0 1) (piece_offset 1 + i) 1) gives refusal 31 1) eight_bytes
    ++ map (λ (i : ℕ). in_frame (second_entry + piece_offset 3 + i) 1 gives refusal 31 2) eight_bytes

-- 02, 3/14: "job in 56-63, bytes 8-11 zero": each of them, not zero
abbrev long_entries : List (Row ScanInput)
long_entries =
    map (λ (i : ℕ). in_frame (second_entry + entry_offset.job + i) 255 gives value 1) eight_bytes
    ++ map (λ (i : ℕ). in_frame (entry_offset.unnamed_quad + i) 1 gives refusal 31 1) four_bytes
    ++ map (λ (i : ℕ). with_frame (set (piece second_entry 1) (second_entry + entry_offset.unnamed_quad + i) 255) gives refusal 31 2) four_bytes

unfoldable pub frame_rows : List (Row ScanInput)
frame_rows =
    -- 30: length not 64 × blocks
    with_frame [] gives refusal 30 0
    ∷ with_frame (take entry_length input.frame) gives refusal 30 0
    ∷ with_frame (input.frame ++ (0 ∷ [])) gives refusal 30 0
    -- 31: an entry not as above; first position. Inputs, piece count, replies, the reset's never 2
    ∷ in_frame entry_offset.inputs 2 gives value 1
    ∷ in_frame entry_offset.inputs 4 gives refusal 31 1
    ∷ in_frame entry_offset.inputs 8 gives refusal 31 1
    ∷ in_frame entry_offset.inputs 16 gives refusal 31 1
    ∷ in_frame entry_offset.inputs 32 gives refusal 31 1
    ∷ in_frame entry_offset.inputs 64 gives refusal 31 1
    ∷ in_frame entry_offset.inputs 128 gives refusal 31 1
    ∷ in_frame entry_offset.count 4 gives value 1
    ∷ in_frame (second_entry + entry_offset.count) 5 gives refusal 31 2
    ∷ in_frame entry_offset.abort_reply 1 gives value 1
    ∷ in_frame entry_offset.abort_reply 3 gives refusal 31 1
    ∷ in_frame entry_offset.reset_reply 1 gives value 1
    ∷ in_frame (second_entry + entry_offset.reset_reply) 2 gives refusal 31 2
    -- a code is 2 to 65,535 with reply 2, else 0
    ∷ in_frame entry_offset.abort_reply 2 gives refusal 31 1
    ∷ with_frame (set (set input.frame entry_offset.abort_reply 2) entry_offset.abort_code 1) gives refusal 31 1
    ∷ with_frame (set (set input.frame entry_offset.abort_reply 2) entry_offset.abort_code 2) gives value 1
    ∷ with_frame (set (set input.frame entry_offset.abort_reply 2) (entry_offset.abort_code + 1) 255) gives value 1
    ∷ in_frame (entry_offset.abort_code + 1) 1 gives refusal 31 1
    -- the unnamed bytes are zero
    ∷ in_frame entry_offset.unnamed_pair 1 gives refusal 31 1
    ∷ in_frame (second_entry + entry_offset.unnamed_pair + 1) 1 gives refusal 31 2
    -- job, limit, time-out and clock are free
    ∷ with_frame (put entry_offset.job (replicate job_width 255) input.frame) gives value 1
    ∷ in_frame entry_offset.limit 255 gives value 1
    ∷ in_frame entry_offset.timeout 255 gives value 1
    ∷ in_frame entry_offset.clock 255 gives value 1
    -- pieces, also those that a kind never uses; those past n, which come last, are zero
    ∷ with_frame (piece 0 1) gives value 1
    ∷ with_frame (piece 0 3) gives refusal 31 1
    ∷ with_frame (piece 0 2) gives refusal 31 1
    ∷ with_frame (set (piece 0 2) (piece_offset 0 + piece_field.code) 1) gives refusal 31 1
    ∷ with_frame (set (piece 0 2) (piece_offset 0 + piece_field.code) 2) gives value 1
    ∷ with_frame (set (piece 0 2) (piece_offset 0 + piece_field.code + 1) 255) gives value 1
    ∷ with_frame (set (piece 0 1) (piece_offset 0 + piece_field.code) 2) gives refusal 31 1
    ∷ with_frame (set (piece second_entry 1) (second_entry + piece_offset 0 + piece_field.unnamed) 1) gives refusal 31 2
    ∷ with_frame (set (piece 0 1) (piece_offset 0 + piece_field.clock) 255) gives value 1
    ∷ with_frame (set (set (piece 0 1) entry_offset.count 2) (piece_offset 1) 3) gives refusal 31 1
    ∷ with_frame (set (set (piece 0 1) entry_offset.count 2) (piece_offset 1) 2) gives refusal 31 1
    ∷ with_frame (set (set (piece 0 1) entry_offset.count 4) (piece_offset 3 + piece_field.unnamed) 1) gives refusal 31 1
    ∷ with_frame (set (set (piece 0 1) entry_offset.count 4) (piece_offset 3 + piece_field.clock) 1) gives value 1
    ∷ past_count
    ++ long_entries

unfoldable pub buffer_rows : List (Row ScanInput)
buffer_rows =
    -- 40: length not 16 × blocks
    with_report [] gives refusal 40 0
    ∷ with_report (take report_length input.report) gives refusal 40 0
    ∷ with_report (input.report ++ (0 ∷ [])) gives refusal 40 0
    -- 41: length under 24 × blocks
    ∷ with_journal [] gives refusal 41 0
    ∷ with_journal (replicate (4 * event_length - 1) 0) gives refusal 41 0
    ∷ with_journal (input.journal ++ (0 ∷ [])) gives value 1
    -- the first that fails is given: the table's, then 20, 21, 30, 31, 40, 41
    ∷ record { image = []; state = []; frame = []; report = []; journal = [] } gives refusal 1 0
    ∷ record { image = image; state = []; frame = []; report = []; journal = [] } gives refusal 20 0
    ∷ record { image = image; state = set input.state (second_record + record_offset.job) 1; frame = []; report = []; journal = [] } gives refusal 21 2
    ∷ record { image = image; state = input.state; frame = []; report = []; journal = [] } gives refusal 30 0
    ∷ record { image = image; state = input.state; frame = set input.frame entry_offset.unnamed_pair 1; report = []; journal = [] } gives refusal 31 1
    ∷ record { image = image; state = input.state; frame = input.frame; report = []; journal = [] } gives refusal 40 0
    ∷ []

-- what fresh and the scan answer, in document 01's numbers
abbrev pub fresh_answer : List ℕ → Answer
fresh_answer buffer = answer_of (fresh_of image buffer).answer

abbrev pub scan_answer_of : ScanInput → Answer
scan_answer_of g = answer_of (scan_of g.image g.state (record { frame = g.frame }) g.report g.journal).answer

-- theorem engine_refusals
pub record EngineRefusals : Type 0 where
  pub fresh : AnswersAll fresh_answer fresh_rows
  pub states : AnswersAll scan_answer_of state_rows
  pub frames : AnswersAll scan_answer_of frame_rows
  pub buffers : AnswersAll scan_answer_of buffer_rows
