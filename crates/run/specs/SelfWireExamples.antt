-- A third list of scans over bytes, computed: a block wired to itself, and aborts wired to another block's aborted flag, as it is and inverted.
use Rattle.std.specs.Prelude.{ℕ, ◌*◌, true, false, List, [], ◌∷◌, ◌++◌, ◌≡◌, replicate}
use Rattle.refusal.specs.Refusal.{value}
use Rattle.layout.specs.Buffer.{record_length, event_length}
use Rattle.layout.specs.EntryLayout.{encode_entry}
use Rattle.block.specs.Event.{Start, AbortedEvent, Withdrawn}
use Rattle.block.specs.Entry.{Entry}
use Rattle.run.specs.Scans.{Scans, none, ◌and_then◌, Given, result_of, journal_of, history_of}
use Rattle.run.specs.ExampleParts.{entry_of, scan_on, answers_of, passes_of, starts_of, at}

-- Four blocks. Position 1 is of kind 9 (LCon), tag BEACON, its start wired to its own busy flag, inverted; position 2 of kind 5 (ETrigA), tag PLATE,
-- without wires; position 3 of kind 7 (ETrigATo), tag SEAL, its abort wired to PLATE's aborted flag; position 4 of kind 5, tag LATCH, to the same, inverted.
unfoldable pub image : List ℕ
image =
    1 ∷ 4 ∷ 1 ∷ 0
    ∷ 9 ∷ 2 ∷ 1 ∷ 128 ∷ 0 ∷ 0 ∷ 0 ∷ 0 ∷ 66 ∷ 69 ∷ 65 ∷ 67 ∷ 79 ∷ 78 ∷ 32 ∷ 32
    ∷ 5 ∷ 3 ∷ 0 ∷ 0 ∷ 0 ∷ 0 ∷ 0 ∷ 0 ∷ 80 ∷ 76 ∷ 65 ∷ 84 ∷ 69 ∷ 32 ∷ 32 ∷ 32
    ∷ 7 ∷ 4 ∷ 0 ∷ 0 ∷ 2 ∷ 3 ∷ 0 ∷ 0 ∷ 83 ∷ 69 ∷ 65 ∷ 76 ∷ 32 ∷ 32 ∷ 32 ∷ 32
    ∷ 5 ∷ 0 ∷ 0 ∷ 0 ∷ 2 ∷ 131 ∷ 0 ∷ 0 ∷ 76 ∷ 65 ∷ 84 ∷ 67 ∷ 72 ∷ 32 ∷ 32 ∷ 32
    ∷ []

unfoldable pub buffer : List ℕ
buffer = replicate (4 * record_length) 255

-- an entry without pieces; abort and reset reply complete
abbrev pub plain : ℕ → Entry
plain job = entry_of true false job 0 0 0 []

abbrev pub with_abort : ℕ → Entry
with_abort job = entry_of true true job 0 0 0 []

abbrev scan : Entry → Entry → Entry → Entry → Given
scan beacon plate seal latch = scan_on 4 (encode_entry beacon ++ (encode_entry plate ++ (encode_entry seal ++ encode_entry latch)))

-- BEACON starts, since it was not busy; PLATE and SEAL start, and SEAL's abort bit counts for nothing; LATCH starts and is aborted, since PLATE is not
unfoldable pub starts : Given
starts = scan (entry_of false false 1 0 0 0 []) (plain 2) (with_abort 3) (plain 7)

-- BEACON is busy, so its start is false, and it is withdrawn; PLATE is aborted by its bit, and SEAL by PLATE's flag of this scan; LATCH is still shown
unfoldable pub aborts : Given
aborts = scan (plain 4) (with_abort 5) (plain 6) (plain 8)

unfoldable pub scans : Scans
scans = none and_then starts and_then aborts

-- theorem self_wire_example, proofs/RunExamples.antt
pub record SelfWireExample : Type 0 where
  pub answers : answers_of image buffer scans ≡ value 5 ∷ value 3 ∷ []
  pub journal : journal_of image buffer scans
      ≡ at 1 Start 0 1 ∷ at 2 Start 0 2 ∷ at 3 Start 0 3 ∷ at 4 Start 0 7 ∷ at 4 AbortedEvent 0 7
      ∷ at 1 Withdrawn 0 1 ∷ at 2 AbortedEvent 0 2 ∷ at 3 AbortedEvent 0 3 ∷ []
  pub beacon : starts_of (history_of image buffer 0 scans) ≡ true ∷ false ∷ []
  pub passes : passes_of (history_of image buffer 0 scans) ≡ 2 ∷ 3 ∷ []
  -- the second scan's report and events
  pub report : (result_of image buffer (none and_then starts) aborts).report
      ≡ 0 ∷ 0 ∷ 3 ∷ 0 ∷ 0 ∷ 0 ∷ 0 ∷ 0 ∷ 0 ∷ 0 ∷ 0 ∷ 0 ∷ 0 ∷ 0 ∷ 0 ∷ 0
      ∷ 8 ∷ 0 ∷ 3 ∷ 5 ∷ 0 ∷ 0 ∷ 0 ∷ 0 ∷ 2 ∷ 0 ∷ 0 ∷ 0 ∷ 0 ∷ 0 ∷ 0 ∷ 0
      ∷ 8 ∷ 0 ∷ 3 ∷ 5 ∷ 0 ∷ 0 ∷ 0 ∷ 0 ∷ 3 ∷ 0 ∷ 0 ∷ 0 ∷ 0 ∷ 0 ∷ 0 ∷ 0
      ∷ 8 ∷ 0 ∷ 1 ∷ 5 ∷ 0 ∷ 0 ∷ 0 ∷ 0 ∷ 7 ∷ 0 ∷ 0 ∷ 0 ∷ 0 ∷ 0 ∷ 0 ∷ 0
      ∷ []
  pub events : (result_of image buffer (none and_then starts) aborts).journal
      ≡ 5 ∷ 1 ∷ 0 ∷ 0 ∷ 1 ∷ 0 ∷ 0 ∷ 0 ∷ 0 ∷ 0 ∷ 0 ∷ 0
      ∷ 4 ∷ 2 ∷ 0 ∷ 0 ∷ 2 ∷ 0 ∷ 0 ∷ 0 ∷ 0 ∷ 0 ∷ 0 ∷ 0
      ∷ 4 ∷ 3 ∷ 0 ∷ 0 ∷ 3 ∷ 0 ∷ 0 ∷ 0 ∷ 0 ∷ 0 ∷ 0 ∷ 0
      ∷ replicate (5 * event_length) 255
