-- Document 02, 5/14: "Tidy a table." The statements at the end are proved in proofs/TidyLaws.antt.
use Rattle.std.specs.Prelude.{ℕ, suc, ◌+◌, ◌<◌, ◌≡◌, List, Result, Ok, Err, ◌==◌, length, get_or}
use Rattle.words.specs.Word.{Bytes}
use Rattle.image.specs.Image.{slot_byte, kind_of, next_of, wire_slot, wire_code, start_wire_offset, abort_wire_offset, zero_offset, tag_of}
use Rattle.refusal.specs.Refusal.{Verdict, require}
use Rattle.refusal.specs.declared.Refusal.{Refusal}
use Rattle.refusal.specs.declared.Place.TheVariants.{Header}
use Rattle.refusal.specs.declared.Check.TheVariants.{OutputLength}
use Rattle.table.specs.Chain.{chain_of, position_of}
use Rattle.table.specs.Check.{check_of}
use Rattle.table.specs.Lookup.{find_of}
use Rattle.table.specs.Blocks.{blocks_of}
use Rattle.engine.specs.Told.{Told}
use Rattle.engine.specs.Fresh.{fresh_of}
use Rattle.engine.specs.Scan.{scan_of}
use Rattle.run.specs.Scans.{Scans, state_from, journal_from}
use Rattle.journal.specs.Check.{check_journal_of}
use Rattle.tidy.specs.Encode.{encode_next, encode_table, encoded_length}

-- "Write the table anew": the image of its own blocks
abbrev pub tidy_of : List ℕ → List ℕ
tidy_of image = encode_table (blocks_of image)

-- what tidying answers and leaves in the lent buffer
pub record TidyResult : Type 0 where
  pub answer : Result ℕ Refusal
  pub out : List ℕ

-- "Tidying, like each later request that writes a table, answers that table's block count." A refusal leaves the buffer untouched.
abbrev pub tidy_by : Verdict → ℕ → List ℕ → List ℕ → TidyResult
tidy_by (Ok x) n image out = record { answer = Ok n; out = tidy_of image }
tidy_by (Err refusal) n image out = record { answer = Err refusal; out = out }

-- "60, after the table checks, when the lent buffer isn't as long as the tidy image"
abbrev pub tidy_after : Result ℕ Refusal → List ℕ → List ℕ → TidyResult
tidy_after (Ok n) image out = tidy_by (require (length out == length (tidy_of image)) OutputLength Header (Ok tt)) n image out
tidy_after (Err refusal) image out = record { answer = Err refusal; out = out }

-- "into a lent buffer"
unfoldable pub tidy_into : List ℕ → List ℕ → TidyResult
tidy_into image out = tidy_after (check_of image) image out

-- Theorems about every accepted table (`SameTidy` about any two images); n is the number of its blocks.
-- tidy_accepted and tidy_length: the tidy image is accepted, with as many blocks; it has 4 + 16 × max(1, n) bytes
abbrev pub TidyAccepted : Type 0
TidyAccepted = (image : List ℕ) (n : ℕ) → check_of image ≡ Ok n → check_of (tidy_of image) ≡ Ok n

abbrev pub TidyLength : Type 0
TidyLength = (image : List ℕ) (n : ℕ) → check_of image ≡ Ok n → length (tidy_of image) ≡ encoded_length n

-- tidy_keeps: its blocks are those of the table
abbrev pub TidyKeeps : Type 0
TidyKeeps = (image : List ℕ) (n : ℕ) → check_of image ≡ Ok n → blocks_of (tidy_of image) ≡ blocks_of image

-- The same of the slots, byte by byte. Slot i + 1 beside the slot that the chain has at index i: kind, tag and codes are kept, and a wire names the position
-- of the block that it named by its slot.
pub record SlotKept (image : List ℕ) (n i slot : ℕ) : Type 0 where
  pub kind : kind_of (tidy_of image) (suc i) ≡ kind_of image slot
  pub next : next_of (tidy_of image) (suc i) ≡ encode_next n (suc i)
  pub start : wire_slot (tidy_of image) (suc i) start_wire_offset ≡ position_of (wire_slot image slot start_wire_offset) (chain_of image)
  pub start_code : wire_code (tidy_of image) (suc i) start_wire_offset ≡ wire_code image slot start_wire_offset
  pub abort : wire_slot (tidy_of image) (suc i) abort_wire_offset ≡ position_of (wire_slot image slot abort_wire_offset) (chain_of image)
  pub abort_code : wire_code (tidy_of image) (suc i) abort_wire_offset ≡ wire_code image slot abort_wire_offset
  pub zero_first : slot_byte (tidy_of image) (suc i) zero_offset ≡ 0
  pub zero_second : slot_byte (tidy_of image) (suc i) (zero_offset + 1) ≡ 0
  pub tag : tag_of (tidy_of image) (suc i) ≡ tag_of image slot

-- tidy_slots, of an image of bytes: a code is judged modulo 128
abbrev pub TidySlots : Type 0
TidySlots = (image : List ℕ) (n : ℕ) → Bytes image → check_of image ≡ Ok n → (i : ℕ) → i < n → SlotKept image n i (get_or (chain_of image) i 0)

-- tidy_twice: "Tidying twice gives the bytes of tidying once."
abbrev pub TidyTwice : Type 0
TidyTwice = (image : List ℕ) (n : ℕ) → check_of image ≡ Ok n → tidy_of (tidy_of image) ≡ tidy_of image

-- tidy_same and same_tidy: "Two tables tidy to equal bytes exactly when they have the same blocks in the same order with the same wires by position."
abbrev pub TidySame : Type 0
TidySame =
    (first second : List ℕ) (m n : ℕ) → check_of first ≡ Ok m → check_of second ≡ Ok n
    → tidy_of first ≡ tidy_of second → blocks_of first ≡ blocks_of second

abbrev pub SameTidy : Type 0
SameTidy = (first second : List ℕ) → blocks_of first ≡ blocks_of second → tidy_of first ≡ tidy_of second

-- tidy_scans: "Scans over either give equal results.": the whole result, from every state and with all else that a scan is given, refused scans too
abbrev pub TidyScans : Type 0
TidyScans =
    (image : List ℕ) (n : ℕ) → check_of image ≡ Ok n
    → (state : List ℕ) (told : Told) (report journal : List ℕ) → scan_of (tidy_of image) state told report journal ≡ scan_of image state told report journal

-- tidy_lists: so do lists of scans, from every state: the state after them, and their journal
abbrev pub TidyLists : Type 0
TidyLists =
    (image : List ℕ) (n : ℕ) → check_of image ≡ Ok n
    → (start : List ℕ) (scans : Scans)
    → (state_from (tidy_of image) start scans ≡ state_from image start scans) × (journal_from (tidy_of image) start scans ≡ journal_from image start scans)

-- tidy_fresh, tidy_finds and tidy_journals: so are fresh states, what find answers, and what is answered of a journal. Show differs: it hands back the bytes of the slot, next and wires renumbered.
abbrev pub TidyFresh : Type 0
TidyFresh = (image : List ℕ) (n : ℕ) → check_of image ≡ Ok n → (state : List ℕ) → fresh_of (tidy_of image) state ≡ fresh_of image state

abbrev pub TidyFinds : Type 0
TidyFinds = (image : List ℕ) (n : ℕ) → check_of image ≡ Ok n → (tag : List ℕ) → find_of (tidy_of image) tag ≡ find_of image tag

abbrev pub TidyJournals : Type 0
TidyJournals = (image : List ℕ) (n : ℕ) → check_of image ≡ Ok n → (journal : List ℕ) → check_journal_of (tidy_of image) journal ≡ check_journal_of image journal
