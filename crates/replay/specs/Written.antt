-- Document 02, 6/14: "For a table without wires, accepted must mean exactly that some list of accepted scans from a fresh state writes this journal."
use Rattle.std.specs.Prelude.{ℕ, ◌*◌, ◌<◌, List, [], ◌++◌, Result, Ok, Err, ◌≡◌, length, take, get_or}
use Rattle.words.specs.Word.{Bytes}
use Rattle.refusal.specs.declared.Refusal.{Refusal}
use Rattle.image.specs.Image.{wire_slot, start_wire_offset, abort_wire_offset}
use Rattle.table.specs.Chain.{chain_of}
use Rattle.table.specs.Check.{check_of}
use Rattle.table.specs.Blocks.{Block, from_frame, blocks_of, block_at}
use Rattle.layout.specs.Buffer.{event_length}
use Rattle.engine.specs.Fresh.{fresh_of}
use Rattle.engine.specs.Scan.{ScanResult}
use Rattle.run.specs.Scans.{Scans, none, ◌and_then◌, Given, FramesAreBytes, result_of, journal_of}
use Rattle.journal.specs.Check.{event_count, events_of, check_journal_of}

-- "a table without wires": each input is a bit of the frame
abbrev pub NoWires : List Block → Type 0
NoWires blocks = (k : ℕ) → k < length blocks → ((block_at blocks k).start ≡ from_frame) × ((block_at blocks k).abort ≡ from_frame)

-- what an accepted scan wrote: the bytes of as many events as it answered; a refused one wrote none
abbrev pub with_bytes : List ℕ → Result ℕ Refusal → ScanResult → List ℕ
with_bytes bytes (Ok n) r = bytes ++ take (event_length * n) r.journal
with_bytes bytes (Err refusal) r = bytes

-- A list of scans from a fresh state; `buffer` is what fresh was lent.
module _ (image buffer : List ℕ) where
  -- "accepted scans": every scan of the list is accepted
  pub data EachAccepted : Scans → Type 0 where
    no_scan : EachAccepted none
    and_scan : {h : Scans} {g : Given} → EachAccepted h → (m : ℕ) → (result_of image buffer h g).answer ≡ Ok m → EachAccepted (h and_then g)

  -- the journal of the list as bytes, joined in the order of the scans
  unfoldable pub journal_bytes : Scans → List ℕ
  journal_bytes none = []
  journal_bytes (h and_then g) = with_bytes (journal_bytes h) (result_of image buffer h g).answer (result_of image buffer h g)

  -- "some list of accepted scans from a fresh state writes this journal"
  pub record Written (journal : List ℕ) : Type 0 where
    pub scans : Scans
    pub framed : FramesAreBytes scans
    pub accepted : EachAccepted scans
    pub writes : journal_bytes scans ≡ journal

-- The theorems are proved in proofs/Written.antt. n is the number of blocks of an accepted table, of which fresh made a state in the buffer.
-- accepted_is_written: over a table without wires, a journal is accepted exactly when it is written
pub record Exactly (image buffer journal : List ℕ) : Type 0 where
  pub written : (m : ℕ) → check_journal_of image journal ≡ Ok m → Written image buffer journal
  pub accepted : Written image buffer journal → check_journal_of image journal ≡ Ok (event_count journal)

abbrev pub AcceptedIsWritten : Type 0
AcceptedIsWritten =
    (image buffer journal : List ℕ) (n : ℕ) → (fresh_of image buffer).answer ≡ Ok n → NoWires (blocks_of image) → Bytes journal → Exactly image buffer journal

-- scans_are_accepted: "With wires only the listed rules are promised.": over any table the journal of any list of scans, refused ones included, is accepted, with its number of events
abbrev pub ScansAreAccepted : Type 0
ScansAreAccepted =
    (image buffer : List ℕ) (n : ℕ) → (fresh_of image buffer).answer ≡ Ok n → (scans : Scans) → FramesAreBytes scans
    → check_journal_of image (journal_bytes image buffer scans) ≡ Ok (length (journal_of image buffer scans))

-- bytes_are_events: the events in these bytes are the journal of the list as the run promise has it
abbrev pub BytesAreEvents : Type 0
BytesAreEvents =
    (image buffer : List ℕ) (n : ℕ) → (fresh_of image buffer).answer ≡ Ok n → (scans : Scans) → FramesAreBytes scans
    → events_of (journal_bytes image buffer scans) ≡ journal_of image buffer scans

-- no_wires: an accepted table is without wires where both wire slots of each block are 0
abbrev pub ZeroSlotsAreNoWires : Type 0
ZeroSlotsAreNoWires =
    (image : List ℕ) (n : ℕ) → check_of image ≡ Ok n
    → ((i : ℕ) → i < n → (wire_slot image (get_or (chain_of image) i 0) start_wire_offset ≡ 0) × (wire_slot image (get_or (chain_of image) i 0) abort_wire_offset ≡ 0))
    → NoWires (blocks_of image)
