-- Document 01, "A list of scans": the state buffer, the journal and the history of each block, read off the bytes.
use Rattle.std.specs.Prelude.{ℕ, suc, cond, List, [], ◌++◌, Result, Ok, Err, ltb}
use Rattle.words.specs.Word.{Bytes}
use Rattle.refusal.specs.declared.Refusal.{Refusal}
use Rattle.table.specs.Blocks.{blocks_of, config_at}
use Rattle.layout.specs.Buffer.{report_length, part}
use Rattle.layout.specs.ReportLayout.{reported_pieces, reported_passes}
use Rattle.layout.specs.EventLayout.{decode_events, events_at}
use Rattle.layout.specs.declared.event.Posted.{Posted}
use Rattle.block.specs.declared.record.Flags.{Flags}
use Rattle.block.specs.History.{Seen, History, fresh, ◌then◌}
use Rattle.engine.specs.Told.{Told}
use Rattle.engine.specs.Inputs.{flags_in, inputs_of}
use Rattle.engine.specs.Serve.{record_in, entry_in}
use Rattle.engine.specs.Fresh.{fresh_of}
use Rattle.engine.specs.Scan.{ScanResult, scan_of}

-- what a scan is given beside the table and the state: "All else that a scan is given may be anything."
pub record Given : Type 0 where
  pub told : Told
  pub report : List ℕ
  pub journal : List ℕ

-- a list of scans, the first on the left
infixl 20 ◌and_then◌
pub data Scans : Type 0 where
  none : Scans
  ◌and_then◌ : Scans → Given → Scans

-- the frames are bytes
pub data FramesAreBytes : Scans → Type 0 where
  no_scan : FramesAreBytes none
  and_scan : {h : Scans} {g : Given} → FramesAreBytes h → Bytes g.told.frame → FramesAreBytes (h and_then g)

-- "a block earlier in the chain gives this scan's flag, and a later one or itself the last scan's": the flags that the block at index k reads
unfoldable pub flags_seen : ℕ → List ℕ → List ℕ → ℕ → Flags
flags_seen k before after i = flags_in (cond (ltb i k) after before) i

-- "The journal of the list is the events of its accepted scans, of each as many as it answered, joined in the order of the scans.": one scan more
abbrev pub with_events : List Posted → Result ℕ Refusal → ScanResult → List Posted
with_events ps (Ok n) r = ps ++ decode_events n r.journal
with_events ps (Err refusal) r = ps

-- Every scan is given the same image.
module _ (image : List ℕ) where
  -- what is seen of the block at index k in an accepted scan of n events: everything in it is read off the bytes
  abbrev pub seen_at : ℕ → List ℕ → Given → ScanResult → ℕ → Seen
  seen_at k before g r n =
      record {
        before = record_in before k;
        inputs = inputs_of (config_at (blocks_of image) k) (flags_seen k before r.state) (entry_in g.told.frame k).inputs;
        entry = entry_in g.told.frame k;
        passes = reported_passes (part report_length k r.report);
        used = reported_pieces (part report_length k r.report);
        events = events_at (suc k) (decode_events n r.journal);
        after = record_in r.state k;
      }

  -- "a refused one calls none"
  abbrev pub with_seen : ℕ → History → List ℕ → Given → Result ℕ Refusal → ScanResult → History
  with_seen k h before g (Ok n) r = h then seen_at k before g r n
  with_seen k h before g (Err refusal) r = h

  -- what a scan from a state buffer answers and leaves
  abbrev pub scan_given : List ℕ → Given → ScanResult
  scan_given state g = scan_of image state g.told g.report g.journal

  -- from any state buffer
  module _ (start : List ℕ) where
    -- "each later one as the scan before left it, which a refused scan does by not touching it"
    unfoldable pub state_from : Scans → List ℕ
    state_from none = start
    state_from (h and_then g) = (scan_given (state_from h) g).state

    -- what the scan after some scans answers and leaves
    abbrev pub result_from : Scans → Given → ScanResult
    result_from h g = scan_given (state_from h) g

    unfoldable pub journal_from : Scans → List Posted
    journal_from none = []
    journal_from (h and_then g) = with_events (journal_from h) (result_from h g).answer (result_from h g)

    -- what is seen of the block at index k in the accepted scans; a history begins with the fresh record, so it is one of the machine's where `start` is fresh
    unfoldable pub history_from : ℕ → Scans → History
    history_from k none = fresh
    history_from k (h and_then g) = with_seen k (history_from k h) (state_from h) g (result_from h g).answer (result_from h g)

  -- "The first gets the state buffer as fresh left it"; `buffer` is what fresh was lent
  module _ (buffer : List ℕ) where
    abbrev pub state_after : Scans → List ℕ
    state_after scans = state_from (fresh_of image buffer).state scans

    abbrev pub result_of : Scans → Given → ScanResult
    result_of scans g = result_from (fresh_of image buffer).state scans g

    abbrev pub journal_of : Scans → List Posted
    journal_of scans = journal_from (fresh_of image buffer).state scans

    abbrev pub history_of : ℕ → Scans → History
    history_of k scans = history_from (fresh_of image buffer).state k scans
