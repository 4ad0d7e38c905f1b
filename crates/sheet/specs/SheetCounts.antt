-- Document 02, 7/14: what the figures of an accepted journal are: counts of its events, with nothing lost and nothing counted twice.
use Rattle.std.specs.Prelude.{ℕ, suc, ◌+◌, ◌≤◌, ◌<◌, List, [], ◌∷◌, ◌≡◌, Ok, length}
use Rattle.table.specs.Blocks.{Block, blocks_of}
use Rattle.layout.specs.EventLayout.{decode_events, events_at}
use Rattle.layout.specs.declared.event.Posted.{Posted}
use Rattle.block.specs.Event.{Start, DoneEvent, Failed, AbortedEvent, Withdrawn}
use Rattle.block.specs.Turns.{count_of}
use Rattle.block.specs.declared.event.Event.{Event}
use Rattle.journal.specs.Check.{check_journal_of}
use Rattle.figures.specs.Figures.{figures_at}
use Rattle.sheet.specs.Sheet.{sums_to}
use Rattle.figures.specs.declared.figures.Figures.{Figures}

-- the figures of some events
pub record FiguresCount (f : Figures) (events : List Event) : Type 0 where
  -- "Every figure equals the count of such events"
  pub starts : f.starts ≡ count_of Start events
  pub done : f.done ≡ count_of DoneEvent events
  pub failed : f.failed ≡ count_of Failed events
  pub aborted : f.aborted ≡ count_of AbortedEvent events
  pub withdrawn : f.withdrawn ≡ count_of Withdrawn events
  -- "open is starts less the four finishes", which are no more than the starts: the two together are the starts
  pub left_open : f.left_open + (f.done + f.failed + f.aborted + f.withdrawn) ≡ f.starts

-- the events of a journal without their positions
unfoldable pub events_in : List Posted → List Event
events_in [] = []
events_in (p ∷ ps) = p.event ∷ events_in ps

pub record SheetCounts (blocks : List Block) (events : List Posted) : Type 0 where
  -- a block's line counts the block's events; it has one job open at most
  pub lines : (k : ℕ) → k < length blocks → FiguresCount (figures_at events (suc k)) (events_at (suc k) events)
  pub one_open : (k : ℕ) → k < length blocks → (figures_at events (suc k)).left_open ≤ 1
  -- the last line counts all events of the journal, whatever their position
  pub sums : FiguresCount (sums_to (figures_at events) (length blocks)) (events_in events)

-- theorem sheet_counts, proofs/SheetCounts.antt: of every journal that is accepted
abbrev pub AcceptedSheetCounts : Type 0
AcceptedSheetCounts = (image journal : List ℕ) (n : ℕ) → check_journal_of image journal ≡ Ok n → SheetCounts (blocks_of image) (decode_events n journal)
