-- Document 02, 7/14: the six figures of a line, and their sums.
use Rattle.std.specs.Prelude.{ℕ, ◌+◌, ◌-◌, ◌≤◌, List}
use Rattle.layout.specs.EventLayout.{events_at}
use Rattle.layout.specs.declared.event.Posted.{Posted}
use Rattle.block.specs.Event.{Start, DoneEvent, Failed, AbortedEvent, Withdrawn}
use Rattle.block.specs.Turns.{count_of}
use Rattle.block.specs.declared.event.Event.{Event}
use Rattle.figures.specs.declared.figures.Figures.{Figures}

-- "the four finishes", by how many events there are of each kind
abbrev pub finishes_by : (ℕ → ℕ) → ℕ
finishes_by count = count DoneEvent + count Failed + count AbortedEvent + count Withdrawn

-- "starts, done, failed, aborted, withdrawn, open", by how many events there are of each kind
unfoldable pub figures_by : (ℕ → ℕ) → Figures
figures_by count =
    record {
      starts = count Start;
      done = count DoneEvent;
      failed = count Failed;
      aborted = count AbortedEvent;
      withdrawn = count Withdrawn;
      left_open = count Start - finishes_by count;
    }

-- "Every figure equals the count of such events"; the counts are those of the run promise (block, specs/Turns.antt)
abbrev pub figures_of : List Event → Figures
figures_of events = figures_by (λ kind. count_of kind events)

-- of the block at a position, whose events are those with its position
abbrev pub figures_at : List Posted → ℕ → Figures
figures_at events position = figures_of (events_at position events)

abbrev pub no_figures : Figures
no_figures = record { starts = 0; done = 0; failed = 0; aborted = 0; withdrawn = 0; left_open = 0 }

-- column by column
abbrev pub plus : Figures → Figures → Figures
plus f g =
    record {
      starts = f.starts + g.starts;
      done = f.done + g.done;
      failed = f.failed + g.failed;
      aborted = f.aborted + g.aborted;
      withdrawn = f.withdrawn + g.withdrawn;
      left_open = f.left_open + g.left_open;
    }

-- each figure is at most n. For contracts.
pub record AtMost (n : ℕ) (f : Figures) : Type 0 where
  pub starts : f.starts ≤ n
  pub done : f.done ≤ n
  pub failed : f.failed ≤ n
  pub aborted : f.aborted ≤ n
  pub withdrawn : f.withdrawn ≤ n
  pub left_open : f.left_open ≤ n
