-- Figures that are not too large: so that nothing overflows where lines are added up. For the writer of the lines.
use Prim.Native.Nat.{ℕ, ◌≤◌}
use native.Mathlib.Omega.{arith}
use Rattle.figures.specs.Figures.{figures_by, AtMost}
use Rattle.figures.specs.Tally.{Counts, figures_in, RowFits}
use Rattle.figures.specs.declared.figures.Figures.{Figures}

pub at_most_up : (m n : ℕ) (f : Figures) → m ≤ n → AtMost m f → AtMost n f
at_most_up m n f l h =
    record {
      starts = omega (arith, h.starts);
      done = omega (arith, h.done);
      failed = omega (arith, h.failed);
      aborted = omega (arith, h.aborted);
      withdrawn = omega (arith, h.withdrawn);
      left_open = omega (arith, h.left_open);
    }

-- the figures of a row whose finishes are no more than its starts
pub row_most : (counts : Counts) (position : ℕ) → RowFits counts position → AtMost 65536 (figures_in counts position)
unfolding figures_by
row_most counts position h =
    record {
      starts = h.1;
      done = omega (arith, h.0, h.1);
      failed = omega (arith, h.0, h.1);
      aborted = omega (arith, h.0, h.1);
      withdrawn = omega (arith, h.0, h.1);
      left_open = omega (arith, h.1);
    }
