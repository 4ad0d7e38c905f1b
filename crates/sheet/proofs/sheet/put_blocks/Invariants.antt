-- The loop of `sheet::put_blocks` keeps `Listing`: the lines of the blocks before i, and their sums.
use Rattle.table.specs.Blocks.{blocks_of}
use Rattle.figures.specs.Tally.{counts_of, figures_in}
use Rattle.sheet.proofs.SheetLaws.{Listing}
use Rattle.sheet.proofs.sheet.put_blocks.Given as goal

abbrev pub invariant-loop-i : goal.invariant-loop-i
invariant-loop-i l = Listing (blocks_of l.table) (figures_in (counts_of l.tally)) l.initial.page l.page l.sums l.i
