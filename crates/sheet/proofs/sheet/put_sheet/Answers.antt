-- `sheet::put_sheet` meets its contract: the lines of the blocks, and the last line after them.
use Rattle.table.specs.Blocks.{blocks_of}
use Rattle.text.specs.Ascii.{ascii}
use Rattle.figures.specs.Tally.{counts_of, figures_in}
use Rattle.sheet.proofs.SheetLaws.{last_line}
use Rattle.sheet.proofs.sheet.put_sheet.Goals as goal

pub returns : goal.returns
unfolding ascii
returns c =
    let a = c.args in
    let listed = c.put_blocks-sums.ensures in
    last_line (blocks_of a.table.now) (figures_in (counts_of a.tally.now)) listed.text listed.sums c.put_line.ensures.text
