-- `sheet::put_blocks` meets its contract: one line more at a time, and its figures added to the sums.
use Prim.Native.Nat.{ℕ, suc, ◌*◌, ◌<◌}
use native.Mathlib.Numerals.{add-one}
use native.Mathlib.Omega.{arith}
use mathlib.Core.Path.{◌≡◌}
use lib.ListN.{length}
use Rattle.table.specs.Blocks.{blocks_of}
use Rattle.text.proofs.TextLaws.{wrote_same_length}
use Rattle.figures.specs.Figures.{no_figures, AtMost}
use Rattle.figures.specs.Tally.{counts_of, figures_in}
use Rattle.figures.proofs.FigureLaws.{at_most_up, row_most}
use Rattle.sheet.proofs.SheetLaws.{sums_most, listing_start, listing_on}
use Rattle.sheet.proofs.sheet.put_blocks.Goals as goal

pub loop-i-init : goal.loop-i-init
loop-i-init c =
    let a = c.args in
    let d = c.default-sums.ensures in
    let none : c.default-sums.result ≡ no_figures =
    λ i. record { starts = d.0 i; done = d.1.0 i; failed = d.1.1.0 i; aborted = d.1.1.1.0 i; withdrawn = d.1.1.1.1.0 i; left_open = d.1.1.1.1.1 i } in
    rw none (listing_start (blocks_of a.table.now) (figures_in (counts_of a.tally.now)) a.page.now (omega (arith, c.requires.sheet_room_in_bounds)))

pub figures_at-f-requires-clause-row_fits : goal.figures_at-f-requires-clause-row_fits
figures_at-f-requires-clause-row_fits c = rw (add-one c.loop-i.i) (c.requires.rows_fit c.loop-i.i (omega (arith, c.len-count.ensures.count)))

pub put_block-requires-clause-line_room_in_bounds : goal.put_block-requires-clause-line_room_in_bounds
put_block-requires-clause-line_room_in_bounds c =
    let L = c.loop-i in
    omega (arith, c.requires.sheet_room_in_bounds, L.invariant.few, wrote_same_length L.invariant.wrote.wrote, c.len-count.ensures.few)

pub add-sums-requires : goal.add-sums-requires
add-sums-requires c =
    let a = c.args in
    let L = c.loop-i in
    let count = length (blocks_of a.table.now) in
    let size : c.len-count.result ≡ count = c.len-count.ensures.count in
    let rows : (k : ℕ) → k < count → AtMost 65536 (figures_in (counts_of a.tally.now) (suc k)) = λ k l. row_most (counts_of a.tally.now) (suc k) (c.requires.rows_fit k l) in
    let sums = sums_most 65536 count (figures_in (counts_of a.tally.now)) rows L.i (omega (arith, L.auto.i-end)) in (
      rw L.invariant.summed (at_most_up (65536 * L.i) 2147483647 _ (omega (arith, c.len-count.ensures.few)) sums),
      rw (c.figures_at-f.ensures, add-one L.i) (at_most_up 65536 2147483647 _ (omega arith) (rows L.i (omega arith))),
    )

pub loop-i-preserved : goal.loop-i-preserved
loop-i-preserved c =
    let put = c.put_block.ensures in
    listing_on c.loop-i.invariant c.figures_at-f.ensures put.text put.few c.add-sums.ensures

pub returns : goal.returns
returns c =
    let L = c.loop-i in
    let last : L.i ≡ length (blocks_of c.args.table.now) = omega (arith, c.len-count.ensures.count) in
    record { text = rw last at L.invariant.wrote; room = omega (arith, c.requires.sheet_room_in_bounds, L.invariant.few, wrote_same_length L.invariant.wrote.wrote, c.len-count.ensures.few); sums = rw last at L.invariant.summed }
