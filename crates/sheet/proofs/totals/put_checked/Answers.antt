-- `totals::put_checked` meets its contract: the first check that fails, or the sheet by the counts, which is that of the journal.
use mathlib.Core.Path.{◌≡◌, sym, ◌∙◌}
use Rattle.std.specs.Prelude.{Ok}
use Rattle.table.specs.Blocks.{blocks_of}
use Rattle.journal.specs.Check.{journal_verdict}
use Rattle.sheet.proofs.TotalsLaws.{accepted_both, rows_fit, prints_sheet}
use Rattle.sheet.proofs.totals.put_checked.Goals as goal

pub put_sheet-requires-clause-rows_fit : goal.put_sheet-requires-clause-rows_fit
put_sheet-requires-clause-rows_fit c =
    let a = c.args in
    let table = sym c.check_into.ensures.answer ∙ c.in_ok-check_into.was in
    let verdict : journal_verdict (blocks_of a.image.now) a.journal.now ≡ Ok tt = rw c.new-table.ensures at (sym c.check_events.ensures ∙ c.in_ok-check_events.was) in
    let accepted = accepted_both a.image.now a.journal.now _ table verdict in
    rw c.new-table.ensures (rows_fit a.image.now a.journal.now _ table _ accepted _ c.of.ensures c.requires.journal_len_bound)

pub returns-clause-sheet : goal.returns-clause-sheet
returns-clause-sheet c =
    let a = c.args in
    let table = sym c.check_into.ensures.answer ∙ c.in_ok-check_into.was in
    let verdict : journal_verdict (blocks_of a.image.now) a.journal.now ≡ Ok tt = rw c.new-table.ensures at (sym c.check_events.ensures ∙ c.in_ok-check_events.was) in
    let accepted = accepted_both a.image.now a.journal.now _ table verdict in
    rw (← prints_sheet a.image.now a.journal.now _ table _ accepted _ c.of.ensures) (rw c.new-table.ensures at c.put_sheet.ensures)
