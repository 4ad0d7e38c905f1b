-- `totals::put_input` meets its contract: 75, or what is printed of the table and the journal in the input.
use mathlib.Core.Path.{refl}
use Rattle.sheet.proofs.TotalsLaws.{prints_75, prints_checked, prints_refused}
use Rattle.sheet.proofs.totals.put_input.Goals as goal

pub returns-then-too_long-clause-refused : goal.returns-then-too_long-clause-refused
returns-then-too_long-clause-refused c = rw c.header.ensures (prints_75 c.args.input.now c.if-too_long.true)

pub returns-clause-sheet : goal.returns-clause-sheet
returns-clause-sheet c =
    let n = c.table_length-at in
    rw (prints_checked c.args.input.now n.result _ _ c.if-too_long.false n.ensures refl refl) at c.put_checked.ensures.sheet

pub returns-clause-refused : goal.returns-clause-refused
returns-clause-refused c =
    let n = c.table_length-at in
    prints_refused _ _ _ c.put_checked.result (prints_checked c.args.input.now n.result _ _ c.if-too_long.false n.ensures refl refl) c.put_checked.ensures.refused
