-- `line::put_figure` meets its contract: a space, and the number after it, which has at most ten digits.
use native.Mathlib.Omega.{arith}
use Rattle.text.proofs.TextLaws.{decimal_short}
use Rattle.text.proofs.PageLaws.{writes_then, room_after}
use Rattle.sheet.proofs.LineLaws.{figure_short}
use Rattle.sheet.proofs.line.put_figure.Goals as goal

pub put_decimal-requires : goal.put_decimal-requires
put_decimal-requires c = room_after _ c.put_byte.ensures (omega (arith, c.requires, decimal_short c.args.n (omega arith)))

pub returns-clause-text : goal.returns-clause-text
returns-clause-text c = writes_then c.put_byte.ensures c.put_decimal.ensures

pub returns-clause-few : goal.returns-clause-few
returns-clause-few c =
    let text = writes_then c.put_byte.ensures c.put_decimal.ensures in
    omega (arith, text.wrote.ends, figure_short c.args.n (omega arith))
