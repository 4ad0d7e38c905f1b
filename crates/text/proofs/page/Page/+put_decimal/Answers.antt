-- `put_decimal` meets its contract: one digit, or the digits of a tenth and one more.
use mathlib.Core.Path.{ap}
use native.Mathlib.Omega.{arith}
use lib.ListN.{length}
use Rattle.text.proofs.TextLaws.{decimal_one, decimal_more, decimal_length}
use Rattle.text.proofs.PageLaws.{writes_then, room_after}
use Rattle.text.proofs.page.Page.+put_decimal.Goals as goal

pub put_byte-requires : goal.put_byte-requires
put_byte-requires t c = omega (arith, c.requires, ap length (decimal_one c.args.n c.if-n-lt10.true))

pub returns-then-n-lt10 : goal.returns-then-n-lt10
returns-then-n-lt10 t c = rw (decimal_one c.args.n c.if-n-lt10.true) c.put_byte.ensures

pub put_decimal-requires : goal.put_decimal-requires
put_decimal-requires t c =
    let n = decimal_length c.args.n c.if-n-lt10.false in
    (omega (arith, c.decreases), omega (arith, c.requires))

pub put_byte-requires-2 : goal.put_byte-requires-2
put_byte-requires-2 t c = room_after 1 c.put_decimal.ensures (omega (arith, c.requires, decimal_length c.args.n c.if-n-lt10.false))

pub returns : goal.returns
returns t c = rw (decimal_more c.args.n c.if-n-lt10.false) (writes_then c.put_decimal.ensures c.put_byte-2.ensures)
