-- `put_name` meets its contract.
use native.Mathlib.Omega.{arith}
use lib.ListN.{take}
use lib.Seq.{take_all, length-take-le}
use Rattle.text.proofs.TextLaws.{without_short, without_next, no_letters}
use Rattle.text.proofs.PageLaws.{writes_nothing, writes_then, room_after}
use Rattle.text.proofs.page.Page.put_name.Goals as goal

pub loop-b-init : goal.loop-b-init
loop-b-init c = rw (no_letters c.args.name.now) (writes_nothing c.args.self.now (omega (arith, c.requires)))

pub put_letter-requires : goal.put_letter-requires
put_letter-requires c =
    let name = c.args.name.now in
    let L = c.loop-b in
    room_after 1 L.invariant (omega (arith, c.requires, without_short (take L.b-index name), length-take-le L.b-index name L.auto.b-index-end))

pub loop-b-preserved : goal.loop-b-preserved
loop-b-preserved c =
    let L = c.loop-b in
    rw (without_next c.args.name.now L.b-index c.loop-b-test.true) (writes_then L.invariant c.put_letter.ensures)

pub returns : goal.returns
returns c = rw (take_all c.loop-b.b-index c.args.name.now c.loop-b-test.false) at c.loop-b.invariant
