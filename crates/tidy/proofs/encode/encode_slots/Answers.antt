-- `encode::encode_slots` meets its contract: one slot more is written in each turn of the loop.
use Rattle.std.proofs.Common.{arith, length}
use Rattle.table.specs.Blocks.{blocks_of}
use Rattle.tidy.proofs.EncodeLaws.{encoding_start, encoding_on, encoding_end, own_tagged}
use Rattle.tidy.proofs.encode.encode_slots.Goals as goal

pub loop-i-init : goal.loop-i-init
loop-i-init c = encoding_start _ _ _

pub loop-i-preserved : goal.loop-i-preserved
loop-i-preserved c =
    let bs = blocks_of c.args.table.now in
    encoding_on (length bs) bs c.args.out.now _ _ c.loop-i.invariant (own_tagged _ _ c.len-i-end.ensures.accepted) (omega (arith, c.len-i-end.ensures.count))
    _ _ _ (omega arith) (omega arith) c.encode_slot.ensures

pub returns : goal.returns
returns c = encoding_end _ _ _ _ _ c.loop-i.invariant (omega (arith, c.len-i-end.ensures.count)) c.requires
