-- `record::is_among` meets its contract: the flag follows `tag_among` from block to block.
use Rattle.std.proofs.Common.{◌<◌, ◌∙◌, sym, length, get_or, arith}
use Rattle.table.specs.Chain.{chain_of}
use Rattle.table.proofs.ChainLaws.{slot_is, slot_has}
use Rattle.table.proofs.RecordLaws.{among_none, among_hit, among_miss}
use Rattle.table.proofs.record.is_among.Goals as goal
use Rattle.table.proofs.record.is_among.Goals.{then-tag_number-tag, else-tag_number-tag}

pub loop-i-init : goal.loop-i-init
loop-i-init c = among_none _ _

pub tag_number-requires : goal.tag_number-requires
tag_number-requires c = slot_has c.args.image.now _ c.requires.header_ok c.requires.holds c.loop-i.i (omega arith)

pub loop-i-preserved : goal.loop-i-preserved
loop-i-preserved c =
    let image = c.args.image.now in
    let hd = c.requires.header_ok in
    let at = get_or c.args.chain.now.slots c.loop-i.i 0 in
    let in_count : c.loop-i.i < c.args.chain.now.count = omega arith in
    let m : c.loop-i.i < length (chain_of image) = omega (arith, c.requires.holds.counted) in
    let its_slot = slot_is image _ hd c.requires.holds c.loop-i.i in_count in
    let has = slot_has image _ hd c.requires.holds c.loop-i.i in_count in
    elim c.if-tag_number-tag.branch [
      | then-tag_number-tag w ↦ w.found-is ∙ among_hit image hd (λ i. (c.type_inv.image i).fits) c.args.slot at c.loop-i.i c.requires.has_slot m its_slot has
          (sym c.tag_number.ensures ∙ (w.if-tag_number-tag.true ∙ c.tag_number-tag.ensures))
      | else-tag_number-tag w ↦ w.found-is ∙ (c.loop-i.invariant
          ∙ among_miss image hd (λ i. (c.type_inv.image i).fits) c.args.slot at c.loop-i.i c.requires.has_slot m its_slot has
          (λ e. w.if-tag_number-tag.false (c.tag_number.ensures ∙ (e ∙ sym c.tag_number-tag.ensures))))
    ]
