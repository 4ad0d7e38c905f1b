-- `table::Table::position` meets its contract: `Searching` goes from block to block.
use Rattle.std.proofs.Common.{◌∙◌, sym}
use Rattle.table.proofs.TagLaws.{tag_back}
use Rattle.table.proofs.HeldLaws.{held}
use Rattle.table.proofs.SearchLaws.{searching_found, searching_on, searching_end}
use Rattle.table.proofs.table.Table.position.Goals as goal

pub has_tag-found-requires : goal.has_tag-found-requires
has_tag-found-requires c = (held _ _ c.self.invariant c.loop-i.i c.loop-i-test.true).has

pub returns-then-found : goal.returns-then-found
returns-then-found c =
    let wanted_is = tag_back c.args.tag.now _ c.requires (λ i. (c.type_inv.tag i).fits) c.read_at-wanted.ensures in
    let h = held _ _ c.self.invariant c.loop-i.i c.loop-i-test.true in
    rw (← c.self.view_is) (searching_found c.self.inside.image.now c.args.tag.now _ c.loop-i.i c.self.invariant.answer c.loop-i.invariant c.loop-i-test.true
    (rw (h.slot, wanted_is) at (sym c.has_tag-found.ensures ∙ c.if-found.true)))

pub loop-i-preserved : goal.loop-i-preserved
loop-i-preserved c =
    let wanted_is = tag_back c.args.tag.now _ c.requires (λ i. (c.type_inv.tag i).fits) c.read_at-wanted.ensures in
    let h = held _ _ c.self.invariant c.loop-i.i c.loop-i-test.true in
    searching_on c.self.inside.image.now c.args.tag.now _ c.loop-i.i c.self.invariant.answer c.loop-i.invariant c.loop-i-test.true
    (rw (h.slot, wanted_is) at (sym c.has_tag-found.ensures ∙ c.if-found.false))

pub returns : goal.returns
returns c =
    rw (← c.self.view_is) (searching_end c.self.inside.image.now c.args.tag.now _ c.loop-i.i c.self.invariant.answer c.loop-i.invariant c.loop-i-test.false)
