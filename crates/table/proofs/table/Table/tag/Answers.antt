-- `table::Table::tag` meets its contract: block i is the block in the chain's slot i.
use Rattle.std.proofs.Common.{◌∙◌, ap}
use Rattle.table.specs.Blocks.{Block, block_in}
use Rattle.table.proofs.HeldLaws.{at_index}
use Rattle.table.proofs.table.Table.tag.Goals as goal

pub bounds-self-inside-i : goal.bounds-self-inside-i
bounds-self-inside-i c = (at_index _ _ _ c.args.i c.self.invariant c.self.view_is c.requires).few

pub tag_of-requires : goal.tag_of-requires
tag_of-requires c = (at_index _ _ _ c.args.i c.self.invariant c.self.view_is c.requires).has

pub returns : goal.returns
unfolding block_in
returns c =
    let h = at_index _ _ _ c.args.i c.self.invariant c.self.view_is c.requires in
    c.tag_of.ensures ∙ ap (λ (b : Block). b.tag) h.block
