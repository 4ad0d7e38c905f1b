-- `table::Table::kind` meets its contract: block i is the block in the chain's slot i.
use Rattle.std.proofs.Common.{◌∙◌, ap}
use Rattle.table.specs.Blocks.{Block, block_in}
use Rattle.table.proofs.HeldLaws.{at_index}
use Rattle.table.proofs.table.Table.kind.Goals as goal

pub bounds-self-inside-i : goal.bounds-self-inside-i
bounds-self-inside-i c = (at_index _ _ _ c.args.i c.self.invariant c.self.view_is c.requires).few

pub slot_byte-requires-clause-has_slot : goal.slot_byte-requires-clause-has_slot
slot_byte-requires-clause-has_slot c = (at_index _ _ _ c.args.i c.self.invariant c.self.view_is c.requires).has

pub returns : goal.returns
unfolding block_in
returns c =
    let h = at_index _ _ _ c.args.i c.self.invariant c.self.view_is c.requires in
    c.from.ensures ∙ c.slot_byte.ensures ∙ ap (λ (b : Block). b.kind) h.block
