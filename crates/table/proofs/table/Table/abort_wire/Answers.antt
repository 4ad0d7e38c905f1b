-- `table::Table::abort_wire` meets its contract: block i is the block in the chain's slot i.
use Rattle.std.proofs.Common.{◌∙◌, ap, arith}
use Rattle.table.specs.Blocks.{Block, block_in}
use Rattle.table.proofs.HeldLaws.{at_index}
use Rattle.table.proofs.table.Table.abort_wire.Goals as goal

pub bounds-self-inside-i : goal.bounds-self-inside-i
bounds-self-inside-i c = (at_index _ _ _ c.args.i c.self.invariant c.self.view_is c.requires).few

pub wire_at-requires-clause-has_slot : goal.wire_at-requires-clause-has_slot
wire_at-requires-clause-has_slot c = (at_index _ _ _ c.args.i c.self.invariant c.self.view_is c.requires).has

pub wire_at-requires-clause-source : goal.wire_at-requires-clause-source
wire_at-requires-clause-source c =
    let h = at_index _ _ _ c.args.i c.self.invariant c.self.view_is c.requires in
    omega (arith, h.start, h.abort)

pub returns : goal.returns
unfolding block_in
returns c =
    let h = at_index _ _ _ c.args.i c.self.invariant c.self.view_is c.requires in
    c.wire_at.ensures ∙ ap (λ (b : Block). b.abort) h.block
