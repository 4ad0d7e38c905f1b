-- `table::Table::is_unwired` meets its contract: the four bytes of the wires are zero exactly where there is none.
use Rattle.std.proofs.Common.{◌∙◌, ap, get_or, ◌&&◌}
use Rattle.image.specs.Image.{wire_slot, wire_code, start_wire_offset, abort_wire_offset}
use Rattle.table.specs.Chain.{chain_of}
use Rattle.table.specs.Blocks.{block_in, is_unwired}
use Rattle.table.proofs.HeldLaws.{at_index}
use Rattle.table.proofs.WireLaws.{none_bytes}
use Rattle.table.proofs.table.Table.is_unwired.Goals as goal

pub bounds-self-inside-i : goal.bounds-self-inside-i
bounds-self-inside-i c = (at_index _ _ _ c.args.i c.self.invariant c.self.view_is c.requires).few

pub no_wires-requires : goal.no_wires-requires
no_wires-requires c = (at_index _ _ _ c.args.i c.self.invariant c.self.view_is c.requires).has

pub returns : goal.returns
unfolding block_in
returns c =
    let h = at_index _ _ _ c.args.i c.self.invariant c.self.view_is c.requires in
    let image = c.self.inside.image.now in
    let slot = get_or c.self.inside.chain.now.slots c.args.i 0 in
    let start = none_bytes (chain_of image) (wire_slot image slot start_wire_offset) (wire_code image slot start_wire_offset) h.start_ok in
    let abort = none_bytes (chain_of image) (wire_slot image slot abort_wire_offset) (wire_code image slot abort_wire_offset) h.abort_ok in
    c.no_wires.ensures ∙ (λ j. start j && abort j) ∙ ap is_unwired h.block
