-- `table::Table::slot` meets its contract: the sixteen bytes of the chain's slot i.
use Rattle.std.proofs.Common.{ℕ, List, ◌∙◌, ap, get_or}
use Rattle.image.specs.Image.{slot_bytes}
use Rattle.table.specs.Chain.{chain_of}
use Rattle.table.proofs.HeldLaws.{at_index}
use Rattle.table.proofs.table.Table.slot.Goals as goal

pub bounds-self-inside-i : goal.bounds-self-inside-i
bounds-self-inside-i c = (at_index _ _ _ c.args.i c.self.invariant c.self.view_is c.requires).few

pub slot_of-requires : goal.slot_of-requires
slot_of-requires c = (at_index _ _ _ c.args.i c.self.invariant c.self.view_is c.requires).has

pub returns : goal.returns
returns c =
    let h = at_index _ _ _ c.args.i c.self.invariant c.self.view_is c.requires in
    c.slot_of.ensures ∙ (ap (λ (slot : ℕ). slot_bytes c.self.inside.image.now slot) h.slot
    ∙ ap (λ (image : List ℕ). slot_bytes image (get_or (chain_of c.args.self.now) c.args.i 0)) c.self.view_is)
