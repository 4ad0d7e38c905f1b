-- `encode::encode_fields` meets its contract: what the slot has of block i, its wires renumbered.
use Rattle.std.proofs.Common.{rules, ◌∙◌, refl, add-one, arith}
use Rattle.tidy.proofs.KeptLaws.{held_sources, held_fields}
use Rattle.tidy.proofs.encode.encode_fields.Goals as goal

pub position_of-start_position-requires : goal.position_of-start_position-requires
position_of-start_position-requires c =
    (held_sources _ _ c.len.ensures.accepted c.args.i (omega (arith, c.requires, c.len.ensures.count)) _ c.slot-slot.ensures).0

pub position_of-abort_position-requires : goal.position_of-abort_position-requires
position_of-abort_position-requires c =
    (held_sources _ _ c.len.ensures.accepted c.args.i (omega (arith, c.requires, c.len.ensures.count)) _ c.slot-slot.ensures).1

pub returns : goal.returns
returns c =
    held_fields _ _ c.len.ensures.accepted c.args.i (omega (arith, c.requires, c.len.ensures.count)) _ c.slot-slot.ensures
    (λ j. search rules) _ _ _ _ (c.encode_next-next.ensures ∙ rw (c.len.ensures.count, add-one) refl)
    c.position_of-start_position.ensures c.position_of-abort_position.ensures
