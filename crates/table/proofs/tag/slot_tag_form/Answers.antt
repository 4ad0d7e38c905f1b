-- `tag::slot_tag_form` meets its contract: the slot's tag by its number.
use Rattle.table.proofs.TagLaws.{tag_length_lem, tag_bytes}
use Rattle.table.proofs.TagNumberLaws.{form_number}
use Rattle.image.specs.Image.{tag_of}
use Rattle.table.proofs.tag.slot_tag_form.Goals as goal

pub returns : goal.returns
returns c =
    let image = c.args.image.now in
    let slot = c.args.slot in
    form_number (tag_of image slot) (tag_length_lem image slot c.requires) (tag_bytes image slot (λ i. (c.type_inv.image i).fits))
    c.number_form.result c.tag_number.result c.number_form.ensures c.tag_number.ensures
