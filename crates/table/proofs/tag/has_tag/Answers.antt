-- `tag::has_tag` meets its contract: eight bytes are the same where their numbers are.
use Rattle.std.proofs.Common.{◌∙◌, sym, arith}
use Rattle.words.specs.Word.{bytes}
use Rattle.words.proofs.WordLaws.{length_bytes, bytes_bytes, number_of_bytes}
use Rattle.image.specs.Image.{tag_length, tag_of}
use Rattle.table.proofs.TagLaws.{same_number, tag_length_lem, tag_bytes}
use Rattle.table.proofs.tag.has_tag.Goals as goal

pub returns : goal.returns
returns c =
    let image = c.args.image.now in
    let slot = c.args.slot in
    let wanted = c.args.wanted in
    rw c.tag_number.ensures
    (sym (rw (number_of_bytes tag_length wanted (omega arith)) at (same_number (tag_of image slot) (bytes tag_length wanted)
    (tag_length_lem image slot c.requires ∙ sym (length_bytes tag_length wanted))
    (tag_bytes image slot (λ i. (c.type_inv.image i).fits)) (bytes_bytes tag_length wanted))))
