-- `tag::tag_form` meets its contract: eight bytes by their number.
use mathlib.Core.Path.{◌≡◌, ap, ◌∙◌}
use native.Mathlib.Omega.{arith}
use lib.ListN.{length}
use lib.Seq.{take_all}
use Rattle.words.specs.Word.{number}
use Rattle.image.specs.Image.{tag_length}
use Rattle.table.proofs.TagLaws.{form_short}
use Rattle.table.proofs.TagNumberLaws.{form_number}
use Rattle.table.proofs.tag.tag_form.Goals as goal

pub returns-then-tag-ne-TAG_LENGTH : goal.returns-then-tag-ne-TAG_LENGTH
returns-then-tag-ne-TAG_LENGTH c = form_short _ c.if-tag-ne-TAG_LENGTH.true

pub returns : goal.returns
returns c =
    let tag = c.args.tag.now in
    let eight : length tag ≡ tag_length = c.if-tag-ne-TAG_LENGTH.false in
    form_number tag eight (λ i. (c.type_inv.tag i).fits) c.number_form.result c.read_at.result c.number_form.ensures
    (c.read_at.ensures ∙ ap number (take_all tag_length tag (omega (arith, eight))))
