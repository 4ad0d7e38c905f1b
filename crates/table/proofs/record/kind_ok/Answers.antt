-- `record::kind_ok` meets its contract: the test is the definition, of the bytes read.
use mathlib.Core.Path.{◌≡◌, ap, ◌∙◌}
use native.Mathlib.Omega.{arith}
use Rattle.kind.specs.Kind.{is_kind}
use Rattle.membership.proofs.Logic.{by_test}
use Rattle.image.specs.Image.{zero_offset, kind_of}
use Rattle.table.proofs.WireLaws.{slot_pair_zero}
use Rattle.table.proofs.record.kind_ok.Goals as goal

pub returns : goal.returns
returns c =
    let s = c.args.image.now in
    let kind : c.is_kind.result ≡ is_kind (kind_of s c.args.slot) = c.is_kind.ensures ∙ ap is_kind (c.from-kind.ensures ∙ c.slot_byte.ensures) in
    rw (kind, c.read_at.ensures, c.slot_start.ensures, slot_pair_zero s c.args.slot zero_offset c.requires (omega arith))
    (by_test (is_kind (kind_of s c.args.slot)) (λ h. simp h) (λ h. simp h))
