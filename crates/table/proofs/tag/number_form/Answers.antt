-- `tag::number_form` meets its contract: the test of bit 7, and the test of all bytes at once.
use Prim.Native.Nat.{◌≤◌}
use mathlib.Core.Path.{◌≡◌}
use native.Mathlib.Omega.{arith}
use Rattle.table.proofs.TagNumberLaws.{range_marks, characters, every_byte, later_bytes, no_form, low_number, form_test}
use Rattle.table.proofs.tag.number_form.Goals as goal

pub returns-then-x-ne0 : goal.returns-then-x-ne0
returns-then-x-ne0 c = no_form c.args.x (omega (arith, c.ranges)) c.if-x-ne0.true

-- what `range_marks` asks: no byte has bit 7
pub range_marks-letters-requires : goal.range_marks-letters-requires
range_marks-letters-requires c =
    let bounded : c.args.x ≤ 0x7F7F7F7F7F7F7F7F = low_number c.args.x (omega (arith, c.ranges)) c.if-x-ne0.false in
    (bounded, omega arith, omega arith, omega arith)

pub range_marks-digits-requires : goal.range_marks-digits-requires
range_marks-digits-requires c =
    let bounded : c.args.x ≤ 0x7F7F7F7F7F7F7F7F = low_number c.args.x (omega (arith, c.ranges)) c.if-x-ne0.false in
    (bounded, omega arith, omega arith, omega arith)

pub range_marks-underscores-requires : goal.range_marks-underscores-requires
range_marks-underscores-requires c =
    let bounded : c.args.x ≤ 0x7F7F7F7F7F7F7F7F = low_number c.args.x (omega (arith, c.ranges)) c.if-x-ne0.false in
    (bounded, omega arith, omega arith, omega arith)

pub range_marks-spaces-requires : goal.range_marks-spaces-requires
range_marks-spaces-requires c =
    let bounded : c.args.x ≤ 0x7F7F7F7F7F7F7F7F = low_number c.args.x (omega (arith, c.ranges)) c.if-x-ne0.false in
    (bounded, omega arith, omega arith, omega arith)

pub returns : goal.returns
unfolding characters range_marks
returns c =
    let n = c.args.x in
    let letters : c.range_marks-letters.result ≡ range_marks 65 90 n every_byte = c.range_marks-letters.ensures in
    let digits : c.range_marks-digits.result ≡ range_marks 48 57 n every_byte = c.range_marks-digits.ensures in
    let underscores : c.range_marks-underscores.result ≡ range_marks 95 95 n later_bytes = c.range_marks-underscores.ensures in
    let spaces : c.range_marks-spaces.result ≡ range_marks 32 32 n later_bytes = c.range_marks-spaces.ensures in
    rw (letters, digits, underscores, spaces) (form_test n (omega (arith, c.ranges)) c.if-x-ne0.false)
