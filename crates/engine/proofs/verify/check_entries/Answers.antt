-- `verify::check_entries` meets its contract: the entry that is not in form is the block's own.
use Rattle.std.proofs.Common.{◌≡◌, ◌∙◌, false, Err, ap, sym, add-one, arith, length}
use Rattle.refusal.proofs.Rows.{refused_at}
use Rattle.table.specs.Blocks.{blocks_of}
use Rattle.layout.specs.Buffer.{entry_length, part}
use Rattle.layout.specs.EntryLayout.{entry_bytes}
use Rattle.engine.specs.Verify.{form_at, frame_form}
use Rattle.engine.proofs.verify.check_entries.Goals as goal

pub returns-then-not-entry_bytes : goal.returns-then-not-entry_bytes
unfolding frame_form
returns-then-not-entry_bytes c =
    let a = c.args in
    let i = c.loop-i.i in
    let fails : entry_bytes (part entry_length i a.frame.now) ≡ false = sym (c.entry_bytes.ensures ∙ ap entry_bytes c.part_at.ensures) ∙ c.if-not-entry_bytes.true in
    let named : form_at a.frame.now i ≡ Err c.at_position.result = rw (fails, c.at_position.ensures, add-one) in
    sym (refused_at (form_at a.frame.now) i (length (blocks_of a.table.now)) c.at_position.result (omega (arith, c.len-i-end.ensures.count)) c.loop-i.invariant named)
