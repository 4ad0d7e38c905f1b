-- `verify::check_sound` meets its contract: the record that is not sound is the block's own.
use Rattle.std.proofs.Common.{◌≡◌, ◌∙◌, false, Err, sym, add-one, arith, length}
use Rattle.refusal.proofs.Rows.{refused_at}
use Rattle.table.specs.Blocks.{blocks_of, block_at}
use Rattle.layout.specs.Buffer.{record_length, part}
use Rattle.layout.specs.RecordLayout.{sound_bytes}
use Rattle.engine.specs.Verify.{sound_at, state_sound}
use Rattle.engine.proofs.verify.check_sound.Goals as goal

pub returns-then-not-sound_bytes : goal.returns-then-not-sound_bytes
unfolding state_sound
returns-then-not-sound_bytes c =
    let a = c.args in
    let i = c.loop-i.i in
    let blocks = blocks_of a.table.now in
    let read = c.sound_bytes.ensures ∙ (λ j. sound_bytes (c.kind-kind.ensures j) (c.part_at.ensures j)) in
    let fails : sound_bytes (block_at blocks i).kind (part record_length i a.state.now) ≡ false = sym read ∙ c.if-not-sound_bytes.true in
    let named : sound_at blocks a.state.now i ≡ Err c.at_position.result = rw (fails, c.at_position.ensures, add-one) in
    sym (refused_at (sound_at blocks a.state.now) i (length blocks) c.at_position.result (omega (arith, c.len-i-end.ensures.count)) c.loop-i.invariant named)
