-- `record::write_timer` meets its contract: one field put right after the other.
use Rattle.std.proofs.Common.{arith}
use Rattle.words.specs.Word.{bytes}
use Rattle.words.proofs.WordLaws.{length_bytes}
use Rattle.layout.specs.RecordLayout.{record_offset}
use Rattle.layout.proofs.BufferLaws.{put_both}
use Rattle.layout.proofs.record.write_timer.Goals as goal

pub returns : goal.returns
returns c =
    let t = c.args.timer in
    put_both record_offset.last 4 (bytes 4 t.last) (bytes 8 t.elapsed) c.args.out.now _ _ (length_bytes 4 t.last)
    (omega (arith, c.requires, length_bytes 8 t.elapsed)) c.put_at.ensures c.put_at-2.ensures
