-- `entry::write_piece` meets its contract: a line a field.
use Rattle.std.proofs.Common.{arith}
use Rattle.words.specs.Word.{bytes}
use Rattle.layout.proofs.Fields.{none, field, byte}
use Rattle.layout.proofs.entry.write_piece.Goals as goal

pub returns : goal.returns
unfolding bytes
returns c =
    let p = c.args.p in
    let reply = byte p.reply _ (omega arith) (none c.args.out.now) c.put_at.ensures in
    let unnamed = byte 0 _ (omega arith) reply c.put_at-2.ensures in
    let code = field 2 p.code _ unnamed c.put_at-3.ensures in
    let clock = field 4 p.clock _ code c.put_at-4.ensures in
    clock.shown
