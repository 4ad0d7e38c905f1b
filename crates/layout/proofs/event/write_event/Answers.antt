-- `event::write_event` meets its contract: a line a field.
use Rattle.std.proofs.Common.{arith}
use Rattle.words.specs.Word.{bytes}
use Rattle.layout.specs.EventLayout.{encode_event}
use Rattle.layout.proofs.Fields.{none, field, byte}
use Rattle.layout.proofs.event.write_event.Goals as goal

pub returns : goal.returns
unfolding encode_event bytes
returns c =
    let v = c.args.v in
    let kind = byte v.kind _ (omega arith) (none c.args.out.now) c.put_at.ensures in
    let position = byte c.args.position _ (omega arith) kind c.put_at-2.ensures in
    let code = field 2 v.code _ position c.put_at-3.ensures in
    let job = field 8 v.job _ code c.put_at-4.ensures in
    job.shown
