-- `record::write_record` meets its contract: a line a field.
use Rattle.std.proofs.Common.{arith}
use Rattle.words.specs.Word.{bytes}
use Rattle.layout.specs.RecordLayout.{encode_record}
use Rattle.layout.proofs.Fields.{none, field, byte}
use Rattle.layout.proofs.record.write_record.Goals as goal

pub returns : goal.returns
unfolding encode_record bytes
returns c =
    let r = c.args.r in
    let step = byte r.step _ (omega arith) (none c.args.out.now) c.put_at.ensures in
    let flags = byte c.flags_byte.result _ (omega arith) step c.put_at-2.ensures in
    let request = byte c.bit.result _ (omega arith) flags c.put_at-3.ensures in
    let unnamed = byte 0 _ (omega arith) request c.put_at-4.ensures in
    let quad = field 4 0 _ unnamed c.put_at-5.ensures in
    let code = field 2 r.code _ quad c.put_at-6.ensures in
    let pair = field 2 0 _ code c.put_at-7.ensures in
    let limit = field 4 r.limit _ pair c.put_at-8.ensures in
    let timeout = field 4 r.timeout _ limit c.put_at-9.ensures in
    let last = field 4 r.timer.last _ timeout c.put_at-10.ensures in
    let elapsed = field 8 r.timer.elapsed _ last c.put_at-11.ensures in
    let job = field 8 r.job _ elapsed c.put_at-12.ensures in
    rw (← c.flags_byte.ensures.value, ← c.bit.ensures) job.shown
