-- `report::Report::write` meets its contract: a line a field.
use Rattle.std.proofs.Common.{arith}
use Rattle.words.specs.Word.{bytes}
use Rattle.layout.proofs.Fields.{none, field, byte, padded}
use Rattle.layout.proofs.report.Report.write.Goals as goal

pub returns : goal.returns
unfolding bytes
returns c =
    let r = c.args.self in
    let flags = byte r.flags _ (omega arith) (none c.args.out.now) c.put_at.ensures in
    let used = byte r.used _ (omega arith) flags c.put_at-2.ensures in
    let passes = byte r.passes _ (omega arith) used c.put_at-3.ensures in
    let step = byte r.step _ (omega arith) passes c.put_at-4.ensures in
    let code = padded r.code _ (omega arith) step c.put_at-5.ensures in
    let job = field 8 r.job _ code c.put_at-6.ensures in
    job.shown
