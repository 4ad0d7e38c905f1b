-- `serve::write_working` meets its contract: of state and report the part from the block's own place on, with the timer and one entry written there.
use Rattle.std.proofs.Common.{◌*◌, arith}
use Rattle.layout.specs.Buffer.{record_length, report_length}
use Rattle.layout.specs.RecordLayout.{record_offset, encode_timer}
use Rattle.layout.specs.ReportLayout.{working_report}
use Rattle.layout.proofs.BufferLaws.{put_front, put_lent}
use Rattle.layout.proofs.ReportLaws.{working_length}
use Rattle.engine.proofs.serve.write_working.Goals as goal

pub returns-clause-state : goal.returns-clause-state
returns-clause-state c =
    let g = c.args in
    put_lent (record_length * g.i) record_offset.last (encode_timer g.a.next.timer) g.state.now _ (omega (arith, c.requires.0)) c.write_timer.ensures

pub returns-clause-report : goal.returns-clause-report
returns-clause-report c =
    let g = c.args in
    put_front (report_length * g.i) report_length g.report.now (working_report g.a.used g.a.next.job) _ (working_length g.a.used g.a.next.job)
    c.write_working_report.ensures
