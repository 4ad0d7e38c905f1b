-- `serve::report_call` meets its contract: the part of the report from the block's own place on, with one entry written at its front.
use Prim.Native.Nat.{◌*◌}
use Rattle.block.specs.CallResult.{outcome_of}
use Rattle.layout.specs.Buffer.{report_length}
use Rattle.layout.specs.ReportLayout.{encode_report}
use Rattle.layout.proofs.BufferLaws.{put_front}
use Rattle.layout.proofs.ReportLaws.{report_length_lem}
use Rattle.engine.proofs.serve.report_call.Goals as goal

pub returns : goal.returns
returns c =
    let g = c.args in
    let o = outcome_of g.a in
    put_front (report_length * g.i) report_length g.report.now (encode_report o) _ (report_length_lem o) c.write_report.ensures
