-- `idle::serve_idle` meets its contract: what is written is the report entry of a fresh record after one pass.
use Rattle.std.proofs.Common.{List, ℕ, ◌++◌, ap, sym, ◌∙◌, drop}
use Rattle.block.specs.Call.{Outcome}
use Rattle.layout.specs.Buffer.{report_length}
use Rattle.layout.specs.ReportLayout.{encode_report}
use Rattle.engine.specs.Idle.{reported_from}
use Rattle.engine.proofs.IdleLaws.{idle_step}
use Rattle.engine.proofs.idle.serve_idle.Goals as goal

pub returns-clause-step : goal.returns-clause-step
returns-clause-step c =
    let a = c.args in
    let left = c.write_report.ensures ∙ ap (λ (o : Outcome). encode_report o ++ drop report_length a.lent.now) c.idle.ensures in
    λ i b frame buffers e l callable idles.
    idle_step a.state.now a.lent.now i b frame buffers e l callable idles ∙ ap (λ (r : List ℕ). reported_from i r buffers) (sym left)
