-- `verify::verify` meets its contract: what passes fits.
use Rattle.std.proofs.Common.{◌≡◌, ◌∙◌, sym, Ok, Err, OnOk}
use Rattle.refusal.specs.Refusal.{Verdict}
use Rattle.table.specs.Blocks.{blocks_of}
use Rattle.engine.proofs.ScanAccepted.{state_fits, given_fits}
use Rattle.engine.proofs.verify.verify.Goals as goal

on_pass : {P : Type 0} (v w : Verdict) → v ≡ w → (w ≡ Ok tt → P) → OnOk v P
on_pass (Ok x) w e h = h (sym e)
on_pass (Err refusal) w e h = tt

pub returns-clause-state_fits : goal.returns-clause-state_fits
returns-clause-state_fits c =
    let a = c.args in
    on_pass _ _ c.check_lent.ensures (λ e. state_fits (blocks_of a.table.now) a.state.now (sym c.check_state.ensures ∙ c.in_ok-check_state.was))

pub returns-clause-given_fits : goal.returns-clause-given_fits
returns-clause-given_fits c =
    let a = c.args in
    on_pass _ _ c.check_lent.ensures
    (λ e. given_fits (blocks_of a.table.now) a.told.now a.report.now a.journal.now (rw c.frame.ensures at (sym c.check_frame.ensures ∙ c.in_ok-check_frame.was)) e)
