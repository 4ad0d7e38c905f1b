-- `lent::Lent::serve` meets its contract: an idle block leaves all but its report entry as it was; any other is called, and what the call leaves is written,
-- of a block that goes on working the timer alone.
use Prim.Native.Nat.{◌*◌}
use mathlib.Core.Bool.{true, ◌&&◌}
use mathlib.Core.Path.{◌≡◌, refl, sym, ◌∙◌}
use lib.Dec.{eqb}
use borrow.Author.Tests.{eqb-true}
use Rattle.membership.proofs.Logic.{and_left, and_right}
use Rattle.table.specs.Blocks.{blocks_of, config_at}
use Rattle.block.specs.Record.{Executing}
use Rattle.layout.specs.Buffer.{report_length}
use Rattle.layout.proofs.BufferLaws.{lent_part, lent_back}
use Rattle.engine.specs.Serve.{served}
use Rattle.engine.specs.Idle.{idle_in, reported_from}
use Rattle.engine.specs.Lent.{buffers_of}
use Rattle.engine.proofs.ServeLaws.{called_by, served_is}
use Rattle.engine.proofs.WorkingLaws.{working_served}
use Rattle.engine.proofs.lent.Lent.serve.Goals as goal

pub returns-then-idle_at-clause-served : goal.returns-then-idle_at-clause-served
returns-then-idle_at-clause-served c =
    let g = c.args in
    let at = report_length * g.i in
    let b = config_at (blocks_of g.table.now) g.i in
    let frame = g.told.now.frame in
    let x = buffers_of g.self.now in
    let idles : idle_in b g.i frame x.state ≡ true = rw (← c.frame-frame.ensures) (sym c.idle_at.ensures ∙ c.if-idle_at.true) in
    let served : served b g.i frame x ≡ reported_from g.i c.serve_idle.new.lent x =
    c.serve_idle.ensures.step g.i b frame x refl (sym (lent_part at x.report)) c.requires.callable idles in
    (λ j. record { state = x.state; report = lent_back at x.report c.serve_idle.new.lent j; journal = x.journal; events = x.events }) ∙ sym served

pub returns-then-a-clause-served : goal.returns-then-a-clause-served
returns-then-a-clause-served c =
    let g = c.args in
    let a = c.call_at-a.result in
    let x = buffers_of g.self.now in
    let test : eqb a.passes 1 && eqb a.next.step Executing ≡ true = c.if-a.true in
    let one : a.passes ≡ 1 = eqb-true a.passes 1 (and_left (eqb a.passes 1) (eqb a.next.step Executing) test) in
    let works : a.next.step ≡ Executing = eqb-true a.next.step Executing (and_right (eqb a.passes 1) (eqb a.next.step Executing) test) in
    let called = called_by _ g.i x.state c.call_at-a.ensures c.frame-frame.ensures in
    working_served (config_at (blocks_of g.table.now) g.i) g.i g.told.now.frame x a called
    c.requires.callable c.write_working.ensures.bytes one works _ _ c.write_working.ensures.state c.write_working.ensures.report

pub returns-clause-served : goal.returns-clause-served
returns-clause-served c =
    let g = c.args in
    let x = buffers_of g.self.now in
    let called = called_by _ g.i x.state c.call_at-a.ensures c.frame-frame.ensures in
    served_is (config_at (blocks_of g.table.now) g.i) g.i g.told.now.frame x _ c.call_at-a.result called c.write_call.ensures.written
