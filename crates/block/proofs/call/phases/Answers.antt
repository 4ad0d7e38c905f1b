-- The phases of a call: each leaves the call at its end, or begins the next.
use borrow.Author.Tests.{eqb-true, eqb-false}
use Rattle.std.proofs.Common.{rules, ◌≡◌, ◌∙◌, arith, sym}
use Rattle.block.specs.PackedEntry.{entry_of}
use Rattle.block.specs.Record.{Resetting}
use Rattle.block.specs.Dormant.{dormant}
use Rattle.block.specs.Executing.{executing}
use Rattle.block.specs.Ended.{ended}
use Rattle.block.specs.Aborting.{aborting}
use Rattle.block.specs.Resetting.{resetting}
use Rattle.block.proofs.CallPhases.{At, pass_by, Left, LastLeft, goes_at, ends_at, call_begins, first_other, phase_room, phase_left, step_other, last_left, reset_at, ends_last, last_room, last_whole}
use Rattle.block.proofs.CallPhases.{pass_ended, pass_resetting, pass_dormant, pass_executing, pass_aborting}
use Rattle.block.proofs.call.phases.Goals as goal
use Rattle.block.proofs.call.phases.Goals.{After-phase, After-phase-2, After-phase-3, After-phase-4, After-phase-5, After-phase-6, After-resetting-p}

left_shown : (c : After-phase) → Left c.args.g c.args.r 5 c.phase.result
left_shown c =
    let a = c.args in
    phase_left a.g a.r 5 (call_begins a.g a.r c.requires.is_sound c.begin-begun.ensures) c.requires.few c.is_end.result _
    (λ t p m. let q : p ≡ ended a.g.kind a.g.inputs c.begin-begun.result.next = search rules in q ∙ pass_ended a.g _ (sym c.is_end.ensures ∙ t))
    (λ f. first_other a.g a.r c.requires.is_sound c.begin-begun.ensures (sym c.is_end.ensures ∙ f)) c.phase.ensures.skipped c.phase.ensures.made

pub returns-in_err-shown : goal.returns-in_err-shown
returns-in_err-shown c = ends_at c.from_residual.result (left_shown c.before.before.before) c.in_err-shown.was (search rules)

left_reset : (c : After-phase-2) → Left c.args.g c.args.r 4 c.phase-2.result
left_reset c =
    let a = c.args in
    let on = goes_at (left_shown c.before.before.before.before.before) c.in_ok-shown.was in
    phase_left a.g a.r 4 on c.requires.few _ _
    (λ t p m. let q : p ≡ resetting (entry_of a.g.entry) c.in_ok-shown.shown.next = search rules in q ∙ pass_resetting a.g _ (eqb-true _ _ t))
    (λ f. step_other a.g a.r 4 (omega arith) (omega arith) on (eqb-false _ _ f)) c.phase-2.ensures.skipped c.phase-2.ensures.made

pub phase-requires-2-clause-room : goal.phase-requires-2-clause-room
phase-requires-2-clause-room c =
    let a = c.args in
    phase_room a.g a.r 4 (goes_at (left_shown c.before.before.before.before) c.in_ok-shown.was) c.requires.few _ _
    (λ t p m. let q : p ≡ resetting (entry_of a.g.entry) c.in_ok-shown.shown.next = search rules in q ∙ pass_resetting a.g _ (eqb-true _ _ t))

pub returns-in_err-reset : goal.returns-in_err-reset
returns-in_err-reset c = ends_at c.from_residual-in_err-reset.result (left_reset c.before.before.before) c.in_err-reset.was (search rules)

left_started : (c : After-phase-3) → Left c.args.g c.args.r 3 c.phase-3.result
left_started c =
    let a = c.args in
    let on = goes_at (left_reset c.before.before.before.before.before) c.in_ok-reset.was in
    phase_left a.g a.r 3 on c.requires.few _ _
    (λ t p m. let q : p ≡ dormant a.g.kind a.g.inputs (entry_of a.g.entry) c.in_ok-reset.reset.next = search rules in q ∙ pass_dormant a.g _ (eqb-true _ _ t))
    (λ f. step_other a.g a.r 3 (omega arith) (omega arith) on (eqb-false _ _ f)) c.phase-3.ensures.skipped c.phase-3.ensures.made

pub phase-requires-3-clause-room : goal.phase-requires-3-clause-room
phase-requires-3-clause-room c =
    let a = c.args in
    phase_room a.g a.r 3 (goes_at (left_reset c.before.before.before.before) c.in_ok-reset.was) c.requires.few _ _
    (λ t p m. let q : p ≡ dormant a.g.kind a.g.inputs (entry_of a.g.entry) c.in_ok-reset.reset.next = search rules in q ∙ pass_dormant a.g _ (eqb-true _ _ t))

pub returns-in_err-started : goal.returns-in_err-started
returns-in_err-started c = ends_at c.from_residual-in_err-started.result (left_started c.before.before.before) c.in_err-started.was (search rules)

left_worked : (c : After-phase-4) → Left c.args.g c.args.r 2 c.phase-4.result
left_worked c =
    let a = c.args in
    let on = goes_at (left_started c.before.before.before.before.before) c.in_ok-started.was in
    phase_left a.g a.r 2 on c.requires.few _ _
    (λ t p m. let q : p ≡ executing a.g.kind a.g.inputs (entry_of a.g.entry) c.in_ok-started.started.next = search rules in q ∙ pass_executing a.g _ (eqb-true _ _ t))
    (λ f. step_other a.g a.r 2 (omega arith) (omega arith) on (eqb-false _ _ f)) c.phase-4.ensures.skipped c.phase-4.ensures.made

pub phase-requires-4-clause-room : goal.phase-requires-4-clause-room
phase-requires-4-clause-room c =
    let a = c.args in
    phase_room a.g a.r 2 (goes_at (left_started c.before.before.before.before) c.in_ok-started.was) c.requires.few _ _
    (λ t p m. let q : p ≡ executing a.g.kind a.g.inputs (entry_of a.g.entry) c.in_ok-started.started.next = search rules in q ∙ pass_executing a.g _ (eqb-true _ _ t))

pub returns-in_err-worked : goal.returns-in_err-worked
returns-in_err-worked c = ends_at c.from_residual-in_err-worked.result (left_worked c.before.before.before) c.in_err-worked.was (search rules)

left_aborted : (c : After-phase-5) → Left c.args.g c.args.r 1 c.phase-5.result
left_aborted c =
    let a = c.args in
    let on = goes_at (left_worked c.before.before.before.before.before) c.in_ok-worked.was in
    phase_left a.g a.r 1 on c.requires.few _ _
    (λ t p m. let q : p ≡ aborting a.g.kind (entry_of a.g.entry) c.in_ok-worked.worked.next = search rules in q ∙ pass_aborting a.g _ (eqb-true _ _ t))
    (λ f. step_other a.g a.r 1 (omega arith) (omega arith) on (eqb-false _ _ f)) c.phase-5.ensures.skipped c.phase-5.ensures.made

pub phase-requires-5-clause-room : goal.phase-requires-5-clause-room
phase-requires-5-clause-room c =
    let a = c.args in
    phase_room a.g a.r 1 (goes_at (left_worked c.before.before.before.before) c.in_ok-worked.was) c.requires.few _ _
    (λ t p m. let q : p ≡ aborting a.g.kind (entry_of a.g.entry) c.in_ok-worked.worked.next = search rules in q ∙ pass_aborting a.g _ (eqb-true _ _ t))

pub returns-in_err-aborted : goal.returns-in_err-aborted
returns-in_err-aborted c = ends_at c.from_residual-in_err-aborted.result (left_aborted c.before.before.before) c.in_err-aborted.was (search rules)

left_last : (c : After-phase-6) → LastLeft c.args.g c.args.r c.phase-6.result
left_last c =
    let a = c.args in
    last_left a.g a.r (goes_at (left_aborted c.before.before.before.before.before) c.in_ok-aborted.was) c.is_end-2.result _ c.is_end-2.ensures
    (λ t p m. let q : p ≡ ended a.g.kind a.g.inputs c.in_ok-aborted.aborted.next = search rules in q ∙ pass_ended a.g _ (sym c.is_end-2.ensures ∙ t))
    c.phase-6.ensures.skipped c.phase-6.ensures.made

pub phase-requires-6-clause-room : goal.phase-requires-6-clause-room
phase-requires-6-clause-room c =
    let a = c.args in
    phase_room a.g a.r 0 (goes_at (left_aborted c.before.before.before.before) c.in_ok-aborted.was) c.requires.few c.is_end-2.result _
    (λ t p m. let q : p ≡ ended a.g.kind a.g.inputs c.in_ok-aborted.aborted.next = search rules in q ∙ pass_ended a.g _ (sym c.is_end-2.ensures ∙ t))

pub returns-in_err-last : goal.returns-in_err-last
returns-in_err-last c = ends_last c.from_residual-in_err-last.result (left_last c.before.before.before) c.in_err-last.was (search rules)

last_on : (c : After-resetting-p) → (c.in_ok-last.last.next.step ≡ Resetting) × At c.args.g c.args.r 1 c.in_ok-last.last
last_on c = reset_at (left_last c.before.before.before.before) c.in_ok-last.was

is_reset : (c : After-resetting-p) → c.resetting-p.result ≡ pass_by c.args.g c.in_ok-last.last.next
is_reset c = c.resetting-p.ensures ∙ pass_resetting c.args.g _ (last_on c).0

pub add-requires : goal.add-requires
add-requires c = last_room c.args.g c.args.r (last_on c).1 c.requires.few (is_reset c)

pub returns : goal.returns
returns c = last_whole c.args.g c.args.r (last_on c.before).1 (is_reset c.before) c.add.ensures
