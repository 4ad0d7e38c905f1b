-- Document 01, "One call": the rule of Aborting.
use Rattle.std.specs.Prelude.{ℕ, Some, true, cond, eqb}
use Rattle.kind.specs.Kind.{is_edge}
use Rattle.block.specs.Record.{Aborted, Resetting, at_step, failed_with}
use Rattle.block.specs.Event.{Withdrawn, event_of}
use Rattle.block.specs.Entry.{Entry, Complete, ErrorReply}
use Rattle.block.specs.Pass.{go_on, stop}
use Rattle.block.specs.declared.record.Record.{Record}
use Rattle.block.specs.declared.pass.Pass.{Pass}

-- "Reply error: to Error with that code, again. Complete: edge to Aborted, level to Resetting with a withdrawn event, again. Working: stop."
unfoldable pub aborting : ℕ → Entry → Record → Pass
aborting k e r =
    cond (eqb e.abort_reply ErrorReply) (go_on 0 (failed_with e.abort_code r))
    (cond (eqb e.abort_reply Complete)
    (cond (is_edge k) (go_on 0 (at_step Aborted r))
    (record { next = at_step Resetting r; event = Some (event_of Withdrawn r); used = 0; again = true }))
    (stop 0 r))
