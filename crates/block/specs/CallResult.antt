-- The code's account of a call, as the outcome that it stands for.
use Rattle.std.specs.Prelude.{◌+◌, cond, Result, Ok, Err, List, [], ◌∷◌, Option, None, Some}
use Rattle.block.specs.Event.{emitted}
use Rattle.block.specs.Call.{Outcome}
use Rattle.block.specs.declared.record.Record.{Record}
use Rattle.block.specs.declared.event.Event.{Event}
use Rattle.block.specs.declared.pass.Pass.{Pass}
use Rattle.block.specs.declared.call.CallResult.{CallResult}
use Rattle.block.specs.declared.call.Stopped.{Stopped}

-- its events: a first, and then perhaps a second
abbrev pub events_of : Option Event → Option Event → List Event
events_of None second = []
events_of (Some v) second = v ∷ emitted second

abbrev pub outcome_of : CallResult → Outcome
outcome_of a = record { next = a.next; events = events_of a.first a.second; used = a.used; passes = a.passes }

-- before the first pass
abbrev pub no_pass : Record → CallResult
no_pass r = record { next = r; first = None; second = None; used = 0; passes = 0 }

-- the event of a pass, if any, is the first, or else the second
unfoldable pub first_after : Option Event → Option Event → Option Event
first_after None event = event
first_after (Some v) event = Some v

unfoldable pub second_after : Option Event → Option Event → Option Event → Option Event
second_after first second None = second
second_after None second (Some w) = None
second_after (Some v) second (Some w) = Some w

-- one pass more
abbrev pub with_pass : CallResult → Pass → CallResult
with_pass a p =
    record { next = p.next; first = first_after a.first p.event; second = second_after a.first a.second p.event; used = a.used + p.used; passes = a.passes + 1 }

-- a pass that is made, in a call that it stops or not
abbrev pub after_pass : CallResult → Pass → Result CallResult Stopped
after_pass a p = cond p.again (Ok (with_pass a p)) (Err (record { call = with_pass a p }))

-- what a call leaves, stopped or not
abbrev pub left_by : Result CallResult Stopped → CallResult
left_by (Ok a) = a
left_by (Err s) = s.call
