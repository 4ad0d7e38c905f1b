-- Document 01, "Report and journal": the events of a block, without their position.
use Rattle.std.specs.Prelude.{ℕ, Bool, cond, List, [], ◌∷◌, Option, None, Some, eqb}
use Rattle.membership.specs.Membership.{within}
use Rattle.block.specs.declared.record.Record.{Record}
use Rattle.block.specs.declared.event.Event.{Event}

-- "kind (1 start, 2 done, 3 failed, 4 aborted, 5 withdrawn)"
abbrev pub Start : ℕ
Start = 1

abbrev pub DoneEvent : ℕ
DoneEvent = 2

abbrev pub Failed : ℕ
Failed = 3

abbrev pub AbortedEvent : ℕ
AbortedEvent = 4

abbrev pub Withdrawn : ℕ
Withdrawn = 5

-- an event of the record's job; "code (2; 0 unless failed)"
abbrev pub event_of : ℕ → Record → Event
event_of n r = record { kind = n; code = cond (eqb n Failed) r.code 0; job = r.job }

-- the events of a pass: one, or none
abbrev pub emitted : Option Event → List Event
emitted None = []
emitted (Some v) = v ∷ []

-- "Kind 1 is a start, 2 to 5 are finishes."
abbrev pub is_start : Event → Bool
is_start v = eqb v.kind Start

abbrev pub is_finish : Event → Bool
is_finish v = within DoneEvent Withdrawn v.kind
