-- What a pass of a call leaves: the record, at most one event, the pieces used, and whether the call goes on again.
use Rattle.std.specs.Prelude.{ℕ, None, true, false}
use Rattle.block.specs.declared.record.Record.{Record}
use Rattle.block.specs.declared.pass.Pass.{Pass}

-- "again", with no event
abbrev pub go_on : ℕ → Record → Pass
go_on used r = record { next = r; event = None; used = used; again = true }

-- "stop", with no event
abbrev pub stop : ℕ → Record → Pass
stop used r = record { next = r; event = None; used = used; again = false }
