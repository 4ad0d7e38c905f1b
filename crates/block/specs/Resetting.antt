-- Document 01, "One call": the rule of Resetting.
use Rattle.std.specs.Prelude.{None, cond, eqb}
use Rattle.block.specs.Record.{fresh_record}
use Rattle.block.specs.Entry.{Entry, Complete}
use Rattle.block.specs.Pass.{stop}
use Rattle.block.specs.declared.record.Record.{Record}
use Rattle.block.specs.declared.pass.Pass.{Pass}

-- "Complete: record all zero, and again only if the request was 1. Working: stop."
unfoldable pub resetting : Entry → Record → Pass
resetting e r =
    cond (eqb e.reset_reply Complete)
    (record { next = fresh_record; event = None; used = 0; again = r.request })
    (stop 0 r)
