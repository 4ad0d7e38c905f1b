-- Document 01, "One call": the rule of Dormant.
use Rattle.std.specs.Prelude.{ℕ, Some, true, cond, ◌&&◌}
use Rattle.kind.specs.Kind.{is_edge, has_time_limit, has_time_out}
use Rattle.clock.specs.Clock.{start}
use Rattle.block.specs.Record.{Executing}
use Rattle.block.specs.Event.{Start, event_of}
use Rattle.block.specs.Pass.{stop}
use Rattle.block.specs.declared.record.Record.{Record}
use Rattle.block.specs.declared.entry.Inputs.{Inputs}
use Rattle.block.specs.Entry.{Entry}
use Rattle.block.specs.declared.pass.Pass.{Pass}

-- "edge kinds take the limits that their kind has, level kinds read them each call"
abbrev pub limit_taken : ℕ → Entry → ℕ
limit_taken k e = cond (is_edge k && has_time_limit k) e.limit 0

abbrev pub time_out_taken : ℕ → Entry → ℕ
time_out_taken k e = cond (is_edge k && has_time_out k) e.timeout 0

-- "take the job"; "Last reading = call clock, elapsed 0, busy set"; "to Executing"
abbrev pub started : ℕ → Entry → Record → Record
started k e r =
    record {
      step = Executing;
      flags = record { busy = true; done = r.flags.done; error = r.flags.error; aborted = r.flags.aborted };
      request = r.request;
      job = e.job;
      code = r.code;
      limit = limit_taken k e;
      timeout = time_out_taken k e;
      timer = start e.clock;
    }

-- "Start false: stop. Else take the job; ... start event; to Executing, again."
unfoldable pub dormant : ℕ → Inputs → Entry → Record → Pass
dormant k i e r =
    cond i.start
    (record { next = started k e r; event = Some (event_of Start (started k e r)); used = 0; again = true })
    (stop 0 r)
