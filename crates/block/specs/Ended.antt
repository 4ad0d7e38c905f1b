-- Document 01, "One call": the rule of Done, Error and Aborted.
use Rattle.std.specs.Prelude.{ℕ, Bool, Option, None, Some, false, cond, not, ◌&&◌, ◌||◌, eqb}
use Rattle.kind.specs.Kind.{is_edge}
use Rattle.block.specs.Record.{Done, Error, Aborted, Resetting, at_step}
use Rattle.block.specs.Event.{DoneEvent, Failed, AbortedEvent, event_of}
use Rattle.block.specs.Pass.{go_on}
use Rattle.block.specs.declared.record.Flags.{Flags}
use Rattle.block.specs.declared.record.Record.{Record}
use Rattle.block.specs.declared.event.Event.{Event}
use Rattle.block.specs.declared.entry.Inputs.{Inputs}
use Rattle.block.specs.declared.pass.Pass.{Pass}

-- "Done, Error, Aborted": the end steps, which have one rule
abbrev pub is_end : ℕ → Bool
is_end n = eqb n Done || eqb n Error || eqb n Aborted

-- the flag of the step
abbrev pub own_flag : ℕ → Flags → Bool
own_flag n f = cond (eqb n Done) f.done (cond (eqb n Error) f.error f.aborted)

-- "Own flag already set, and start false or reset request 1"
abbrev pub reset_due : Inputs → Record → Bool
reset_due i r = own_flag r.step r.flags && (not i.start || r.request)

-- "clear busy, set the own flag"
abbrev pub flags_shown : ℕ → Flags → Flags
flags_shown n f =
    record { busy = false; done = f.done || eqb n Done; error = f.error || eqb n Error; aborted = f.aborted || eqb n Aborted }

-- "reset request = not start (level Done leaves it 0)"
abbrev pub request_shown : ℕ → ℕ → Bool → Bool
request_shown k n start = not (eqb n Done && not (is_edge k)) && not start

abbrev pub shown : ℕ → Inputs → Record → Record
shown k i r =
    record {
      step = r.step;
      flags = flags_shown r.step r.flags;
      request = request_shown k r.step i.start;
      job = r.job;
      code = r.code;
      limit = r.limit;
      timeout = r.timeout;
      timer = r.timer;
    }

-- "The first showing writes the finish event."
abbrev pub finish_event : Record → Option Event
finish_event r =
    cond (own_flag r.step r.flags) None
    (cond (eqb r.step Done) (Some (event_of DoneEvent r))
    (cond (eqb r.step Error) (Some (event_of Failed r))
    (Some (event_of AbortedEvent r))))

-- "to Resetting, again. Otherwise clear busy, set the own flag, reset request = not start ..., stop."
unfoldable pub ended : ℕ → Inputs → Record → Pass
ended k i r =
    cond (reset_due i r) (go_on 0 (at_step Resetting r))
    (record { next = shown k i r; event = finish_event r; used = 0; again = false })
