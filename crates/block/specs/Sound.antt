-- Document 01, "Sound means": which records are sound for a kind (check 21), sentence by sentence.
use Rattle.std.specs.Prelude.{ℕ, Bool, true, false, not, ◌&&◌, ◌||◌, eqb, leb}
use Rattle.std.specs.Bool.{beq}
use Rattle.kind.specs.Kind.{is_edge, has_abort, can_abort, has_time_limit, has_time_out, is_continuous}
use Rattle.clock.specs.Clock.{most_elapsed}
use Rattle.block.specs.Record.{Dormant, Executing, Done, Error, Aborting, Aborted, Resetting, TimedOut}
use Rattle.block.specs.declared.record.Flags.{Flags}
use Rattle.block.specs.declared.record.Record.{Record}

-- just these flags are set
abbrev pub only : Bool → Bool → Bool → Bool → Flags → Bool
only busy done error aborted f =
    beq f.busy busy && beq f.done done && beq f.error error && beq f.aborted aborted

abbrev pub busy_only : Flags → Bool
busy_only f = only true false false false f

abbrev pub done_only : Flags → Bool
done_only f = only false true false false f

abbrev pub error_only : Flags → Bool
error_only f = only false false true false f

abbrev pub aborted_only : Flags → Bool
aborted_only f = only false false false true f

-- if a then b
abbrev pub implies : Bool → Bool → Bool
implies a b = not a || b

-- "all zero", but for the step
unfoldable pub zeroed : Record → Bool
zeroed r =
    only false false false false r.flags
    && not r.request
    && eqb r.job 0
    && eqb r.code 0
    && eqb r.limit 0
    && eqb r.timeout 0
    && eqb r.timer.last 0
    && eqb r.timer.elapsed 0

-- "Executing and Aborting have busy only; Done done only; Error error only; Aborted aborted only; Resetting one of done, error, aborted, or (level only) busy."
unfoldable pub flags_fit : ℕ → ℕ → Flags → Bool
flags_fit k n f =
    implies (eqb n Executing || eqb n Aborting) (busy_only f)
    && implies (eqb n Done) (done_only f)
    && implies (eqb n Error) (error_only f)
    && implies (eqb n Aborted) (aborted_only f)
    && implies (eqb n Resetting) (done_only f || error_only f || aborted_only f || (not (is_edge k) && busy_only f))

-- "Code is nonzero exactly with the error flag, and 1 only for To kinds."
unfoldable pub code_sound : ℕ → Record → Bool
code_sound k r = beq (not (eqb r.code 0)) r.flags.error && implies (eqb r.code TimedOut) (has_time_out k)

-- "Reset request is 0 with busy, and 0 with done on level kinds."
unfoldable pub request_sound : ℕ → Record → Bool
request_sound k r =
    implies r.flags.busy (not r.request) && implies (r.flags.done && not (is_edge k)) (not r.request)

-- "Done step or flag: not kinds 13, 14. Aborting: kinds 5-14. Aborted step or flag: kinds 5-8." "Step is at most 6"
unfoldable pub step_sound : ℕ → Record → Bool
step_sound k r =
    implies (eqb r.step Done || r.flags.done) (not (is_continuous k))
    && implies (eqb r.step Aborting) (can_abort k)
    && implies (eqb r.step Aborted || r.flags.aborted) (has_abort k)
    && leb r.step Resetting

-- "Elapsed is at most 4,294,967,296." "Stored time limit is 0 unless an edge TI kind, stored time-out 0 unless an edge To kind."
unfoldable pub times_sound : ℕ → Record → Bool
times_sound k r =
    leb r.timer.elapsed most_elapsed
    && (eqb r.limit 0 || (is_edge k && has_time_limit k))
    && (eqb r.timeout 0 || (is_edge k && has_time_out k))

-- a sound record; "Dormant is all zero"
unfoldable pub sound : ℕ → Record → Bool
sound k r =
    implies (eqb r.step Dormant) (zeroed r)
    && flags_fit k r.step r.flags
    && code_sound k r
    && request_sound k r
    && step_sound k r
    && times_sound k r
