-- Document 01, "State record": the steps, the fresh record, and the record at another step.
use Rattle.std.specs.Prelude.{ℕ, Bool, false, cond}
use Rattle.block.specs.declared.record.Flags.{Flags}
use Rattle.block.specs.declared.record.Record.{Record}

-- "step (0 Dormant, 1 Executing, 2 Done, 3 Error, 4 Aborting, 5 Aborted, 6 Resetting)"
abbrev pub Dormant : ℕ
Dormant = 0

abbrev pub Executing : ℕ
Executing = 1

abbrev pub Done : ℕ
Done = 2

abbrev pub Error : ℕ
Error = 3

abbrev pub Aborting : ℕ
Aborting = 4

abbrev pub Aborted : ℕ
Aborted = 5

abbrev pub Resetting : ℕ
Resetting = 6

-- a flag as a number, 0 or 1
abbrev pub bit : Bool → ℕ
bit b = cond b 1 0

-- no flag
abbrev pub no_flags : Flags
no_flags = record { busy = false; done = false; error = false; aborted = false }

-- "Fresh is all zero."
abbrev pub fresh_record : Record
fresh_record =
    record { step = 0; flags = no_flags; request = false; job = 0; code = 0; limit = 0; timeout = 0; timer = record { last = 0; elapsed = 0 } }

-- "to Executing", "to Done" and so on
abbrev pub at_step : ℕ → Record → Record
at_step n r =
    record { step = n; flags = r.flags; request = r.request; job = r.job; code = r.code; limit = r.limit; timeout = r.timeout; timer = r.timer }

-- "to Error with code 1": the code of a time-out
abbrev pub TimedOut : ℕ
TimedOut = 1

-- "to Error with its code"
abbrev pub failed_with : ℕ → Record → Record
failed_with c r =
    record { step = Error; flags = r.flags; request = r.request; job = r.job; code = c; limit = r.limit; timeout = r.timeout; timer = r.timer }
