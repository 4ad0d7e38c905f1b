-- The last reading and elapsed that calls leave in the record, over the block machine: what neither step nor report shows of the rule for time.
-- As on the card: one block without wires, each case from fresh; start 1, reset reply complete, both clocks 0 and all else zero, unless given.
use Rattle.std.specs.Prelude.{ℕ, true, false, List, [], ◌∷◌, map, ◌++◌, ◌≡◌}
use Rattle.clock.specs.Clock.{most_elapsed}
use Rattle.clock.specs.declared.Timer.{Timer}
use Rattle.block.specs.Record.{fresh_record}
use Rattle.block.specs.Entry.{Entry, Working}
use Rattle.block.specs.Call.{call_of}
use Rattle.block.specs.WorkedExamples.{working, complete, error, entry, start_off}
use Rattle.block.specs.CallExamples.{with_times}
use Rattle.block.specs.declared.record.Record.{Record}
use Rattle.block.specs.declared.entry.Piece.{Piece}

-- a call, and the last reading and elapsed that it is to leave
infix 70 ◌leaves◌
pub record TimedCall : Type 0 where
  pub entry : Entry
  pub timer : Timer

abbrev pub ◌leaves◌ : Entry → Timer → TimedCall
e leaves t = record { entry = e; timer = t }

abbrev pub timer : ℕ → ℕ → Timer
timer last elapsed = record { last = last; elapsed = elapsed }

-- a kind and its calls, in order
pub record TimedCase : Type 0 where
  pub kind : ℕ
  pub calls : List TimedCall

abbrev pub timed : ℕ → List TimedCall → TimedCase
timed kind calls = record { kind = kind; calls = calls }

unfoldable pub timers_from : ℕ → List TimedCall → Record → List Timer
timers_from k [] r = []
timers_from k (x ∷ xs) r =
    (call_of k x.entry.inputs x.entry r).next.timer ∷ timers_from k xs (call_of k x.entry.inputs x.entry r).next

abbrev pub timers_made : TimedCase → List Timer
timers_made c = timers_from c.kind c.calls fresh_record

abbrev pub timers_due : TimedCase → List Timer
timers_due c = map (λ (x : TimedCall). x.timer) c.calls

-- a call at a clock, with these pieces
abbrev pub called_at : ℕ → List Piece → Entry
called_at clock ps = with_times 0 0 clock ps

-- "Last reading = call clock, elapsed 0"; "add the time to the call clock", also from call to call and without a piece, on every kind
abbrev pub keeps_time : ℕ → TimedCase
keeps_time kind = timed kind (called_at 10 (working 110 ∷ []) leaves timer 110 100 ∷ called_at 200 [] leaves timer 200 190 ∷ [])

unfoldable pub every_kind : List TimedCase
every_kind = map keeps_time (1 ∷ 2 ∷ 3 ∷ 4 ∷ 5 ∷ 6 ∷ 7 ∷ 8 ∷ 9 ∷ 10 ∷ 11 ∷ 12 ∷ 13 ∷ 14 ∷ [])

unfoldable pub time_rules : List TimedCase
time_rules =
    -- "adding each piece's time": of those used
    timed 2 (with_times 50 0 0 (working 40 ∷ working 51 ∷ working 52 ∷ []) leaves timer 51 51 ∷ [])
    ∷ timed 1 (called_at 0 (working 40 ∷ working 51 ∷ []) leaves timer 40 40 ∷ [])
    -- over a wrap of the clock
    ∷ timed 1 (called_at 4294967290 (working 4 ∷ []) leaves timer 4 10 ∷ [])
    -- "held at 4,294,967,296; each reading added becomes the last reading", also then
    ∷ timed 2
    (called_at 0 (working 2000000000 ∷ working 4000000000 ∷ working 1000 ∷ working 1001 ∷ []) leaves timer 1001 most_elapsed
    ∷ called_at 1002 [] leaves timer 1002 most_elapsed
    ∷ [])
    -- "to Aborting, again, no piece used, no clock test": no reading is added on the way there, nor in Aborting, on an edge and on a level kind
    ∷ timed 5
    (called_at 0 (working 10 ∷ []) leaves timer 10 10
    ∷ entry true true Working 0 0 0 500 (error 5 600 ∷ []) leaves timer 10 10
    ∷ called_at 700 (working 800 ∷ []) leaves timer 10 10
    ∷ [])
    ∷ timed 9
    (called_at 0 (working 10 ∷ []) leaves timer 10 10
    ∷ entry false false Working 0 0 0 500 (error 5 600 ∷ []) leaves timer 10 10
    ∷ called_at 700 (working 800 ∷ []) leaves timer 10 10
    ∷ [])
    -- nothing is cleared at the finish; the reset clears all
    ∷ timed 1 (called_at 5 (complete 15 ∷ []) leaves timer 15 10 ∷ called_at 90 (working 95 ∷ []) leaves timer 15 10 ∷ start_off (working 99) leaves timer 0 0 ∷ [])
    ∷ []

-- document 02, 1/14: "A difference of 2,147,483,648 or more shall count as 0 ... and the last reading then stays."
abbrev pub out_of_step_times : ℕ → List TimedCase
out_of_step_times kind =
    -- a piece ten before the call clock, and over a wrap four before it
    timed kind (called_at 100 (working 90 ∷ []) leaves timer 100 0 ∷ called_at 105 [] leaves timer 105 5 ∷ [])
    ∷ timed kind (called_at 3 (working 4294967295 ∷ []) leaves timer 3 0 ∷ [])
    -- the greatest difference that counts, and the least that does not
    ∷ timed kind (called_at 0 (working 2147483647 ∷ []) leaves timer 2147483647 2147483647 ∷ [])
    ∷ timed kind (called_at 0 (working 2147483648 ∷ []) leaves timer 0 0 ∷ [])
    -- "A gap of that length between calls is now taken as none", and so are the readings after it, until one is in step with the last reading that stayed
    ∷ timed kind
    (called_at 0 [] leaves timer 0 0
    ∷ called_at 2147483648 [] leaves timer 0 0
    ∷ called_at 2147483848 [] leaves timer 0 0
    ∷ called_at 50 [] leaves timer 50 50
    ∷ called_at 101 [] leaves timer 101 101
    ∷ [])
    -- a start sets the last reading, also to a clock out of step with the 0 of a Dormant record, and with the job before
    ∷ timed kind
    (called_at 1000 (error 5 1010 ∷ []) leaves timer 1010 10
    ∷ start_off (working 0) leaves timer 0 0
    ∷ called_at 3000000000 (working 3000000001 ∷ []) leaves timer 3000000001 1
    ∷ [])
    ∷ []

-- all of them, out of step on an edge and on a level kind
unfoldable pub timed_cases : List TimedCase
timed_cases = every_kind ++ time_rules ++ out_of_step_times 1 ++ out_of_step_times 13

-- theorem time_examples, proofs/TimeExamples.antt
abbrev pub TimeExamples : Type 0
TimeExamples = map timers_made timed_cases ≡ map timers_due timed_cases
