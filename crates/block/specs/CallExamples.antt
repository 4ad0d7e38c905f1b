-- Calls beyond the lane card, over the block machine: cases that tell each reading of a sentence of document 01 from its neighbours.
-- As on the card: one block without wires, each case from fresh; start 1, reset reply complete, both clocks 0 and all else zero, unless given.
-- A row is passes, pieces used, step, flags, code, events.
use Rattle.std.specs.Prelude.{ℕ, true, false, List, [], ◌∷◌, map, ◌++◌, ◌≡◌}
use Rattle.block.specs.Record.{Dormant, Executing, Done, Error, Aborting, Aborted, Resetting, TimedOut, no_flags}
use Rattle.block.specs.Event.{Start, DoneEvent, Failed, AbortedEvent}
use Rattle.block.specs.Entry.{Entry, Working, Complete, ErrorReply}
use Rattle.block.specs.WorkedExamples.{working, complete, error, entry, with_job, start_off, with_time_out, with_limit, with_abort, off_complete}
use Rattle.block.specs.WorkedExamples.{row, busy, done, failed, aborted, event, Line, ◌shows◌, Case, case, made, expected}
use Rattle.block.specs.declared.event.Event.{Event}
use Rattle.block.specs.declared.entry.Piece.{Piece}

-- a time limit and a time-out with a call clock
abbrev pub with_times : ℕ → ℕ → ℕ → List Piece → Entry
with_times limit timeout clock ps = entry true false Working 0 limit timeout clock ps

-- the entry with another abort reply and its code, and another reset reply
abbrev pub replying : ℕ → ℕ → ℕ → Entry → Entry
replying abort_reply abort_code reset_reply e =
    record {
      inputs = e.inputs;
      count = e.count;
      abort_reply = abort_reply;
      reset_reply = reset_reply;
      abort_code = abort_code;
      job = e.job;
      limit = e.limit;
      timeout = e.timeout;
      clock = e.clock;
      pieces = e.pieces;
    }

-- the start of job 0, alone and with its finish; a first call that leaves the block Executing
abbrev pub start_alone : List Event
start_alone = event Start 0 0 ∷ []

abbrev pub start_and : Event → List Event
start_and finish = event Start 0 0 ∷ finish ∷ []

abbrev pub begins : Line
begins = with_job 0 (working 0) shows row 2 1 Executing busy 0 start_alone

-- "edge kinds take the limits that their kind has": the second entry has none
unfoldable pub taken_at_start : List Case
taken_at_start =
    case 2
    (with_limit 50 (working 0 ∷ []) shows row 2 1 Executing busy 0 start_alone
    ∷ with_limit 0 (working 50 ∷ working 51 ∷ working 52 ∷ []) shows row 1 2 Executing busy 0 []
    ∷ [])
    ∷ case 3
    (with_time_out 100 0 (working 0) shows row 2 1 Executing busy 0 start_alone
    ∷ with_time_out 0 0 (working 101) shows row 2 1 Error failed TimedOut (event Failed TimedOut 0 ∷ [])
    ∷ [])
    ∷ []

-- "level kinds read them each call"
unfoldable pub read_each_call : List Case
read_each_call =
    case 10
    (with_limit 50 (working 0 ∷ []) shows row 2 1 Executing busy 0 start_alone
    ∷ with_limit 0 (working 50 ∷ working 51 ∷ working 52 ∷ []) shows row 1 3 Executing busy 0 []
    ∷ [])
    ∷ case 11
    (with_time_out 100 0 (working 0) shows row 2 1 Executing busy 0 start_alone
    ∷ with_time_out 0 0 (working 101) shows row 1 1 Executing busy 0 []
    ∷ [])
    ∷ []

-- "Edge with abort true": kinds with an abort input; "Kinds 1-4 and 9-14 ... ignore the abort bit"
abbrev pub aborts : ℕ → Case
aborts kind = case kind (with_abort 0 (working 0) shows row 4 0 Aborted aborted 0 (start_and (event AbortedEvent 0 0)) ∷ [])

abbrev pub ignores_abort : ℕ → Case
ignores_abort kind = case kind (with_abort 0 (working 0) shows row 2 1 Executing busy 0 start_alone ∷ [])

unfoldable pub abort_inputs : List Case
abort_inputs = map aborts (5 ∷ 6 ∷ 7 ∷ 8 ∷ []) ++ map ignores_abort (1 ∷ 2 ∷ 3 ∷ 4 ∷ 9 ∷ 10 ∷ 11 ∷ 12 ∷ 13 ∷ 14 ∷ [])

-- "or level with start false: to Aborting"; an edge block works on when Execute falls
abbrev pub comes_to_aborting : ℕ → Case
comes_to_aborting kind = case kind (begins ∷ start_off (working 0) shows row 2 0 Aborting busy 0 [] ∷ [])

abbrev pub stays_executing : ℕ → Case
stays_executing kind = case kind (begins ∷ start_off (working 0) shows row 1 1 Executing busy 0 [] ∷ [])

unfoldable pub start_inputs : List Case
start_inputs =
    map comes_to_aborting (9 ∷ 10 ∷ 11 ∷ 12 ∷ 13 ∷ 14 ∷ []) ++ map stays_executing (1 ∷ 2 ∷ 3 ∷ 4 ∷ 5 ∷ 6 ∷ 7 ∷ 8 ∷ [])

-- "limit 50, working at 50, 51, 52": how many pieces a kind uses; "one at most without TI; with TI until one ... is past the time limit"
abbrev pub limited : ℕ → ℕ → Case
limited used kind =
    case kind (with_limit 50 (working 50 ∷ working 51 ∷ working 52 ∷ []) shows row 2 used Executing busy 0 start_alone ∷ [])

unfoldable pub time_limits : List Case
time_limits = map (limited 1) (1 ∷ 3 ∷ 5 ∷ 7 ∷ 9 ∷ 11 ∷ 13 ∷ []) ++ map (limited 2) (2 ∷ 4 ∷ 6 ∷ 8 ∷ 10 ∷ 12 ∷ 14 ∷ [])

-- "piece clock after call clock by more than the limit"
unfoldable pub limit_tests : List Case
limit_tests =
    -- by the call clock, not by elapsed
    case 10
    (with_limit 50 (working 0 ∷ []) shows row 2 1 Executing busy 0 start_alone
    ∷ with_times 50 0 1000 (working 1050 ∷ working 1051 ∷ working 1052 ∷ []) shows row 1 2 Executing busy 0 []
    ∷ [])
    -- over a wrap of the clock
    ∷ case 2 (with_times 50 0 4294967290 (working 44 ∷ working 45 ∷ working 46 ∷ []) shows row 2 2 Executing busy 0 start_alone ∷ [])
    -- by one difference from the call clock, no sum of the pieces' times: 2,147,483,647 is at the limit, and 4,294,967,294 out of step with the call clock
    ∷ case 2 (with_limit 2147483647 (working 2147483647 ∷ working 4294967294 ∷ working 30 ∷ []) shows row 2 3 Executing busy 0 start_alone ∷ [])
    -- also where the call clock is out of step with the last reading; counted from that one, 142 would not be past the limit
    ∷ case 2
    (with_times 50 0 100 (working 100 ∷ []) shows row 2 1 Executing busy 0 start_alone
    ∷ with_times 50 0 90 (working 140 ∷ working 141 ∷ working 142 ∷ []) shows row 1 2 Executing busy 0 []
    ∷ [])
    ∷ []

-- document 02, 1/14: "A difference of 2,147,483,648 or more shall count as 0, for the time limit and for elapsed, and the last reading then stays."
abbrev pub limit_out_of_step : ℕ → List Case
limit_out_of_step kind =
    -- pieces a little before the call clock are not past the limit, and the use goes on
    case kind (with_times 50 0 100 (working 97 ∷ working 99 ∷ working 151 ∷ working 152 ∷ []) shows row 2 3 Executing busy 0 start_alone ∷ [])
    -- the greatest difference that counts, and the least that does not
    ∷ case kind (with_limit 2147483646 (working 2147483647 ∷ working 0 ∷ []) shows row 2 1 Executing busy 0 start_alone ∷ [])
    ∷ case kind (with_limit 2147483646 (working 2147483648 ∷ working 0 ∷ []) shows row 2 2 Executing busy 0 start_alone ∷ [])
    ∷ []

abbrev pub time_out_out_of_step : ℕ → List Case
time_out_out_of_step kind =
    -- a piece three before the call clock adds nothing, nor does it move the last reading: the next call counts from 100
    case kind
    (with_time_out 100 100 (working 97) shows row 2 1 Executing busy 0 start_alone
    ∷ with_time_out 100 105 (working 200) shows row 1 1 Executing busy 0 []
    ∷ with_time_out 100 199 (working 201) shows row 2 1 Error failed TimedOut (event Failed TimedOut 0 ∷ [])
    ∷ [])
    -- the greatest difference that counts, and the least that does not
    ∷ case kind (with_time_out 2147483646 0 (working 2147483647) shows row 3 1 Error failed TimedOut (start_and (event Failed TimedOut 0)) ∷ [])
    ∷ case kind (with_time_out 2147483646 0 (working 2147483648) shows row 2 1 Executing busy 0 start_alone ∷ [])
    ∷ []

-- on an edge and on a level kind
unfoldable pub out_of_step_readings : List Case
out_of_step_readings = limit_out_of_step 2 ++ limit_out_of_step 10 ++ time_out_out_of_step 3 ++ time_out_out_of_step 11

-- what else ends the pieces
unfoldable pub end_of_pieces : List Case
end_of_pieces =
    -- "with TI until one is complete": the third is not used
    case 6 (with_limit 50 (working 1 ∷ complete 2 ∷ working 3 ∷ []) shows row 3 2 Done done 0 (start_and (event DoneEvent 0 0)) ∷ [])
    -- "or an error"
    ∷ case 10 (with_limit 50 (working 1 ∷ error 5 2 ∷ complete 3 ∷ []) shows row 3 2 Error failed 5 (start_and (event Failed 5 0)) ∷ [])
    -- "or past the time-out", on an edge and on a level kind
    ∷ case 4 (with_times 0 10 0 (working 10 ∷ working 11 ∷ complete 12 ∷ []) shows row 3 2 Error failed TimedOut (start_and (event Failed TimedOut 0)) ∷ [])
    ∷ case 12 (with_times 0 10 0 (working 10 ∷ working 11 ∷ complete 12 ∷ []) shows row 3 2 Error failed TimedOut (start_and (event Failed TimedOut 0)) ∷ [])
    -- "or none is left", of three and of four; "limit or time-out 0 is none"
    ∷ case 2 (with_limit 0 (working 50 ∷ working 51 ∷ working 52 ∷ []) shows row 2 3 Executing busy 0 start_alone ∷ [])
    ∷ case 2 (with_limit 0 (working 1 ∷ working 2 ∷ working 3 ∷ working 4 ∷ []) shows row 2 4 Executing busy 0 start_alone ∷ [])
    -- "Kinds 13, 14: complete ends the pieces of this call"
    ∷ case 14 (with_limit 50 (complete 1 ∷ complete 2 ∷ []) shows row 2 1 Executing busy 0 start_alone ∷ [])
    ∷ []

-- "To kinds, elapsed greater than the time-out, to Error with code 1"; the others work on
abbrev pub times_out : ℕ → Case
times_out kind = case kind (with_time_out 10 0 (working 11) shows row 3 1 Error failed TimedOut (start_and (event Failed TimedOut 0)) ∷ [])

abbrev pub works_on : ℕ → Case
works_on kind = case kind (with_time_out 10 0 (working 11) shows row 2 1 Executing busy 0 start_alone ∷ [])

-- "(working if no piece)": the time-out is judged by the call clock alone
abbrev pub times_out_alone : ℕ → Case
times_out_alone kind =
    case kind
    (with_times 0 100 0 [] shows row 2 0 Executing busy 0 start_alone
    ∷ with_times 0 100 101 [] shows row 2 0 Error failed TimedOut (event Failed TimedOut 0 ∷ [])
    ∷ [])

unfoldable pub time_outs : List Case
time_outs =
    map times_out (3 ∷ 4 ∷ 7 ∷ 8 ∷ 11 ∷ 12 ∷ []) ++ map works_on (1 ∷ 2 ∷ 5 ∷ 6 ∷ 9 ∷ 10 ∷ 13 ∷ 14 ∷ [])
    ++ (times_out_alone 3 ∷ times_out_alone 11 ∷ [])

-- "Elapsed ... is held at 4,294,967,296": past the greatest time-out
unfoldable pub held_elapsed : List Case
held_elapsed =
    case 4
    (with_times 0 4294967295 0 (working 2000000000 ∷ working 4000000000 ∷ working 4294967295 ∷ []) shows row 2 3 Executing busy 0 start_alone
    ∷ with_job 0 (working 0) shows row 2 1 Error failed TimedOut (event Failed TimedOut 0 ∷ [])
    ∷ [])
    ∷ []

-- "else complete to Done"; "Kinds 13, 14: ... the step stays Executing and this pass stops"
abbrev pub is_done : ℕ → Case
is_done kind = case kind (with_job 0 (complete 0) shows row 3 1 Done done 0 (start_and (event DoneEvent 0 0)) ∷ [])

abbrev pub goes_on : ℕ → Case
goes_on kind = case kind (with_job 0 (complete 0) shows row 2 1 Executing busy 0 start_alone ∷ [])

unfoldable pub completes : List Case
completes = map is_done (1 ∷ 2 ∷ 3 ∷ 4 ∷ 5 ∷ 6 ∷ 7 ∷ 8 ∷ 9 ∷ 10 ∷ 11 ∷ 12 ∷ []) ++ map goes_on (13 ∷ 14 ∷ [])

-- "error reply to Error with its code", on kinds 13 and 14 too
abbrev pub fails : ℕ → Case
fails kind = case kind (with_job 0 (error 5 0) shows row 3 1 Error failed 5 (start_and (event Failed 5 0)) ∷ [])

unfoldable pub continuous_errors : List Case
continuous_errors = fails 13 ∷ fails 14 ∷ []

-- the rule of Done, Error and Aborted
unfoldable pub ended_steps : List Case
ended_steps =
    -- "start false or reset request 1"; "level Done leaves it 0": shown until Enable falls
    case 9
    (with_job 0 (complete 0) shows row 3 1 Done done 0 (start_and (event DoneEvent 0 0))
    ∷ with_job 0 (working 0) shows row 1 0 Done done 0 []
    ∷ start_off (working 0) shows row 2 0 Dormant no_flags 0 []
    ∷ [])
    -- an Error and an Aborted shown with start 1 ask for no reset: they stay while start is 1, and go when it falls
    ∷ case 1
    (with_job 0 (error 5 0) shows row 3 1 Error failed 5 (start_and (event Failed 5 0))
    ∷ with_job 0 (working 0) shows row 1 0 Error failed 5 []
    ∷ start_off (working 0) shows row 2 0 Dormant no_flags 0 []
    ∷ [])
    ∷ case 5
    (with_abort 0 (working 0) shows row 4 0 Aborted aborted 0 (start_and (event AbortedEvent 0 0))
    ∷ with_job 0 (working 0) shows row 1 0 Aborted aborted 0 []
    ∷ start_off (working 0) shows row 2 0 Dormant no_flags 0 []
    ∷ [])
    -- the abort input is not looked at
    ∷ case 5
    (with_job 7 (complete 0) shows row 3 1 Done done 0 (event Start 0 7 ∷ event DoneEvent 0 7 ∷ [])
    ∷ with_abort 0 (working 0) shows row 1 0 Done done 0 []
    ∷ [])
    -- "reset request = not start": an Error shown with start 0 is reset by the next call, which starts again
    ∷ case 1
    (with_job 7 (working 0) shows row 2 1 Executing busy 0 (event Start 0 7 ∷ [])
    ∷ start_off (error 5 0) shows row 2 1 Error failed 5 (event Failed 5 7 ∷ [])
    ∷ with_job 9 (complete 0) shows row 5 1 Done done 0 (event Start 0 9 ∷ event DoneEvent 0 9 ∷ [])
    ∷ [])
    ∷ []

-- the rule of Aborting
unfoldable pub abort_replies : List Case
abort_replies =
    -- "Working: stop.", whatever abort reads then and however late; "Complete: edge to Aborted", which is shown with start 0 and so reset by the next call
    case 7
    (entry true true Working 0 0 100 0 (working 0 ∷ []) shows row 3 0 Aborting busy 0 start_alone
    ∷ with_times 0 0 500 (working 0 ∷ []) shows row 1 0 Aborting busy 0 []
    ∷ off_complete (working 0) shows row 2 0 Aborted aborted 0 (event AbortedEvent 0 0 ∷ [])
    ∷ with_job 9 (working 0) shows row 4 1 Executing busy 0 (event Start 0 9 ∷ [])
    ∷ [])
    -- no time-out is judged on the way there or later: an edge block's stored one, a level entry's own
    ∷ case 7
    (with_times 0 100 0 (working 50 ∷ []) shows row 2 1 Executing busy 0 start_alone
    ∷ entry true true Working 0 0 100 500 [] shows row 2 0 Aborting busy 0 []
    ∷ entry true true Working 0 0 100 600 [] shows row 1 0 Aborting busy 0 []
    ∷ [])
    ∷ case 11
    (with_times 0 100 0 (working 50 ∷ []) shows row 2 1 Executing busy 0 start_alone
    ∷ entry false false Working 0 0 10 60 [] shows row 2 0 Aborting busy 0 []
    ∷ entry false false Working 0 0 10 70 [] shows row 1 0 Aborting busy 0 []
    ∷ [])
    -- "Reply error: to Error with that code", likewise reset
    ∷ case 9
    (begins
    ∷ replying ErrorReply 513 Complete (start_off (working 0)) shows row 3 0 Error failed 513 (event Failed 513 0 ∷ [])
    ∷ with_job 9 (working 0) shows row 4 1 Executing busy 0 (event Start 0 9 ∷ [])
    ∷ [])
    ∷ []

-- the rule of Resetting: "again only if the request was 1. Working: stop."
unfoldable pub reset_replies : List Case
reset_replies =
    -- request 0: Dormant, though start is 1 by then
    case 1
    (with_job 0 (complete 0) shows row 3 1 Done done 0 (start_and (event DoneEvent 0 0))
    ∷ replying Working 0 Working (start_off (working 0)) shows row 2 0 Resetting done 0 []
    ∷ with_job 9 (complete 0) shows row 1 0 Dormant no_flags 0 []
    ∷ [])
    -- request 1: it starts again
    ∷ case 1
    (begins
    ∷ start_off (complete 0) shows row 2 1 Done done 0 (event DoneEvent 0 0 ∷ [])
    ∷ replying Working 0 Working (with_job 8 (complete 0)) shows row 2 0 Resetting done 0 []
    ∷ with_job 9 (complete 0) shows row 4 1 Done done 0 (event Start 0 9 ∷ event DoneEvent 0 9 ∷ [])
    ∷ [])
    ∷ []

unfoldable pub more_cases : List Case
more_cases =
    taken_at_start ++ read_each_call ++ abort_inputs ++ start_inputs ++ time_limits ++ limit_tests ++ out_of_step_readings ++ end_of_pieces ++ time_outs ++ held_elapsed
    ++ completes ++ continuous_errors ++ ended_steps ++ abort_replies ++ reset_replies

-- proved in proofs/CallExamples.antt
abbrev pub CallExamples : Type 0
CallExamples = map made more_cases ≡ map expected more_cases
