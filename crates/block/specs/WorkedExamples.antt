-- Document 01, "Lane card": its cases C1 to C12, each with all its calls, as one table over the block machine.
-- "One block without wires, each case from fresh; start 1, reset reply complete, one piece a call, both clocks 0 and all else zero, unless given."
use Rattle.std.specs.Prelude.{ℕ, Bool, true, false, List, [], ◌∷◌, ◌++◌, map, ◌≡◌, length, take, replicate}
use Rattle.block.specs.Record.{Dormant, Executing, Done, Error, Aborted, TimedOut, no_flags, fresh_record}
use Rattle.block.specs.Event.{Start, DoneEvent, Failed, AbortedEvent, Withdrawn}
use Rattle.block.specs.Entry.{Entry, Working, Complete, ErrorReply, most_pieces}
use Rattle.block.specs.Call.{Outcome, call_of}
use Rattle.block.specs.declared.record.Flags.{Flags}
use Rattle.block.specs.declared.record.Record.{Record}
use Rattle.block.specs.declared.event.Event.{Event}
use Rattle.block.specs.declared.entry.Piece.{Piece}

-- a piece, by its clock
abbrev pub working : ℕ → Piece
working clock = record { reply = Working; code = 0; clock = clock }

abbrev pub complete : ℕ → Piece
complete clock = record { reply = Complete; code = 0; clock = clock }

abbrev pub error : ℕ → ℕ → Piece
error code clock = record { reply = ErrorReply; code = code; clock = clock }

-- an entry with these pieces; those past their number are zero
abbrev pub entry : Bool → Bool → ℕ → ℕ → ℕ → ℕ → ℕ → List Piece → Entry
entry start abort abort_reply job limit timeout clock pieces =
    record {
      inputs = record { start = start; abort = abort };
      count = length pieces;
      abort_reply = abort_reply;
      reset_reply = Complete;
      abort_code = 0;
      job = job;
      limit = limit;
      timeout = timeout;
      clock = clock;
      pieces = take most_pieces (pieces ++ replicate most_pieces (working 0));
    }

-- start 1 with a job; start 0; with a time-out and a call clock; with a time limit
abbrev pub with_job : ℕ → Piece → Entry
with_job job p = entry true false Working job 0 0 0 (p ∷ [])

abbrev pub start_off : Piece → Entry
start_off p = entry false false Working 0 0 0 0 (p ∷ [])

abbrev pub with_time_out : ℕ → ℕ → Piece → Entry
with_time_out timeout clock p = entry true false Working 0 0 timeout clock (p ∷ [])

abbrev pub with_limit : ℕ → List Piece → Entry
with_limit limit ps = entry true false Working 0 limit 0 0 ps

-- abort and abort reply complete
abbrev pub with_abort : ℕ → Piece → Entry
with_abort job p = entry true true Complete job 0 0 0 (p ∷ [])

-- start 0 and abort reply complete
abbrev pub off_complete : Piece → Entry
off_complete p = entry false false Complete 0 0 0 0 (p ∷ [])

-- what a call shows: its passes and pieces used, the step, flags and code that it leaves, and its events
pub record Row : Type 0 where
  pub passes : ℕ
  pub used : ℕ
  pub step : ℕ
  pub flags : Flags
  pub code : ℕ
  pub events : List Event

abbrev pub row : ℕ → ℕ → ℕ → Flags → ℕ → List Event → Row
row passes used step flags code events = record { passes = passes; used = used; step = step; flags = flags; code = code; events = events }

abbrev pub busy : Flags
busy = record { busy = true; done = false; error = false; aborted = false }

abbrev pub done : Flags
done = record { busy = false; done = true; error = false; aborted = false }

abbrev pub failed : Flags
failed = record { busy = false; done = false; error = true; aborted = false }

abbrev pub aborted : Flags
aborted = record { busy = false; done = false; error = false; aborted = true }

-- an event, by its kind, code and job
abbrev pub event : ℕ → ℕ → ℕ → Event
event kind code job = record { kind = kind; code = code; job = job }

-- a call and what it is to show
infix 70 ◌shows◌
pub record Line : Type 0 where
  pub entry : Entry
  pub row : Row

abbrev pub ◌shows◌ : Entry → Row → Line
e shows w = record { entry = e; row = w }

-- a kind and its calls, in order
pub record Case : Type 0 where
  pub kind : ℕ
  pub lines : List Line

abbrev pub case : ℕ → List Line → Case
case kind lines = record { kind = kind; lines = lines }

-- what the machine shows: the inputs are the entry's own bits
abbrev pub row_of : Outcome → Row
row_of o = row o.passes o.used o.next.step o.next.flags o.next.code o.events

unfoldable pub rows_from : ℕ → List Line → Record → List Row
rows_from k [] r = []
rows_from k (x ∷ xs) r = row_of (call_of k x.entry.inputs x.entry r) ∷ rows_from k xs (call_of k x.entry.inputs x.entry r).next

abbrev pub made : Case → List Row
made c = rows_from c.kind c.lines fresh_record

abbrev pub expected : Case → List Row
expected c = map (λ (x : Line). x.row) c.lines

-- row: passes, pieces used, step, flags, code, events
unfoldable pub table : List Case
table =
    -- "C1 kind 1, start 0: 1 pass."
    case 1 (start_off (working 0) shows row 1 0 Dormant no_flags 0 [] ∷ [])
    -- "C2 kind 1, job 7, complete: 3 passes, done, events start and done."
    ∷ case 1 (with_job 7 (complete 0) shows row 3 1 Done done 0 (event Start 0 7 ∷ event DoneEvent 0 7 ∷ []) ∷ [])
    -- "C3 then start 1: 1 pass, done."
    ∷ case 1
    (with_job 7 (complete 0) shows row 3 1 Done done 0 (event Start 0 7 ∷ event DoneEvent 0 7 ∷ [])
    ∷ with_job 0 (working 0) shows row 1 0 Done done 0 []
    ∷ [])
    -- "C4 or start 0: 2 passes, Dormant."
    ∷ case 1
    (with_job 7 (complete 0) shows row 3 1 Done done 0 (event Start 0 7 ∷ event DoneEvent 0 7 ∷ [])
    ∷ start_off (working 0) shows row 2 0 Dormant no_flags 0 []
    ∷ [])
    -- "C5 kind 1, job 7 working; start 0, complete: 2 passes; start 1, job 9, complete: 5 passes, done still set, start 9, done 9."
    ∷ case 1
    (with_job 7 (working 0) shows row 2 1 Executing busy 0 (event Start 0 7 ∷ [])
    ∷ start_off (complete 0) shows row 2 1 Done done 0 (event DoneEvent 0 7 ∷ [])
    ∷ with_job 9 (complete 0) shows row 5 1 Done done 0 (event Start 0 9 ∷ event DoneEvent 0 9 ∷ [])
    ∷ [])
    -- "C6 kind 5 alike, last call with abort and abort reply complete: 6 passes, aborted 9."
    ∷ case 5
    (with_job 7 (working 0) shows row 2 1 Executing busy 0 (event Start 0 7 ∷ [])
    ∷ start_off (complete 0) shows row 2 1 Done done 0 (event DoneEvent 0 7 ∷ [])
    ∷ with_abort 9 (complete 0) shows row 6 0 Aborted aborted 0 (event Start 0 9 ∷ event AbortedEvent 0 9 ∷ [])
    ∷ [])
    -- "C7 kind 3, time-out 100, clock 0, working at 100: busy; at 101: code 1."
    ∷ case 3 (with_time_out 100 0 (working 100) shows row 2 1 Executing busy 0 (event Start 0 0 ∷ []) ∷ [])
    ∷ case 3 (with_time_out 100 0 (working 101) shows row 3 1 Error failed TimedOut (event Start 0 0 ∷ event Failed TimedOut 0 ∷ []) ∷ [])
    -- "C8 as C7 but complete at 101: code 1."
    ∷ case 3 (with_time_out 100 0 (complete 101) shows row 3 1 Error failed TimedOut (event Start 0 0 ∷ event Failed TimedOut 0 ∷ []) ∷ [])
    -- "C9 as C7 but error 5 at 101: code 5."
    ∷ case 3 (with_time_out 100 0 (error 5 101) shows row 3 1 Error failed 5 (event Start 0 0 ∷ event Failed 5 0 ∷ []) ∷ [])
    -- "C10 kind 2, limit 50, working at 50, 51, 52: two pieces used."
    ∷ case 2 (with_limit 50 (working 50 ∷ working 51 ∷ working 52 ∷ []) shows row 2 2 Executing busy 0 (event Start 0 0 ∷ []) ∷ [])
    -- "C11 kind 3, time-out 10, clock 4,294,967,290: reading 4 busy, 5 code 1."
    ∷ case 3 (with_time_out 10 4294967290 (working 4) shows row 2 1 Executing busy 0 (event Start 0 0 ∷ []) ∷ [])
    ∷ case 3 (with_time_out 10 4294967290 (working 5) shows row 3 1 Error failed TimedOut (event Start 0 0 ∷ event Failed TimedOut 0 ∷ []) ∷ [])
    -- "C12 kind 9 working, then start 0, abort complete: 3 passes, withdrawn."
    ∷ case 9
    (with_job 0 (working 0) shows row 2 1 Executing busy 0 (event Start 0 0 ∷ [])
    ∷ off_complete (working 0) shows row 3 0 Dormant no_flags 0 (event Withdrawn 0 0 ∷ [])
    ∷ [])
    ∷ []

-- proved in proofs/WorkedExamples.antt
abbrev pub WorkedExamples : Type 0
WorkedExamples = map made table ≡ map expected table
