-- Document 01, "One call": the rule of Executing.
use Rattle.std.specs.Prelude.{ℕ, ◌+◌, Bool, cond, not, ◌&&◌, ◌||◌, List, [], ◌∷◌, eqb, take}
use Rattle.kind.specs.Kind.{is_edge, has_abort, has_time_limit, has_time_out, is_continuous}
use Rattle.clock.specs.Clock.{tick, past_limit, past_time_out}
use Rattle.block.specs.Record.{Done, Aborting, TimedOut, at_step, failed_with}
use Rattle.block.specs.Entry.{Entry, Working, Complete, ErrorReply}
use Rattle.block.specs.Pass.{go_on, stop}
use Rattle.block.specs.declared.record.Record.{Record}
use Rattle.block.specs.declared.entry.Inputs.{Inputs}
use Rattle.block.specs.declared.entry.Piece.{Piece}
use Rattle.block.specs.declared.executing.Work.{Work}
use Rattle.block.specs.declared.executing.Bounds.{Bounds}
use Rattle.block.specs.declared.pass.Pass.{Pass}

-- "Edge with abort true, or level with start false"; "Kinds 1-4 and 9-14 ... ignore the abort bit."
abbrev pub called_off : ℕ → Inputs → Bool
called_off k i = cond (is_edge k) (has_abort k && i.abort) (not i.start)

-- the time limit in force, 0 for none: taken at the start on edge kinds, read each call on level kinds
abbrev pub limit_of : ℕ → Entry → Record → ℕ
limit_of k e r = cond (has_time_limit k) (cond (is_edge k) r.limit e.limit) 0

-- "The time-out in force is the stored one on edge To kinds, that of the block's own entry ... on level To kinds, none elsewhere"
abbrev pub time_out_of : ℕ → Entry → Record → ℕ
time_out_of k e r = cond (has_time_out k) (cond (is_edge k) r.timeout e.timeout) 0

-- "add the time to the call clock"; "(working if no piece)"
abbrev pub at_call : Entry → Record → Work
at_call e r = record { timer = tick r.timer e.clock; reply = Working; code = 0; used = 0 }

-- "use pieces in order, adding each piece's time"
abbrev pub use_piece : Work → Piece → Work
use_piece w p = record { timer = tick w.timer p.clock; reply = p.reply; code = p.code; used = w.used + 1 }

-- "one at most without TI; with TI until one is complete or an error, or is past the time limit ... or past the time-out"
abbrev pub ends_pieces : Bool → Bounds → Work → Piece → Bool
ends_pieces several b w p =
    not several || not (eqb w.reply Working) || past_limit b.limit b.call p.clock || past_time_out b.timeout w.timer

-- "or none is left"
unfoldable pub use_pieces : Bool → Bounds → Work → List Piece → Work
use_pieces several b w [] = w
use_pieces several b w (p ∷ ps) =
    cond (ends_pieces several b (use_piece w p) p) (use_piece w p) (use_pieces several b (use_piece w p) ps)

abbrev pub bounds_of : ℕ → Entry → Record → Bounds
bounds_of k e r = record { limit = limit_of k e r; timeout = time_out_of k e r; call = e.clock }

-- the work of a call: the first n pieces of the entry are there to be used
abbrev pub worked : ℕ → Entry → Record → Work
worked k e r = use_pieces (has_time_limit k) (bounds_of k e r) (at_call e r) (take e.count e.pieces)

-- the record with the time of the work
abbrev pub timed : Work → Record → Record
timed w r =
    record { step = r.step; flags = r.flags; request = r.request; job = r.job; code = r.code; limit = r.limit; timeout = r.timeout; timer = w.timer }

-- "error reply to Error with its code; else, To kinds, elapsed greater than the time-out, to Error with code 1; else complete to Done; all again. Else stop.
-- Kinds 13, 14: complete ... this pass stops."
unfoldable pub judge : Bool → ℕ → Work → Record → Pass
judge continuous timeout w r =
    cond (eqb w.reply ErrorReply) (go_on w.used (failed_with w.code (timed w r)))
    (cond (past_time_out timeout w.timer) (go_on w.used (failed_with TimedOut (timed w r)))
    (cond (eqb w.reply Complete && not continuous) (go_on w.used (at_step Done (timed w r)))
    (stop w.used (timed w r))))

-- "to Aborting, again, no piece used, no clock test. Else ... Judge the last reading and reply"
unfoldable pub executing : ℕ → Inputs → Entry → Record → Pass
executing k i e r =
    cond (called_off k i) (go_on 0 (at_step Aborting r))
    (judge (is_continuous k) (time_out_of k e r) (worked k e r) r)
