-- Every number that a call leaves fits its bytes, if those that it is given do, for any kind, inputs and number of passes: for the scan,
-- which writes a call's record and events and reads them back.
use Rattle.std.proofs.Common.{ℕ, zero, suc, ◌^◌, ◌<◌, Bool, List, ◌++◌, take, arith, lit<}
use Rattle.kind.specs.Kind.{has_time_limit}
use Rattle.clock.specs.Clock.{tick}
use Rattle.clock.specs.declared.Timer.{Timer}
use Rattle.clock.proofs.ClockLaws.{tick_held, tick_last}
use Rattle.layout.proofs.Fits.{All, nil, cons, RecordFits, PieceFits, EntryFits, EventFits}
use Rattle.block.specs.Record.{fresh_record}
use Rattle.block.specs.Event.{emitted, event_of}
use Rattle.block.specs.Dormant.{dormant}
use Rattle.block.specs.Executing.{executing, judge, use_piece, use_pieces, bounds_of, at_call, worked}
use Rattle.block.specs.Ended.{ended, finish_event}
use Rattle.block.specs.Aborting.{aborting}
use Rattle.block.specs.Resetting.{resetting}
use Rattle.block.specs.Rules.{rule, pass}
use Rattle.block.specs.Call.{Outcome, call_within, call_of}
use Rattle.block.specs.declared.record.Record.{Record}
use Rattle.block.specs.declared.entry.Inputs.{Inputs}
use Rattle.block.specs.declared.entry.Piece.{Piece}
use Rattle.block.specs.Entry.{Entry}
use Rattle.block.specs.declared.executing.Work.{Work}
use Rattle.block.specs.declared.executing.Bounds.{Bounds}
use Rattle.block.specs.declared.pass.Pass.{Pass}

-- std's All-append and All-take are of its All, by places; these are of the All of layout's Fits, whose proofs are taken apart by cases
pub all_append : {A : Type 0} {P : A → Type 0} {l m : List A} → All P l → All P m → All P (l ++ m)
all_append nil y = y
all_append (cons h x) y = cons h (all_append x y)

pub all_take : {A : Type 0} {P : A → Type 0} {l : List A} (n : ℕ) → All P l → All P (take n l)
all_take zero x = nil
all_take (suc n) nil = nil
all_take (suc n) (cons h x) = cons h (all_take n x)

pub record OutcomeFits (o : Outcome) : Type 0 where
  pub next : RecordFits o.next
  pub events : All EventFits o.events

record TimerFits (t : Timer) : Type 0 where
  last : t.last < 256 ^ 4
  elapsed : t.elapsed < 256 ^ 8

record WorkFits (w : Work) : Type 0 where
  timer : TimerFits w.timer
  code : w.code < 256 ^ 2

record PassFits (p : Pass) : Type 0 where
  next : RecordFits p.next
  event : All EventFits (emitted p.event)

event_fits : (r : Record) → RecordFits r → (n : ℕ) → EventFits (event_of n r)
event_fits r h n = grind arith

tick_fits : (t : Timer) (reading : ℕ) → t.last < 256 ^ 4 → reading < 256 ^ 4 → TimerFits (tick t reading)
tick_fits t reading l h = grind (arith, tick_held, tick_last (λ n. n < 256 ^ 4) t reading l h)

pub fresh_fits : RecordFits fresh_record
fresh_fits = grind arith

module _ (k : ℕ) (i : Inputs) (e : Entry) (fe : EntryFits e) where
  piece_fits : (w : Work) (p : Piece) → WorkFits w → PieceFits p → WorkFits (use_piece w p)
  piece_fits w p g h = grind (arith, tick_fits)

  pieces_fit : (several : Bool) (b : Bounds) (w : Work) {ps : List Piece} → WorkFits w → All PieceFits ps → WorkFits (use_pieces several b w ps)
  unfolding use_pieces
  pieces_fit several b w h nil = h
  pieces_fit several b w h (cons {x = p} g x) = grind (arith, piece_fits w p h g, pieces_fit several b (use_piece w p) (piece_fits w p h g) x)

  worked_fits : (r : Record) → RecordFits r → WorkFits (worked k e r)
  worked_fits r h =
      pieces_fit (has_time_limit k) (bounds_of k e r) (at_call e r)
      (record { timer = tick_fits r.timer e.clock h.last fe.clock; code = lit< tt })
      (all_take e.count fe.pieces)

  dormant_fits : (r : Record) → RecordFits r → PassFits (dormant k i e r)
  unfolding dormant
  dormant_fits r h = grind (arith, event_fits, nil, cons)

  judge_fits : (continuous : Bool) (timeout : ℕ) (w : Work) (r : Record) → WorkFits w → RecordFits r → PassFits (judge continuous timeout w r)
  unfolding judge
  judge_fits continuous timeout w r g h = grind (arith, nil)

  executing_fits : (r : Record) → RecordFits r → PassFits (executing k i e r)
  unfolding executing
  executing_fits r h = grind (arith, judge_fits, worked_fits, nil)

  finish_fits : (r : Record) → RecordFits r → All EventFits (emitted (finish_event r))
  finish_fits r h = grind (arith, event_fits, nil, cons)

  ended_fits : (r : Record) → RecordFits r → PassFits (ended k i r)
  unfolding ended
  ended_fits r h = grind (arith, finish_fits, nil)

  aborting_fits : (r : Record) → RecordFits r → PassFits (aborting k e r)
  unfolding aborting
  aborting_fits r h = grind (arith, event_fits, nil, cons)

  resetting_fits : (r : Record) → RecordFits r → PassFits (resetting e r)
  unfolding resetting
  resetting_fits r h = grind (arith, nil)

  pass_fits : (r : Record) → RecordFits r → PassFits (pass k i e r)
  unfolding rule
  pass_fits r h = grind (arith, dormant_fits, executing_fits, ended_fits, aborting_fits, resetting_fits, nil)

  within_fits : (n : ℕ) (r : Record) → RecordFits r → OutcomeFits (call_within n k i e r)
  unfolding call_within
  within_fits zero r h = grind (arith, pass_fits)
  within_fits (suc n) r h = grind (arith, pass_fits, within_fits n, all_append)

  pub call_fits : (r : Record) → RecordFits r → OutcomeFits (call_of k i e r)
  unfolding call_of
  call_fits r h = within_fits 5 r h
