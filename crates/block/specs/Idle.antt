-- Document 02, 4/14: which blocks are idle, and what a call of one leaves.
use Rattle.std.specs.Prelude.{ℕ, Bool, true, not, ◌&&◌, ◌≡◌, eqb}
use Rattle.block.specs.Record.{Dormant}
use Rattle.block.specs.Rules.{pass}
use Rattle.block.specs.Call.{unchanged, call_of}
use Rattle.block.specs.declared.record.Record.{Record}
use Rattle.block.specs.declared.entry.Inputs.{Inputs}
use Rattle.block.specs.Entry.{Entry}

-- "Dormant with start false": by the start of its call, its wire resolved, and the step of its record
abbrev pub idle : Bool → ℕ → Bool
idle start step = eqb step Dormant && not start

-- the idle blocks are the Dormant ones whose pass stops, no more and no fewer: proved as idle_stops in proofs/IdleLaws.antt
abbrev pub IdleIsStopped : Type 0
IdleIsStopped = (k : ℕ) (i : Inputs) (e : Entry) (r : Record) → idle i.start r.step ≡ eqb r.step Dormant && not (pass k i e r).again

-- the call of an idle block keeps the record, in one pass, with no event and no piece used: proved as idle_call there
abbrev pub IdleCallIsUnchanged : Type 0
IdleCallIsUnchanged = (k : ℕ) (i : Inputs) (e : Entry) (r : Record) → idle i.start r.step ≡ true → call_of k i e r ≡ unchanged r
