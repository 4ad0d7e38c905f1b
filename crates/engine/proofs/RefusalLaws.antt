-- The bounds of checks 20 to 41: a number of 1 to 41, a place of at most the number of blocks. For the packing of answers.
use Prim.Native.Nat.{ℕ, suc, ◌*◌, ◌≤◌}
use native.Mathlib.Omega.{arith}
use mathlib.Core.List.{List}
use lib.Dec.{eqb, leb}
use lib.ListN.{length}
use Rattle.std.specs.Prelude.{Ok}
use Rattle.std.specs.Result.{result_and}
use Rattle.refusal.proofs.Rows.{row_has}
use Rattle.table.specs.Blocks.{Block, block_at}
use Rattle.refusal.specs.declared.Place.TheVariants.{Header, Position}
use Rattle.refusal.specs.declared.Check.TheVariants.{StateLength, Unsound, FrameLength, EntryForm, ReportLength, JournalLength}
use Rattle.table.proofs.AnswerLaws.{Bounded, bounded_require, bounded_then}
use Rattle.layout.specs.Buffer.{record_length, entry_length, report_length, event_length, part}
use Rattle.layout.specs.RecordLayout.{sound_bytes}
use Rattle.layout.specs.EntryLayout.{entry_bytes}
use Rattle.engine.specs.Told.{Told}
use Rattle.engine.specs.Verify.{state_length, sound_at, state_sound, state_check, form_at, frame_form, frame_check, journal_length, lent_check, verify_of}

module _ (blocks : List Block) (most : ℕ) (all : 41 ≤ most) where
  abbrev n : ℕ
  n = length blocks

  -- checks 20 and 21
  pub state_bounded : (state : List ℕ) → Bounded most n (state_check blocks state)
  unfolding state_sound
  state_bounded state =
      bounded_require most n (eqb (length state) (record_length * n)) StateLength Header (state_sound blocks state) (omega arith) (omega arith) (omega arith)
      (row_has (Bounded most n) (sound_at blocks state) n tt
      (λ i l. bounded_require most n (sound_bytes (block_at blocks i).kind (part record_length i state)) Unsound (Position (suc i)) (Ok tt) (omega arith) (omega arith) (omega arith) tt))

  -- checks 30 and 31
  pub frame_bounded : (frame : List ℕ) → Bounded most n (frame_check blocks frame)
  unfolding frame_form
  frame_bounded frame =
      bounded_require most n (eqb (length frame) (entry_length * n)) FrameLength Header (frame_form blocks frame) (omega arith) (omega arith) (omega arith)
      (row_has (Bounded most n) (form_at frame) n tt
      (λ i l. bounded_require most n (entry_bytes (part entry_length i frame)) EntryForm (Position (suc i)) (Ok tt) (omega arith) (omega arith) (omega arith) tt))

  -- checks 40 and 41
  pub lent_bounded : (report journal : List ℕ) → Bounded most n (lent_check blocks report journal)
  lent_bounded report journal =
      bounded_require most n (eqb (length report) (report_length * n)) ReportLength Header (journal_length blocks journal (Ok tt)) (omega arith) (omega arith) (omega arith)
      (bounded_require most n (leb (2 * event_length * n) (length journal)) JournalLength Header (Ok tt) (omega arith) (omega arith) (omega arith) tt)

-- all of them
pub verify_bounded : (blocks : List Block) (state : List ℕ) (told : Told) (report journal : List ℕ) → Bounded 41 (length blocks) (verify_of blocks state told report journal)
unfolding verify_of
verify_bounded blocks state told report journal =
    let n = length blocks in
    let rest = lent_check blocks report journal in
    bounded_then 41 n (state_check blocks state) (result_and (frame_check blocks told.frame) rest) (state_bounded blocks 41 (omega arith) state)
    (bounded_then 41 n (frame_check blocks told.frame) rest (frame_bounded blocks 41 (omega arith) told.frame) (lent_bounded blocks 41 (omega arith) report journal))

-- check 20, which fresh makes
pub length_bounded : (blocks : List Block) (state : List ℕ) → Bounded 41 (length blocks) (state_length blocks state (Ok tt))
length_bounded blocks state =
    bounded_require 41 (length blocks) (eqb (length state) (record_length * length blocks)) StateLength Header (Ok tt) (omega arith) (omega arith) (omega arith) tt
