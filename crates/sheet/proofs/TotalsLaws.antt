-- What an accepted journal gives to the sheet, and what is printed of an input: for the proofs of `totals` and of the theorem about the figures.
use Prim.Native.Nat.{ℕ, suc, ◌+◌, ◌-◌, ◌≤◌, ◌<◌}
use native.Mathlib.Omega.{arith}
use mathlib.Core.List.{List}
use mathlib.Core.Path.{◌≡◌, refl, ap, sym, ◌∙◌}
use lib.ListN.{length, take, drop, length-drop}
use lib.Seq.{take_all}
use borrow.Author.Tests.{lt-ltb, le-ltb}
use Rattle.image.specs.Image.{most_slots}
use Rattle.table.specs.Check.{check_of}
use Rattle.table.specs.Blocks.{Block, blocks_of}
use Rattle.std.specs.Prelude.{Result, Ok, Err, IfErr}
use Rattle.refusal.specs.Refusal.{check_number}
use Rattle.refusal.specs.declared.Refusal.{Refusal}
use Rattle.table.proofs.AcceptedLaws.{accepted_blocks, accepted_few}
use Rattle.layout.specs.EventLayout.{decode_events, events_at}
use Rattle.layout.specs.declared.event.Posted.{Posted}
use Rattle.layout.proofs.EventLaws.{decoded_length}
use Rattle.block.specs.Event.{Start, DoneEvent, Failed, AbortedEvent, Withdrawn}
use Rattle.block.specs.Turns.{count_of}
use Rattle.block.proofs.CountLaws.{open_count, open_most, finishes, turns_counts}
use Rattle.journal.specs.Allowed.{Allowed}
use Rattle.journal.specs.Check.{event_count, journal_verdict, check_journal_of}
use Rattle.journal.proofs.AnswerLaws.{accepted_length, accepted_allowed}
use Rattle.figures.specs.Figures.{figures_by, figures_at}
use Rattle.figures.specs.Tally.{Counts, Tallied, figures_in, RowsFit}
use Rattle.sheet.specs.Line.{refused_line}
use Rattle.sheet.specs.Sheet.{sheet_of}
use Rattle.sheet.specs.Totals.{table_length, table_in, journal_in, printed, most_input, totals_of}
use Rattle.figures.proofs.TallyLaws.{count_few}
use Rattle.sheet.proofs.SheetLaws.{same_sheet}

-- the finishes of a block are its starts but for the open job
pub allowed_balance : (blocks : List Block) (events : List Posted) → Allowed blocks events → (k : ℕ) → k < length blocks
    → (remain : ℕ) × (remain ≤ 1) × (count_of Start (events_at (suc k) events) ≡ finishes (events_at (suc k) events) + remain)
unfolding open_count
allowed_balance blocks events allowed k l =
    let t = allowed.turns k l in
    let e = turns_counts t.1 in
    (open_count t.0, open_most t.0, omega (arith, e))

-- a table and a journal that pass one after the other
pub accepted_both : (image journal : List ℕ) (n : ℕ) → check_of image ≡ Ok n → journal_verdict (blocks_of image) journal ≡ Ok tt
    → check_journal_of image journal ≡ Ok (event_count journal)
unfolding check_journal_of
accepted_both image journal n table verdict = rw (table, verdict) refl

-- the counts of an accepted journal
module _ (image journal : List ℕ) (n : ℕ) (table : check_of image ≡ Ok n) (m : ℕ) (accepted : check_journal_of image journal ≡ Ok m) (counts : Counts)
    (tallied : Tallied (decode_events m journal) counts) where
  abbrev events : List Posted
  events = decode_events m journal

  pub rows_fit : length journal ≤ most_input → RowsFit counts (length (blocks_of image))
  unfolding finishes
  rows_fit short k l =
      let few : suc k ≤ most_slots = omega (arith, accepted_few image n table, accepted_blocks image n table) in
      let balance = allowed_balance (blocks_of image) events (accepted_allowed image journal n table m accepted) k l in
      let count : (kind : ℕ) → kind ≤ Withdrawn → counts (suc k) kind ≡ count_of kind (events_at (suc k) events) = λ kind h. tallied.each (suc k) kind few h in
      let starts = count Start (omega arith) in
      let done = count DoneEvent (omega arith) in
      let failed = count Failed (omega arith) in
      let aborted = count AbortedEvent (omega arith) in
      let withdrawn = count Withdrawn (omega arith) in (
        omega (arith, balance.2),
        omega (arith, count_few Start (suc k) events, decoded_length m journal, accepted_length image journal n table m accepted),
      )

  figures_are : (k : ℕ) → k < length (blocks_of image) → figures_in counts (suc k) ≡ figures_at events (suc k)
  unfolding figures_by
  figures_are k l =
      let few : suc k ≤ most_slots = omega (arith, accepted_few image n table, accepted_blocks image n table) in
      let starts = tallied.each (suc k) Start few (omega arith) in
      let done = tallied.each (suc k) DoneEvent few (omega arith) in
      let failed = tallied.each (suc k) Failed few (omega arith) in
      let aborted = tallied.each (suc k) AbortedEvent few (omega arith) in
      let withdrawn = tallied.each (suc k) Withdrawn few (omega arith) in
      λ i. record {
        starts = starts i;
        done = done i;
        failed = failed i;
        aborted = aborted i;
        withdrawn = withdrawn i;
        left_open = starts i - (done i + failed i + aborted i + withdrawn i);
      }

  pub prints_sheet : sheet_of (blocks_of image) (figures_in counts) ≡ printed (check_journal_of image journal) image journal
  prints_sheet = rw accepted (same_sheet (blocks_of image) (figures_in counts) (figures_at events) figures_are)

-- what is printed, by the length of the input
pub prints_75 : (input : List ℕ) → most_input < length input → refused_line 75 ≡ totals_of input
unfolding totals_of
prints_75 input l = rw (lt-ltb most_input (length input) l) refl

pub prints_checked : (input : List ℕ) (n : ℕ) (image journal : List ℕ) → length input ≤ most_input → n ≡ table_length input → image ≡ take n input
    → journal ≡ take (length input - n) (drop n input) → printed (check_journal_of image journal) image journal ≡ totals_of input
unfolding totals_of
prints_checked input n image journal l e f g =
    let rest : take (length input - n) (drop n input) ≡ drop n input = take_all (length input - n) (drop n input) (simp length-drop (omega arith)) in
    let i : image ≡ table_in input = f ∙ ap (λ (m : ℕ). take m input) e in
    let j : journal ≡ journal_in input = g ∙ rest ∙ ap (λ (m : ℕ). drop m input) e in
    rw (le-ltb most_input (length input) l) (λ t. printed (check_journal_of (i t) (j t)) (i t) (j t))

-- a refusal of a part of the input is that of the input
pub prints_refused : (image journal text : List ℕ) (answer : Result (Unit {0}) Refusal) → printed (check_journal_of image journal) image journal ≡ text
    → IfErr answer (λ r. check_journal_of image journal ≡ Err r) → IfErr answer (λ r. refused_line (check_number r.check) ≡ text)
prints_refused image journal text (Ok u) e h = tt
prints_refused image journal text (Err r) e h = sym (ap (λ (a : Result ℕ Refusal). printed a image journal) h) ∙ e
