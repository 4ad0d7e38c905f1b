-- The theorems that specs/Tidy.antt states: for the reader, and for hosts that put the tidy table in the place of the one they had.
use Prim.Native.Nat.{ℕ, suc}
use mathlib.Core.Path.{◌≡◌, refl, ap, sym, ◌∙◌}
use mathlib.Core.List.{List}
use native.Mathlib.Omega.{arith}
use borrow.Author.Tests.{eq-eqb, ne_eqb}
use lib.ListN.{length}
use Rattle.refusal.specs.Refusal.{refused}
use Rattle.refusal.specs.declared.Place.TheVariants.{Header}
use Rattle.refusal.specs.declared.Check.TheVariants.{OutputLength}
use Rattle.table.specs.Check.{check_of}
use Rattle.table.specs.Blocks.{blocks_of}
use Rattle.std.specs.Prelude.{Ok}
use Rattle.table.proofs.AcceptedLaws.{accepted_blocks}
use Rattle.table.proofs.TableLaws.{blocks_ok}
use Rattle.table.proofs.ByBlocks.{find_by_blocks}
use Rattle.engine.proofs.ByBlocks.{fresh_by_blocks, scan_by_blocks}
use Rattle.run.proofs.ByBlocks.{state_by_blocks, journal_by_blocks}
use Rattle.journal.proofs.ByBlocks.{check_journal_by_blocks}
use Rattle.tidy.specs.Encode.{encode_next, encode_table, encoded_length}
use Rattle.tidy.specs.Tidy.{tidy_of, tidy_into, TidyAccepted, TidyLength, TidyKeeps, TidySlots, TidyTwice, TidySame, SameTidy, TidyScans, TidyLists, TidyFresh, TidyFinds, TidyJournals}
use Rattle.tidy.proofs.SlotLaws.{slot_has, table_length}
use Rattle.tidy.proofs.KeptLaws.{block_kept}
use Rattle.tidy.proofs.EncodedTable.{ok_tagged, encoded_accepted, encoded_blocks}

pub tidy_accepted : TidyAccepted
tidy_accepted image n ok = encoded_accepted (blocks_of image) (blocks_ok image n ok) ∙ ap Ok (accepted_blocks image n ok)

pub tidy_length : TidyLength
tidy_length image n ok = table_length (blocks_of image) (ok_tagged (blocks_of image) (blocks_ok image n ok)) ∙ ap encoded_length (accepted_blocks image n ok)

pub tidy_keeps : TidyKeeps
tidy_keeps image n ok = encoded_blocks (blocks_of image) (blocks_ok image n ok)

pub tidy_slots : TidySlots
tidy_slots image n by ok i l =
    let blocks = accepted_blocks image n ok in
    let has = slot_has (blocks_of image) (ok_tagged (blocks_of image) (blocks_ok image n ok)) i (omega (arith, blocks)) in
    let kept = block_kept image n ok i l (by _) (by _) in
    record {
      kind = has.kind ∙ kept.kind;
      next = has.next ∙ ap (λ (m : ℕ). encode_next m (suc i)) blocks;
      start = has.start ∙ kept.start;
      start_code = has.start_code ∙ kept.start_code;
      abort = has.abort ∙ kept.abort;
      abort_code = has.abort_code ∙ kept.abort_code;
      zero_first = has.zero_first;
      zero_second = has.zero_second;
      tag = has.tag ∙ kept.tag;
    }

pub tidy_twice : TidyTwice
tidy_twice image n ok = ap encode_table (tidy_keeps image n ok)

pub tidy_same : TidySame
tidy_same first second m n one two e = sym (tidy_keeps first m one) ∙ ap (λ (image : List ℕ). blocks_of image) e ∙ tidy_keeps second n two

pub same_tidy : SameTidy
same_tidy first second e = ap encode_table e

pub tidy_scans : TidyScans
tidy_scans image n ok = scan_by_blocks (tidy_of image) image n n (tidy_accepted image n ok) ok (tidy_keeps image n ok)

pub tidy_lists : TidyLists
tidy_lists image n ok start scans =
    let accepted = tidy_accepted image n ok in
    let keeps = tidy_keeps image n ok in
    (state_by_blocks (tidy_of image) image n n accepted ok keeps start scans, journal_by_blocks (tidy_of image) image n n accepted ok keeps start scans)

pub tidy_fresh : TidyFresh
tidy_fresh image n ok = fresh_by_blocks (tidy_of image) image n n (tidy_accepted image n ok) ok (tidy_keeps image n ok)

pub tidy_finds : TidyFinds
tidy_finds image n ok = find_by_blocks (tidy_of image) image n n (tidy_accepted image n ok) ok (tidy_keeps image n ok)

pub tidy_journals : TidyJournals
tidy_journals image n ok = check_journal_by_blocks (tidy_of image) image n n (tidy_accepted image n ok) ok (tidy_keeps image n ok)

-- what tidying answers and leaves, by the length of the lent buffer
module _ (image out : List ℕ) (n : ℕ) (ok : check_of image ≡ Ok n) where
  pub tidied : length out ≡ encoded_length n → tidy_into image out ≡ record { answer = Ok n; out = tidy_of image }
  unfolding tidy_into
  tidied l = rw (ok, eq-eqb (length out) (length (tidy_of image)) (l ∙ sym (tidy_length image n ok))) refl

  pub length_refused : (length out ≡ encoded_length n → ⊥) → tidy_into image out ≡ record { answer = refused OutputLength Header; out = out }
  unfolding tidy_into
  length_refused l = rw (ok, ne_eqb (length out) (length (tidy_of image)) (λ e. l (e ∙ tidy_length image n ok))) refl
