-- The theorems that specs/Encode.antt states: the image of blocks as a table has them is accepted and has these blocks. For the theorems of TidyLaws, and for whoever writes a table.
use Prim.Native.Nat.{ℕ, zero, suc, ◌+◌, ◌<◌}
use mathlib.Core.Path.{◌≡◌, refl, ap, sym, ◌∙◌, subst}
use mathlib.Core.List.{List, [], ◌∷◌}
use native.Mathlib.Omega.{arith}
use borrow.Author.Tests.{eq-eqb, lt-ltb, le-ltb, le-leb}
use lib.ListN.{length, get_or}
use lib.Seq.{ext_get_or}
use native.Mathlib.Numerals.{add-one}
use Rattle.std.specs.List.{range_with_len}
use Rattle.std.proofs.lemmas.List.FromFn.{length-range_with_len, get_or-range_with_len}
use Rattle.kind.specs.Kind.{has_abort}
use Rattle.membership.specs.Membership.{among}
use Rattle.membership.proofs.Logic.{by_test, not_both}
use Rattle.image.specs.Image.{header_length, image_length, next_of, wire_slot, wire_code, start_wire_offset, abort_wire_offset}
use Rattle.words.specs.Word.{all_zero}
use Rattle.table.specs.Header.{header_check}
use Rattle.table.specs.Walk.{unmet, walk_in, walked}
use Rattle.table.specs.Chain.{chain_of}
use Rattle.table.specs.Record.{wire_ok, records_check}
use Rattle.table.specs.Spare.{spares_check}
use Rattle.table.specs.Check.{verdict_of, check_of}
use Rattle.table.specs.Blocks.{Block, no_block, wire_of, block_in, blocks_in, blocks_of, block_at}
use Rattle.table.specs.Table.{Linked, ended, link, RecordOk, Table, BlocksOk}
use Rattle.std.specs.Prelude.{Ok}
use Rattle.table.proofs.BlockLaws.{blocks_length, block_is}
use Rattle.table.proofs.TagFormLaws.{form_when}
use Rattle.table.proofs.TableLaws.{table_accepted}
use Rattle.tidy.specs.Encode.{encode_next, encode_table, EncodedAccepted, EncodedBlocks}
use Rattle.tidy.proofs.CountUp.{count_among}
use Rattle.tidy.proofs.SlotLaws.{Tagged, SlotHas, slot_has, table_length}
use Rattle.tidy.proofs.WireLaws.{wire_passes, wire_back}

pub ok_tagged : (bs : List Block) → BlocksOk bs → Tagged bs
ok_tagged bs ok i l = (ok.each i l).tag.sized

-- where each slot leads to the one after it, and the last to none, they are linked in order
module _ (image : List ℕ) (n : ℕ) (next : (i : ℕ) → i < n → next_of image (suc i) ≡ encode_next n (suc i)) where
  in_order : (left k : ℕ) → k + left ≡ n → Linked image (encode_next n k) (range_with_len (suc k) left)
  in_order zero k e = simp (le-ltb k n (omega arith)) ended
  in_order (suc left) k e =
      simp (lt-ltb k n (omega arith), add-one) (link (subst (λ (at : ℕ). Linked image at (range_with_len (suc (suc k)) left)) (sym (next k (omega arith))) (in_order left (suc k) (omega arith))))

module _ (b : Block) (bs : List Block) (ok : BlocksOk (b ∷ bs)) where
  abbrev all : List Block
  all = b ∷ bs

  abbrev n : ℕ
  n = length all

  abbrev image : List ℕ
  image = encode_table all

  abbrev chain : List ℕ
  chain = range_with_len 1 n

  tagged : Tagged all
  tagged = ok_tagged all ok

  sized : length image ≡ image_length n
  sized = table_length all tagged ∙ omega arith

  header : header_check image ≡ Ok tt
  unfolding header_check encode_table
  header =
      simp (le-leb header_length (length image) (omega (arith, sized)), le-leb 1 n (omega arith), le-leb n 64 ok.few, eq-eqb (length image) (image_length n) sized)

  -- the record of slot i + 1 passes, and its block is read back
  module _ (i : ℕ) (l : i < n) where
    has : SlotHas all i
    has = slot_has all tagged i l

    passes : RecordOk image chain (suc i)
    passes =
        let own = ok.each i l in
        record {
          kind = simp (has.kind, has.zero_first, has.zero_second, own.kind);
          tag = rw has.tag (form_when (block_at all i).tag own.tag);
          start = (λ j. wire_ok chain (has.start j) (has.start_code j)) ∙ wire_passes n (block_at all i).start own.start;
          abort = rw has.kind
              (by_test (has_abort (block_at all i).kind)
              (λ h. simp h ((λ j. wire_ok chain (has.abort j) (has.abort_code j)) ∙ wire_passes n (block_at all i).abort own.abort))
              (λ h. simp h (rw (has.abort, has.abort_code, own.no_abort h))));
        }

    back : block_in image chain (suc i) ≡ block_at all i
    unfolding block_in
    back =
        let start : wire_of chain (wire_slot image (suc i) start_wire_offset) (wire_code image (suc i) start_wire_offset) ≡ (block_at all i).start =
        rw (has.start, has.start_code) (wire_back n (block_at all i).start (ok.each i l).start) in
        let abort : wire_of chain (wire_slot image (suc i) abort_wire_offset) (wire_code image (suc i) abort_wire_offset) ≡ (block_at all i).abort =
        rw (has.abort, has.abort_code) (wire_back n (block_at all i).abort (ok.each i l).abort) in
        λ j. record { kind = has.kind j; tag = has.tag j; start = start j; abort = abort j }

  slot_at : (i : ℕ) → i < length chain → get_or chain i 0 ≡ suc i
  slot_at i l = get_or-range_with_len 1 n i 0 (omega (arith, length-range_with_len 1 n)) ∙ omega arith

  in_all : (i : ℕ) → i < length chain → i < n
  in_all i l = omega (arith, length-range_with_len 1 n)

  is_table : Table image chain
  unfolding encode_table
  is_table = record {
    header = header;
    linked = subst (λ (at : ℕ). Linked image at chain) (simp (lt-ltb 0 n (omega arith))) (in_order image n (λ i l. (has i l).next) n 0 (omega arith));
    within = λ i l. rw (slot_at i l) (omega arith, omega (arith, in_all i l));
    distinct = λ i j k l e. omega (arith, slot_at i k, slot_at j l);
    records = λ i l. rw (slot_at i l) (passes i (in_all i l));
    tags = λ i j k l e. ok.tags i j (in_all i k) (in_all j l)
        (sym (has i (in_all i k)).tag ∙ (rw (slot_at i k, slot_at j l) at e) ∙ (has j (in_all j l)).tag);
    spares = λ slot p q none. not_both (among slot chain) (count_among 1 n slot p (omega (arith, q))) none;
  }

  some_accepted : check_of image ≡ Ok n
  some_accepted = (table_accepted image chain is_table).1 ∙ ap Ok (length-range_with_len 1 n)

  some_chain : chain_of image ≡ chain
  some_chain = (table_accepted image chain is_table).0

  some_blocks : blocks_of image ≡ all
  some_blocks =
      rw some_chain
      (ext_get_or no_block (blocks_in image chain chain) all (blocks_length image chain chain ∙ length-range_with_len 1 n)
      (λ i l. let h : i < length chain = omega (arith, blocks_length image chain chain) in
      block_is image chain chain i h ∙ ap (block_in image chain) (slot_at i h) ∙ back i (in_all i h)))

-- of any number of blocks
pub encoded_accepted : EncodedAccepted
unfolding check_of verdict_of header_check walked walk_in unmet records_check spares_check all_zero encode_table
encoded_accepted [] ok = refl
encoded_accepted (b ∷ bs) ok = some_accepted b bs ok

pub encoded_blocks : EncodedBlocks
unfolding walked walk_in unmet encode_table blocks_in
encoded_blocks [] ok = refl
encoded_blocks (b ∷ bs) ok = some_blocks b bs ok
