-- What the functions of encode.rt put together: a slot of what stands before the tag and of the tag, the slots of all blocks one after the other, and
-- the table of its header and its slots. For the proofs of `encode_slot`, `encode_slots` and `encode_table`.
use Prim.Native.Nat.{ℕ, suc, ◌+◌, ◌*◌, ◌≤◌, ◌<◌}
use mathlib.Core.Path.{◌≡◌, refl, ap, sym, ◌∙◌}
use mathlib.Core.List.{List, [], ◌∷◌, ◌++◌, append_assoc, append-nil}
use native.Mathlib.Omega.{arith}
use native.Mathlib.Numerals.{add-one}
use borrow.Rule.Slice.PartMut.{put_mid}
use lib.ListN.{length, take, drop, drop_of_length-le}
use lib.Seq.{drop-drop, take_all, take_at, drop_at, get_or-take, length-take-le}
use Rattle.image.specs.Image.{slot_length}
use Rattle.table.specs.Check.{check_of}
use Rattle.table.specs.Blocks.{Block, no_block, blocks_of, block_at}
use Rattle.std.specs.Prelude.{Ok}
use Rattle.table.proofs.TableLaws.{blocks_ok}
use Rattle.tidy.specs.Encode.{encode_next, encode_slot, encode_slots, encode_header, encode_table}
use Rattle.tidy.proofs.SlotLaws.{Tagged, slots_length, slots_more}
use Rattle.tidy.proofs.EncodedTable.{ok_tagged}

-- what the loop of encode::encode_slots keeps: the slots of the first i blocks are written, in a table of n
pub record Encoding (n : ℕ) (bs : List Block) (out₀ : List ℕ) (i : ℕ) (out : List ℕ) : Type 0 where
  pub within : i ≤ length bs
  pub whole : out ≡ encode_slots n 1 (take i bs) ++ drop (slot_length * i) out₀

pub encoding_start : (n : ℕ) (bs : List Block) (out : List ℕ) → Encoding n bs out 0 out
unfolding encode_slots
encoding_start n bs out = record { within = omega arith; whole = refl }

module _ (n : ℕ) (bs : List Block) (out₀ : List ℕ) (i : ℕ) (out : List ℕ) (w : Encoding n bs out₀ i out) where
  pub encoding_end : length bs ≤ i → length out₀ ≡ slot_length * length bs → out ≡ encode_slots n 1 bs
  encoding_end l sized = w.whole ∙ rw (take_all i bs l, drop_of_length-le out₀ {i = slot_length * i} (omega (arith, w.within))) (append-nil (encode_slots n 1 bs))

  module _ (tagged : Tagged bs) (l : i < length bs) where
    abbrev written : List ℕ
    written = encode_slots n 1 (take i bs)

    abbrev slot : List ℕ
    slot = encode_slot (block_at bs i) (encode_next n (suc i))

    written_length : length written ≡ slot_length * i
    written_length =
        let e : length (take i bs) ≡ i = length-take-le i bs (omega arith) in
        slots_length n 1 (take i bs) (λ j h. rw (get_or-take i bs j no_block (omega arith)) (tagged j (omega arith))) ∙ ap (λ (k : ℕ). slot_length * k) e

    one_more : encode_slots n 1 (take (i + 1) bs) ≡ written ++ slot
    one_more =
        let q : 1 + i ≡ suc i = omega arith in
        rw add-one (slots_more n 1 bs i l ∙ ap (λ (k : ℕ). written ++ encode_slot (block_at bs i) (encode_next n k)) q)

    -- the bytes of one slot more, at its place
    pub encoding_on : (at size : ℕ) (ys : List ℕ) → at ≡ slot_length * i → size ≡ slot_length → ys ≡ slot → Encoding n bs out₀ (i + 1) (put_mid at size out ys)
    encoding_on at size ys p q h =
        let rest : List ℕ = drop (slot_length * i) out₀ in
        let next : slot_length * i + slot_length ≡ slot_length * (i + 1) = omega arith in
        record {
          within = omega arith;
          whole = rw (p, q, h, w.whole, take_at written rest (slot_length * i) written_length, drop_at written rest (slot_length * i) written_length, drop-drop, next, one_more)
              (sym (append_assoc written slot (drop (slot_length * (i + 1)) out₀)));
        }

-- a table with some blocks: its header, then its slots
pub table_put : (bs : List Block) → (length bs ≡ 0 → ⊥) → encode_header (length bs) ++ encode_slots (length bs) 1 bs ≡ encode_table bs
unfolding encode_table
table_put [] some = absurd (some refl)
table_put (b ∷ bs) some = refl

pub own_tagged : (image : List ℕ) (count : ℕ) → check_of image ≡ Ok count → Tagged (blocks_of image)
own_tagged image count ok = ok_tagged (blocks_of image) (blocks_ok image count ok)
