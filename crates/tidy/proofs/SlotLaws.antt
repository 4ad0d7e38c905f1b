-- The slots of an encoded table: their length, the bytes of each, and one slot more. For EncodedTable, for the theorems tidy_length and tidy_slots, and for
-- the loop of `encode::encode_slots`.
use Prim.Native.Nat.{ℕ, zero, suc, ◌+◌, ◌*◌, ◌<◌}
use mathlib.Core.Path.{◌≡◌, refl, ap, sym, ◌∙◌}
use mathlib.Core.List.{List, [], ◌∷◌, ◌++◌, append_assoc, append-nil}
use native.Mathlib.Omega.{arith}
use native.Mathlib.Nat.{add-zero}
use lib.ListN.{length, get_or, take, drop, length-append}
use lib.Seq.{drop-append-add, take_at, take-suc, drop-drop, get_or-drop, length-take-le}
use Rattle.image.specs.Image.{
  header_length,
  slot_length,
  slot_start,
  slot_byte,
  kind_of,
  next_of,
  start_wire_offset,
  abort_wire_offset,
  wire_slot,
  wire_code,
  zero_offset,
  tag_offset,
  tag_length,
  tag_of,
}
use Rattle.table.specs.Blocks.{Block, no_block, block_at}
use Rattle.tidy.specs.Encode.{encode_position, encode_code, encode_next, encode_slot, encode_slots, encode_table, encoded_length}

-- every tag has its eight bytes
abbrev pub Tagged : List Block → Type 0
Tagged bs = (i : ℕ) → i < length bs → length (block_at bs i).tag ≡ tag_length

pub slot_length_lem : (b : Block) (next : ℕ) → length b.tag ≡ tag_length → length (encode_slot b next) ≡ slot_length
unfolding encode_slot
slot_length_lem b next e = omega arith

pub slots_length : (n k : ℕ) (bs : List Block) → Tagged bs → length (encode_slots n k bs) ≡ slot_length * length bs
unfolding encode_slots
slots_length n k [] t = refl
slots_length n k (b ∷ bs) t =
    simp length-append (omega (arith, slot_length_lem b (encode_next n k) (t 0 (omega arith)), slots_length n (suc k) bs (λ i l. t (suc i) (omega arith))))

-- from slot k + i on
slots_at : (n k : ℕ) (bs : List Block) → Tagged bs → (i : ℕ) → i < length bs
    → drop (slot_length * i) (encode_slots n k bs) ≡ encode_slot (block_at bs i) (encode_next n (k + i)) ++ encode_slots n (suc (k + i)) (drop (suc i) bs)
unfolding encode_slots
slots_at n k [] t i l = absurd (omega arith)
slots_at n k (b ∷ bs) t zero l = rw add-zero
slots_at n k (b ∷ bs) t (suc i) l =
    let own = encode_slot b (encode_next n k) in
    let m : slot_length * suc i ≡ length own + slot_length * i = omega (arith, slot_length_lem b (encode_next n k) (t 0 (omega arith))) in
    let q : k + suc i ≡ suc k + i = omega arith in
    rw (m, q) (drop-append-add own (encode_slots n (suc k) bs) (slot_length * i) ∙ slots_at n (suc k) bs (λ j h. t (suc j) (omega arith)) i (omega arith))

-- the slots of the first blocks, and one more
slots_append : (n k : ℕ) (xs ys : List Block) → encode_slots n k (xs ++ ys) ≡ encode_slots n k xs ++ encode_slots n (k + length xs) ys
unfolding encode_slots
slots_append n k [] ys = rw add-zero
slots_append n k (x ∷ xs) ys =
    let q : k + suc (length xs) ≡ suc k + length xs = omega arith in
    rw (q, slots_append n (suc k) xs ys) (sym (append_assoc (encode_slot x (encode_next n k)) (encode_slots n (suc k) xs) (encode_slots n (suc k + length xs) ys)))

pub slots_more : (n k : ℕ) (bs : List Block) (i : ℕ) → i < length bs
    → encode_slots n k (take (suc i) bs) ≡ encode_slots n k (take i bs) ++ encode_slot (block_at bs i) (encode_next n (k + i))
unfolding encode_slots
slots_more n k bs i l =
    let e : length (take i bs) ≡ i = length-take-le i bs (omega arith) in
    rw (take-suc bs i no_block l, slots_append n k (take i bs) (block_at bs i ∷ []), e, append-nil)

-- what slot i + 1 of a table of these blocks has
pub record SlotHas (bs : List Block) (i : ℕ) : Type 0 where
  pub kind : kind_of (encode_table bs) (suc i) ≡ (block_at bs i).kind
  pub next : next_of (encode_table bs) (suc i) ≡ encode_next (length bs) (suc i)
  pub start : wire_slot (encode_table bs) (suc i) start_wire_offset ≡ encode_position (block_at bs i).start
  pub start_code : wire_code (encode_table bs) (suc i) start_wire_offset ≡ encode_code (block_at bs i).start
  pub abort : wire_slot (encode_table bs) (suc i) abort_wire_offset ≡ encode_position (block_at bs i).abort
  pub abort_code : wire_code (encode_table bs) (suc i) abort_wire_offset ≡ encode_code (block_at bs i).abort
  pub zero_first : slot_byte (encode_table bs) (suc i) zero_offset ≡ 0
  pub zero_second : slot_byte (encode_table bs) (suc i) (zero_offset + 1) ≡ 0
  pub tag : tag_of (encode_table bs) (suc i) ≡ (block_at bs i).tag

table_at : (bs : List Block) → Tagged bs → (i : ℕ) → i < length bs
    → drop (slot_start (suc i)) (encode_table bs) ≡ encode_slot (block_at bs i) (encode_next (length bs) (suc i)) ++ encode_slots (length bs) (suc (1 + i)) (drop (suc i) bs)
unfolding encode_table
table_at [] t i l = absurd (omega arith)
table_at (b ∷ bs) t i l =
    let all = b ∷ bs in
    let s : slot_start (suc i) ≡ header_length + slot_length * i = omega arith in
    let q : 1 + i ≡ suc i = omega arith in
    ap (λ (x : ℕ). drop x (encode_table all)) s
    ∙ sym (drop-drop (slot_length * i) header_length (encode_table all))
    ∙ slots_at (length all) 1 all t i l
    ∙ ap (λ (x : ℕ). encode_slot (block_at all i) (encode_next (length all) x) ++ encode_slots (length all) (suc (1 + i)) (drop (suc i) all)) q

module _ (bs : List Block) (tagged : Tagged bs) (i : ℕ) (l : i < length bs) where
  abbrev from_slot : List ℕ
  from_slot = encode_slot (block_at bs i) (encode_next (length bs) (suc i)) ++ encode_slots (length bs) (suc (1 + i)) (drop (suc i) bs)

  byte : (j : ℕ) → slot_byte (encode_table bs) (suc i) j ≡ get_or from_slot j 0
  byte j = sym (get_or-drop (slot_start (suc i)) (encode_table bs) j 0) ∙ ap (λ (x : List ℕ). get_or x j 0) (table_at bs tagged i l)

  pub slot_has : SlotHas bs i
  unfolding encode_slot
  slot_has = record {
    kind = byte 0;
    next = byte 1;
    start = byte 2;
    start_code = byte 3;
    abort = byte 4;
    abort_code = byte 5;
    zero_first = byte 6;
    zero_second = byte 7;
    tag = ap (take tag_length) (sym (drop-drop tag_offset (slot_start (suc i)) (encode_table bs)) ∙ ap (drop tag_offset) (table_at bs tagged i l))
        ∙ take_at (block_at bs i).tag _ tag_length (tagged i l);
  }

-- its length
pub table_length : (bs : List Block) → Tagged bs → length (encode_table bs) ≡ encoded_length (length bs)
unfolding encode_table
table_length [] t = refl
table_length (b ∷ bs) t = omega (arith, slots_length (length (b ∷ bs)) 1 (b ∷ bs) t)
