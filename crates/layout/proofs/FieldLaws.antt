-- One field of a layout, over its place and width: what is read fits the width, and what was read, unnamed bytes too, is written back as it stood; a byte
-- and a zero after it as one number. For the laws of records, frame entries and events, and of checks 21 and 31.
use Prim.Native.Nat.{ℕ, suc, ◌+◌, ◌*◌, ◌^◌, ◌≤◌, ◌<◌}
use mathlib.Core.Path.{◌≡◌, ap, sym, ◌∙◌}
use mathlib.Core.Bool.{true, ◌&&◌}
use mathlib.Core.List.{List, [], ◌∷◌, ◌++◌, append-nil}
use native.Mathlib.Omega.{arith}
use lib.Dec.{eqb, leb}
use lib.ListN.{length, take, drop, replicate, length-drop, take-append-drop, drop_of_length-le}
use lib.Seq.{drop-cons, drop-drop, length-take-le}
use borrow.Author.Tests.{eqb-true, leb-true, eq-eqb, le-leb}
use Rattle.membership.proofs.Logic.{same, and_left, and_right}
use Rattle.std.proofs.lemmas.Bool.{and_from}
use Rattle.words.specs.Word.{Bytes, bytes, number_at, zero_at}
use Rattle.words.proofs.WordLaws.{number_one, number_split, number_bound, bytes_number}
use Rattle.words.proofs.ZeroLaws.{zero_bytes}
use Rattle.layout.specs.Buffer.{byte_at}
use Rattle.layout.proofs.BufferLaws.{bytes_take, bytes_drop}

-- the bound of a number read from bytes
pub field_bound : (w i : ℕ) (s : List ℕ) → Bytes s → number_at w s i < 256 ^ w
field_bound w i s b = number_bound w (drop i s) (bytes_drop i s b)

-- from place i on: what its w bytes are, and the rest
window_length : (w i : ℕ) (s : List ℕ) → i + w ≤ length s → length (take w (drop i s)) ≡ w
window_length w i s h = length-take-le w (drop i s) (simp length-drop (omega arith))

window_back : (w i : ℕ) (v s rest : List ℕ) → v ≡ take w (drop i s) → rest ≡ drop (i + w) s → v ++ rest ≡ drop i s
window_back w i v s rest f e = rw (f, e, ← drop-drop w i s) (take-append-drop w (drop i s))

-- a field, unnamed bytes, a byte
pub field_back : (w i : ℕ) (s rest : List ℕ) → Bytes s → i + w ≤ length s → rest ≡ drop (i + w) s
    → bytes w (number_at w s i) ++ rest ≡ drop i s
field_back w i s rest b h e =
    window_back w i (bytes w (number_at w s i)) s rest
    (bytes_number w (take w (drop i s)) (window_length w i s h) (bytes_take w (drop i s) (bytes_drop i s b))) e

pub zero_back : (w i : ℕ) (s rest : List ℕ) → zero_at w s i ≡ true → i + w ≤ length s → rest ≡ drop (i + w) s → replicate w 0 ++ rest ≡ drop i s
zero_back w i s rest z h e =
    window_back w i (replicate w 0) s rest (sym (zero_bytes (take w (drop i s)) z ∙ ap (λ (n : ℕ). replicate n 0) (window_length w i s h))) e

pub byte_back : (i x : ℕ) (s rest : List ℕ) → i < length s → x ≡ byte_at s i → rest ≡ drop (suc i) s → x ∷ rest ≡ drop i s
byte_back i x s rest h e f = rw (e, f) (sym (drop-cons s i 0 h))

-- the last field
pub field_last : (w i : ℕ) (s : List ℕ) → Bytes s → length s ≡ i + w → bytes w (number_at w s i) ≡ drop i s
field_last w i s b l =
    sym (append-nil (bytes w (number_at w s i)))
    ∙ field_back w i s [] b (omega arith) (sym (drop_of_length-le s {i = i + w} (omega arith)))

-- two bytes as one number, and at most m: the second zero and the first at most m
module _ (s : List ℕ) (i : ℕ) (h : i + 2 ≤ length s) where
  two_bytes : number_at 2 s i ≡ byte_at s i + 256 * byte_at s (i + 1)
  two_bytes = omega (arith, number_split 1 1 s i (omega arith), number_one s i (omega arith), number_one s (i + 1) (omega arith))

  pub pair_low : (m : ℕ) → m < 256 → leb (number_at 2 s i) m ≡ leb (byte_at s i) m && eqb (byte_at s (i + 1)) 0
  pair_low m f = parts (number_at 2 s i) (byte_at s i) (byte_at s (i + 1)) two_bytes
    where
      parts : (n a b : ℕ) → n ≡ a + 256 * b → leb n m ≡ leb a m && eqb b 0
      parts n a b e =
          same (leb n m) (leb a m && eqb b 0)
          (λ t. let z : n ≤ m = leb-true n m t in and_from (leb a m) (eqb b 0) (le-leb a m (omega arith)) (eq-eqb b 0 (omega arith)))
          (λ t. let p : a ≤ m = leb-true a m (and_left (leb a m) (eqb b 0) t) in let q : b ≡ 0 = eqb-true b 0 (and_right (leb a m) (eqb b 0) t) in le-leb n m (omega arith))
