-- Laws of little-endian numbers, each stated once over the width: for the readers and writers of this crate, and for the layers that
-- compare bytes by their numbers or read back what they wrote.
use Prim.Native.Nat.{ℕ, zero, suc, ◌+◌, ◌*◌, ◌/◌, ◌%◌, ◌^◌, ◌≤◌, ◌<◌}
use mathlib.Core.Path.{◌≡◌, refl, ap, sym, ◌∙◌}
use mathlib.Core.List.{List, [], ◌∷◌, ◌++◌}
use native.Mathlib.Omega.{arith}
use native.Mathlib.Nat.{pow-succ', mul_assoc, mul_comm, mod-eq_of_lt, one-le-pow, mul-le-mul_left}
use lib.Arith.{mod-mul}
use lib.ListN.{length, get_or, take, drop, length-drop, replicate}
use lib.Seq.{drop-cons, drop-drop, take-add, length-take-le}
use Rattle.words.specs.Word.{Bytes, number, bytes, number_at}

-- the number of joined bytes
pub number_append : (l m : List ℕ) → number (l ++ m) ≡ number l + 256 ^ length l * number m
unfolding number
number_append [] m = omega arith
number_append (b ∷ l) m =
    let p : 256 ^ suc (length l) * number m ≡ 256 * (256 ^ length l * number m) =
    rw pow-succ' (mul_assoc 256 (256 ^ length l) (number m)) in
    omega (arith, number_append l m)

-- one byte, and a width in two parts: what each reader computes
pub number_one : (s : List ℕ) (i : ℕ) → i < length s → number_at 1 s i ≡ get_or s i 0
unfolding number
number_one s i h = rw (drop-cons s i 0) (omega arith)

pub number_split : (v w : ℕ) (s : List ℕ) (i : ℕ) → i + v ≤ length s → number_at (v + w) s i ≡ number_at v s i + 256 ^ v * number_at w s (i + v)
number_split v w s i h =
    let n : length (take v (drop i s)) ≡ v = length-take-le v (drop i s) (rw length-drop (omega arith)) in
    rw (take-add v w (drop i s), number_append, n, drop-drop)

-- bytes whose number is zero are zero
pub number_zero : (l : List ℕ) → number l ≡ 0 → l ≡ replicate (length l) 0
unfolding number
number_zero [] h = refl
number_zero (x ∷ l) h =
    let z : x ≡ 0 = omega arith in
    let n : l ≡ replicate (length l) 0 = number_zero l (omega arith) in
    λ i. z i ∷ n i

-- the bytes of a number: how many, each one a byte
pub length_bytes : (w x : ℕ) → length (bytes w x) ≡ w
unfolding bytes
length_bytes zero x = refl
length_bytes (suc w) x = ap suc (length_bytes w (x / 256))

pub bytes_bytes : (w x : ℕ) → Bytes (bytes w x)
unfolding bytes
bytes_bytes zero x i = omega arith
bytes_bytes (suc w) x zero = omega arith
bytes_bytes (suc w) x (suc i) = bytes_bytes w (x / 256) i

-- a number read back from its bytes
pub number_bytes : (w x : ℕ) → number (bytes w x) ≡ x % 256 ^ w
unfolding number bytes
number_bytes zero x = omega arith
number_bytes (suc w) x =
    let p : 256 ^ suc w ≡ 256 ^ w * 256 = rw pow-succ' (mul_comm 256 (256 ^ w)) in
    let m : x % (256 ^ w * 256) ≡ (x / 256 % 256 ^ w) * 256 + x % 256 = mod-mul x (one-le-pow w 256 (omega arith)) (omega arith) in
    rw p (omega (arith, m, number_bytes w (x / 256)))

pub number_of_bytes : (w x : ℕ) → x < 256 ^ w → number (bytes w x) ≡ x
number_of_bytes w x h = number_bytes w x ∙ mod-eq_of_lt h

-- the bound of a number of at most w bytes
pub number_bound : (w : ℕ) (l : List ℕ) → Bytes l → number (take w l) < 256 ^ w
unfolding number
number_bound zero l b = omega arith
number_bound (suc w) [] b = rw pow-succ' (omega (arith, one-le-pow w 256 (omega arith)))
number_bound (suc w) (x ∷ l) b =
    let h : suc (number (take w l)) ≤ 256 ^ w = number_bound w l (λ i. b (suc i)) in
    rw pow-succ' (omega (arith, mul-le-mul_left 256 h, b 0))

-- bytes written back from their number
pub bytes_number : (w : ℕ) (l : List ℕ) → length l ≡ w → Bytes l → bytes w (number l) ≡ l
unfolding number bytes
bytes_number zero [] e b = refl
bytes_number zero (x ∷ l) e b = absurd (omega arith)
bytes_number (suc w) [] e b = absurd (omega arith)
bytes_number (suc w) (x ∷ l) e b =
    let q : (x + 256 * number l) / 256 ≡ number l = omega (arith, b 0) in
    let r : (x + 256 * number l) % 256 ≡ x = omega (arith, b 0) in
    rw (q, r, bytes_number w l (omega arith) (λ i. b (suc i)))

-- comparing the numbers of bytes compares the bytes
pub number_injective : (l m : List ℕ) → length l ≡ length m → Bytes l → Bytes m → number l ≡ number m → l ≡ m
number_injective l m e b c h =
    sym (bytes_number (length m) l e b) ∙ (ap (λ (x : ℕ). bytes (length m) x) h ∙ bytes_number (length m) m refl c)
