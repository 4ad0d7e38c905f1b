-- Bytes that are all zero: tested as one number, in two parts, and as a list. For the checks of spare slots, wires and unnamed bytes, and for their readers.
use Prim.Native.Nat.{ℕ, ◌+◌, ◌*◌, ◌<◌}
use mathlib.Core.Path.{◌≡◌, refl, ap, sym, ◌∙◌}
use mathlib.Core.Bool.{Bool, true, ◌&&◌}
use mathlib.Core.List.{List, [], ◌∷◌, ◌++◌}
use native.Mathlib.Omega.{arith}
use lib.Dec.{eqb}
use lib.ListN.{length, get_or, take, drop, replicate}
use lib.Seq.{take-add, drop-drop}
use borrow.Author.Tests.{eqb-true, eqb-false, eq-eqb, ne_eqb}
use Rattle.membership.proofs.Logic.{by_test}
use Rattle.words.specs.Word.{number, number_at, all_zero, zero_at}
use Rattle.words.proofs.WordLaws.{number_one, number_zero}

-- by their number
zero_number : (t : List ℕ) → all_zero t ≡ eqb (number t) 0
unfolding all_zero number
zero_number [] = refl
zero_number (x ∷ t) =
    by_test (eqb x 0)
    (λ a. by_test (eqb (number t) 0)
    (λ b. let f : x + 256 * number t ≡ 0 = omega (arith, eqb-true x 0 a, eqb-true (number t) 0 b) in simp (a, zero_number t, b, eq-eqb _ _ f))
    (λ b. simp (a, zero_number t, b, ne_eqb (x + 256 * number t) 0 (λ f. eqb-false (number t) 0 b (omega arith)))))
    (λ a. simp (a, ne_eqb (x + 256 * number t) 0 (λ f. eqb-false x 0 a (omega arith))))

module _ (w i : ℕ) (s : List ℕ) where
  pub zero_at_lem : zero_at w s i ≡ eqb (number_at w s i) 0
  zero_at_lem = zero_number (take w (drop i s))

  pub zero_is : zero_at w s i ≡ true → number_at w s i ≡ 0
  zero_is h = eqb-true (number_at w s i) 0 (sym zero_at_lem ∙ h)

  pub is_zero : number_at w s i ≡ 0 → zero_at w s i ≡ true
  is_zero h = zero_at_lem ∙ eq-eqb (number_at w s i) 0 h

-- a single byte
pub zero_byte : (i : ℕ) (s : List ℕ) → i < length s → zero_at 1 s i ≡ eqb (get_or s i 0) 0
zero_byte i s h = zero_at_lem 1 i s ∙ ap (λ (n : ℕ). eqb n 0) (number_one s i h)

-- in two parts
zero_append : (t u : List ℕ) → all_zero (t ++ u) ≡ (all_zero t && all_zero u)
unfolding all_zero
zero_append [] u = refl
zero_append (x ∷ t) u = by_test (eqb x 0) (λ a. simp (a, zero_append t u)) (λ a. simp a)

pub zero_split : (v w i : ℕ) (s : List ℕ) → zero_at (v + w) s i ≡ zero_at v s i && zero_at w s (i + v)
zero_split v w i s =
    ap all_zero (take-add v w (drop i s))
    ∙ zero_append (take v (drop i s)) (take w (drop v (drop i s)))
    ∙ ap (λ (t : List ℕ). zero_at v s i && all_zero (take w t)) (drop-drop v i s)

-- the second part as one number
pub zero_last : (v w i : ℕ) (s : List ℕ) → zero_at (v + w) s i ≡ zero_at v s i && eqb (number_at w s (i + v)) 0
zero_last v w i s = zero_split v w i s ∙ ap (λ (b : Bool). zero_at v s i && b) (zero_at_lem w (i + v) s)

-- two bytes, as one number
pub zero_pair : (i : ℕ) (s : List ℕ) → i + 1 < length s → eqb (number_at 2 s i) 0 ≡ (eqb (get_or s i 0) 0 && eqb (get_or s (i + 1) 0) 0)
zero_pair i s h = sym (zero_at_lem 2 i s) ∙ zero_split 1 1 i s ∙ rw (zero_byte i s (omega arith), zero_byte (i + 1) s h)

-- as a list
pub zero_bytes : (t : List ℕ) → all_zero t ≡ true → t ≡ replicate (length t) 0
zero_bytes t h = number_zero t (eqb-true (number t) 0 (sym (zero_number t) ∙ h))
