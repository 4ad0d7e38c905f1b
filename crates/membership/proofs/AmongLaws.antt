-- Membership in a list of numbers, by its places, and lists of numbers of 1 to n: for the walk of a chain and the tags of a table.
use Prim.Native.Nat.{ℕ, zero, suc, ◌≤◌, ◌<◌}
use mathlib.Core.Path.{◌≡◌, refl, sym}
use mathlib.Core.List.{List, [], ◌∷◌, ◌++◌}
use mathlib.Core.Bool.{true, false, ◌||◌}
use native.Mathlib.Omega.{arith}
use borrow.Author.Tests.{eq-eqb, eqb-true}
use lib.Dec.{eqb}
use lib.ListN.{length, get_or, take}
use Rattle.membership.specs.Membership.{among}
use Rattle.membership.proofs.Logic.{by_test, not_both}

-- one more at the end; std's list_any-append is of list_any, and leaves list_any of the last alone, which is a test or false
pub among_snoc : (k : ℕ) (xs : List ℕ) (x : ℕ) → among k (xs ++ (x ∷ [])) ≡ (among k xs || eqb x k)
among_snoc k [] x = by_test (eqb x k) (λ e. simp e) (λ e. simp e)
among_snoc k (y ∷ ys) x = by_test (eqb y k) (λ e. simp e) (λ e. simp (e, among_snoc k ys x))

-- a number that stands at an index is there
pub among_at : (xs : List ℕ) (i : ℕ) → i < length xs → among (get_or xs i 0) xs ≡ true
among_at [] i h = absurd (omega arith)
among_at (x ∷ xs) zero h = simp (eq-eqb x x refl)
among_at (x ∷ xs) (suc i) h = by_test (eqb x (get_or xs i 0)) (λ e. simp e) (λ e. simp (e, among_at xs i (omega arith)))

-- a number that stands nowhere is not
pub not_among : (k : ℕ) (xs : List ℕ) → ((i : ℕ) → i < length xs → get_or xs i 0 ≡ k → ⊥) → among k xs ≡ false
not_among k [] h = refl
not_among k (x ∷ xs) h =
    by_test (eqb x k) (λ e. absurd (h 0 (omega arith) (eqb-true x k e))) (λ e. simp (e, not_among k xs (λ i l q. h (suc i) (omega arith) q)))

-- every element is of 1 to n; std's All is of places and any default, where this is a pair for each element, which the laws take apart by `.0` and `.1`
abbrev pub AllIn : ℕ → List ℕ → Type 0
AllIn n [] = Unit {0}
AllIn n (x ∷ xs) = (0 < x) × (x ≤ n) × AllIn n xs

pub all_snoc : (n : ℕ) (xs : List ℕ) (x : ℕ) → AllIn n xs → 0 < x → x ≤ n → AllIn n (xs ++ (x ∷ []))
all_snoc n [] x h p q = (p, q, tt)
all_snoc n (y ∷ ys) x h p q = (h.0, h.1, all_snoc n ys x h.2 p q)

pub all_take : (n : ℕ) (xs : List ℕ) (i : ℕ) → AllIn n xs → AllIn n (take i xs)
all_take n xs zero h = tt
all_take n [] (suc i) h = tt
all_take n (x ∷ xs) (suc i) h = (h.0, h.1, all_take n xs i h.2)

pub all_at : (n : ℕ) (xs : List ℕ) (i : ℕ) → AllIn n xs → i < length xs → (0 < get_or xs i 0) × (get_or xs i 0 ≤ n)
all_at n [] i h l = absurd (omega arith)
all_at n (x ∷ xs) zero h l = (h.0, h.1)
all_at n (x ∷ xs) (suc i) h l = all_at n xs i h.2 (omega arith)

pub all_among : (n : ℕ) (xs : List ℕ) (k : ℕ) → AllIn n xs → among k xs ≡ true → (0 < k) × (k ≤ n)
all_among n [] k h m = not_both true refl (sym m)
all_among n (x ∷ xs) k h m =
    by_test (eqb x k)
    (λ e. let q : x ≡ k = eqb-true x k e in
    let p : (0 < x) × (x ≤ n) = (h.0, h.1) in
    rw q at p)
    (λ e. all_among n xs k h.2 (simp e at m))
