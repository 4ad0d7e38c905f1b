-- The position of a number in a list, 0 where it is not there: for the walk, which stores the position of each slot, and for wires.
use Prim.Native.Nat.{ℕ, suc, ◌+◌, ◌≤◌}
use mathlib.Core.Path.{◌≡◌, refl, sym}
use mathlib.Core.List.{List, [], ◌∷◌, ◌++◌}
use mathlib.Core.Bool.{true, false, cond, not}
use native.Mathlib.Omega.{arith}
use native.Mathlib.Nat.{add-zero, add-suc, suc-add}
use borrow.Author.Tests.{eq-eqb, ne_eqb}
use lib.Dec.{eqb}
use lib.ListN.{length}
use Rattle.membership.specs.Membership.{among}
use Rattle.membership.proofs.Logic.{by_test, not_both}
use Rattle.table.specs.Chain.{position_from, position_of}

-- one more at the end
pub position_snoc : (p k : ℕ) (xs : List ℕ) (x : ℕ)
    → position_from p k (xs ++ (x ∷ [])) ≡ cond (among k xs) (position_from p k xs) (cond (eqb x k) (p + length xs) 0)
unfolding position_from
position_snoc p k [] x = simp (add-zero)
position_snoc p k (y ∷ ys) x = by_test (eqb y k) (λ e. simp e) (λ e. simp (e, position_snoc (suc p) k ys x, add-suc, suc-add))

-- the position is 0 exactly where the number is not there
pub position_zero : (p k : ℕ) (xs : List ℕ) → among k xs ≡ false → position_from p k xs ≡ 0
unfolding position_from
position_zero p k [] h = refl
position_zero p k (y ∷ ys) h = by_test (eqb y k) (λ e. not_both true refl (simp e at h)) (λ e. simp e (position_zero (suc p) k ys (simp e at h)))

pub position_some : (p k : ℕ) (xs : List ℕ) → among k xs ≡ true → p ≤ position_from p k xs
unfolding position_from
position_some p k [] h = not_both true refl (sym h)
position_some p k (y ∷ ys) h = by_test (eqb y k) (λ e. simp e (omega arith)) (λ e. simp e (omega (arith, position_some (suc p) k ys (simp e at h))))

pub position_test : (k : ℕ) (xs : List ℕ) → not (eqb (position_of k xs) 0) ≡ among k xs
position_test k xs =
    by_test (among k xs)
    (λ m. simp (m, ne_eqb (position_of k xs) 0 (λ z. omega (arith, position_some 1 k xs m))))
    (λ m. simp (m, eq-eqb (position_of k xs) 0 (position_zero 1 k xs m)))

pub position_bound : (p k : ℕ) (xs : List ℕ) → position_from (suc p) k xs ≤ p + length xs
unfolding position_from
position_bound p k [] = omega arith
position_bound p k (y ∷ ys) = by_test (eqb y k) (λ e. simp e (omega arith)) (λ e. simp e (omega (arith, position_bound (suc p) k ys)))
