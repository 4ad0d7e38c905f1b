-- The bounds of what is within a range, and membership in a list by its cases: for the header and the kinds of a table.
use mathlib.Core.Path.{◌≡◌, sym, refl}
use mathlib.Core.Bool.{true, false, or-true}
use mathlib.Core.List.{List, [], ◌∷◌}
use mathlib.Core.Logic.{inl, inr}
use Prim.Native.Nat.{ℕ, ◌≤◌}
use lib.Dec.{leb, eqb}
use borrow.Author.Tests.{ne_eqb, eq-eqb, leb-true}
use types.Run.{OneOf}
use Rattle.membership.specs.Membership.{within, among}
use Rattle.membership.proofs.Logic.{and_left, and_right}

-- a number within a range is neither below nor above it; std's lemmas name no law of is_in_range
pub within_bounds : (first last k : ℕ) → within first last k ≡ true → (first ≤ k) × (k ≤ last)
within_bounds first last k h =
    (leb-true first k (and_left (leb first k) (leb k last) h), leb-true k last (and_right (leb first k) (leb k last) h))

-- membership in a list by its cases: a number that is none of those listed is not among them, and one of them is
pub none_of : (ks : List ℕ) (k : ℕ) → (OneOf ks k → ⊥) → false ≡ among k ks
none_of [] k h = refl
none_of (m ∷ []) k h = rw (ne_eqb m k (λ e. h (sym e)))
none_of (m ∷ n ∷ ms) k h = rw (ne_eqb m k (λ e. h (inl (sym e)))) (none_of (n ∷ ms) k (λ o. h (inr o)))

pub some_of : (ks : List ℕ) (k : ℕ) → OneOf ks k → true ≡ among k ks
some_of [] k h = absurd h
some_of (m ∷ []) k h = rw (eq-eqb m k (sym h))
some_of (m ∷ n ∷ ms) k (inl e) = rw (eq-eqb m k (sym e))
some_of (m ∷ n ∷ ms) k (inr o) = rw (← some_of (n ∷ ms) k o) (sym (or-true (eqb m k)))
