-- Reasoning by the value of a test, and the parts of a conjunction of tests: for the laws of kinds, tables, blocks and layouts.
use mathlib.Core.Path.{◌≡◌, refl, sym, ◌∙◌}
use mathlib.Core.Bool.{Bool, true, false, ◌&&◌, true≢false, and-eq-true_iff}

-- the two ways of a test; std's cases_Bool gives a sum, to be taken apart by ⊎_elim: each use would be longer
pub by_test {ℓ} : {P : Type ℓ} (b : Bool) → (b ≡ true → P) → (b ≡ false → P) → P
by_test true f g = f refl
by_test false f g = g refl

-- a test is not both; std's both_ways gives ⊥, and takes the false way first: each use would be longer by an absurd
pub not_both {ℓ} : {P : Type ℓ} (b : Bool) → b ≡ true → b ≡ false → P
not_both b p q = absurd (true≢false (sym p ∙ q))

-- two tests of which each gives the other
pub same : (a b : Bool) → (a ≡ true → b ≡ true) → (b ≡ true → a ≡ true) → a ≡ b
same true b f g = sym (f refl)
same false true f g = g refl
same false false f g = refl

-- the two parts of a conjunction, each by its name; std's and_parts gives the pair, of which each use would pick one by `.0` or `.1`
pub and_left : (a b : Bool) → a && b ≡ true → a ≡ true
and_left a b h = ((and-eq-true_iff a b).0 h).0

pub and_right : (a b : Bool) → a && b ≡ true → b ≡ true
and_right a b h = ((and-eq-true_iff a b).0 h).1
