-- Laws of verdicts: checks that pass, how a loop over a row of them goes on, and how it ends.
use Rattle.std.proofs.Common.{nat_le, ℕ, zero, suc, ◌≡◌, ◌<◌, ◌+◌, ◌-◌, Bool, true, false, Result, Ok, Err, refl, add-one, add-zero, add-suc, arith}
use Rattle.std.specs.Result.{result_and}
use Rattle.std.proofs.lemmas.Bool.Decides.{nat_tests}
use Rattle.refusal.specs.Refusal.{Verdict, require, first_refused}
use Rattle.refusal.specs.declared.Refusal.{Refusal}
use Rattle.refusal.specs.declared.Check.{Check}
use Rattle.refusal.specs.declared.Place.{Place}

-- one check, and those below it
pub require_this : {A : Type 0} (b : Bool) (check : Check) (place : Place) (below : Result A Refusal) (value : A)
    → require b check place below ≡ Ok value → b ≡ true
require_this true check place below value e = refl
require_this false check place below value e = cc

pub require_below : {A : Type 0} (b : Bool) (check : Check) (place : Place) (below : Result A Refusal) (value : A)
    → require b check place below ≡ Ok value → below ≡ Ok value
require_below true check place below value e = e
require_below false check place below value e = cc

-- groups of checks that pass: the first, and those below it
pub group_passes : {A : Type 0} (v : Verdict) (below : Result A Refusal) (value : A) → result_and v below ≡ Ok value → v ≡ Ok tt
group_passes (Ok tt) below value e = refl
group_passes (Err r) below value e = cc

pub rest_passes : {A : Type 0} (v : Verdict) (below : Result A Refusal) (value : A) → result_and v below ≡ Ok value → below ≡ Ok value
rest_passes (Ok tt) below value e = e
rest_passes (Err r) below value e = cc

-- one check more, where those before it passed
pub refused_next : (row : ℕ → Verdict) (i : ℕ) (v : Verdict) → first_refused row i ≡ Ok tt → row i ≡ v → first_refused row (i + 1) ≡ v
refused_next row i v passed e = rw (add-one, passed) e

-- a refusal is that of every longer row
pub refused_stays : (row : ℕ → Verdict) (i k : ℕ) (r : Refusal) → first_refused row i ≡ Err r → first_refused row (i + k) ≡ Err r
refused_stays row i zero r e = simp (add-zero) e
refused_stays row i (suc k) r e = rw (add-suc, refused_stays row i k r e) refl

-- the first check that fails, after those that passed, is what the whole row gives
pub refused_at : (row : ℕ → Verdict) (i n : ℕ) (r : Refusal) → i < n → first_refused row i ≡ Ok tt → row i ≡ Err r → first_refused row n ≡ Err r
refused_at row i n r below passed e =
    let k = n - (i + 1) in
    let at_end : (i + 1) + k ≡ n = omega arith in
    rw (← at_end) (refused_stays row (i + 1) k r (refused_next row i _ passed e))

-- a row passes exactly where each of its checks does
pub row_passes : (row : ℕ → Verdict) (n : ℕ) → ((i : ℕ) → i < n → row i ≡ Ok tt) → first_refused row n ≡ Ok tt
row_passes row zero h = refl
row_passes row (suc n) h = rw (row_passes row n (λ i l. h i (omega arith))) (h n (omega arith))

pub each_passes : (row : ℕ → Verdict) (n : ℕ) → first_refused row n ≡ Ok tt → (i : ℕ) → i < n → row i ≡ Ok tt
each_passes row zero e i l = absurd (omega arith)
each_passes row (suc n) e i l = go (nat_le n i) refl (each_passes row n (group_passes (first_refused row n) (row n) tt e) i)
  where
    go : (b : Bool) → nat_le n i ≡ b → (i < n → row i ≡ Ok tt) → row i ≡ Ok tt
    go true f below = let q : i ≡ n = grind (arith, nat_tests) in rw q (rest_passes (first_refused row n) (row n) tt e)
    go false f below = below (grind (arith, nat_tests))

-- what every check of a row has, and a row that passes
pub row_has : (P : Verdict → Type 0) (row : ℕ → Verdict) (n : ℕ) → P (Ok tt) → ((i : ℕ) → i < n → P (row i)) → P (first_refused row n)
row_has P row zero h k = h
row_has P row (suc n) h k = go (first_refused row n) (row_has P row n h (λ i l. k i (omega arith)))
  where
    go : (v : Verdict) → P v → P (result_and v (row n))
    go (Ok tt) p = k n (omega arith)
    go (Err r) p = p
