-- A buffer of entries of one size that is written entry by entry, from the first on: for the state and the report of a scan.
use Prim.Native.Nat.{ℕ, zero, suc, ◌+◌, ◌*◌, ◌≤◌, ◌<◌}
use native.Mathlib.Nat.{mul-suc}
use native.Mathlib.Decide.{ℕ_discrete}
use native.Mathlib.Omega.{arith}
use mathlib.Core.List.{List}
use mathlib.Core.Path.{◌≡◌, refl, ap, ◌∙◌}
use lib.ListN.{length}
use Rattle.layout.specs.Buffer.{part, put}
use Rattle.layout.proofs.BufferLaws.{put_length, part_same, part_other}

-- entry i is written with v i; s n is the buffer after the first n
module _ (size : ℕ) (v s : ℕ → List ℕ) (full : (i : ℕ) → length (v i) ≡ size) (next : (i : ℕ) → s (suc i) ≡ put (size * i) (v i) (s i)) where
  pub grid_length : (n : ℕ) → size * n ≤ length (s 0) → length (s n) ≡ length (s 0)
  grid_length zero h = refl
  grid_length (suc n) h =
      let g = grid_length n (omega (arith, mul-suc size n)) in
      ap length (next n) ∙ put_length (size * n) (v n) (s n) (omega (arith, mul-suc size n, full n)) ∙ g

  -- the entries from the n-th on are those from before
  pub grid_later : (n j : ℕ) → size * n ≤ length (s 0) → n ≤ j → part size j (s n) ≡ part size j (s 0)
  grid_later zero j h l = refl
  grid_later (suc n) j h l =
      let g = grid_length n (omega (arith, mul-suc size n)) in
      ap (part size j) (next n)
      ∙ part_other size n (v n) (s n) (full n) (omega (arith, mul-suc size n)) j (omega arith)
      ∙ grid_later n j (omega (arith, mul-suc size n)) (omega arith)

  -- those before it are as written
  pub grid_earlier : (n j : ℕ) → size * n ≤ length (s 0) → j < n → part size j (s n) ≡ v j
  grid_earlier zero j h l = absurd (omega arith)
  grid_earlier (suc n) j h l = go (ℕ_discrete j n) (λ m. grid_earlier n j (omega (arith, mul-suc size n)) m)
    where
      fits : size * n + size ≤ length (s n)
      fits = omega (arith, mul-suc size n, grid_length n (omega (arith, mul-suc size n)))

      go : Dec (j ≡ n) → (j < n → part size j (s n) ≡ v j) → part size j (s (suc n)) ≡ v j
      go (yes e) ih = rw (e, next n) (part_same size n (v n) (s n) (full n) fits)
      go (no m) ih = ap (part size j) (next n) ∙ part_other size n (v n) (s n) (full n) fits j m ∙ ih (omega arith)
