-- Numbers in order, each one more than the one before: the chain of a table whose blocks stand in slots 1, 2, 3 and on. For EncodedTable and WireLaws.
use Prim.Native.Nat.{ℕ, zero, suc, ◌+◌, ◌≤◌, ◌<◌}
use mathlib.Core.Path.{◌≡◌}
use mathlib.Core.Bool.{true}
use native.Mathlib.Omega.{arith}
use native.Mathlib.Numerals.{add-one}
use borrow.Author.Tests.{eqb-true, eqb-false}
use lib.Dec.{eqb}
use Rattle.std.specs.List.{range_with_len}
use Rattle.membership.specs.Membership.{among}
use Rattle.membership.proofs.Logic.{by_test}
use Rattle.table.specs.Chain.{position_from}

-- a number that they reach is one of them; where the positions count from k too, each has itself for its position
pub count_among : (k n j : ℕ) → k ≤ j → j < k + n → among j (range_with_len k n) ≡ true
count_among k zero j a b = absurd (omega arith)
count_among k (suc n) j a b = by_test (eqb k j) (λ e. simp e) (λ e. simp e (count_among (k + 1) n j (omega (arith, eqb-false k j e)) (omega arith)))

pub count_position : (k n j : ℕ) → k ≤ j → j < k + n → position_from k j (range_with_len k n) ≡ j
unfolding position_from
count_position k zero j a b = absurd (omega arith)
count_position k (suc n) j a b =
    by_test (eqb k j) (λ e. simp e (eqb-true k j e)) (λ e. simp (e, add-one) (count_position (suc k) n j (omega (arith, eqb-false k j e)) (omega arith)))
