-- Laws of the search for a tag: what the loop of lookup::tag_position keeps, and how its checks make find's answer. For the proofs of the
-- lookup module and for LookupLaws.
use Prim.Native.Nat.{ℕ, zero, suc, ◌+◌, ◌≤◌, ◌<◌}
use mathlib.Core.Path.{◌≡◌, refl, sym, ◌∙◌}
use mathlib.Core.List.{List, [], ◌∷◌}
use mathlib.Core.Bool.{true, false, cond}
use native.Mathlib.Omega.{arith}
use native.Mathlib.Numerals.{add-one}
use lib.ListN.{length, get_or, drop}
use lib.Seq.{drop-cons, drop-length}
use Rattle.image.specs.Image.{slot_bytes, tag_of}
use Rattle.table.specs.Tag.{tag_form, same_bytes}
use Rattle.table.specs.Chain.{chain_of}
use Rattle.table.specs.Check.{check_of}
use Rattle.table.specs.Lookup.{tag_position, some_position, found_at, tag_checks, find_of, show_of, slot_at}
use Rattle.std.specs.Prelude.{Some, None, Ok}
use Rattle.refusal.specs.Refusal.{refused}
use Rattle.refusal.specs.declared.Place.TheVariants.{Header}
use Rattle.refusal.specs.declared.Check.TheVariants.{UnknownTag}
use Rattle.membership.proofs.Logic.{by_test}
use Rattle.table.specs.Blocks.{blocks_of}
use Rattle.table.proofs.BlockLaws.{blocks_length}
use Rattle.table.proofs.AcceptedLaws.{accepted_count}

-- what the loop keeps: the search from i on is all that is left
pub record Searching (image tag : List ℕ) (i : ℕ) : Type 0 where
  pub within : i ≤ length (chain_of image)
  pub onward : tag_position image tag (i + 1) (drop i (chain_of image)) ≡ tag_position image tag 1 (chain_of image)

pub position_within : (image tag : List ℕ) (p : ℕ) (slots : List ℕ) → tag_position image tag (suc p) slots ≤ p + length slots
unfolding tag_position
position_within image tag p [] = omega arith
position_within image tag p (k ∷ slots) =
    by_test (same_bytes (tag_of image k) tag) (λ e. simp e (omega arith)) (λ e. simp e (omega (arith, position_within image tag (suc p) slots)))

module _ (image tag : List ℕ) (n i : ℕ) (ok : check_of image ≡ Ok n) (r : Searching image tag i) where
  position_at : i < n → tag_position image tag (i + 1) (drop i (chain_of image))
      ≡ cond (same_bytes (tag_of image (get_or (chain_of image) i 0)) tag) (i + 1) (tag_position image tag (i + 1 + 1) (drop (i + 1) (chain_of image)))
  unfolding tag_position
  position_at l =
      let h : i < length (chain_of image) = omega (arith, accepted_count image n ok) in
      simp (add-one, drop-cons (chain_of image) i 0 h)

  pub searching_found : i < n → same_bytes (tag_of image (get_or (chain_of image) i 0)) tag ≡ true → Some (i + 1) ≡ some_position (tag_position image tag 1 (chain_of image))
  searching_found l q =
      let e : i + 1 ≡ tag_position image tag 1 (chain_of image) = sym (position_at l ∙ simp q) ∙ r.onward in
      rw (← e, add-one)

  pub searching_on : i < n → same_bytes (tag_of image (get_or (chain_of image) i 0)) tag ≡ false → Searching image tag (i + 1)
  searching_on l q = record { within = omega (arith, accepted_count image n ok); onward = sym (position_at l ∙ simp q) ∙ r.onward }

  pub searching_end : n ≤ i → None ≡ some_position (tag_position image tag 1 (chain_of image))
  unfolding tag_position
  searching_end l =
      let z : i ≡ length (chain_of image) = omega (arith, r.within, accepted_count image n ok) in
      let o : tag_position image tag (i + 1) (drop i (chain_of image)) ≡ 0 = rw (z, drop-length) in
      let e : 0 ≡ tag_position image tag 1 (chain_of image) = sym o ∙ r.onward in
      rw (← e)

-- check 51, and a tag that was found
module _ (image tag : List ℕ) where
  pub tag_51 : (p : ℕ) → tag_form tag ≡ true → p ≡ tag_position image tag 1 (chain_of image) → p ≡ 0 → refused UnknownTag Header ≡ tag_checks image tag
  tag_51 p f g z = simp (f, sym g ∙ z)

  some_found : (p : ℕ) → 0 < p → Ok p ≡ found_at p
  some_found zero h = absurd (omega arith)
  some_found (suc p) h = refl

  pub tag_at : (p : ℕ) → tag_form tag ≡ true → p ≡ tag_position image tag 1 (chain_of image) → (p ≡ 0 → ⊥) → Ok p ≡ tag_checks image tag
  tag_at p f g z = simp (f, sym g) (some_found p (omega arith))

  -- find, by the table's checks
  pub find_checks : (n : ℕ) → check_of image ≡ Ok n → tag_checks image tag ≡ find_of image tag
  unfolding find_of
  find_checks n e = simp e

-- a position that is answered is one of a block
pub found_within : (image tag : List ℕ) (p : ℕ) → tag_checks image tag ≡ Ok p → (0 < p) × (p ≤ length (blocks_of image))
found_within image tag p e =
    by_test (tag_form tag)
    (λ f. let g : found_at (tag_position image tag 1 (chain_of image)) ≡ Ok p = simp f at e in go (tag_position image tag 1 (chain_of image)) refl g)
    (λ f. let z = simp f at e in cc)
  where
    go : (q : ℕ) → tag_position image tag 1 (chain_of image) ≡ q → found_at q ≡ Ok p → (0 < p) × (p ≤ length (blocks_of image))
    go zero d g = cc
    go (suc q) d g =
        let h : suc q ≡ p = cc in
        (omega arith, omega (arith, position_within image tag 0 (chain_of image), blocks_length image (chain_of image) (chain_of image)))

-- show, by what find answers
pub show_some : (image tag : List ℕ) (p slot : ℕ) → find_of image tag ≡ Ok p → slot ≡ slot_at image p → slot_bytes image slot ≡ show_of image tag
unfolding show_of
show_some image tag p slot e f = simp (e, f)
