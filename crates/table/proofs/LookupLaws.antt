-- What find's answers mean, for whoever relies on them: the statements are in specs/Lookup.antt. A position is found exactly where the table is
-- accepted, the tag is in form and the block there has its eight bytes; there is one such position at most; 51 is answered exactly where no
-- block has the tag; show hands back sixteen bytes that end with the tag.
use Prim.Native.Nat.{ℕ, zero, suc, ◌+◌, ◌-◌, ◌≤◌, ◌<◌}
use mathlib.Core.Path.{◌≡◌, refl, ap, sym, ◌∙◌, subst}
use mathlib.Core.List.{List, [], ◌∷◌}
use mathlib.Core.Bool.{true}
use native.Mathlib.Omega.{arith}
use borrow.Author.Tests.{eqb-true, eqb-false}
use lib.Dec.{eqb}
use lib.ListN.{length, get_or, take, drop, length-drop}
use lib.Seq.{take-add, drop_at, drop-drop, length-take-le}
use Rattle.std.specs.Prelude.{Result, Ok, Err}
use Rattle.std.specs.Result.{result_and}
use Rattle.refusal.specs.Refusal.{check_number, place_number}
use Rattle.refusal.specs.declared.Refusal.{Refusal}
use Rattle.image.specs.Image.{slot_length, slot_count, slot_start, slot_bytes, tag_offset, tag_length, tag_of, HasSlot}
use Rattle.table.specs.Tag.{tag_form, same_bytes}
use Rattle.table.specs.Chain.{chain_of}
use Rattle.table.specs.Check.{check_of}
use Rattle.table.specs.Lookup.{
  tag_position,
  found_at,
  tag_checks,
  find_of,
  slot_at,
  HasTag,
  FoundBlock,
  NoSuchTag,
  FoundMeans,
  FoundWhen,
  FoundOnce,
  NoTagMeans,
  NoTagWhen,
  ShownPart,
  ShowsTag,
}
use Rattle.table.specs.Blocks.{block_in, blocks_of, block_at}
use Rattle.membership.proofs.Logic.{by_test, not_both}
use Rattle.table.proofs.TagLaws.{same_equal, same_self}
use Rattle.table.proofs.AcceptedLaws.{accepted_count, accepted_has_slot, accepted_block, accepted_tags}
use Rattle.table.proofs.AnswerLaws.{refusal_bounds}
use Rattle.table.proofs.SearchLaws.{tag_at, tag_51, find_checks, show_some}

module _ (image tag : List ℕ) where
  -- a position that is found is not below the first
  position_least : (p : ℕ) (slots : List ℕ) → (tag_position image tag p slots ≡ 0 → ⊥) → p ≤ tag_position image tag p slots
  unfolding tag_position
  position_least p [] h = absurd (h refl)
  position_least p (k ∷ slots) h =
      by_test (same_bytes (tag_of image k) tag) (λ s. simp s (omega arith))
      (λ s. simp s (omega (arith, position_least (suc p) slots (simp s at h))))

  -- the slot at the position has the tag
  pub position_has : (p : ℕ) (slots : List ℕ) → 0 < p → (i : ℕ) → tag_position image tag p slots ≡ p + i → (i < length slots) × (tag_of image (get_or slots i 0) ≡ tag)
  unfolding tag_position
  position_has p [] h i e = absurd (omega arith)
  position_has p (k ∷ slots) h zero e =
      by_test (same_bytes (tag_of image k) tag) (λ s. (omega arith, same_equal (tag_of image k) tag s))
      (λ s. let r : tag_position image tag (suc p) slots ≡ p + 0 = simp s at e in
      absurd (omega (arith, position_least (suc p) slots (λ z. omega arith))))
  position_has p (k ∷ slots) h (suc i) e =
      by_test (same_bytes (tag_of image k) tag) (λ s. absurd (omega (arith, simp s at e)))
      (λ s. let r : tag_position image tag (suc p) slots ≡ p + suc i = simp s at e in
      let q = position_has (suc p) slots (omega arith) i (omega arith) in
      (omega (arith, q.0), q.1))

  -- where none is found no slot has it
  pub position_none : (p : ℕ) (slots : List ℕ) → 0 < p → tag_position image tag p slots ≡ 0 → (i : ℕ) → i < length slots → tag_of image (get_or slots i 0) ≡ tag → ⊥
  unfolding tag_position
  position_none p [] h e i l q = omega arith
  position_none p (k ∷ slots) h e zero l q =
      by_test (same_bytes (tag_of image k) tag) (λ s. omega (arith, simp s at e))
      (λ s. not_both (same_bytes tag tag) (same_self tag) (rw q at s))
  position_none p (k ∷ slots) h e (suc i) l q =
      by_test (same_bytes (tag_of image k) tag) (λ s. omega (arith, simp s at e))
      (λ s. position_none (suc p) slots (omega arith) (simp s at e) i (omega arith) q)

  -- the block at an index of an accepted table has its slot's tag
  pub block_tag : (n i : ℕ) → check_of image ≡ Ok n → i < n → (block_at (blocks_of image) i).tag ≡ tag_of image (get_or (chain_of image) i 0)
  unfolding block_in
  block_tag n i ok l = rw (accepted_block image n ok i l)

  -- the position that the search gives, and a block that has the tag
  searched : (n p : ℕ) → check_of image ≡ Ok n → 0 < p → tag_position image tag 1 (chain_of image) ≡ p → HasTag image tag n p
  searched n p ok h e =
      let r = position_has 1 (chain_of image) (omega arith) (p - 1) (let z : tag_position image tag 1 (chain_of image) ≡ 1 + (p - 1) = omega arith in z) in
      let l : p - 1 < n = omega (arith, r.0, accepted_count image n ok) in
      record { first = h; last = omega arith; same = block_tag n (p - 1) ok l ∙ r.1 }

  pub has_once : (n p q : ℕ) → check_of image ≡ Ok n → HasTag image tag n p → HasTag image tag n q → p ≡ q
  has_once n p q ok a b =
      let i : p - 1 < n = omega (arith, a.first, a.last) in
      let j : q - 1 < n = omega (arith, b.first, b.last) in
      omega (arith, accepted_tags image n ok (p - 1) (q - 1) i j (a.same ∙ sym b.same), a.first, b.first)

  none_found : (n p : ℕ) → check_of image ≡ Ok n → tag_position image tag 1 (chain_of image) ≡ 0 → HasTag image tag n p → ⊥
  none_found n p ok e a =
      let l : p - 1 < n = omega (arith, a.first, a.last) in
      position_none 1 (chain_of image) (omega arith) e (p - 1) (omega (arith, accepted_count image n ok)) (sym (block_tag n (p - 1) ok l) ∙ a.same)

  -- what each answer means
  abbrev Means : Result ℕ Refusal → Type 0
  Means (Ok p) = FoundBlock image tag p
  Means (Err r) = (check_number r.check ≡ 51 → NoSuchTag image tag)

  means_checks : (n : ℕ) → check_of image ≡ Ok n → Means (tag_checks image tag)
  means_checks n ok =
      by_test (tag_form tag)
      (λ f. simp f (means_position (tag_position image tag 1 (chain_of image)) refl f))
      (λ f. simp f (λ e. absurd (omega arith)))
    where
      means_position : (p : ℕ) → tag_position image tag 1 (chain_of image) ≡ p → tag_form tag ≡ true → Means (found_at p)
      means_position zero e f = λ q. record { blocks = n; answer = ok; form = f; none = λ p. none_found n p ok e }
      means_position (suc p) e f = record { blocks = n; answer = ok; form = f; has = searched n (suc p) ok (omega arith) e }

  means_after : (answer : Result ℕ Refusal) → check_of image ≡ answer → Means (result_and answer (tag_checks image tag))
  means_after (Ok n) e = means_checks n e
  means_after (Err r) e = λ q. absurd (omega (arith, refusal_bounds image r e))

  means : Means (find_of image tag)
  unfolding find_of
  means = means_after (check_of image) refl

  -- the bounds of a refusal
  abbrev Bounds : Result ℕ Refusal → Type 0
  Bounds (Ok p) = Unit {0}
  Bounds (Err r) = (1 ≤ check_number r.check) × (check_number r.check ≤ 51) × (place_number r.place ≤ slot_count image)

  bounds_checks : Bounds (tag_checks image tag)
  bounds_checks =
      by_test (tag_form tag) (λ f. simp f (bounds_position (tag_position image tag 1 (chain_of image)))) (λ f. simp f (omega arith, omega arith, omega arith))
    where
      bounds_position : (p : ℕ) → Bounds (found_at p)
      bounds_position zero = (omega arith, omega arith, omega arith)
      bounds_position (suc p) = tt

  bounds_after : (answer : Result ℕ Refusal) → check_of image ≡ answer → Bounds (result_and answer (tag_checks image tag))
  bounds_after (Ok n) e = bounds_checks
  bounds_after (Err r) e = omega (arith, refusal_bounds image r e)

  pub find_bounds : (r : Refusal) → find_of image tag ≡ Err r → (1 ≤ check_number r.check) × (check_number r.check ≤ 51) × (place_number r.place ≤ slot_count image)
  unfolding find_of
  find_bounds r e = subst (λ (f : Result ℕ Refusal). Bounds f) e (bounds_after (check_of image) refl)

pub found_means : FoundMeans
found_means image tag p e = subst (λ (f : Result ℕ Refusal). Means image tag f) e (means image tag)

pub found_when : FoundWhen
found_when image tag p f =
    let n = f.blocks in
    by_test (eqb (tag_position image tag 1 (chain_of image)) 0)
    (λ z. absurd (none_found image tag n p f.answer (eqb-true _ _ z) f.has))
    (λ z. let m : (tag_position image tag 1 (chain_of image) ≡ 0 → ⊥) = eqb-false _ _ z in
    let h = searched image tag n (tag_position image tag 1 (chain_of image)) f.answer (omega arith) refl in
    sym (tag_at image tag (tag_position image tag 1 (chain_of image)) f.form refl m ∙ find_checks image tag n f.answer)
    ∙ ap Ok (has_once image tag n (tag_position image tag 1 (chain_of image)) p f.answer h f.has))

pub found_once : FoundOnce
found_once image tag p q f g =
    let e : ◌≡◌ {A = Result ℕ Refusal} (Ok p) (Ok q) = sym (found_when image tag p f) ∙ found_when image tag q g in
    cc

pub no_tag_means : NoTagMeans
no_tag_means image tag e = subst (λ (f : Result ℕ Refusal). Means image tag f) e (means image tag) refl

pub no_tag_when : NoTagWhen
no_tag_when image tag f =
    let n = f.blocks in
    by_test (eqb (tag_position image tag 1 (chain_of image)) 0)
    (λ z. sym (tag_51 image tag (tag_position image tag 1 (chain_of image)) f.form refl (eqb-true _ _ z) ∙ find_checks image tag n f.answer))
    (λ z. let m : (tag_position image tag 1 (chain_of image) ≡ 0 → ⊥) = eqb-false _ _ z in
    absurd (f.none (tag_position image tag 1 (chain_of image)) (searched image tag n (tag_position image tag 1 (chain_of image)) f.answer (omega arith) refl)))

-- the second half of a slot is its tag
slot_tag : (image : List ℕ) (slot : ℕ) → HasSlot image slot → drop tag_offset (slot_bytes image slot) ≡ tag_of image slot
slot_tag image slot h =
    let own = drop (slot_start slot) image in
    ap (drop tag_offset) (take-add tag_offset tag_length own)
    ∙ (drop_at (take tag_offset own) (take tag_length (drop tag_offset own)) tag_offset (length-take-le tag_offset own (rw length-drop (omega arith)))
    ∙ ap (take tag_length) (drop-drop tag_offset (slot_start slot) image))

pub shown_part : ShowsTag
shown_part image tag p e =
    let f = found_means image tag p e in
    let n = f.blocks in
    let slot = slot_at image p in
    let i : p - 1 < n = omega (arith, f.has.first, f.has.last) in
    let h : HasSlot image slot = accepted_has_slot image n f.answer (p - 1) i in
    let l : length (slot_bytes image slot) ≡ slot_length = length-take-le slot_length (drop (slot_start slot) image) (rw length-drop (omega arith)) in
    let t : drop tag_offset (slot_bytes image slot) ≡ tag = slot_tag image slot h ∙ (sym (block_tag image tag n (p - 1) f.answer i) ∙ f.has.same) in
    subst (ShownPart tag) (show_some image tag p slot e refl) (record { sized = l; tagged = t })
