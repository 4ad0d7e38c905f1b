-- The computed walk is the walk of the rules: the theorem that specs/Walk.antt states. `walk_rule` is the walk's rule without
-- the number of slots that are left, and its four cases are what the loop of `chain::walk` follows. The laws of `unmet` are for ChainLaws too.
use Prim.Native.Nat.{ℕ, zero, suc, ◌≤◌, ◌<◌}
use mathlib.Core.Path.{◌≡◌, refl, ap, sym, ◌∙◌, subst}
use mathlib.Core.List.{List, [], ◌∷◌, ◌++◌}
use mathlib.Core.Bool.{true, false}
use native.Mathlib.Omega.{arith}
use borrow.Author.Tests.{lt-ltb, le-ltb, eq-eqb, ne_eqb, eqb-true, eqb-false, ltb-true, ltb-false}
use lib.Dec.{ltb, eqb}
use Rattle.membership.specs.Membership.{among}
use Rattle.image.specs.Image.{slot_count, head_slot, next_of}
use Rattle.table.specs.Walk.{Walked, Met, Stopped, Walk, ends, above, again, onward, at_link, unmet, walk_in, walk_from, walked, WalkByRules}
use Rattle.refusal.specs.declared.Place.{Place}
use Rattle.refusal.specs.declared.Place.TheVariants.{Header, Slot}
use Rattle.refusal.specs.declared.Check.TheVariants.{LinkAbove, LinkAgain}
use Rattle.membership.proofs.Logic.{by_test}
use Rattle.membership.proofs.AmongLaws.{among_snoc}

-- how many slots are not met: all at first,
pub unmet_nil : (n : ℕ) → unmet n [] ≡ n
unfolding unmet
unmet_nil zero = refl
unmet_nil (suc n) = ap suc (unmet_nil n)

-- as many after one past n,
unmet_past : (n : ℕ) (met : List ℕ) (at : ℕ) → n < at → unmet n (met ++ (at ∷ [])) ≡ unmet n met
unfolding unmet
unmet_past zero met at h = refl
unmet_past (suc n) met at h =
    simp (among_snoc, ne_eqb at (suc n) (omega arith), unmet_past n met at (omega arith))
    (by_test (among (suc n) met) (λ e. simp e) (λ e. simp e))

-- one less after one of 1 to n that was not met
pub unmet_more : (n : ℕ) (met : List ℕ) (at : ℕ) → 0 < at → at ≤ n → among at met ≡ false → suc (unmet n (met ++ (at ∷ []))) ≡ unmet n met
unfolding unmet
unmet_more zero met at p h m = absurd (omega arith)
unmet_more (suc n) met at p h m =
    by_test (eqb at (suc n))
    (λ e. let q : at ≡ suc n = eqb-true at (suc n) e in
    let m' : among (suc n) met ≡ false = rw q at m in
    simp (among_snoc, e, m', unmet_past n met at (omega arith)))
    (λ e. let i : at ≤ n = omega (arith, eqb-false at (suc n) e) in
    by_test (among (suc n) met)
    (λ f. simp (among_snoc, f, unmet_more n met at p i m))
    (λ f. simp (among_snoc, f, e, unmet_more n met at p i m)))

-- where none is left, all of 1 to n are met
pub unmet_none : (n : ℕ) (met : List ℕ) → unmet n met ≡ 0 → (slot : ℕ) → 0 < slot → slot ≤ n → among slot met ≡ true
unfolding unmet
unmet_none zero met e slot p h = absurd (omega arith)
unmet_none (suc n) met e slot p h =
    by_test (among (suc n) met)
    (λ m. by_test (eqb slot (suc n))
    (λ q. let s : slot ≡ suc n = eqb-true slot (suc n) q in rw s m)
    (λ q. unmet_none n met (simp m at e) slot p (omega (arith, eqb-false slot (suc n) q))))
    (λ m. let z : suc (unmet n met) ≡ 0 = simp m at e in absurd (omega arith))

-- where it does not matter what comes of going on, it does not matter how many slots are left
walk_halts : (left : ℕ) (image met : List ℕ) (from : Place) (at : ℕ) (end : Walked) → ((later : Walked) → at_link image met from at later ≡ end)
    → walk_in left image met from at ≡ end
unfolding walk_in
walk_halts zero image met from at end h = h _
walk_halts (suc left) image met from at end h = h _

walk_rule : (image met : List ℕ) (from : Place) (at : ℕ)
    → walk_from image met from at ≡ at_link image met from at (walk_from image (met ++ (at ∷ [])) (Slot at) (next_of image at))
unfolding walk_in
walk_rule image met from at = go (unmet (slot_count image) met) refl
  where
    go : (left : ℕ) → unmet (slot_count image) met ≡ left
        → walk_in left image met from at ≡ at_link image met from at (walk_from image (met ++ (at ∷ [])) (Slot at) (next_of image at))
    go left e =
        by_test (eqb at 0) (λ z. walk_halts left image met from at _ (λ later. simp z))
        (λ z. by_test (ltb (slot_count image) at) (λ h. walk_halts left image met from at _ (λ later. simp (z, h)))
        (λ h. by_test (among at met) (λ m. walk_halts left image met from at _ (λ later. simp (z, h, m)))
        (λ m. on left (unmet_more (slot_count image) met at (omega (arith, eqb-false at 0 z)) (ltb-false _ _ h) m ∙ e) z h m)))
      where
        on : (left : ℕ) → suc (unmet (slot_count image) (met ++ (at ∷ []))) ≡ left → eqb at 0 ≡ false → ltb (slot_count image) at ≡ false → among at met ≡ false
            → walk_in left image met from at ≡ at_link image met from at (walk_from image (met ++ (at ∷ [])) (Slot at) (next_of image at))
        on zero e z h m = absurd (omega arith)
        on (suc r) e z h m = let q : r ≡ unmet (slot_count image) (met ++ (at ∷ [])) = omega arith in simp (z, h, m, q)

module _ (image met : List ℕ) (from : Place) (at : ℕ) where
  pub walk_ends : at ≡ 0 → walk_from image met from at ≡ Met met
  walk_ends z = walk_rule image met from at ∙ simp (eq-eqb _ _ z)

  pub walk_above : slot_count image < at → walk_from image met from at ≡ Stopped LinkAbove from
  walk_above h = walk_rule image met from at ∙ simp (ne_eqb at 0 (λ z. omega arith), lt-ltb _ _ h)

  pub walk_again : 0 < at → at ≤ slot_count image → among at met ≡ true → walk_from image met from at ≡ Stopped LinkAgain from
  walk_again z h m = walk_rule image met from at ∙ simp (ne_eqb at 0 (λ q. omega arith), le-ltb _ _ h, m)

  pub walk_onward : 0 < at → at ≤ slot_count image → among at met ≡ false
      → walk_from image met from at ≡ walk_from image (met ++ (at ∷ [])) (Slot at) (next_of image at)
  walk_onward z h m = walk_rule image met from at ∙ simp (ne_eqb at 0 (λ q. omega arith), le-ltb _ _ h, m)

-- the rules have no other end than the computed one
only_end : {image met : List ℕ} {from : Place} {at : ℕ} {end : Walked} → Walk image met from at end → end ≡ walk_from image met from at
only_end {image} (ends {met = m} {from = f} {at = a} z) = sym (walk_ends image m f a z)
only_end {image} (above {met = m} {from = f} {at = a} h) = sym (walk_above image m f a h)
only_end {image} (again {met = m} {from = f} {at = a} z h e) = sym (walk_again image m f a z h e)
only_end {image} (onward {met = m} {from = f} {at = a} z h e w) = only_end w ∙ sym (walk_onward image m f a z h e)

-- and the computed one is an end of the rules
one_link : (image met : List ℕ) (from : Place) (at : ℕ)
    → (0 < at → at ≤ slot_count image → among at met ≡ false
    → Walk image (met ++ (at ∷ [])) (Slot at) (next_of image at) (walk_from image (met ++ (at ∷ [])) (Slot at) (next_of image at)))
    → Walk image met from at (walk_from image met from at)
one_link image met from at later =
    by_test (eqb at 0)
    (λ z. let q = eqb-true at 0 z in subst (λ (w : Walked). Walk image met from at w) (sym (walk_ends image met from at q)) (ends q))
    (λ z. let n : 0 < at = omega (arith, eqb-false at 0 z) in by_test (ltb (slot_count image) at)
    (λ g. let q = ltb-true (slot_count image) at g in subst (λ (w : Walked). Walk image met from at w) (sym (walk_above image met from at q)) (above q))
    (λ g. let q = ltb-false (slot_count image) at g in by_test (among at met)
    (λ m. subst (λ (w : Walked). Walk image met from at w) (sym (walk_again image met from at n q m)) (again n q m))
    (λ m. subst (λ (w : Walked). Walk image met from at w) (sym (walk_onward image met from at n q m)) (onward n q m (later n q m)))))

walks_in : (left : ℕ) (image met : List ℕ) (from : Place) (at : ℕ) → unmet (slot_count image) met ≡ left → Walk image met from at (walk_from image met from at)
walks_in zero image met from at e =
    one_link image met from at (λ n q m. absurd (omega (arith, unmet_more (slot_count image) met at n q m)))
walks_in (suc left) image met from at e =
    one_link image met from at
    (λ n q m. walks_in left image (met ++ (at ∷ [])) (Slot at) (next_of image at) (omega (arith, unmet_more (slot_count image) met at n q m)))

pub walk_by_rules : (image : List ℕ) → WalkByRules image
unfolding walked
walk_by_rules image = record {
  walks = walks_in (unmet (slot_count image) []) image [] Header (head_slot image) refl;
  only = λ end w. only_end w;
}
