-- Laws of the chain: what the loop of chain::walk keeps, and what every chain has (slots of 1 to N, none twice). For the proofs of
-- the chain, record, spare and lookup modules, and for AcceptedLaws.
use Prim.Native.Nat.{ℕ, zero, suc, ◌+◌, ◌≤◌, ◌<◌}
use mathlib.Core.Path.{◌≡◌, refl, ap, sym, ◌∙◌, subst}
use mathlib.Core.List.{List, [], ◌∷◌, ◌++◌}
use mathlib.Core.Bool.{Bool, true, false, not}
use native.Mathlib.Omega.{arith}
use native.Mathlib.Numerals.{add-one}
use borrow.Author.Tests.{eq-eqb, eqb-true, eqb-false, ltb-true, ltb-false}
use lib.Dec.{ltb, eqb}
use lib.ListN.{length, get_or, take, set, replicate, length-append, length-set, get_or-append}
use lib.Seq.{take-suc-set, get_or-set_same, get_or-set_other, get_or-take, get_or-append_seam, length-take-le}
use Rattle.membership.specs.Membership.{among}
use Rattle.image.specs.Image.{most_slots, slot_count, head_slot, next_of, HasSlot}
use Rattle.table.specs.Header.{HeaderOk}
use Rattle.table.specs.Walk.{Met, Stopped, unmet, walk_in, walk_from, walked}
use Rattle.table.specs.Chain.{slots_of, chain_of, chain_verdict, position_from, position_of, HoldsPositions, Holds}
use Rattle.refusal.specs.declared.Place.{Place}
use Rattle.refusal.specs.declared.Place.TheVariants.{Header, Slot}
use Rattle.refusal.specs.declared.Check.TheVariants.{LinkAbove, LinkAgain}
use Rattle.table.specs.declared.chain.Chain.{Chain}
use Rattle.std.specs.Prelude.{Ok}
use Rattle.membership.proofs.Logic.{by_test}
use Rattle.membership.proofs.AmongLaws.{among_at, AllIn, all_snoc, all_at}
use Rattle.table.proofs.PositionLaws.{position_snoc, position_zero, position_some, position_test}
use Rattle.table.proofs.Walk.{unmet_nil, unmet_more, unmet_none, walk_ends, walk_above, walk_again, walk_onward}

-- std's get_or-replicate asks that k < n; here k is any number, and past the end the default is read
zero_at_lem : (n k : ℕ) → get_or {A = ℕ} (replicate n 0) k 0 ≡ 0
zero_at_lem zero k = refl
zero_at_lem (suc n) zero = refl
zero_at_lem (suc n) (suc k) = zero_at_lem n k

-- positions of no slots, for a walk to begin with
pub no_slots : HoldsPositions [] (replicate (most_slots + 1) 0)
unfolding position_from
no_slots = record { sized = refl; placed = λ k. zero_at_lem (most_slots + 1) k }

-- the code's test of a slot is the chain's
pub on_chain_is : (chain positions : List ℕ) (slot : ℕ) (b : Bool) → HoldsPositions chain positions
    → b ≡ not (eqb (get_or positions slot 0) 0) → b ≡ among slot chain
on_chain_is chain positions slot b p e =
    let q : get_or positions slot 0 ≡ position_of slot chain = p.placed slot in
    e ∙ (rw q (position_test slot chain))

-- one slot more in the positions
store_position : (met positions : List ℕ) (at count : ℕ) → HoldsPositions met positions → among at met ≡ false → length met ≡ count → at ≤ most_slots
    → HoldsPositions (met ++ (at ∷ [])) (set positions at (count + 1))
store_position met positions at count p u e l = record {
  sized = simp length-set p.sized;
  placed = λ k. by_test (eqb at k)
      (λ q. let i : at ≡ k = eqb-true at k q in
      let v : among k met ≡ false = rw i at u in
      let g : get_or (set positions at (count + 1)) k 0 ≡ count + 1 = rw (← i) (get_or-set_same positions at (count + 1) 0 (omega (arith, p.sized))) in
      let n : count + 1 ≡ 1 + length met = omega arith in
      g ∙ (n ∙ sym (position_snoc 1 k met at ∙ simp (v, q))))
      (λ q. get_or-set_other positions at k (count + 1) 0 (λ i. eqb-false at k q (sym i)) ∙ (p.placed k
      ∙ by_test (among k met)
      (λ m. sym (position_snoc 1 k met at ∙ simp m))
      (λ m. position_zero 1 k met m ∙ sym (position_snoc 1 k met at ∙ simp (m, q)))));
}

-- what the loop of chain::walk keeps: the walk from the slots met so far is the whole walk
pub record Walking (image slots positions : List ℕ) (count : ℕ) (from : Place) (at : ℕ) : Type 0 where
  pub sized : length slots ≡ most_slots
  pub byte : at < 256
  pub few : count ≤ most_slots
  pub room : count + unmet (slot_count image) (take count slots) ≡ slot_count image
  pub places : HoldsPositions (take count slots) positions
  pub onward : walk_from image (take count slots) from at ≡ walked image

pub walking_start : (image slots positions : List ℕ) → length slots ≡ most_slots → HoldsPositions [] positions → head_slot image < 256
    → Walking image slots positions 0 Header (head_slot image)
unfolding walked
walking_start image slots positions e f h = record {
  sized = e;
  byte = h;
  few = omega arith;
  room = omega (arith, unmet_nil (slot_count image));
  places = f;
  onward = refl;
}

module _ (image slots positions : List ℕ) (count : ℕ) (from : Place) (at : ℕ) (hd : HeaderOk image) (w : Walking image slots positions count from at) where
  pub walking_ends : at ≡ 0 → (Ok tt ≡ chain_verdict (walked image)) × Holds (chain_of image) (record { slots = slots; positions = positions; count = count })
  walking_ends z =
      let e : Met (take count slots) ≡ walked image = sym (walk_ends image (take count slots) from at z) ∙ w.onward in
      let h : Holds (take count slots) (record { slots = slots; positions = positions; count = count }) = record {
        listed = refl;
        counted = length-take-le count slots (omega (arith, w.sized, w.few));
        few = w.few;
        places = w.places;
      } in
      (ap chain_verdict e, subst (λ (l : List ℕ). Holds l (record { slots = slots; positions = positions; count = count })) (ap slots_of e) h)

  pub walking_above : slot_count image < at → Stopped LinkAbove from ≡ walked image
  walking_above h = sym (walk_above image (take count slots) from at h) ∙ w.onward

  met : (get_or positions at 0 ≡ 0 → ⊥) → among at (take count slots) ≡ true
  met n = by_test (among at (take count slots)) (λ m. m)
      (λ m. absurd (n (w.places.placed at ∙ position_zero 1 at (take count slots) m)))

  not_met : get_or positions at 0 ≡ 0 → among at (take count slots) ≡ false
  not_met z = by_test (among at (take count slots))
      (λ m. absurd (omega (arith, position_some 1 at (take count slots) m, w.places.placed at)))
      (λ m. m)

  pub walking_again : (at ≡ 0 → ⊥) → at ≤ slot_count image → (get_or positions at 0 ≡ 0 → ⊥) → Stopped LinkAgain from ≡ walked image
  walking_again z h n = sym (walk_again image (take count slots) from at (omega arith) h (met n)) ∙ w.onward

  pub walking_room : (at ≡ 0 → ⊥) → at ≤ slot_count image → get_or positions at 0 ≡ 0 → count < slot_count image
  walking_room z h p = omega (arith, unmet_more (slot_count image) (take count slots) at (omega arith) h (not_met p), w.room)

  pub walking_onward : (at ≡ 0 → ⊥) → at ≤ slot_count image → get_or positions at 0 ≡ 0 → next_of image at < 256
      → Walking image (set slots count at) (set positions at (count + 1)) (count + 1) (Slot at) (next_of image at)
  walking_onward z h p b =
      let u : among at (take count slots) ≡ false = not_met p in
      let c : count < slot_count image = walking_room z h p in
      let few : slot_count image ≤ most_slots = hd.few in
      let t : take (count + 1) (set slots count at) ≡ take count slots ++ (at ∷ []) = rw (add-one, take-suc-set slots count at (omega (arith, w.sized))) in
      record {
        sized = simp length-set w.sized;
        byte = b;
        few = omega arith;
        room = rw t (omega (arith, unmet_more (slot_count image) (take count slots) at (omega arith) h u, w.room));
        places = rw t (store_position (take count slots) positions at count w.places u (length-take-le count slots (omega (arith, w.sized))) (omega arith));
        onward = rw t (sym (walk_onward image (take count slots) from at (omega arith) h u) ∙ w.onward);
      }

-- every chain is of slots 1 to N
walk_in_lem : (left : ℕ) (image met : List ℕ) (from : Place) (at : ℕ) → AllIn (slot_count image) met → AllIn (slot_count image) (slots_of (walk_in left image met from at))
unfolding walk_in
walk_in_lem zero image met from at h =
    by_test (eqb at 0) (λ z. simp z h)
    (λ z. by_test (ltb (slot_count image) at) (λ g. simp (z, g) tt)
    (λ g. by_test (among at met) (λ m. simp (z, g, m) tt) (λ m. simp (z, g, m) tt)))
walk_in_lem (suc left) image met from at h =
    by_test (eqb at 0) (λ z. simp z h)
    (λ z. by_test (ltb (slot_count image) at) (λ g. simp (z, g) tt)
    (λ g. by_test (among at met) (λ m. simp (z, g, m) tt)
    (λ m. simp (z, g, m)
    (walk_in_lem left image (met ++ (at ∷ [])) (Slot at) (next_of image at)
    (all_snoc (slot_count image) met at h (omega (arith, eqb-false at 0 z)) (ltb-false _ _ g))))))

pub chain_in : (image : List ℕ) → AllIn (slot_count image) (chain_of image)
unfolding walked
chain_in image = walk_in_lem (unmet (slot_count image) []) image [] Header (head_slot image) tt

-- and meets as many of them as it has: what is left are those off the chain
walk_room : (left : ℕ) (image met : List ℕ) (from : Place) (at : ℕ) → length met + unmet (slot_count image) met ≡ slot_count image
    → length (slots_of (walk_in left image met from at)) + unmet (slot_count image) (slots_of (walk_in left image met from at)) ≡ slot_count image
unfolding walk_in
walk_room zero image met from at h =
    by_test (eqb at 0) (λ z. simp z h)
    (λ z. by_test (ltb (slot_count image) at) (λ g. simp (z, g) (omega (arith, unmet_nil (slot_count image))))
    (λ g. by_test (among at met) (λ m. simp (z, g, m) (omega (arith, unmet_nil (slot_count image)))) (λ m. simp (z, g, m) (omega (arith, unmet_nil (slot_count image))))))
walk_room (suc left) image met from at h =
    by_test (eqb at 0) (λ z. simp z h)
    (λ z. by_test (ltb (slot_count image) at) (λ g. simp (z, g) (omega (arith, unmet_nil (slot_count image))))
    (λ g. by_test (among at met) (λ m. simp (z, g, m) (omega (arith, unmet_nil (slot_count image))))
    (λ m. simp (z, g, m)
    (walk_room left image (met ++ (at ∷ [])) (Slot at) (next_of image at)
    (omega (arith, length-append met (at ∷ []), unmet_more (slot_count image) met at (omega (arith, eqb-false at 0 z)) (ltb-false _ _ g) m))))))

chain_room : (image : List ℕ) → length (chain_of image) + unmet (slot_count image) (chain_of image) ≡ slot_count image
unfolding walked
chain_room image = walk_room (unmet (slot_count image) []) image [] Header (head_slot image) (omega (arith, unmet_nil (slot_count image)))

-- so it has N slots at most, and all of them where it has N
pub chain_few : (image : List ℕ) → length (chain_of image) ≤ slot_count image
chain_few image = omega (arith, chain_room image)

pub chain_all : (image : List ℕ) → length (chain_of image) ≡ slot_count image → (slot : ℕ) → 0 < slot → slot ≤ slot_count image → among slot (chain_of image) ≡ true
chain_all image e slot p q = unmet_none (slot_count image) (chain_of image) (omega (arith, chain_room image)) slot p q

-- a slot of 1 to N has its bytes in the image
pub has_slot : (image : List ℕ) (slot : ℕ) → HeaderOk image → 0 < slot → slot ≤ slot_count image → HasSlot image slot
has_slot image slot hd p q = (p, omega (arith, hd.sized))

-- what the code holds at an index
module _ (image : List ℕ) (chain : Chain) (hd : HeaderOk image) (held : Holds (chain_of image) chain) (i : ℕ) (l : i < chain.count) where
  pub slot_is : get_or chain.slots i 0 ≡ get_or (chain_of image) i 0
  slot_is = sym (get_or-take chain.count chain.slots i 0 l) ∙ ap (λ (x : List ℕ). get_or x i 0) held.listed

  pub slot_has : HasSlot image (get_or chain.slots i 0)
  slot_has =
      let a = all_at (slot_count image) (chain_of image) i (chain_in image) (omega (arith, held.counted)) in
      rw slot_is (has_slot image (get_or (chain_of image) i 0) hd a.0 a.1)

-- no slot stands twice: each one's position is where it stands
abbrev pub Positioned : List ℕ → Type 0
Positioned xs = (i : ℕ) → i < length xs → position_of (get_or xs i 0) xs ≡ 1 + i

distinct_snoc : (xs : List ℕ) (x : ℕ) → Positioned xs → among x xs ≡ false → Positioned (xs ++ (x ∷ []))
distinct_snoc xs x d u i l =
    by_test (ltb i (length xs))
    (λ a. let h : i < length xs = ltb-true i (length xs) a in
    rw (get_or-append xs (x ∷ []) 0 i h) (position_snoc 1 (get_or xs i 0) xs x ∙ simp (among_at xs i h) (d i h)))
    (λ a. let e : i ≡ length xs = omega (arith, ltb-false i (length xs) a, length-append xs (x ∷ [])) in
    rw (e, get_or-append_seam xs x [] 0) (position_snoc 1 x xs x ∙ simp (u, eq-eqb x x refl)))

walk_distinct : (left : ℕ) (image met : List ℕ) (from : Place) (at : ℕ) → Positioned met → Positioned (slots_of (walk_in left image met from at))
unfolding walk_in
walk_distinct zero image met from at h =
    by_test (eqb at 0) (λ z. simp z h)
    (λ z. by_test (ltb (slot_count image) at) (λ g. simp (z, g) (λ i l. absurd (omega arith)))
    (λ g. by_test (among at met) (λ m. simp (z, g, m) (λ i l. absurd (omega arith))) (λ m. simp (z, g, m) (λ i l. absurd (omega arith)))))
walk_distinct (suc left) image met from at h =
    by_test (eqb at 0) (λ z. simp z h)
    (λ z. by_test (ltb (slot_count image) at) (λ g. simp (z, g) (λ i l. absurd (omega arith)))
    (λ g. by_test (among at met) (λ m. simp (z, g, m) (λ i l. absurd (omega arith)))
    (λ m. simp (z, g, m) (walk_distinct left image (met ++ (at ∷ [])) (Slot at) (next_of image at) (distinct_snoc met at h m)))))

pub chain_distinct : (image : List ℕ) → Positioned (chain_of image)
unfolding walked
chain_distinct image = walk_distinct (unmet (slot_count image) []) image [] Header (head_slot image) (λ i l. absurd (omega arith))
