-- The bounds of the table's refusals: a number of 1 to 11, and a place of at most N. For LookupLaws, for the checks of the
-- layers above, and for the packing of answers.
use Rattle.std.proofs.Common.{ℕ, zero, suc, ◌≤◌, ◌≡◌, subst, List, [], ◌∷◌, ◌++◌, Bool, true, false, not, ◌&&◌, Result, Ok, Err, length, get_or, arith}
use Rattle.std.specs.Result.{result_and}
use borrow.Author.Tests.{ltb-false}
use lib.Dec.{leb, ltb, eqb}
use Rattle.refusal.specs.Refusal.{place_number, check_number, Verdict, require}
use Rattle.refusal.specs.declared.Refusal.{Refusal}
use Rattle.refusal.specs.declared.Place.{Place}
use Rattle.refusal.specs.declared.Place.TheVariants.{Header, Slot}
use Rattle.refusal.specs.declared.Check.{Check}
use Rattle.refusal.specs.declared.Check.TheVariants.{ShortHeader, Version, SlotCount, ImageLength, RecordKind, TagForm, TagAgain, WireForm, SpareSlot}
use Rattle.refusal.proofs.Rows.{row_has}
use Rattle.membership.specs.Membership.{within, among}
use Rattle.membership.proofs.Logic.{by_test}
use Rattle.membership.proofs.AmongLaws.{all_at}
use Rattle.image.specs.Image.{header_length, most_slots, version, slot_count, head_slot, header_zero, next_of, image_length, tag_of}
use Rattle.table.specs.Header.{header_check}
use Rattle.table.specs.Tag.{tag_form}
use Rattle.table.specs.Walk.{unmet, walk_in, walked}
use Rattle.table.specs.Chain.{chain_of, chain_verdict}
use Rattle.table.specs.Record.{kind_ok, start_ok, abort_ok, record_check, record_at, records_check}
use Rattle.table.specs.Spare.{spare_ok, spare_at, spares_check}
use Rattle.table.specs.Check.{verdict_of, check_of}
use Rattle.table.proofs.ChainLaws.{chain_in}

-- refusals of numbers from 1 to `most` at places up to `last`
abbrev pub Bounded : {A : Type 0} → ℕ → ℕ → Result A Refusal → Type 0
Bounded most last (Ok x) = Unit {0}
Bounded most last (Err r) = (1 ≤ check_number r.check) × (check_number r.check ≤ most) × (place_number r.place ≤ last)

pub bounded_require : {A : Type 0} (most last : ℕ) (b : Bool) (check : Check) (place : Place) (below : Result A Refusal)
    → 1 ≤ check_number check → check_number check ≤ most → place_number place ≤ last → Bounded most last below → Bounded most last (require b check place below)
bounded_require most last true check place below h k l r = r
bounded_require most last false check place below h k l r = (h, k, l)

pub bounded_then : {A : Type 0} (most last : ℕ) (v : Verdict) (below : Result A Refusal) → Bounded most last v → Bounded most last below → Bounded most last (result_and v below)
bounded_then most last (Ok x) below h r = r
bounded_then most last (Err refusal) below h r = h

header_bounded : (image : List ℕ) (last : ℕ) → Bounded 11 last (header_check image)
unfolding header_check
header_bounded image last =
    bounded_require 11 last (leb header_length (length image)) ShortHeader Header _ (omega arith) (omega arith) (omega arith)
    (bounded_require 11 last (eqb (version image) 1 && eqb (header_zero image) 0) Version Header _ (omega arith) (omega arith) (omega arith)
    (bounded_require 11 last (within 1 most_slots (slot_count image)) SlotCount Header _ (omega arith) (omega arith) (omega arith)
    (bounded_require 11 last (eqb (length image) (image_length (slot_count image))) ImageLength Header (Ok tt) (omega arith) (omega arith) (omega arith) tt)))

chain_bounded : (left : ℕ) (image met : List ℕ) (from : Place) (at : ℕ) → place_number from ≤ slot_count image
    → Bounded 11 (slot_count image) (chain_verdict (walk_in left image met from at))
unfolding walk_in
chain_bounded zero image met from at h =
    by_test (eqb at 0) (λ z. simp z tt)
    (λ z. by_test (ltb (slot_count image) at) (λ g. simp (z, g) (omega arith, omega arith, h))
    (λ g. by_test (among at met) (λ m. simp (z, g, m) (omega arith, omega arith, h)) (λ m. simp (z, g, m) (omega arith, omega arith, h))))
chain_bounded (suc left) image met from at h =
    by_test (eqb at 0) (λ z. simp z tt)
    (λ z. by_test (ltb (slot_count image) at) (λ g. simp (z, g) (omega arith, omega arith, h))
    (λ g. by_test (among at met) (λ m. simp (z, g, m) (omega arith, omega arith, h))
    (λ m. simp (z, g, m) (chain_bounded left image (met ++ (at ∷ [])) (Slot at) (next_of image at) (ltb-false _ _ g)))))

record_bounded : (image chain : List ℕ) (repeated : Bool) (slot last : ℕ) → slot ≤ last → Bounded 11 last (record_check image chain repeated slot)
unfolding record_check
record_bounded image chain repeated slot last h =
    bounded_require 11 last (kind_ok image slot) RecordKind (Slot slot) _ (omega arith) (omega arith) h
    (bounded_require 11 last (tag_form (tag_of image slot)) TagForm (Slot slot) _ (omega arith) (omega arith) h
    (bounded_require 11 last (not repeated) TagAgain (Slot slot) _ (omega arith) (omega arith) h
    (bounded_require 11 last (start_ok image chain slot) WireForm (Slot slot) _ (omega arith) (omega arith) h
    (bounded_require 11 last (abort_ok image chain slot) WireForm (Slot slot) (Ok tt) (omega arith) (omega arith) h tt))))

records_bounded : (image : List ℕ) → Bounded 11 (slot_count image) (records_check image)
unfolding records_check
records_bounded image =
    row_has (Bounded 11 (slot_count image)) (record_at image (chain_of image)) (length (chain_of image)) tt
    (λ i l. record_bounded image (chain_of image) _ (get_or (chain_of image) i 0) (slot_count image) (all_at (slot_count image) (chain_of image) i (chain_in image) l).1)

spares_bounded : (image : List ℕ) → Bounded 11 (slot_count image) (spares_check image)
unfolding spares_check
spares_bounded image =
    row_has (Bounded 11 (slot_count image)) (spare_at image) (slot_count image) tt
    (λ i l. bounded_require 11 (slot_count image) (spare_ok image (chain_of image) (suc i)) SpareSlot (Slot (suc i)) (Ok tt) (omega arith) (omega arith) (omega arith) tt)

check_bounded : (image : List ℕ) → Bounded 11 (slot_count image) (check_of image)
unfolding check_of verdict_of walked
check_bounded image =
    let N = slot_count image in
    bounded_then 11 N (result_and (header_check image) (result_and (chain_verdict (walked image)) (result_and (records_check image) (spares_check image)))) (Ok (length (chain_of image)))
    (bounded_then 11 N (header_check image) (result_and (chain_verdict (walked image)) (result_and (records_check image) (spares_check image))) (header_bounded image N)
    (bounded_then 11 N (chain_verdict (walked image)) (result_and (records_check image) (spares_check image)) (chain_bounded (unmet N []) image [] Header (head_slot image) (omega arith))
    (bounded_then 11 N (records_check image) (spares_check image) (records_bounded image) (spares_bounded image)))) tt

-- a refusal's number and place
pub refusal_bounds : (image : List ℕ) (r : Refusal) → check_of image ≡ Err r
    → (1 ≤ check_number r.check) × (check_number r.check ≤ 11) × (place_number r.place ≤ slot_count image)
refusal_bounds image r e = subst (Bounded 11 (slot_count image)) e (check_bounded image)
