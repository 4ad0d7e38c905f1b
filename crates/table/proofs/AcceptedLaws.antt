-- What an accepted table has, for the layers above: a header that passed, N and the number of blocks at most 64, slots of 1 to N none
-- twice, kinds 1 to 14, each wire from the frame or of a position of the table, tags in form none twice.
use Prim.Native.Nat.{ℕ, zero, suc, ◌+◌, ◌≤◌, ◌<◌}
use mathlib.Core.Path.{◌≡◌, refl, sym, ◌∙◌}
use mathlib.Core.List.{List, [], ◌∷◌}
use mathlib.Core.Bool.{Bool, true, false}
use mathlib.Core.Logic.{◌⊎◌, inl, inr}
use native.Mathlib.Omega.{arith}
use borrow.Author.Tests.{eqb-true, ltb-true, ltb-false}
use lib.Dec.{ltb, eqb}
use lib.ListN.{length, get_or, take}
use lib.Seq.{get_or-take, length-take-le}
use Rattle.kind.specs.Kind.{is_kind, has_abort}
use Rattle.membership.specs.Membership.{among}
use Rattle.std.specs.Prelude.{Ok}
use Rattle.std.specs.Result.{result_and}
use Rattle.refusal.specs.Refusal.{Verdict}
use Rattle.image.specs.Image.{most_slots, slot_count, kind_of, wire_slot, wire_code, start_wire_offset, abort_wire_offset, tag_of, HasSlot}
use Rattle.table.specs.Header.{header_check, HeaderOk}
use Rattle.table.specs.Tag.{tag_form, same_bytes}
use Rattle.table.specs.Walk.{walked}
use Rattle.table.specs.Chain.{chain_of, chain_verdict, position_of}
use Rattle.table.specs.Record.{kind_ok, tag_among, no_wire, wire_ok, start_ok, abort_ok, record_check, record_at, records_check}
use Rattle.table.specs.Spare.{spare_ok, spare_at, spares_check}
use Rattle.table.specs.Check.{verdict_of, check_of}
use Rattle.table.specs.Blocks.{from_frame, wire_of, block_in, blocks_of, block_at}
use Rattle.table.specs.Table.{RecordOk, WireFits}
use Rattle.refusal.specs.declared.Place.TheVariants.{Slot}
use Rattle.refusal.specs.declared.Check.TheVariants.{SpareSlot}
use Rattle.membership.proofs.Logic.{by_test, not_both, and_left, and_right}
use Rattle.membership.proofs.MembershipLaws.{within_bounds}
use Rattle.refusal.proofs.Rows.{require_this, group_passes, rest_passes, each_passes}
use Rattle.membership.proofs.AmongLaws.{all_at, all_among}
use Rattle.table.proofs.PositionLaws.{position_bound, position_some}
use Rattle.table.proofs.ChainLaws.{chain_in, chain_few, chain_distinct, has_slot}
use Rattle.table.proofs.TagLaws.{same_self}
use Rattle.table.proofs.CheckLaws.{header_ok_by}
use Rattle.table.proofs.BlockLaws.{blocks_length, block_is}

-- a record that passed its checks
passes_record : (image chain : List ℕ) (repeated : Bool) (slot : ℕ) → record_check image chain repeated slot ≡ Ok tt → RecordOk image chain slot × (repeated ≡ false)
unfolding record_check
passes_record image chain repeated slot e =
    by_test (kind_ok image slot)
    (λ k. by_test (tag_form (tag_of image slot))
    (λ t. by_test repeated (λ r. let z = simp (k, t, r) at e in cc)
    (λ r. by_test (start_ok image chain slot)
    (λ s. by_test (abort_ok image chain slot)
    (λ a. (record { kind = k; tag = t; start = s; abort = a }, r))
    (λ a. let z = simp (k, t, r, s, a) at e in cc))
    (λ s. let z = simp (k, t, r, s) at e in cc)))
    (λ t. let z = simp (k, t) at e in cc))
    (λ k. let z = simp k at e in cc)

-- a tag that is not among those of some slots is that of none
pub none_among : (image tag slots : List ℕ) → tag_among image tag slots ≡ false → (j : ℕ) → j < length slots → tag_of image (get_or slots j 0) ≡ tag → ⊥
unfolding tag_among
none_among image tag [] e j l q = omega arith
none_among image tag (k ∷ slots) e zero l q =
    by_test (same_bytes (tag_of image k) tag) (λ s. not_both true refl (simp s at e))
    (λ s. not_both (same_bytes tag tag) (same_self tag) (rw q at s))
none_among image tag (k ∷ slots) e (suc j) l q =
    by_test (same_bytes (tag_of image k) tag) (λ s. not_both true refl (simp s at e))
    (λ s. none_among image tag slots (simp s at e) j (omega arith) q)

-- a wire that passed is one of a table of as many blocks as the chain has
pub wire_fits : (image : List ℕ) (n slot code : ℕ) → length (chain_of image) ≡ n → wire_ok (chain_of image) slot code ≡ true → WireFits n (wire_of (chain_of image) slot code)
wire_fits image n slot code e h =
    by_test (eqb slot 0)
    (λ z. simp z tt)
    (λ z. let m : among slot (chain_of image) ≡ true = and_left _ _ (simp z at h) in
    simp z (omega (arith, position_some 1 slot (chain_of image) m), omega (arith, position_bound 0 slot (chain_of image))))

-- the slot of a wire is 0 or of 1 to N
source_in : (image : List ℕ) (slot code : ℕ) → wire_ok (chain_of image) slot code ≡ true → slot ≤ slot_count image
source_in image slot code h =
    by_test (eqb slot 0) (λ z. omega (arith, eqb-true slot 0 z))
    (λ z. (all_among (slot_count image) (chain_of image) slot (chain_in image) (and_left _ _ (simp z at h))).1)

-- an abort wire is a wire, also where it has to be none
pub abort_wire_ok : (image chain : List ℕ) (slot : ℕ) → abort_ok image chain slot ≡ true → wire_ok chain (wire_slot image slot abort_wire_offset) (wire_code image slot abort_wire_offset) ≡ true
abort_wire_ok image chain slot h =
    by_test (has_abort (kind_of image slot)) (λ a. simp a at h)
    (λ a. let g : no_wire (wire_slot image slot abort_wire_offset) (wire_code image slot abort_wire_offset) ≡ true = simp a at h in
    let z : eqb (wire_slot image slot abort_wire_offset) 0 ≡ true = and_left _ (eqb (wire_code image slot abort_wire_offset) 0) g in
    simp z (and_right (eqb (wire_slot image slot abort_wire_offset) 0) (eqb (wire_code image slot abort_wire_offset) 0) g))

module _ (image : List ℕ) (n : ℕ) (ok : check_of image ≡ Ok n) where
  passed : verdict_of image ≡ Ok tt
  unfolding check_of
  passed = group_passes (verdict_of image) (Ok (length (chain_of image))) n ok

  abbrev from_records : Verdict
  from_records = result_and (records_check image) (spares_check image)

  abbrev from_chain : Verdict
  from_chain = result_and (chain_verdict (walked image)) from_records

  chain_on : from_chain ≡ Ok tt
  unfolding verdict_of
  chain_on = rest_passes (header_check image) from_chain tt passed

  records_on : from_records ≡ Ok tt
  records_on = rest_passes (chain_verdict (walked image)) from_records tt chain_on

  -- each group of checks passed
  pub accepted_header : header_check image ≡ Ok tt
  unfolding verdict_of
  accepted_header = group_passes (header_check image) from_chain tt passed

  pub accepted_chain : chain_verdict (walked image) ≡ Ok tt
  accepted_chain = group_passes (chain_verdict (walked image)) from_records tt chain_on

  pub accepted_records : records_check image ≡ Ok tt
  accepted_records = group_passes (records_check image) (spares_check image) tt records_on

  -- a slot of 1 to N is on the chain or all zero
  pub accepted_spare : (slot : ℕ) → 0 < slot → slot ≤ slot_count image → spare_ok image (chain_of image) slot ≡ true
  unfolding spares_check
  accepted_spare zero p q = absurd (omega arith)
  accepted_spare (suc i) p q =
      require_this (spare_ok image (chain_of image) (suc i)) SpareSlot (Slot (suc i)) (Ok tt) tt
      (each_passes (spare_at image) (slot_count image) (rest_passes (records_check image) (spares_check image) tt records_on) i (omega arith))

  pub accepted_header_ok : HeaderOk image
  accepted_header_ok = header_ok_by image accepted_header

  -- the number of blocks
  pub accepted_count : length (chain_of image) ≡ n
  unfolding check_of
  accepted_count = let e = rest_passes (verdict_of image) (Ok (length (chain_of image))) n ok in cc

  pub accepted_blocks : length (blocks_of image) ≡ n
  accepted_blocks = blocks_length image (chain_of image) (chain_of image) ∙ accepted_count

  pub accepted_few : n ≤ most_slots
  accepted_few = omega (arith, accepted_count, chain_few image, accepted_header_ok.few)

  module _ (i : ℕ) (l : i < n) where
    in_chain : i < length (chain_of image)
    in_chain = omega (arith, accepted_count)

    -- slots of 1 to N
    pub accepted_slot : (0 < get_or (chain_of image) i 0) × (get_or (chain_of image) i 0 ≤ slot_count image)
    accepted_slot = all_at (slot_count image) (chain_of image) i (chain_in image) in_chain

    pub accepted_has_slot : HasSlot image (get_or (chain_of image) i 0)
    accepted_has_slot = has_slot image (get_or (chain_of image) i 0) accepted_header_ok accepted_slot.0 accepted_slot.1

    both : RecordOk image (chain_of image) (get_or (chain_of image) i 0) × (tag_among image (tag_of image (get_or (chain_of image) i 0)) (take i (chain_of image)) ≡ false)
    unfolding records_check
    both = passes_record image (chain_of image) (tag_among image (tag_of image (get_or (chain_of image) i 0)) (take i (chain_of image))) (get_or (chain_of image) i 0)
        (each_passes (record_at image (chain_of image)) (length (chain_of image)) accepted_records i in_chain)

    pub accepted_record : RecordOk image (chain_of image) (get_or (chain_of image) i 0)
    accepted_record = both.0

    pub accepted_block : block_at (blocks_of image) i ≡ block_in image (chain_of image) (get_or (chain_of image) i 0)
    accepted_block = block_is image (chain_of image) (chain_of image) i in_chain

    -- kinds 1 to 14
    pub accepted_kind : is_kind (block_at (blocks_of image) i).kind ≡ true
    unfolding block_in
    accepted_kind = rw accepted_block (and_left _ _ (and_left _ _ accepted_record.kind))

    pub accepted_kind_range : (1 ≤ (block_at (blocks_of image) i).kind) × ((block_at (blocks_of image) i).kind ≤ 14)
    unfolding is_kind
    accepted_kind_range = within_bounds 1 14 (block_at (blocks_of image) i).kind accepted_kind

    -- wires
    pub accepted_start : WireFits n (block_at (blocks_of image) i).start
    unfolding block_in
    accepted_start =
        let slot = get_or (chain_of image) i 0 in
        rw accepted_block (wire_fits image n (wire_slot image slot start_wire_offset) (wire_code image slot start_wire_offset) accepted_count accepted_record.start)

    pub accepted_abort : WireFits n (block_at (blocks_of image) i).abort
    unfolding block_in
    accepted_abort =
        let slot = get_or (chain_of image) i 0 in
        let wired = abort_wire_ok image (chain_of image) slot accepted_record.abort in
        rw accepted_block (wire_fits image n (wire_slot image slot abort_wire_offset) (wire_code image slot abort_wire_offset) accepted_count wired)

    -- "Kinds 1-4 and 9-14 have no abort wire"
    pub accepted_no_abort : has_abort (block_at (blocks_of image) i).kind ≡ false → (block_at (blocks_of image) i).abort ≡ from_frame
    unfolding block_in
    accepted_no_abort e =
        let slot = get_or (chain_of image) i 0 in
        let a : has_abort (kind_of image slot) ≡ false = rw accepted_block at e in
        let z : eqb (wire_slot image slot abort_wire_offset) 0 ≡ true = and_left _ (eqb (wire_code image slot abort_wire_offset) 0) (simp a at accepted_record.abort) in
        rw accepted_block (simp z)

    -- the slot that a wire names: 0, or of 1 to N
    pub accepted_source : (wire : ℕ) → (wire ≡ start_wire_offset) ⊎ (wire ≡ abort_wire_offset) → wire_slot image (get_or (chain_of image) i 0) wire ≤ slot_count image
    accepted_source wire (inl e) =
        let slot = get_or (chain_of image) i 0 in
        rw e (source_in image (wire_slot image slot start_wire_offset) (wire_code image slot start_wire_offset) accepted_record.start)
    accepted_source wire (inr e) =
        let slot = get_or (chain_of image) i 0 in
        rw e (source_in image (wire_slot image slot abort_wire_offset) (wire_code image slot abort_wire_offset) (abort_wire_ok image (chain_of image) slot accepted_record.abort))

    -- tags
    pub accepted_tag : tag_form (block_at (blocks_of image) i).tag ≡ true
    unfolding block_in
    accepted_tag = rw accepted_block accepted_record.tag

  pub accepted_distinct : (i j : ℕ) → i < n → j < n → get_or (chain_of image) i 0 ≡ get_or (chain_of image) j 0 → i ≡ j
  accepted_distinct i j k l e =
      let p : position_of (get_or (chain_of image) j 0) (chain_of image) ≡ 1 + i = rw e at (chain_distinct image i (in_chain i k)) in
      omega (arith, chain_distinct image j (in_chain j l))

  earlier_tag : (i j : ℕ) → i < n → j < i → tag_of image (get_or (chain_of image) j 0) ≡ tag_of image (get_or (chain_of image) i 0) → ⊥
  earlier_tag i j k l e =
      none_among image (tag_of image (get_or (chain_of image) i 0)) (take i (chain_of image)) (both i k).1 j
      (omega (arith, length-take-le i (chain_of image) (omega (arith, in_chain i k))))
      (rw (get_or-take i (chain_of image) j 0 l) e)

  pub accepted_slot_tags : (i j : ℕ) → i < n → j < n → tag_of image (get_or (chain_of image) i 0) ≡ tag_of image (get_or (chain_of image) j 0) → i ≡ j
  accepted_slot_tags i j k l e =
      by_test (ltb i j) (λ a. absurd (earlier_tag j i l (ltb-true i j a) e))
      (λ a. by_test (ltb j i) (λ b. absurd (earlier_tag i j k (ltb-true j i b) (sym e)))
      (λ b. omega (arith, ltb-false i j a, ltb-false j i b)))

  pub accepted_tags : (i j : ℕ) → i < n → j < n → (block_at (blocks_of image) i).tag ≡ (block_at (blocks_of image) j).tag → i ≡ j
  unfolding block_in
  accepted_tags i j k l e = accepted_slot_tags i j k l (rw (accepted_block i k, accepted_block j l) at e)
