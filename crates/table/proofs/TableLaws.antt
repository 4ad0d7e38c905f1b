-- An image is accepted exactly when its chain makes it a table, and what the blocks of an accepted table are: the theorems that
-- specs/Table.antt states, for whoever writes a table.
use Prim.Native.Nat.{ℕ, suc, ◌+◌, ◌≤◌, ◌<◌}
use mathlib.Core.Path.{◌≡◌, refl, ap, sym, ◌∙◌, subst}
use mathlib.Core.List.{List, [], ◌∷◌, ◌++◌, append_assoc, append-nil}
use mathlib.Core.Bool.{true, false}
use native.Mathlib.Omega.{arith}
use lib.ListN.{length, get_or, take, length-append, get_or-append}
use lib.Seq.{get_or-append_seam, get_or-take, length-take-le}
use Rattle.membership.specs.Membership.{among}
use Rattle.membership.proofs.Logic.{by_test}
use Rattle.image.specs.Image.{slot_count, head_slot, next_of, tag_of}
use Rattle.table.specs.Tag.{same_bytes}
use Rattle.table.specs.Walk.{Walked, Met, Stopped, Walk, ends, above, again, onward, walk_from, walked}
use Rattle.table.specs.Chain.{slots_of, chain_of, chain_verdict}
use Rattle.table.specs.Record.{tag_among, record_check, record_at, records_check}
use Rattle.table.specs.Spare.{spare_ok, spare_at, spares_check}
use Rattle.table.specs.Check.{verdict_of, check_of}
use Rattle.table.specs.Blocks.{blocks_of, block_at}
use Rattle.table.specs.Table.{Linked, ended, link, Distinct, RecordOk, Table, BlocksOk, TableAccepted, AcceptedTable, AcceptedBlocksOk}
use Rattle.refusal.specs.declared.Place.{Place}
use Rattle.refusal.specs.declared.Place.TheVariants.{Header, Slot}
use Rattle.std.specs.Prelude.{Ok}
use Rattle.refusal.specs.Refusal.{first_refused}
use Rattle.refusal.proofs.Rows.{row_passes}
use Rattle.membership.proofs.AmongLaws.{not_among}
use Rattle.table.proofs.TagLaws.{same_equal}
use Rattle.table.proofs.TagFormLaws.{form_means}
use Rattle.table.proofs.Walk.{walk_ends, walk_onward, walk_by_rules}
use Rattle.table.proofs.AcceptedLaws.{
  accepted_header,
  accepted_chain,
  accepted_spare,
  accepted_count,
  accepted_blocks,
  accepted_few,
  accepted_slot,
  accepted_distinct,
  accepted_record,
  accepted_slot_tags,
  accepted_kind,
  accepted_start,
  accepted_abort,
  accepted_no_abort,
  accepted_tag,
  accepted_tags,
}

-- where all values of a list are different, none of those before x is that of x
pub earlier_differs : {A : Type 0} (value : ℕ → A) (front : List ℕ) (x : ℕ) (rest : List ℕ)
    → Distinct (length (front ++ (x ∷ rest))) (λ i. value (get_or (front ++ (x ∷ rest)) i 0)) → (i : ℕ) → i < length front → value (get_or front i 0) ≡ value x → ⊥
earlier_differs value front x rest d i l e =
    let n : length (front ++ (x ∷ rest)) ≡ length front + suc (length rest) = length-append front (x ∷ rest) in
    let a : value (get_or (front ++ (x ∷ rest)) i 0) ≡ value x = ap value (get_or-append front (x ∷ rest) 0 i l) ∙ e in
    let b : value (get_or (front ++ (x ∷ rest)) (length front) 0) ≡ value x = ap value (get_or-append_seam front x rest 0) in
    omega (arith, d i (length front) (omega arith) (omega arith) (a ∙ sym b))

-- the walk meets the slots that are linked
pub walk_linked : (image met : List ℕ) (from : Place) (at : ℕ) (slots : List ℕ) → Linked image at slots
    → ((i : ℕ) → i < length slots → (0 < get_or slots i 0) × (get_or slots i 0 ≤ slot_count image))
    → Distinct (length (met ++ slots)) (λ i. get_or (met ++ slots) i 0) → walk_from image met from at ≡ Met (met ++ slots)
walk_linked image met from at [] ended w d = walk_ends image met from 0 refl ∙ ap Met (sym (append-nil met))
walk_linked image met from at (slot ∷ slots) (link l) w d =
    let a : (met ++ (slot ∷ [])) ++ slots ≡ met ++ (slot ∷ slots) = append_assoc met (slot ∷ []) slots in
    walk_onward image met from slot (w 0 (omega arith)).0 (w 0 (omega arith)).1 (not_among slot met (earlier_differs (λ k. k) met slot slots d))
    ∙ walk_linked image (met ++ (slot ∷ [])) (Slot slot) (next_of image slot) slots l (λ i h. w (suc i) (omega arith))
    (subst (λ (xs : List ℕ). Distinct (length xs) (λ i. get_or xs i 0)) (sym a) d)
    ∙ ap Met a

-- a tag that no slot has is not among theirs
pub tag_not_among : (image tag slots : List ℕ) → ((i : ℕ) → i < length slots → tag_of image (get_or slots i 0) ≡ tag → ⊥) → tag_among image tag slots ≡ false
unfolding tag_among
tag_not_among image tag [] h = refl
tag_not_among image tag (k ∷ slots) h =
    by_test (same_bytes (tag_of image k) tag)
    (λ s. absurd (h 0 (omega arith) (same_equal (tag_of image k) tag s)))
    (λ s. simp (s, tag_not_among image tag slots (λ i l e. h (suc i) (omega arith) e)))

-- records in form with different tags pass
pub record_passes : (image chain : List ℕ) (i : ℕ) → i < length chain → RecordOk image chain (get_or chain i 0)
    → Distinct (length chain) (λ i. tag_of image (get_or chain i 0)) → record_at image chain i ≡ Ok tt
unfolding record_check
record_passes image chain i l own d =
    let m : length (take i chain) ≡ i = length-take-le i chain (omega arith) in
    let new : tag_among image (tag_of image (get_or chain i 0)) (take i chain) ≡ false =
    tag_not_among image (tag_of image (get_or chain i 0)) (take i chain)
    (λ j h e. let k : j < i = omega arith in omega (arith, d j i (omega arith) l (rw (get_or-take i chain j 0 k) at e))) in
    rw (own.kind, own.tag, new, own.start, own.abort)

module _ (image chain : List ℕ) (t : Table image chain) where
  table_walked : walked image ≡ Met chain
  unfolding walked
  table_walked = walk_linked image [] Header (head_slot image) chain t.linked t.within t.distinct

  table_spare : (s : ℕ) → 1 ≤ s → s < 1 + slot_count image → spare_ok image chain s ≡ true
  table_spare s a b = by_test (among s chain) (λ m. rw m) (λ m. rw (m, t.spares s a (omega arith) m))

  table_passes : verdict_of image ≡ Ok tt
  unfolding verdict_of records_check spares_check
  table_passes =
      let c : chain_of image ≡ chain = ap slots_of table_walked in
      let r : first_refused (record_at image chain) (length chain) ≡ Ok tt =
      row_passes (record_at image chain) (length chain) (λ i l. record_passes image chain i l (t.records i l) t.tags) in
      let s : first_refused (spare_at image) (slot_count image) ≡ Ok tt =
      row_passes (spare_at image) (slot_count image) (λ i l. let k : spare_ok image (chain_of image) (suc i) ≡ true = rw c (table_spare (suc i) (omega arith) (omega arith)) in rw k) in
      rw (t.header, table_walked) (rw r s)

pub table_accepted : TableAccepted
unfolding check_of
table_accepted image chain t =
    let c : chain_of image ≡ chain = ap slots_of (table_walked image chain t) in
    (c, rw (table_passes image chain t, c))

-- a walk that ends has met linked slots after those met before
abbrev Ends : List ℕ → List ℕ → ℕ → Walked → Type 0
Ends image met at (Met all) = (slots : List ℕ) × (all ≡ met ++ slots) × Linked image at slots
Ends image met at (Stopped check place) = Unit {0}

walk_links : {image met : List ℕ} {from : Place} {at : ℕ} {end : Walked} → Walk image met from at end → Ends image met at end
walk_links {image} (ends {met = met} {at = at} z) = ([], sym (append-nil met), rw z ended)
walk_links (above h) = tt
walk_links (again p q m) = tt
walk_links {image} (onward {met = met} {at = at} {end = end} p q m w) = go end (walk_links w)
  where
    go : (end : Walked) → Ends image (met ++ (at ∷ [])) (next_of image at) end → Ends image met at end
    go (Met all) x = (at ∷ x.0, x.1 ∙ append_assoc met (at ∷ []) x.0, link x.2)
    go (Stopped check place) x = tt

pub chain_linked : (image : List ℕ) → chain_verdict (walked image) ≡ Ok tt → Linked image (head_slot image) (chain_of image)
chain_linked image e = go (walked image) e (walk_links (walk_by_rules image).walks)
  where
    go : (w : Walked) → chain_verdict w ≡ Ok tt → Ends image [] (head_slot image) w → Linked image (head_slot image) (slots_of w)
    go (Met all) e x = subst (Linked image (head_slot image)) (sym x.1) x.2
    go (Stopped check place) e x = cc

-- an accepted table's number of blocks is the length of its chain, and of its blocks
module _ (image : List ℕ) (ok : check_of image ≡ Ok (length (chain_of image))) where
  is_table : Table image (chain_of image)
  unfolding spares_check
  is_table = record {
    header = accepted_header image _ ok;
    linked = chain_linked image (accepted_chain image _ ok);
    within = accepted_slot image _ ok;
    distinct = accepted_distinct image _ ok;
    records = accepted_record image _ ok;
    tags = accepted_slot_tags image _ ok;
    spares = λ s p q m. simp m at (accepted_spare image _ ok s p q);
  }

pub accepted_table : AcceptedTable
accepted_table image n ok = is_table image (ok ∙ ap Ok (sym (accepted_count image n ok)))

module _ (image : List ℕ) (ok : check_of image ≡ Ok (length (blocks_of image))) where
  are_ok : BlocksOk (blocks_of image)
  are_ok = record {
    few = accepted_few image _ ok;
    each = λ i l. record {
      kind = accepted_kind image _ ok i l;
      tag = form_means (block_at (blocks_of image) i).tag (accepted_tag image _ ok i l);
      start = accepted_start image _ ok i l;
      abort = accepted_abort image _ ok i l;
      no_abort = accepted_no_abort image _ ok i l;
    };
    tags = accepted_tags image _ ok;
  }

pub blocks_ok : AcceptedBlocksOk
blocks_ok image n ok = are_ok image (ok ∙ ap Ok (sym (accepted_blocks image n ok)))
