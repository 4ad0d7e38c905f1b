-- Laws of the record checks: what the loop of record::check_records keeps, with a mark for each tag met so far. For the proof of that function.
use Prim.Native.Nat.{ℕ, ◌+◌, ◌<◌}
use mathlib.Core.Path.{◌≡◌, refl, ap, sym, ◌∙◌}
use mathlib.Core.List.{List, [], ◌∷◌, ◌++◌}
use mathlib.Core.Bool.{Bool, true, false, ◌||◌}
use native.Mathlib.Omega.{arith}
use native.Mathlib.Numerals.{add-one}
use lib.Dec.{eqb}
use borrow.Author.Tests.{eq-eqb, ne_eqb, eqb-true}
use lib.ListN.{length, get_or, take, set, length-set}
use lib.Seq.{take-suc, get_or-set_same, get_or-set_other}
use Rattle.words.specs.Word.{Bytes, number}
use Rattle.membership.proofs.Logic.{by_test, not_both}
use Rattle.std.specs.Prelude.{Ok, Err}
use Rattle.refusal.specs.Refusal.{Verdict, first_refused}
use Rattle.refusal.specs.declared.Refusal.{Refusal}
use Rattle.refusal.proofs.Rows.{refused_next, refused_at}
use Rattle.image.specs.Image.{slot_count, tag_of, HasSlot}
use Rattle.table.specs.Header.{HeaderOk}
use Rattle.table.specs.Tag.{same_bytes}
use Rattle.table.specs.Chain.{chain_of}
use Rattle.table.specs.Marks.{mark_count, mark_index}
use Rattle.table.specs.Record.{tag_among, record_check, record_at, records_check}
use Rattle.membership.proofs.AmongLaws.{AllIn, all_take}
use Rattle.table.proofs.ChainLaws.{chain_in, has_slot}
use Rattle.table.proofs.TagLaws.{same_number, tag_length_lem, tag_bytes}

-- two slots of the table have the same tag where its numbers are the same
pub same_tags : (image : List ℕ) → HeaderOk image → Bytes image → (x k : ℕ) → HasSlot image x → HasSlot image k
    → same_bytes (tag_of image x) (tag_of image k) ≡ eqb (number (tag_of image x)) (number (tag_of image k))
same_tags image hd by x k hx hk =
    same_number (tag_of image x) (tag_of image k) (tag_length_lem image x hx ∙ sym (tag_length_lem image k hk)) (tag_bytes image x by) (tag_bytes image k by)

pub tag_among_snoc : (image tag ks : List ℕ) (k : ℕ) → tag_among image tag (ks ++ (k ∷ [])) ≡ (tag_among image tag ks || same_bytes (tag_of image k) tag)
unfolding tag_among
tag_among_snoc image tag [] k = by_test (same_bytes (tag_of image k) tag) (λ e. simp e) (λ e. simp e)
tag_among_snoc image tag (x ∷ ks) k =
    by_test (same_bytes (tag_of image x) tag) (λ e. simp e) (λ e. simp (e, tag_among_snoc image tag ks k))

-- the first i + 1 slots of the chain, by the first i and slot i
module _ (image : List ℕ) (hd : HeaderOk image) (by : Bytes image) (slot at i : ℕ) (has : HasSlot image slot) (l : i < length (chain_of image))
    (at_is : at ≡ get_or (chain_of image) i 0) (at_has : HasSlot image at) where
  among_more : tag_among image (tag_of image slot) (take (i + 1) (chain_of image))
      ≡ (tag_among image (tag_of image slot) (take i (chain_of image)) || eqb (number (tag_of image at)) (number (tag_of image slot)))
  among_more =
      rw (add-one, take-suc (chain_of image) i 0 l, ← at_is)
      (tag_among_snoc image (tag_of image slot) (take i (chain_of image)) at
      ∙ ap (λ (b : Bool). tag_among image (tag_of image slot) (take i (chain_of image)) || b) (same_tags image hd by at slot at_has has))

  pub among_hit : number (tag_of image at) ≡ number (tag_of image slot) → true ≡ tag_among image (tag_of image slot) (take (i + 1) (chain_of image))
  among_hit e = sym (among_more ∙ by_test (tag_among image (tag_of image slot) (take i (chain_of image))) (λ m. simp m) (λ m. simp (m, eq-eqb _ _ e)))

  pub among_miss : (number (tag_of image at) ≡ number (tag_of image slot) → ⊥)
      → tag_among image (tag_of image slot) (take i (chain_of image)) ≡ tag_among image (tag_of image slot) (take (i + 1) (chain_of image))
  among_miss e = sym (among_more ∙ by_test (tag_among image (tag_of image slot) (take i (chain_of image))) (λ m. simp m) (λ m. simp (m, ne_eqb _ _ e)))

pub among_none : (image tag : List ℕ) → false ≡ tag_among image tag []
unfolding tag_among
among_none image tag = refl

-- the place of a slot's mark
abbrev pub mark_of : List ℕ → ℕ → ℕ
mark_of image slot = mark_index (number (tag_of image slot))

-- every one of some slots has its mark
unfoldable pub Marked : List ℕ → List Bool → List ℕ → Type 0
Marked image marks [] = Unit {0}
Marked image marks (k ∷ ks) = (get_or marks (mark_of image k) false ≡ true) × Marked image marks ks

marked_snoc : (image : List ℕ) (marks : List Bool) (ks : List ℕ) (k : ℕ) → Marked image marks ks → get_or marks (mark_of image k) false ≡ true → Marked image marks (ks ++ (k ∷ []))
unfolding Marked
marked_snoc image marks [] k h e = (e, tt)
marked_snoc image marks (x ∷ ks) k h e = (h.0, marked_snoc image marks ks k h.1 e)

mark_kept : (marks : List Bool) (p q : ℕ) → p < length marks → get_or marks q false ≡ true → get_or (set marks p true) q false ≡ true
mark_kept marks p q l e =
    by_test (eqb q p)
    (λ t. let z : q ≡ p = eqb-true q p t in rw z (get_or-set_same marks p true false l))
    (λ t. get_or-set_other marks p q true false (λ z. not_both true refl (sym (eq-eqb q p z) ∙ t)) ∙ e)

marked_more : (image : List ℕ) (marks : List Bool) (ks : List ℕ) (p : ℕ) → p < length marks → Marked image marks ks → Marked image (set marks p true) ks
unfolding Marked
marked_more image marks [] p l h = tt
marked_more image marks (k ∷ ks) p l h = (mark_kept marks p (mark_of image k) l h.0, marked_more image marks ks p l h.1)

-- a tag without a mark in its place is none of theirs
unmarked : (image : List ℕ) (marks : List Bool) → HeaderOk image → Bytes image → (k : ℕ) → HasSlot image k → (ks : List ℕ) → AllIn (slot_count image) ks
    → Marked image marks ks → get_or marks (mark_of image k) false ≡ false → tag_among image (tag_of image k) ks ≡ false
unfolding tag_among Marked
unmarked image marks hd by k hk [] h m z = refl
unmarked image marks hd by k hk (x ∷ ks) h m z =
    let s = same_tags image hd by x k (has_slot image x hd h.0 h.1) hk in
    by_test (eqb (number (tag_of image x)) (number (tag_of image k)))
    (λ e. let q : number (tag_of image x) ≡ number (tag_of image k) = eqb-true _ _ e in
    not_both (get_or marks (mark_of image k) false) (ap (λ (t : ℕ). get_or marks (mark_index t) false) (sym q) ∙ m.0) z)
    (λ e. simp (s, e) (unmarked image marks hd by k hk ks h.2 m.1 z))

-- what the loop keeps: the records before i passed, and their tags are marked
pub record Recording (image : List ℕ) (marks : List Bool) (i : ℕ) : Type 0 where
  pub sized : length marks ≡ mark_count
  pub marked : Marked image marks (take i (chain_of image))
  pub passed : first_refused (record_at image (chain_of image)) i ≡ Ok tt

pub recording_start : (image : List ℕ) (marks : List Bool) → length marks ≡ mark_count → Recording image marks 0
unfolding Marked
recording_start image marks e = record { sized = e; marked = tt; passed = refl }

pub recording_end : (image : List ℕ) (marks : List Bool) (i : ℕ) → Recording image marks i → length (chain_of image) ≡ i → Ok tt ≡ records_check image
unfolding records_check
recording_end image marks i r l = rw (l, r.passed)

-- one turn: the slot, the place of its mark, and the verdict, as the code has them
module _ (image : List ℕ) (marks : List Bool) (i : ℕ) (hd : HeaderOk image) (by : Bytes image) (r : Recording image marks i) (l : i < length (chain_of image))
    (slot place : ℕ) (slot_is : slot ≡ get_or (chain_of image) i 0) (place_is : place ≡ mark_of image slot) where
  pub not_marked : HasSlot image slot → get_or marks place false ≡ false → tag_among image (tag_of image slot) (take i (chain_of image)) ≡ false
  not_marked has z =
      let y : get_or marks (mark_of image slot) false ≡ false = rw place_is at z in
      unmarked image marks hd by slot has (take i (chain_of image)) (all_take (slot_count image) (chain_of image) i (chain_in image)) r.marked y

  module _ (v : Verdict) (v_is : v ≡ record_check image (chain_of image) (tag_among image (tag_of image slot) (take i (chain_of image))) slot) where
    record_is : record_at image (chain_of image) i ≡ v
    record_is = cc

    pub recording_failed : (refusal : Refusal) → v ≡ Err refusal → Err refusal ≡ records_check image
    unfolding records_check
    recording_failed refusal e = sym (refused_at (record_at image (chain_of image)) i (length (chain_of image)) refusal l r.passed (record_is ∙ e))

    pub recording_on : place < mark_count → v ≡ Ok tt → Recording image (set marks place true) (i + 1)
    recording_on f e =
        let w : place < length marks = omega (arith, r.sized) in
        let earlier = take i (chain_of image) in
        let own : get_or (set marks place true) (mark_of image slot) false ≡ true = rw (← place_is) (get_or-set_same marks place true false w) in
        record {
          sized = simp length-set r.sized;
          marked = rw (add-one, take-suc (chain_of image) i 0 l, ← slot_is) (marked_snoc image (set marks place true) earlier slot (marked_more image marks earlier place w r.marked) own);
          passed = refused_next (record_at image (chain_of image)) i _ r.passed (record_is ∙ e);
        }
