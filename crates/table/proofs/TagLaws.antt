-- Laws of tags: the form by its length and its first byte, for TagFormLaws and TagNumberLaws; tags compared by their numbers, for the record checks and for find. Only here is `tag_form`
-- taken apart, and `tag_char` only in the laws of single bytes of TagFormLaws and TagNumberLaws; what is computed unfolds both.
use Prim.Native.Nat.{ℕ, ◌+◌, ◌≤◌}
use mathlib.Core.Path.{◌≡◌, refl, ap, sym, ◌∙◌}
use mathlib.Core.List.{List, [], ◌∷◌}
use mathlib.Core.Bool.{true, false, ◌&&◌}
use native.Mathlib.Omega.{arith}
use borrow.Author.Tests.{eq-eqb, ne_eqb, eqb-true, eqb-false, ltb-true, ltb-false}
use lib.Dec.{ltb, eqb}
use lib.ListN.{length, get_or, drop, length-take, length-drop, get_or-eq_default}
use lib.Seq.{get_or-take, get_or-drop, length-take-le, take_all}
use Rattle.words.specs.Word.{Bytes, number, number_at, bytes}
use Rattle.words.proofs.WordLaws.{number_injective, bytes_number}
use Rattle.image.specs.Image.{slot_start, tag_offset, tag_length, tag_of, HasSlot}
use Rattle.table.specs.Tag.{tag_char, padded, tag_text, tag_form, same_bytes}
use Rattle.membership.proofs.Logic.{by_test, not_both, and_left}

-- the form of eight bytes, by the first one
pub form_first : (t : List ℕ) → length t ≡ tag_length → tag_form t ≡ (tag_char 0 (get_or t 0 0) && padded 1 (drop 1 t))
unfolding tag_form tag_text
form_first [] e = absurd (omega arith)
form_first (b ∷ t) e = simp (eq-eqb _ _ e)

pub form_short : (t : List ℕ) → (length t ≡ tag_length → ⊥) → false ≡ tag_form t
unfolding tag_form
form_short t n = simp (ne_eqb _ _ n)

pub form_eight : (t : List ℕ) → tag_form t ≡ true → length t ≡ tag_length
unfolding tag_form
form_eight t h = eqb-true (length t) tag_length (and_left _ _ h)

-- the same bytes are equal lists; std's bytes_eq-Decides says so of its own bytes_eq, these two of same_bytes, the definition of specs/Tag
pub same_equal : (t u : List ℕ) → same_bytes t u ≡ true → t ≡ u
unfolding same_bytes
same_equal [] [] e = refl
same_equal [] (y ∷ u) e = not_both true refl (sym e)
same_equal (x ∷ t) [] e = not_both true refl (sym e)
same_equal (x ∷ t) (y ∷ u) e =
    by_test (eqb x y)
    (λ a. let p : x ≡ y = eqb-true x y a in
    let q : t ≡ u = same_equal t u (simp a at e) in
    cc)
    (λ a. not_both true refl (sym (simp a at e)))

pub same_self : (t : List ℕ) → same_bytes t t ≡ true
unfolding same_bytes
same_self [] = refl
same_self (x ∷ t) = simp (eq-eqb x x refl, same_self t)

-- eight bytes are those of the number that is read of them
pub tag_back : (t : List ℕ) (wanted : ℕ) → length t ≡ tag_length → Bytes t → wanted ≡ number_at tag_length t 0 → bytes tag_length wanted ≡ t
tag_back t wanted e b w =
    let read : wanted ≡ number t = w ∙ ap number (take_all tag_length t (omega (arith, e))) in
    ap (bytes tag_length) read ∙ bytes_number tag_length t e b

-- two lists of bytes of one length are the same where their numbers are
pub same_number : (t u : List ℕ) → length t ≡ length u → Bytes t → Bytes u → same_bytes t u ≡ eqb (number t) (number u)
same_number t u e b c =
    by_test (eqb (number t) (number u))
    (λ h. let q : t ≡ u = number_injective t u e b c (eqb-true _ _ h) in rw (h, q, same_self u))
    (λ h. by_test (same_bytes t u)
    (λ s. absurd (eqb-false _ _ h (ap number (same_equal t u s))))
    (λ s. rw (h, s)))

-- a slot's tag has eight bytes
pub tag_length_lem : (image : List ℕ) (slot : ℕ) → HasSlot image slot → length (tag_of image slot) ≡ tag_length
tag_length_lem image slot h = length-take-le tag_length (drop (slot_start slot + tag_offset) image) (rw length-drop (omega arith))

pub tag_bytes : (image : List ℕ) (slot : ℕ) → Bytes image → Bytes (tag_of image slot)
tag_bytes image slot b i =
    by_test (ltb i tag_length)
    (λ a. rw (get_or-take tag_length (drop (slot_start slot + tag_offset) image) i 0 (ltb-true i tag_length a), get_or-drop) (b (slot_start slot + tag_offset + i)))
    (λ a. let l : length (tag_of image slot) ≤ i = omega (arith, length-take tag_length (drop (slot_start slot + tag_offset) image), ltb-false i tag_length a) in
    rw (get_or-eq_default (tag_of image slot) 0 l) (omega arith))
