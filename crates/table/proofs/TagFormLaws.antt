-- What the form of a tag means, place by place: the theorems that specs/Tag.antt states, for whoever cites what the tags of an accepted table are
-- and whoever writes one. `space_is_none` is for TagNumberLaws too.
use Prim.Native.Nat.{ℕ, zero, suc, ◌+◌, ◌≤◌, ◌<◌}
use mathlib.Core.Path.{◌≡◌, refl, ap, sym, ◌∙◌}
use mathlib.Core.List.{List, [], ◌∷◌}
use mathlib.Core.Bool.{true, false, ◌&&◌}
use native.Mathlib.Omega.{arith}
use native.Mathlib.Numerals.{unary_clauses}
use borrow.Author.Tests.{eq-eqb, eqb-true}
use lib.Dec.{eqb}
use lib.ListN.{length, get_or}
use Rattle.membership.proofs.Logic.{by_test, and_left, and_right}
use Rattle.image.specs.Image.{tag_length}
use Rattle.table.specs.Tag.{tag_char, spaces, padded, tag_form, FormMeans, FormWhen}
use Rattle.table.proofs.TagLaws.{form_first, form_eight}

-- a space is a tag character in no place
pub space_is_none : (place : ℕ) → tag_char place 0x20 ≡ false
unfolding tag_char
space_is_none place = refl

-- bytes that begin at a place of a tag: n tag characters, and spaces after them
record Name (place : ℕ) (t : List ℕ) (n : ℕ) : Type 0 where
  most : n ≤ length t
  name : (i : ℕ) → i < n → tag_char (place + i) (get_or t i 0) ≡ true
  rest : (i : ℕ) → n ≤ i → i < length t → get_or t i 0 ≡ 0x20

spaces_means : (t : List ℕ) → spaces t ≡ true → (i : ℕ) → i < length t → get_or t i 0 ≡ 0x20
unfolding spaces
spaces_means [] e i h = absurd (omega arith)
spaces_means (b ∷ t) e zero h = eqb-true b 0x20 (and_left (eqb b 0x20) (spaces t) e)
spaces_means (b ∷ t) e (suc i) h = spaces_means t (and_right (eqb b 0x20) (spaces t) e) i (omega arith)

spaces_when : (t : List ℕ) → ((i : ℕ) → i < length t → get_or t i 0 ≡ 0x20) → spaces t ≡ true
unfolding spaces
spaces_when [] h = refl
spaces_when (b ∷ t) h = simp (eq-eqb b 0x20 (h 0 (omega arith)), spaces_when t (λ i l. h (suc i) (omega arith)))

module _ (place b : ℕ) (t : List ℕ) (n : ℕ) where
  -- one character more in front, and one less
  longer : tag_char place b ≡ true → Name (suc place) t n → Name place (b ∷ t) (suc n)
  longer c m = record { most = omega (arith, m.most); name = name; rest = rest }
    where
      name : (i : ℕ) → i < suc n → tag_char (place + i) (get_or (b ∷ t) i 0) ≡ true
      name zero l = simp unary_clauses c
      name (suc i) l = let e : place + suc i ≡ suc place + i = omega arith in rw e (m.name i (omega arith))

      rest : (i : ℕ) → suc n ≤ i → i < length (b ∷ t) → get_or (b ∷ t) i 0 ≡ 0x20
      rest zero k l = absurd (omega arith)
      rest (suc i) k l = m.rest i (omega arith) (omega arith)

  shorter : Name place (b ∷ t) (suc n) → Name (suc place) t n
  shorter m = record {
    most = omega (arith, m.most);
    name = λ i l. let e : suc place + i ≡ place + suc i = omega arith in rw e (m.name (suc i) (omega arith));
    rest = λ i k l. m.rest (suc i) (omega arith) (omega arith);
  }

padded_means : (place : ℕ) (t : List ℕ) → padded place t ≡ true → (n : ℕ) × Name place t n
unfolding padded
padded_means place [] e = (0, record { most = omega arith; name = λ i l. absurd (omega arith); rest = λ i k l. absurd (omega arith) })
padded_means place (b ∷ t) e =
    by_test (tag_char place b)
    (λ c. let m = padded_means (suc place) t (simp c at e) in (suc m.0, longer place b t m.0 c m.1))
    (λ c. (0, record { most = omega arith; name = λ i l. absurd (omega arith); rest = λ i k l. spaces_means (b ∷ t) (simp c at e) i l }))

padded_when : (place : ℕ) (t : List ℕ) (n : ℕ) → Name place t n → padded place t ≡ true
unfolding padded
padded_when place [] n m = refl
padded_when place (b ∷ t) zero m =
    let s : spaces (b ∷ t) ≡ true = spaces_when (b ∷ t) (λ i l. m.rest i (omega arith) l) in
    let c : tag_char place b ≡ false = ap (tag_char place) (m.rest 0 (omega arith) (omega arith)) ∙ space_is_none place in
    simp c s
padded_when place (b ∷ t) (suc n) m = simp (simp unary_clauses at (m.name 0 (omega arith))) (padded_when (suc place) t n (shorter place b t n m))

pub form_means : FormMeans
form_means [] e = absurd (omega (arith, form_eight [] e))
form_means (b ∷ t) e =
    let s = form_eight (b ∷ t) e in
    let f : tag_char 0 b && padded 1 t ≡ true = sym (form_first (b ∷ t) s) ∙ e in
    let m = padded_means 1 t (and_right (tag_char 0 b) (padded 1 t) f) in
    let w = longer 0 b t m.0 (and_left (tag_char 0 b) (padded 1 t) f) m.1 in
    record {
      sized = s;
      characters = suc m.0;
      some = omega arith;
      most = omega (arith, w.most);
      name = λ place l. let z : 0 + place ≡ place = omega arith in rw z at (w.name place l);
      rest = λ place k l. w.rest place k (omega arith);
    }

named_form : (t : List ℕ) (n : ℕ) → length t ≡ tag_length → 0 < n → Name 0 t n → tag_form t ≡ true
named_form t zero s h m = absurd (omega arith)
named_form [] (suc n) s h m = absurd (omega arith)
named_form (b ∷ t) (suc n) s h m = form_first (b ∷ t) s ∙ simp (m.name 0 (omega arith), padded_when 1 t n (shorter 0 b t n m))

pub form_when : FormWhen
form_when t ok =
    named_form t ok.characters ok.sized ok.some
    (record {
      most = omega (arith, ok.most, ok.sized);
      name = λ i l. let z : 0 + i ≡ i = omega arith in rw z (ok.name i l);
      rest = λ i k l. ok.rest i k (omega (arith, ok.sized));
    })
