-- Document 01: "Tag: one or more of A-Z and 0-9, then spaces (0x20) to eight bytes. No folding of any kind."
-- Document 02, 2/14: "The underscore (0x5F) becomes a tag character everywhere a tag is read, except as the first one."
-- The statements at the end are proved in proofs/TagFormLaws.antt.
use Rattle.std.specs.Prelude.{ℕ, suc, ◌≤◌, ◌<◌, ◌≡◌, List, [], ◌∷◌, Bool, true, false, cond, ◌&&◌, ◌||◌, ltb, eqb, length, get_or}
use Rattle.membership.specs.Membership.{within}
use Rattle.image.specs.Image.{tag_length}

-- "A-Z and 0-9", "The underscore (0x5F) ... except as the first one": a tag character by its place in the tag, from 0
unfoldable pub tag_char : ℕ → ℕ → Bool
tag_char place b = within 65 90 b || within 48 57 b || (eqb b 0x5F && ltb 0 place)

-- "spaces (0x20)" to the end
unfoldable pub spaces : List ℕ → Bool
spaces [] = true
spaces (b ∷ t) = eqb b 0x20 && spaces t

-- from a place on: more tag characters, then spaces
unfoldable pub padded : ℕ → List ℕ → Bool
padded place [] = true
padded place (b ∷ t) = cond (tag_char place b) (padded (suc place) t) (spaces (b ∷ t))

-- "one or more"
unfoldable pub tag_text : List ℕ → Bool
tag_text [] = false
tag_text (b ∷ t) = tag_char 0 b && padded 1 t

-- "to eight bytes"
unfoldable pub tag_form : List ℕ → Bool
tag_form t = eqb (length t) tag_length && tag_text t

-- two tags are the same where all their bytes are
unfoldable pub same_bytes : List ℕ → List ℕ → Bool
same_bytes [] [] = true
same_bytes [] (y ∷ ys) = false
same_bytes (x ∷ xs) [] = false
same_bytes (x ∷ xs) (y ∷ ys) = eqb x y && same_bytes xs ys

-- the form said place by place: so many tag characters, at least one, and spaces after them
pub record TagOk (t : List ℕ) : Type 0 where
  pub sized : length t ≡ tag_length
  pub characters : ℕ
  pub some : 0 < characters
  pub most : characters ≤ tag_length
  pub name : (place : ℕ) → place < characters → tag_char place (get_or t place 0) ≡ true
  pub rest : (place : ℕ) → characters ≤ place → place < tag_length → get_or t place 0 ≡ 0x20

-- theorems form_means and form_when: the test passes exactly where the bytes are so
abbrev pub FormMeans : Type 0
FormMeans = (t : List ℕ) → tag_form t ≡ true → TagOk t

abbrev pub FormWhen : Type 0
FormWhen = (t : List ℕ) → TagOk t → tag_form t ≡ true
