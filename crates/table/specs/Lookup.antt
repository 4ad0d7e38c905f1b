-- Document 01: find, show, and checks 50 and 51.
use Rattle.std.specs.Prelude.{ℕ, zero, suc, ◌-◌, ◌≤◌, ◌<◌, ◌≡◌, List, [], ◌∷◌, Option, None, Some, Result, Ok, Err, true, cond, length, get_or, drop}
use Rattle.std.specs.Result.{result_and}
use Rattle.refusal.specs.Refusal.{refused}
use Rattle.image.specs.Image.{slot_length, slot_bytes, tag_offset, tag_of}
use Rattle.table.specs.Tag.{tag_form, same_bytes}
use Rattle.table.specs.Chain.{chain_of}
use Rattle.table.specs.Check.{check_of}
use Rattle.table.specs.Blocks.{blocks_of, block_at}
use Rattle.refusal.specs.declared.Refusal.{Refusal}
use Rattle.refusal.specs.declared.Place.TheVariants.{Header}
use Rattle.refusal.specs.declared.Check.TheVariants.{LookupForm, UnknownTag}

-- the position, from p on, of the first of some slots that has the tag; 0 where none has
unfoldable pub tag_position : List ℕ → List ℕ → ℕ → List ℕ → ℕ
tag_position image tag p [] = 0
tag_position image tag p (slot ∷ slots) = cond (same_bytes (tag_of image slot) tag) p (tag_position image tag (suc p) slots)

-- a position where one is found
abbrev pub some_position : ℕ → Option ℕ
some_position zero = None
some_position (suc p) = Some (suc p)

-- 51: "no such tag"; "A found tag answers its position"
abbrev pub found_at : ℕ → Result ℕ Refusal
found_at zero = refused UnknownTag Header
found_at (suc p) = Ok (suc p)

-- 50: "not eight bytes in tag form"
abbrev pub tag_checks : List ℕ → List ℕ → Result ℕ Refusal
tag_checks image tag = cond (tag_form tag) (found_at (tag_position image tag 1 (chain_of image))) (refused LookupForm Header)

-- "Every entry point makes the table checks, 1 to 11, first"
unfoldable pub find_of : List ℕ → List ℕ → Result ℕ Refusal
find_of image tag = result_and (check_of image) (tag_checks image tag)

-- the slot of the block at a position
abbrev pub slot_at : List ℕ → ℕ → ℕ
slot_at image position = get_or (chain_of image) (position - 1) 0

-- "show, on the same input, hands back the slot's sixteen bytes as a part of the image, an empty part where find refuses"
abbrev pub shown_bytes : List ℕ → Result ℕ Refusal → List ℕ
shown_bytes image (Ok position) = slot_bytes image (slot_at image position)
shown_bytes image (Err refusal) = []

unfoldable pub show_of : List ℕ → List ℕ → List ℕ
show_of image tag = shown_bytes image (find_of image tag)

-- block p of a table of n blocks, from 1, has exactly these bytes for its tag
pub record HasTag (image tag : List ℕ) (n p : ℕ) : Type 0 where
  pub first : 0 < p
  pub last : p ≤ n
  pub same : (block_at (blocks_of image) (p - 1)).tag ≡ tag

-- an accepted table, a tag in form, and the position of a block that has it
pub record FoundBlock (image tag : List ℕ) (p : ℕ) : Type 0 where
  pub blocks : ℕ
  pub answer : check_of image ≡ Ok blocks
  pub form : tag_form tag ≡ true
  pub has : HasTag image tag blocks p

-- an accepted table, a tag in form, and no block that has it
pub record NoSuchTag (image tag : List ℕ) : Type 0 where
  pub blocks : ℕ
  pub answer : check_of image ≡ Ok blocks
  pub form : tag_form tag ≡ true
  pub none : (p : ℕ) → HasTag image tag blocks p → ⊥

-- Demand 2 of document 01, of tags: a tag finds the block with exactly its eight bytes and no other. Proved in proofs/LookupLaws.antt.
-- theorems found_means and found_when: find answers a position exactly where the block there has the tag
abbrev pub FoundMeans : Type 0
FoundMeans = (image tag : List ℕ) (p : ℕ) → find_of image tag ≡ Ok p → FoundBlock image tag p

abbrev pub FoundWhen : Type 0
FoundWhen = (image tag : List ℕ) (p : ℕ) → FoundBlock image tag p → find_of image tag ≡ Ok p

-- theorem found_once: no two blocks have it
abbrev pub FoundOnce : Type 0
FoundOnce = (image tag : List ℕ) (p q : ℕ) → FoundBlock image tag p → FoundBlock image tag q → p ≡ q

-- theorems no_tag_means and no_tag_when: 51 is answered exactly where no block has it
abbrev pub NoTagMeans : Type 0
NoTagMeans = (image tag : List ℕ) → find_of image tag ≡ refused UnknownTag Header → NoSuchTag image tag

abbrev pub NoTagWhen : Type 0
NoTagWhen = (image tag : List ℕ) → NoSuchTag image tag → find_of image tag ≡ refused UnknownTag Header

-- what show hands back of a slot: sixteen bytes, of which 8 to 15 are the tag
pub record ShownPart (tag part : List ℕ) : Type 0 where
  pub sized : length part ≡ slot_length
  pub tagged : drop tag_offset part ≡ tag

-- theorem shown_part: where find answers a position, show hands back such a part
abbrev pub ShowsTag : Type 0
ShowsTag = (image tag : List ℕ) (p : ℕ) → find_of image tag ≡ Ok p → ShownPart tag (show_of image tag)
