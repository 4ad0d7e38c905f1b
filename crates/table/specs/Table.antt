-- Which images are accepted tables, said by their chain and not by a walk, and what the blocks of an accepted table are: for whoever writes a
-- table. The statements at the end are proved in proofs/TableLaws.antt.
use Rattle.std.specs.Prelude.{ℕ, ◌≤◌, ◌<◌, ◌≡◌, List, [], ◌∷◌, Option, IfSome, Ok, true, false, length, get_or}
use Rattle.kind.specs.Kind.{is_kind, has_abort}
use Rattle.membership.specs.Membership.{among}
use Rattle.image.specs.Image.{most_slots, slot_count, head_slot, next_of, tag_of, slot_bytes}
use Rattle.table.specs.Header.{header_check}
use Rattle.table.specs.Tag.{tag_form, TagOk}
use Rattle.table.specs.Chain.{chain_of}
use Rattle.table.specs.Record.{kind_ok, start_ok, abort_ok}
use Rattle.words.specs.Word.{all_zero}
use Rattle.table.specs.Check.{check_of}
use Rattle.table.specs.Blocks.{Block, from_frame, blocks_of, block_at}
use Rattle.table.specs.declared.blocks.Wire.{Wire}

-- "from the head to the zero that ends it": from slot `at` on, the links lead through these slots, in order, to a zero
pub data Linked (image : List ℕ) : ℕ → List ℕ → Type 0 where
  ended : Linked image 0 []
  link : {at : ℕ} {slots : List ℕ} → Linked image (next_of image at) slots → Linked image at (at ∷ slots)

-- the values at 0 to n - 1 are all different
abbrev pub Distinct : {A : Type 0} → ℕ → (ℕ → A) → Type 0
Distinct n value = (i j : ℕ) → i < n → j < n → value i ≡ value j → i ≡ j

-- a record that passes 7, 8 and 10
pub record RecordOk (image chain : List ℕ) (slot : ℕ) : Type 0 where
  pub kind : kind_ok image slot ≡ true
  pub tag : tag_form (tag_of image slot) ≡ true
  pub start : start_ok image chain slot ≡ true
  pub abort : abort_ok image chain slot ≡ true

-- an image is a table with these slots as its chain
pub record Table (image chain : List ℕ) : Type 0 where
  -- 1 to 4
  pub header : header_check image ≡ Ok tt
  -- 5 and 6
  pub linked : Linked image (head_slot image) chain
  pub within : (i : ℕ) → i < length chain → (0 < get_or chain i 0) × (get_or chain i 0 ≤ slot_count image)
  pub distinct : Distinct (length chain) (λ i. get_or chain i 0)
  -- 7, 8 and 10; 9
  pub records : (i : ℕ) → i < length chain → RecordOk image chain (get_or chain i 0)
  pub tags : Distinct (length chain) (λ i. tag_of image (get_or chain i 0))
  -- 11
  pub spares : (slot : ℕ) → 0 < slot → slot ≤ slot_count image → among slot chain ≡ false → all_zero (slot_bytes image slot) ≡ true

-- a wire of a table of n blocks, where there is one: it names a flag of a block
abbrev pub WireFits : ℕ → Option Wire → Type 0
WireFits n wire = IfSome wire (λ w. (0 < w.position) × (w.position ≤ n))

-- one block of a table of n blocks
pub record BlockOk (n : ℕ) (b : Block) : Type 0 where
  pub kind : is_kind b.kind ≡ true
  pub tag : TagOk b.tag
  pub start : WireFits n b.start
  pub abort : WireFits n b.abort
  -- "Kinds 1-4 and 9-14 have no abort wire"
  pub no_abort : has_abort b.kind ≡ false → b.abort ≡ from_frame

-- the blocks of a table
pub record BlocksOk (blocks : List Block) : Type 0 where
  pub few : length blocks ≤ most_slots
  pub each : (i : ℕ) → i < length blocks → BlockOk (length blocks) (block_at blocks i)
  pub tags : Distinct (length blocks) (λ i. (block_at blocks i).tag)

-- theorems table_accepted and accepted_table: an image is accepted exactly when its chain makes it a table
abbrev pub TableAccepted : Type 0
TableAccepted = (image chain : List ℕ) → Table image chain → (chain_of image ≡ chain) × (check_of image ≡ Ok (length chain))

abbrev pub AcceptedTable : Type 0
AcceptedTable = (image : List ℕ) (n : ℕ) → check_of image ≡ Ok n → Table image (chain_of image)

-- theorem blocks_ok: what the blocks of an accepted table are
abbrev pub AcceptedBlocksOk : Type 0
AcceptedBlocksOk = (image : List ℕ) (n : ℕ) → check_of image ≡ Ok n → BlocksOk (blocks_of image)
