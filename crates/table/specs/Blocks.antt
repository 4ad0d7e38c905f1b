-- The table as a list of blocks, in chain order, with wires by position: all that the layers above know of a table.
use Rattle.std.specs.Prelude.{ℕ, ◌%◌, List, [], ◌∷◌, Option, None, Some, is_none, Bool, ◌&&◌, cond, leb, eqb, get_or}
use Rattle.image.specs.Image.{kind_of, wire_slot, wire_code, start_wire_offset, abort_wire_offset, tag_of}
use Rattle.table.specs.Chain.{chain_of, position_of}
use Rattle.table.specs.declared.blocks.Flag.{Flag}
use Rattle.table.specs.declared.blocks.Flag.TheVariants.{Busy, Done, Error, Aborted}
use Rattle.table.specs.declared.blocks.Wire.{Wire}

-- "Wire slot 0 takes the input bit from the frame": there is no wire
abbrev pub from_frame : Option Wire
from_frame = None

-- "bits 0-1 = flag (0 busy, 1 done, 2 error, 3 aborted)"
abbrev pub flag_named : ℕ → Flag
flag_named code = cond (eqb (code % 4) 0) Busy (cond (eqb (code % 4) 1) Done (cond (eqb (code % 4) 2) Error Aborted))

-- "and bit 7 = inverted": a flag of the block at the slot's position
abbrev pub wire_of : List ℕ → ℕ → ℕ → Option Wire
wire_of chain slot code =
    cond (eqb slot 0) from_frame (Some (record { position = position_of slot chain; flag = flag_named code; inverted = leb 128 code }))

-- the reading of a wire that numbers name, not the bytes of a slot: position 0 is the frame's bit,
-- a flag is "0 busy, 1 done, 2 error, 3 aborted", and any higher number aborted too
abbrev pub flag_of_number : ℕ → Flag
flag_of_number number = cond (eqb number 0) Busy (cond (eqb number 1) Done (cond (eqb number 2) Error Aborted))

abbrev pub wire_of_numbers : ℕ → ℕ → Bool → Option Wire
wire_of_numbers position flag inverted =
    cond (eqb position 0) from_frame (Some (record { position = position; flag = flag_of_number flag; inverted = inverted }))

-- one block
pub record Block : Type 0 where
  pub kind : ℕ
  pub tag : List ℕ
  pub start : Option Wire
  pub abort : Option Wire

-- both inputs are the frame's bits
abbrev pub is_unwired : Block → Bool
is_unwired b = is_none b.start && is_none b.abort

-- the block in a slot
unfoldable pub block_in : List ℕ → List ℕ → ℕ → Block
block_in image chain slot =
    record {
      kind = kind_of image slot;
      tag = tag_of image slot;
      start = wire_of chain (wire_slot image slot start_wire_offset) (wire_code image slot start_wire_offset);
      abort = wire_of chain (wire_slot image slot abort_wire_offset) (wire_code image slot abort_wire_offset);
    }

unfoldable pub blocks_in : List ℕ → List ℕ → List ℕ → List Block
blocks_in image chain [] = []
blocks_in image chain (slot ∷ slots) = block_in image chain slot ∷ blocks_in image chain slots

abbrev pub blocks_of : List ℕ → List Block
blocks_of image = blocks_in image (chain_of image) (chain_of image)

-- no block
abbrev pub no_block : Block
no_block = record { kind = 0; tag = []; start = from_frame; abort = from_frame }

-- block i of some blocks, from 0
abbrev pub block_at : List Block → ℕ → Block
block_at blocks i = get_or blocks i no_block

-- what a call reads of it: no call reads a tag
pub record BlockConfig : Type 0 where
  pub kind : ℕ
  pub start : Option Wire
  pub abort : Option Wire

abbrev pub config_at : List Block → ℕ → BlockConfig
config_at blocks i = record { kind = (block_at blocks i).kind; start = (block_at blocks i).start; abort = (block_at blocks i).abort }
