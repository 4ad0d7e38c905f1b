-- The table image of a list of blocks, without spares: document 02, 5/14, "the blocks in chain order in slots 1, 2, 3 and on, head 1, N the block
-- count, wires renumbered, no spares". Document 01 has the layout. The statements at the end are proved in proofs/EncodedTable.antt.
use Rattle.std.specs.Prelude.{ℕ, suc, ◌+◌, ◌≡◌, List, [], ◌∷◌, ◌++◌, Option, None, Some, Ok, cond, max, nat_lt, length, replicate}
use Rattle.image.specs.Image.{slot_length, image_length}
use Rattle.table.specs.Check.{check_of}
use Rattle.table.specs.Blocks.{Block, blocks_of}
use Rattle.table.specs.Table.{BlocksOk}
use Rattle.table.specs.declared.blocks.Flag.{Flag}
use Rattle.table.specs.declared.blocks.Flag.TheVariants.{Busy, Done, Error, Aborted}
use Rattle.table.specs.declared.blocks.Wire.{Wire}

-- "bits 0-1 = flag (0 busy, 1 done, 2 error, 3 aborted)"
abbrev pub flag_number : Flag → ℕ
flag_number Busy = 0
flag_number Done = 1
flag_number Error = 2
flag_number Aborted = 3

-- the slot of a wire, which is its position; "Wire slot 0 takes the input bit from the frame"
abbrev pub encode_position : Option Wire → ℕ
encode_position None = 0
encode_position (Some w) = w.position

-- "the code has bits 0-1 = flag ... and bit 7 = inverted, others zero"; where there is no wire it is 0
abbrev pub encode_code : Option Wire → ℕ
encode_code None = 0
encode_code (Some w) = cond w.inverted (128 + flag_number w.flag) (flag_number w.flag)

-- the next slot of slot k, where the blocks stand in slots 1 to n: 0 after the last
abbrev pub encode_next : ℕ → ℕ → ℕ
encode_next n k = cond (nat_lt k n) (suc k) 0

-- "byte 0 kind; 1 next slot; 2 start wire slot; 3 start wire code; 4 abort wire slot; 5 abort wire code; 6-7 zero", and "8-15 tag" after them.
-- "wires renumbered": the slot of a block is its position, and so is that of a wire
abbrev pub encode_fields : Block → ℕ → List ℕ
encode_fields b next = b.kind ∷ next ∷ encode_position b.start ∷ encode_code b.start ∷ encode_position b.abort ∷ encode_code b.abort ∷ 0 ∷ 0 ∷ []

unfoldable pub encode_slot : Block → ℕ → List ℕ
encode_slot b next = encode_fields b next ++ b.tag

-- the slots of some blocks, the first of them in slot k of n
unfoldable pub encode_slots : ℕ → ℕ → List Block → List ℕ
encode_slots n k [] = []
encode_slots n k (b ∷ bs) = encode_slot b (encode_next n k) ++ encode_slots n (suc k) bs

-- "version 1; slot count N, 1 to 64; head slot, 0 to N; zero": "head 1, N the block count"
abbrev pub encode_header : ℕ → List ℕ
encode_header n = 1 ∷ n ∷ 1 ∷ 0 ∷ []

-- "A table without blocks becomes one zero slot with head 0."
unfoldable pub encode_table : List Block → List ℕ
encode_table [] = 1 ∷ 1 ∷ 0 ∷ 0 ∷ replicate slot_length 0
encode_table (b ∷ bs) = encode_header (length (b ∷ bs)) ++ encode_slots (length (b ∷ bs)) 1 (b ∷ bs)

-- its length: "4 + 16 × N", where N is the number of blocks, or 1 of none
abbrev pub encoded_length : ℕ → ℕ
encoded_length n = image_length (max n 1)

-- theorems encoded_accepted and encoded_blocks: of blocks as a table has them, the image is accepted and has these blocks
abbrev pub EncodedAccepted : Type 0
EncodedAccepted = (blocks : List Block) → BlocksOk blocks → check_of (encode_table blocks) ≡ Ok (length blocks)

abbrev pub EncodedBlocks : Type 0
EncodedBlocks = (blocks : List Block) → BlocksOk blocks → blocks_of (encode_table blocks) ≡ blocks
