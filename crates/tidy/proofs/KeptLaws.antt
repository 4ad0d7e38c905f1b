-- What the image of an accepted table has of block i in its slot is what is written of it anew: for `encode::encode_fields` and `encode::encode_slot`, and for the
-- theorem tidy_slots.
use Prim.Native.Nat.{ℕ, ◌≤◌, ◌<◌}
use mathlib.Core.Path.{◌≡◌, refl, sym, ◌∙◌}
use mathlib.Core.List.{List, [], ◌∷◌}
use mathlib.Core.Bool.{true}
use mathlib.Core.Logic.{inl, inr}
use native.Mathlib.Omega.{arith}
use lib.ListN.{get_or, drop}
use lib.Seq.{get_or-take, get_or-drop}
use Rattle.words.specs.Word.{Bytes}
use Rattle.image.specs.Image.{most_slots, slot_count, slot_length, slot_start, slot_byte, slot_bytes, kind_of, wire_slot, wire_code, start_wire_offset, abort_wire_offset, tag_of}
use Rattle.table.specs.Chain.{chain_of, position_of}
use Rattle.table.specs.Record.{wire_ok}
use Rattle.table.specs.Check.{check_of}
use Rattle.table.specs.Blocks.{Block, wire_of, block_in, blocks_of, block_at}
use Rattle.std.specs.Prelude.{Ok}
use Rattle.table.proofs.WireLaws.{zero_off_chain}
use Rattle.table.proofs.AcceptedLaws.{accepted_header_ok, accepted_block, accepted_record, accepted_source, abort_wire_ok}
use Rattle.tidy.specs.Encode.{encode_position, encode_code, encode_fields}
use Rattle.tidy.proofs.WireLaws.{position_kept, code_kept}

pub record BlockKept (image : List ℕ) (b : Block) (slot : ℕ) : Type 0 where
  pub kind : b.kind ≡ kind_of image slot
  pub start : encode_position b.start ≡ position_of (wire_slot image slot start_wire_offset) (chain_of image)
  pub start_code : encode_code b.start ≡ wire_code image slot start_wire_offset
  pub abort : encode_position b.abort ≡ position_of (wire_slot image slot abort_wire_offset) (chain_of image)
  pub abort_code : encode_code b.abort ≡ wire_code image slot abort_wire_offset
  pub tag : b.tag ≡ tag_of image slot

module _ (image : List ℕ) (n : ℕ) (ok : check_of image ≡ Ok n) (i : ℕ) (l : i < n) where
  abbrev slot : ℕ
  slot = get_or (chain_of image) i 0

  abbrev position : ℕ → ℕ
  position wire = encode_position (wire_of (chain_of image) (wire_slot image slot wire) (wire_code image slot wire))

  wire_position : (wire : ℕ) → position wire ≡ position_of (wire_slot image slot wire) (chain_of image)
  wire_position wire = sym (position_kept (chain_of image) (wire_slot image slot wire) (wire_code image slot wire) (zero_off_chain image))

  wire_code_lem : (wire : ℕ) → wire_code image slot wire < 256 → wire_ok (chain_of image) (wire_slot image slot wire) (wire_code image slot wire) ≡ true
      → encode_code (wire_of (chain_of image) (wire_slot image slot wire) (wire_code image slot wire)) ≡ wire_code image slot wire
  wire_code_lem wire byte h = sym (code_kept (chain_of image) (wire_slot image slot wire) (wire_code image slot wire) byte h)

  -- where the codes of its wires are bytes
  pub block_kept : wire_code image slot start_wire_offset < 256 → wire_code image slot abort_wire_offset < 256 → BlockKept image (block_at (blocks_of image) i) slot
  unfolding block_in
  block_kept start abort =
      let passed = accepted_record image n ok i l in
      rw (accepted_block image n ok i l) (record {
        kind = refl;
        start = wire_position start_wire_offset;
        start_code = wire_code_lem start_wire_offset start passed.start;
        abort = wire_position abort_wire_offset;
        abort_code = wire_code_lem abort_wire_offset abort (abort_wire_ok image (chain_of image) slot passed.abort);
        tag = refl;
      })

  -- the same by the sixteen bytes of the slot
  module _ (held : List ℕ) (is : held ≡ slot_bytes image slot) where
    byte : (j : ℕ) → j < slot_length → get_or held j 0 ≡ slot_byte image slot j
    byte j h = rw is (get_or-take slot_length (drop (slot_start slot) image) j 0 h ∙ get_or-drop (slot_start slot) image j 0)

    -- the slots that its wires name
    pub held_sources : (get_or held start_wire_offset 0 ≤ most_slots) × (get_or held abort_wire_offset 0 ≤ most_slots)
    held_sources =
        let few : slot_count image ≤ most_slots = (accepted_header_ok image n ok).few in (
          omega (arith, byte start_wire_offset (omega arith), accepted_source image n ok i l start_wire_offset (inl refl)),
          omega (arith, byte abort_wire_offset (omega arith), accepted_source image n ok i l abort_wire_offset (inr refl)),
        )

    -- what is written of the block before its tag
    pub held_fields : Bytes held → (next from start abort : ℕ) → from ≡ next
        → start ≡ position_of (get_or held start_wire_offset 0) (chain_of image) → abort ≡ position_of (get_or held abort_wire_offset 0) (chain_of image)
        → get_or held 0 0 ∷ from ∷ start ∷ get_or held 3 0 ∷ abort ∷ get_or held 5 0 ∷ 0 ∷ 0 ∷ [] ≡ encode_fields (block_at (blocks_of image) i) next
    held_fields by next from start abort from_next from_start from_abort =
        let code : (j : ℕ) → j < slot_length → slot_byte image slot j < 256 = λ j h. omega (arith, byte j h, by j) in
        let kept = block_kept (code 3 (omega arith)) (code 5 (omega arith)) in
        rw (
          kept.kind,
          kept.start,
          kept.start_code,
          kept.abort,
          kept.abort_code,
          from_next,
          from_start,
          from_abort,
          byte 0 (omega arith),
          byte 2 (omega arith),
          byte 3 (omega arith),
          byte 4 (omega arith),
          byte 5 (omega arith),
        )
