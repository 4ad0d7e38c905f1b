-- What a table's memory says of the block at an index: for the methods of Table.
use Rattle.std.proofs.Common.{ℕ, ◌≡◌, ◌≤◌, ◌<◌, ◌∙◌, sym, ap, subst, refl, true, List, length, get_or, arith}
use mathlib.Core.Logic.{inl, inr}
use Rattle.kind.specs.Kind.{is_kind}
use Rattle.image.specs.Image.{most_slots, slot_count, kind_of, wire_slot, wire_code, start_wire_offset, abort_wire_offset, HasSlot}
use Rattle.table.specs.Chain.{chain_of}
use Rattle.table.specs.Record.{wire_ok, start_ok}
use Rattle.table.specs.Check.{IsAccepted}
use Rattle.table.specs.Blocks.{Block, block_in, blocks_of, block_at}
use Rattle.table.specs.declared.chain.Chain.{Chain}
use Rattle.table.proofs.ChainLaws.{slot_is, slot_has}
use Rattle.table.proofs.AcceptedLaws.{accepted_header_ok, accepted_blocks, accepted_block, accepted_record, abort_wire_ok, accepted_kind, accepted_source}

-- `table` is what clauses see of the image
pub record AtIndex (image : List ℕ) (chain : Chain) (table : List ℕ) (i : ℕ) : Type 0 where
  pub counted : i < chain.count
  pub few : i < most_slots
  pub slot : get_or chain.slots i 0 ≡ get_or (chain_of table) i 0
  pub has : HasSlot image (get_or chain.slots i 0)
  pub kind : is_kind (kind_of image (get_or chain.slots i 0)) ≡ true
  pub start : wire_slot image (get_or chain.slots i 0) start_wire_offset ≤ most_slots
  pub abort : wire_slot image (get_or chain.slots i 0) abort_wire_offset ≤ most_slots
  pub start_ok : start_ok image (chain_of image) (get_or chain.slots i 0) ≡ true
  pub abort_ok : wire_ok (chain_of image) (wire_slot image (get_or chain.slots i 0) abort_wire_offset) (wire_code image (get_or chain.slots i 0) abort_wire_offset) ≡ true
  pub block : block_in image (chain_of image) (get_or chain.slots i 0) ≡ block_at (blocks_of table) i

module _ (image : List ℕ) (chain : Chain) (ok : IsAccepted image chain) where
  pub held_length : length (blocks_of image) ≡ chain.count
  held_length = accepted_blocks image chain.count ok.answer

  pub held : (i : ℕ) → i < chain.count → AtIndex image chain image i
  unfolding block_in
  held i l =
      let hd = accepted_header_ok image chain.count ok.answer in
      let few : slot_count image ≤ most_slots = hd.few in
      let its_slot = slot_is image chain hd ok.chain i l in
      let block = accepted_block image chain.count ok.answer i l in
      record {
        counted = l;
        few = omega (arith, ok.chain.few);
        slot = its_slot;
        has = slot_has image chain hd ok.chain i l;
        kind = rw (its_slot, ← ap (λ (b : Block). b.kind) block) (accepted_kind image chain.count ok.answer i l);
        start = rw its_slot (omega (arith, accepted_source image chain.count ok.answer i l start_wire_offset (inl refl)));
        abort = rw its_slot (omega (arith, accepted_source image chain.count ok.answer i l abort_wire_offset (inr refl)));
        start_ok = rw its_slot (accepted_record image chain.count ok.answer i l).start;
        abort_ok = rw its_slot (abort_wire_ok image (chain_of image) (get_or (chain_of image) i 0) (accepted_record image chain.count ok.answer i l).abort);
        block = ap (λ (slot : ℕ). block_in image (chain_of image) slot) its_slot ∙ sym block;
      }

pub table_length : (image : List ℕ) (chain : Chain) (table : List ℕ) → IsAccepted image chain → image ≡ table → length (blocks_of table) ≡ chain.count
table_length image chain table ok e = rw (← e) (held_length image chain ok)

pub at_index : (image : List ℕ) (chain : Chain) (table : List ℕ) (i : ℕ) → IsAccepted image chain → image ≡ table → i < length (blocks_of table)
    → AtIndex image chain table i
at_index image chain table i ok e l =
    let k : i < chain.count = omega (arith, table_length image chain table ok e) in
    subst (λ (t : List ℕ). AtIndex image chain t i) e (held image chain ok i k)
