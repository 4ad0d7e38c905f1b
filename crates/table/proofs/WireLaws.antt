-- Laws of a wire that is there, and of one that is not: two bytes of a slot as one number, and slot 0 on no chain. For the proofs of record::kind_ok,
-- no_wire, wire_ok and abort_ok, and of blocks::no_wires and Table::is_unwired.
use Prim.Native.Nat.{ℕ, ◌+◌, ◌%◌, ◌<◌}
use mathlib.Core.Path.{◌≡◌, sym, ◌∙◌}
use mathlib.Core.List.{List}
use mathlib.Core.Bool.{true, false, ◌&&◌}
use native.Mathlib.Omega.{arith}
use borrow.Author.Tests.{eqb-true}
use lib.Dec.{ltb, eqb}
use Rattle.membership.specs.Membership.{among}
use Rattle.membership.proofs.Logic.{by_test}
use Rattle.membership.proofs.AmongLaws.{all_among}
use Rattle.words.specs.Word.{number_at}
use Rattle.words.proofs.ZeroLaws.{zero_at_lem, zero_split, zero_pair}
use Rattle.image.specs.Image.{slot_length, slot_count, slot_start, slot_byte, wire_slot, wire_code, start_wire_offset, abort_wire_offset, HasSlot}
use Rattle.table.specs.Chain.{chain_of}
use Rattle.table.specs.Record.{no_wire, wire_ok}
use Rattle.table.specs.Blocks.{wire_of}
use Rattle.std.specs.Prelude.{is_none}
use Rattle.table.proofs.ChainLaws.{chain_in}

-- two bytes of a slot are zero where their number is
pub slot_pair_zero : (image : List ℕ) (slot b : ℕ) → HasSlot image slot → b + 1 < slot_length
    → eqb (number_at 2 image (slot_start slot + b)) 0 ≡ (eqb (slot_byte image slot b) 0 && eqb (slot_byte image slot (b + 1)) 0)
slot_pair_zero image slot b h l =
    let e : slot_start slot + b + 1 ≡ slot_start slot + (b + 1) = omega arith in
    rw e at (zero_pair (slot_start slot + b) image (omega (arith, h)))

-- both wires, as one number
pub zero_wires : (image : List ℕ) (slot : ℕ) → HasSlot image slot
    → eqb (number_at 4 image (slot_start slot + start_wire_offset)) 0
    ≡ (no_wire (wire_slot image slot start_wire_offset) (wire_code image slot start_wire_offset) && no_wire (wire_slot image slot abort_wire_offset) (wire_code image slot abort_wire_offset))
zero_wires image slot h =
    let at = slot_start slot + start_wire_offset in
    let e : at + 2 ≡ slot_start slot + abort_wire_offset = omega arith in
    sym (zero_at_lem 4 at image) ∙ zero_split 2 2 at image
    ∙ rw (e, zero_at_lem 2 at image, zero_at_lem 2 (slot_start slot + abort_wire_offset) image, slot_pair_zero image slot start_wire_offset h (omega arith), slot_pair_zero image slot abort_wire_offset h (omega arith))

-- two bytes in form are zero exactly where there is no wire
pub none_bytes : (chain : List ℕ) (slot code : ℕ) → wire_ok chain slot code ≡ true → no_wire slot code ≡ is_none (wire_of chain slot code)
none_bytes chain slot code h = by_test (eqb slot 0) (λ z. simp z (simp z at h)) (λ z. simp z)

-- no chain has slot 0
pub zero_off_chain : (image : List ℕ) → among 0 (chain_of image) ≡ false
zero_off_chain image =
    by_test (among 0 (chain_of image)) (λ m. absurd (omega (arith, (all_among (slot_count image) (chain_of image) 0 (chain_in image) m).0))) (λ m. m)

-- any other is, where its slot is on the chain and its code has no other bits
pub wire_some : (image : List ℕ) (slot code : ℕ) → no_wire slot code ≡ false
    → (among slot (chain_of image) && ltb (code % 128) 4) ≡ wire_ok (chain_of image) slot code
wire_some image slot code h =
    by_test (eqb slot 0)
    (λ z. let q : slot ≡ 0 = eqb-true slot 0 z in
    let c : eqb code 0 ≡ false = simp z at h in
    simp (z, c) (rw (q, zero_off_chain image)))
    (λ z. simp z)
