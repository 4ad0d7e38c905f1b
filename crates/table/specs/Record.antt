-- Document 01, checks 7 to 10: the records, "in chain order, each through 7, 8, 9, 10 before the next".
use Rattle.std.specs.Prelude.{ℕ, ◌+◌, ◌%◌, List, [], ◌∷◌, Bool, Ok, false, cond, not, ◌&&◌, ◌||◌, ltb, eqb, length, get_or, take}
use Rattle.kind.specs.Kind.{is_kind, has_abort}
use Rattle.membership.specs.Membership.{among}
use Rattle.refusal.specs.Refusal.{Verdict, require, first_refused}
use Rattle.image.specs.Image.{zero_offset, slot_byte, kind_of, wire_slot, wire_code, start_wire_offset, abort_wire_offset, tag_of}
use Rattle.table.specs.Tag.{tag_form, same_bytes}
use Rattle.table.specs.Chain.{chain_of}
use Rattle.refusal.specs.declared.Place.TheVariants.{Slot}
use Rattle.refusal.specs.declared.Check.TheVariants.{RecordKind, TagForm, TagAgain, WireForm}

-- 7: "kind, or bytes 6-7"
abbrev pub kind_ok : List ℕ → ℕ → Bool
kind_ok image slot = is_kind (kind_of image slot) && eqb (slot_byte image slot zero_offset) 0 && eqb (slot_byte image slot (zero_offset + 1)) 0

-- 9: "tag of an earlier block"
unfoldable pub tag_among : List ℕ → List ℕ → List ℕ → Bool
tag_among image tag [] = false
tag_among image tag (k ∷ earlier) = same_bytes (tag_of image k) tag || tag_among image tag earlier

-- "Wire slot 0 takes the input bit from the frame; its code is then 0."
abbrev pub no_wire : ℕ → ℕ → Bool
no_wire slot code = eqb slot 0 && eqb code 0

-- "Otherwise the slot is on the chain and the code has bits 0-1 = flag ... and bit 7 = inverted, others zero."
abbrev pub wire_ok : List ℕ → ℕ → ℕ → Bool
wire_ok chain slot code = cond (eqb slot 0) (eqb code 0) (among slot chain && ltb (code % 128) 4)

-- 10: "a wire not as above: its slot, its code, or an abort wire on a kind without one"
abbrev pub start_ok : List ℕ → List ℕ → ℕ → Bool
start_ok image chain slot = wire_ok chain (wire_slot image slot start_wire_offset) (wire_code image slot start_wire_offset)

abbrev pub abort_ok : List ℕ → List ℕ → ℕ → Bool
abort_ok image chain slot =
    cond (has_abort (kind_of image slot))
    (wire_ok chain (wire_slot image slot abort_wire_offset) (wire_code image slot abort_wire_offset))
    (no_wire (wire_slot image slot abort_wire_offset) (wire_code image slot abort_wire_offset))

-- one record; `repeated`: its tag is that of an earlier block
unfoldable pub record_check : List ℕ → List ℕ → Bool → ℕ → Verdict
record_check image chain repeated slot =
    require (kind_ok image slot) RecordKind (Slot slot)
    (require (tag_form (tag_of image slot)) TagForm (Slot slot)
    (require (not repeated) TagAgain (Slot slot)
    (require (start_ok image chain slot) WireForm (Slot slot)
    (require (abort_ok image chain slot) WireForm (Slot slot)
    (Ok tt)))))

-- the record of block i of a chain, from 0, whose earlier blocks stand before it
abbrev pub record_at : List ℕ → List ℕ → ℕ → Verdict
record_at image chain i = record_check image chain (tag_among image (tag_of image (get_or chain i 0)) (take i chain)) (get_or chain i 0)

unfoldable pub records_check : List ℕ → Verdict
records_check image = first_refused (record_at image (chain_of image)) (length (chain_of image))
