-- Document 01, "Table image": lengths and bytes by name.
use Rattle.std.specs.Prelude.{ℕ, ◌+◌, ◌-◌, ◌*◌, ◌<◌, ◌≤◌, List, length, get_or, take, drop}

-- "Header, 4 bytes: version 1; slot count N, 1 to 64; head slot, 0 to N; zero."
abbrev pub header_length : ℕ
header_length = 4

abbrev pub most_slots : ℕ
most_slots = 64

abbrev pub version : List ℕ → ℕ
version image = get_or image 0 0

abbrev pub slot_count : List ℕ → ℕ
slot_count image = get_or image 1 0

abbrev pub head_slot : List ℕ → ℕ
head_slot image = get_or image 2 0

abbrev pub header_zero : List ℕ → ℕ
header_zero image = get_or image 3 0

-- "Then N slots of 16 bytes, numbered from 1"
abbrev pub slot_length : ℕ
slot_length = 16

abbrev pub slot_start : ℕ → ℕ
slot_start slot = header_length + slot_length * (slot - 1)

-- "4 + 16 × N"
abbrev pub image_length : ℕ → ℕ
image_length n = header_length + slot_length * n

abbrev pub slot_bytes : List ℕ → ℕ → List ℕ
slot_bytes image slot = take slot_length (drop (slot_start slot) image)

abbrev pub slot_byte : List ℕ → ℕ → ℕ → ℕ
slot_byte image slot b = get_or image (slot_start slot + b) 0

-- "byte 0 kind; 1 next slot; 2 start wire slot; 3 start wire code; 4 abort wire slot; 5 abort wire code; 6-7 zero; 8-15 tag"
abbrev pub kind_of : List ℕ → ℕ → ℕ
kind_of image slot = slot_byte image slot 0

abbrev pub next_of : List ℕ → ℕ → ℕ
next_of image slot = slot_byte image slot 1

-- where a wire's two bytes stand
abbrev pub start_wire_offset : ℕ
start_wire_offset = 2

abbrev pub abort_wire_offset : ℕ
abort_wire_offset = 4

abbrev pub wire_slot : List ℕ → ℕ → ℕ → ℕ
wire_slot image slot wire = slot_byte image slot wire

abbrev pub wire_code : List ℕ → ℕ → ℕ → ℕ
wire_code image slot wire = slot_byte image slot (wire + 1)

-- where the two zero bytes stand, and the tag
abbrev pub zero_offset : ℕ
zero_offset = 6

abbrev pub tag_offset : ℕ
tag_offset = 8

abbrev pub tag_length : ℕ
tag_length = 8

abbrev pub tag_of : List ℕ → ℕ → List ℕ
tag_of image slot = take tag_length (drop (slot_start slot + tag_offset) image)

-- the image has the header and the slots up to this one; slot 0 stands for the header
abbrev pub Reaches : List ℕ → ℕ → Type 0
Reaches image slot = image_length slot ≤ length image

-- the image has all of this slot's bytes
abbrev pub HasSlot : List ℕ → ℕ → Type 0
HasSlot image slot = (0 < slot) × Reaches image slot
