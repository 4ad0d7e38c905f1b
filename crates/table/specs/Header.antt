-- Document 01, checks 1 to 4: the header.
use Rattle.std.specs.Prelude.{ℕ, ◌<◌, ◌≤◌, ◌≡◌, ◌&&◌, List, Ok, leb, eqb, length}
use Rattle.membership.specs.Membership.{within}
use Rattle.refusal.specs.Refusal.{Verdict, require}
use Rattle.image.specs.Image.{header_length, most_slots, version, slot_count, header_zero, image_length}
use Rattle.refusal.specs.declared.Place.TheVariants.{Header}
use Rattle.refusal.specs.declared.Check.TheVariants.{ShortHeader, Version, SlotCount, ImageLength}

-- 1: "under 4 bytes"; 2: "version or byte 3"; 3: "N"; 4: "length not 4 + 16 × N"
unfoldable pub header_check : List ℕ → Verdict
header_check image =
    require (leb header_length (length image)) ShortHeader Header
    (require (eqb (version image) 1 && eqb (header_zero image) 0) Version Header
    (require (within 1 most_slots (slot_count image)) SlotCount Header
    (require (eqb (length image) (image_length (slot_count image))) ImageLength Header
    (Ok tt))))

-- what an image has whose header passed
pub record HeaderOk (image : List ℕ) : Type 0 where
  pub some : 0 < slot_count image
  pub few : slot_count image ≤ most_slots
  pub sized : length image ≡ image_length (slot_count image)
