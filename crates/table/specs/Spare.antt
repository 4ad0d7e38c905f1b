-- Document 01, check 11: "A slot off the chain holds sixteen zeros."
use Rattle.std.specs.Prelude.{ℕ, suc, List, Bool, Ok, ◌||◌}
use Rattle.membership.specs.Membership.{among}
use Rattle.words.specs.Word.{all_zero}
use Rattle.refusal.specs.Refusal.{Verdict, require, first_refused}
use Rattle.image.specs.Image.{slot_count, slot_bytes}
use Rattle.table.specs.Chain.{chain_of}
use Rattle.refusal.specs.declared.Place.TheVariants.{Slot}
use Rattle.refusal.specs.declared.Check.TheVariants.{SpareSlot}

-- a slot on the chain, or "sixteen zeros"
abbrev pub spare_ok : List ℕ → List ℕ → ℕ → Bool
spare_ok image chain slot = among slot chain || all_zero (slot_bytes image slot)

-- "not zero; lowest slot": slot i + 1
abbrev pub spare_at : List ℕ → ℕ → Verdict
spare_at image i = require (spare_ok image (chain_of image) (suc i)) SpareSlot (Slot (suc i)) (Ok tt)

unfoldable pub spares_check : List ℕ → Verdict
spares_check image = first_refused (spare_at image) (slot_count image)
