-- Tables and what tidying leaves of them, with every byte: for the reader, and so that a wrong definition breaks a fact about bytes in this crate. Proved in
-- proofs/Refusals.antt.
use Rattle.std.specs.Prelude.{ℕ, List, [], ◌∷◌, ◌++◌, Ok, ◌≡◌, drop, replicate}
use Rattle.table.specs.Lookup.{show_of}
use Rattle.table.specs.Refusals.{image}
use Rattle.refusal.specs.Refusal.{refused as turned_back}
use Rattle.refusal.specs.declared.Place.TheVariants.{Header}
use Rattle.refusal.specs.declared.Check.TheVariants.{OutputLength}
use Rattle.tidy.specs.Tidy.{tidy_of, tidy_into}

-- The two blocks of `image` and its spare slot: PUMP1 moves from slot 2 to slot 1, and FAN from slot 1 to slot 2, so that each one's wire has another slot.
unfoldable pub pump1_slot : List ℕ
pump1_slot = 7 ∷ 2 ∷ 0 ∷ 0 ∷ 2 ∷ 3 ∷ 0 ∷ 0 ∷ 0x50 ∷ 0x55 ∷ 0x4D ∷ 0x50 ∷ 0x31 ∷ 0x20 ∷ 0x20 ∷ 0x20 ∷ []

unfoldable pub fan_slot : List ℕ
fan_slot = 9 ∷ 0 ∷ 1 ∷ 129 ∷ 0 ∷ 0 ∷ 0 ∷ 0 ∷ 0x46 ∷ 0x41 ∷ 0x4E ∷ 0x20 ∷ 0x20 ∷ 0x20 ∷ 0x20 ∷ 0x20 ∷ []

abbrev pub fan : List ℕ
fan = drop 8 fan_slot

-- three spare slots
abbrev pub no_blocks : List ℕ
no_blocks = 1 ∷ 3 ∷ 0 ∷ 0 ∷ replicate 48 0

-- what is lent: as long as the tidy image of two blocks, and one byte longer
abbrev lent : List ℕ
lent = replicate 36 255

abbrev longer : List ℕ
longer = replicate 37 255

-- theorem tidy_example
pub record TidyExample : Type 0 where
  pub tidied : tidy_into image lent ≡ record { answer = Ok 2; out = 1 ∷ 2 ∷ 1 ∷ 0 ∷ (pump1_slot ++ fan_slot) }
  -- "A table without blocks becomes one zero slot with head 0."
  pub empty : tidy_into no_blocks (replicate 20 255) ≡ record { answer = Ok 0; out = 1 ∷ 1 ∷ 0 ∷ 0 ∷ replicate 16 0 }
  -- a refusal leaves the lent buffer untouched
  pub refused : tidy_into image longer ≡ record { answer = turned_back OutputLength Header; out = longer }
  -- show differs: the same block in another slot, with another slot in its wire
  pub shown : show_of image fan ≡ 9 ∷ 0 ∷ 2 ∷ 129 ∷ drop 4 fan_slot
  pub shown_tidy : show_of (tidy_of image) fan ≡ fan_slot
