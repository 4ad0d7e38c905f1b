-- Document 01, "Table image": the links of the chain.
use Rattle.std.specs.Prelude.{ℕ, List, cond, eqb}
use Rattle.image.specs.Image.{head_slot, next_of}

-- "The chain is walked from the head to the zero that ends it": the slot after a slot. Slot 0 stands for the header, which names the head.
abbrev pub next_slot : List ℕ → ℕ → ℕ
next_slot image slot = cond (eqb slot 0) (head_slot image) (next_of image slot)
