-- Laws of the list of blocks: its length, and the block at an index. For the proofs of the blocks module and for AcceptedLaws.
use Prim.Native.Nat.{ℕ, zero, suc, ◌<◌}
use mathlib.Core.Path.{◌≡◌, refl, ap}
use mathlib.Core.List.{List, [], ◌∷◌}
use native.Mathlib.Omega.{arith}
use lib.ListN.{length, get_or}
use Rattle.table.specs.Blocks.{block_in, blocks_in, block_at}

pub blocks_length : (image chain slots : List ℕ) → length (blocks_in image chain slots) ≡ length slots
unfolding blocks_in
blocks_length image chain [] = refl
blocks_length image chain (slot ∷ slots) = ap suc (blocks_length image chain slots)

pub block_is : (image chain slots : List ℕ) (i : ℕ) → i < length slots → block_at (blocks_in image chain slots) i ≡ block_in image chain (get_or slots i 0)
unfolding blocks_in
block_is image chain [] i l = absurd (omega arith)
block_is image chain (slot ∷ slots) zero l = refl
block_is image chain (slot ∷ slots) (suc i) l = block_is image chain slots i (omega arith)
