-- Find goes by the blocks of an accepted table alone, wherever they stand in its image: for whoever writes a table anew.
use Prim.Native.Nat.{ℕ, suc}
use mathlib.Core.Path.{◌≡◌, refl}
use mathlib.Core.List.{List, [], ◌∷◌}
use mathlib.Core.Bool.{cond}
use Rattle.table.specs.Tag.{same_bytes}
use Rattle.table.specs.Chain.{chain_of}
use Rattle.table.specs.Check.{check_of}
use Rattle.table.specs.Lookup.{tag_position, find_of}
use Rattle.table.specs.Blocks.{Block, block_in, blocks_in, blocks_of}
use Rattle.std.specs.Prelude.{Ok}

-- the position, from p on, of the first of some blocks that has the tag; 0 where none has
position_among : List ℕ → ℕ → List Block → ℕ
position_among tag p [] = 0
position_among tag p (b ∷ bs) = cond (same_bytes b.tag tag) p (position_among tag (suc p) bs)

by_blocks : (image chain tag : List ℕ) (p : ℕ) (slots : List ℕ) → tag_position image tag p slots ≡ position_among tag p (blocks_in image chain slots)
unfolding tag_position blocks_in block_in position_among
by_blocks image chain tag p [] = refl
by_blocks image chain tag p (slot ∷ slots) = rw (by_blocks image chain tag (suc p) slots)

pub find_by_blocks : (first second : List ℕ) (m n : ℕ) → check_of first ≡ Ok m → check_of second ≡ Ok n → blocks_of first ≡ blocks_of second
    → (tag : List ℕ) → find_of first tag ≡ find_of second tag
unfolding find_of
find_by_blocks first second m n one two same tag =
    rw (one, two, by_blocks first (chain_of first) tag 1 (chain_of first), by_blocks second (chain_of second) tag 1 (chain_of second), same)
