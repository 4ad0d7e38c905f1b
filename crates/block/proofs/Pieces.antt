-- The pieces of an entry, used one after the other from an index on. For the loop of `use_pieces`.
use Rattle.std.proofs.Common.{ℕ, ◌+◌, ◌≤◌, ◌<◌, Bool, cond, List, length, drop, map, slice_index_or, ◌≡◌, refl, add-one, drop-cons, drop_of_length-le, take, sym}
use Rattle.std.proofs.lemmas.List.{take-map}
use Rattle.block.specs.PackedEntry.{piece_of}
use Rattle.block.specs.Executing.{use_piece, ends_pieces, use_pieces}
use Rattle.block.specs.declared.entry.Piece.{Piece}
use Rattle.block.specs.declared.executing.Work.{Work}
use Rattle.block.specs.declared.executing.Bounds.{Bounds}

-- the first pieces, of their numbers
pub taken_pieces : (n : ℕ) (words : List ℕ) → map piece_of (take n words) ≡ take n (map piece_of words)
taken_pieces n words = sym (take-map piece_of n words)

module _ (several : Bool) (b : Bounds) (w : Work) (words : List ℕ) (i : ℕ) where
  -- the pieces from the i-th on
  abbrev pub used_from : Work
  used_from = use_pieces several b w (map piece_of (drop i words))

  -- none is left
  pub used_all : length words ≤ i → used_from ≡ w
  unfolding use_pieces
  used_all h = rw (drop_of_length-le words h) refl

  -- the i-th piece p is used, which gives the work v, and the rest unless it ends them
  pub used_next : {p : Piece} {v : Work} {ends : Bool} → p ≡ piece_of (slice_index_or words i 0) → v ≡ use_piece w p → ends ≡ ends_pieces several b v p → i < length words
      → used_from ≡ cond ends v (use_pieces several b v (map piece_of (drop (i + 1) words)))
  unfolding use_pieces
  used_next ep ev ee h = rw (ee, ev, ep, drop-cons words i 0 h, add-one i) refl
