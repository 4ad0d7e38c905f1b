-- What is left of the pieces, used from the present work, gives what all of them give from the first.
use Rattle.std.proofs.Common.{◌≡◌, ◌≤◌, map}
use Rattle.block.specs.PackedEntry.{piece_of}
use Rattle.block.specs.Executing.{use_pieces}
use Rattle.block.proofs.Pieces.{used_from}
use Rattle.block.proofs.executing.use_pieces.Given as goal

abbrev pub invariant-loop-word : goal.invariant-loop-word
invariant-loop-word l = record {
  used : l.w.used ≤ l.word-index;
  left : used_from l.several l.b l.w l.word-items l.word-index ≡ use_pieces l.several l.b l.initial.w (map piece_of l.word-items);
}
