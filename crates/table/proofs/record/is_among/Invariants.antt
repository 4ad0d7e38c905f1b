-- The loop of `record::is_among` keeps: the flag says whether the tag is that of a block passed.
use mathlib.Core.Path.{◌≡◌}
use lib.ListN.{take}
use Rattle.image.specs.Image.{tag_of}
use Rattle.table.specs.Chain.{chain_of}
use Rattle.table.specs.Record.{tag_among}
use Rattle.table.proofs.record.is_among.Given as goal

abbrev pub invariant-loop-i : goal.invariant-loop-i
invariant-loop-i l = l.found ≡ tag_among l.image (tag_of l.image l.slot) (take l.i (chain_of l.image))
