-- The loop keeps `Encoding`: the slots of the first i blocks are written.
use Rattle.std.proofs.Common.{length}
use Rattle.table.specs.Blocks.{blocks_of}
use Rattle.tidy.proofs.EncodeLaws.{Encoding}
use Rattle.tidy.proofs.encode.encode_slots.Given as goal

abbrev pub invariant-loop-i : goal.invariant-loop-i
invariant-loop-i l = Encoding (length (blocks_of l.table)) (blocks_of l.table) l.initial.out l.i l.out
