-- The loop keeps: the blocks before i passed.
use Rattle.std.proofs.Common.{◌≡◌, Ok}
use Rattle.table.specs.Blocks.{blocks_of}
use Rattle.refusal.specs.Refusal.{first_refused}
use Rattle.engine.specs.Verify.{sound_at}
use Rattle.engine.proofs.verify.check_sound.Given as goal

abbrev pub invariant-loop-i : goal.invariant-loop-i
invariant-loop-i l = first_refused (sound_at (blocks_of l.table) l.state) l.i ≡ Ok tt
