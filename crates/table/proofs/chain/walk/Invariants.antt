-- The loop keeps `Walking`: the walk from the slots met so far is the whole walk. Measure: the slots not met.
use Prim.Native.Nat.{◌-◌}
use Rattle.image.specs.Image.{slot_count}
use Rattle.table.proofs.ChainLaws.{Walking}
use Rattle.table.proofs.chain.walk.Given as goal

abbrev pub invariant-loop-at : goal.invariant-loop-at
invariant-loop-at l = Walking l.image l.chain.slots l.chain.positions l.count l.from l.at

abbrev pub decreases-loop-at : goal.decreases-loop-at
decreases-loop-at l = slot_count l.image - l.count
