-- The loop of `spare::check_spares` keeps: the slots before this one passed.
use Rattle.std.proofs.Common.{◌≡◌, Ok}
use Rattle.refusal.specs.Refusal.{first_refused}
use Rattle.table.specs.Spare.{spare_at}
use Rattle.table.proofs.spare.check_spares.Given as goal

abbrev pub invariant-loop-i : goal.invariant-loop-i
invariant-loop-i l = first_refused (spare_at l.image) l.i ≡ Ok tt
