-- The loop keeps: the blocks before i passed.
use Rattle.std.proofs.Common.{◌≡◌, Ok}
use Rattle.refusal.specs.Refusal.{first_refused}
use Rattle.engine.specs.Verify.{form_at}
use Rattle.engine.proofs.verify.check_entries.Given as goal

abbrev pub invariant-loop-i : goal.invariant-loop-i
invariant-loop-i l = first_refused (form_at l.frame) l.i ≡ Ok tt
