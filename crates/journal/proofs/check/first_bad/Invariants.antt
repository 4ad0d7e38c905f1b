-- The loop of `check::first_bad` keeps `Checking`: the events that are left, with the jobs open now, give the whole answer.
use Rattle.table.specs.Blocks.{blocks_of}
use Rattle.journal.specs.OpenJob.{jobs_of}
use Rattle.journal.proofs.LoopLaws.{Checking}
use Rattle.journal.proofs.check.first_bad.Given as goal

abbrev pub invariant-loop-i : goal.invariant-loop-i
invariant-loop-i l = Checking (blocks_of l.table) l.journal (jobs_of l.open_jobs) l.i l.events
