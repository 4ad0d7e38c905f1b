-- `OpenJobs::new` meets its contract: no job is open at any position.
use lib.ListN.{replicate}
use Rattle.journal.proofs.LoopLaws.{nothing_open}
use Rattle.journal.proofs.jobs.OpenJobs.new.Goals as goal

pub returns : goal.returns
returns c p = nothing_open 65 p (replicate 65 0)
