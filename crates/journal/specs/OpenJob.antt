-- What the code holds: the job that is open at each position, if one is. For contracts.
use Rattle.std.specs.Prelude.{ℕ, false, cond, get_or}
use Rattle.std.specs.declared.option.Option.{Option as CodeOption}
use Rattle.std.specs.declared.option.Option.TheVariants.{Some, None}
use Rattle.std.proofs.Math.Option.{Option, none, some}
use Rattle.journal.specs.declared.jobs.OpenJobs.{OpenJobs as CodeJobs}
use Rattle.journal.specs.Check.{OpenJobs}

-- an option of the code, as the rules have it
abbrev pub option_of : CodeOption ℕ → Option ℕ
option_of None = none
option_of (Some n) = some n

abbrev pub jobs_of : CodeJobs → OpenJobs
jobs_of held p = cond (get_or held.opens p false) (some (get_or held.jobs p 0)) none
