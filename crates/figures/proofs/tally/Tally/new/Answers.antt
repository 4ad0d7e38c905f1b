-- `Tally::new` meets its contract: rows of zeros, and nothing past them.
use Rattle.figures.proofs.TallyLaws.{no_counts}
use Rattle.figures.proofs.tally.Tally.new.Goals as goal

pub returns : goal.returns
returns c position kind = no_counts position kind
