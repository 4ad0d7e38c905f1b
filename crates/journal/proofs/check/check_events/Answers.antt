-- `check::check_events` meets its contract: the length, a bad event, or none.
use Rattle.table.specs.Blocks.{blocks_of}
use Rattle.journal.proofs.AnswerLaws.{verdict_70, verdict_of}
use Rattle.journal.proofs.check.check_events.Goals as goal

pub returns-then-journal-ne0 : goal.returns-then-journal-ne0
returns-then-journal-ne0 c = rw c.header.ensures (verdict_70 (blocks_of c.args.table.now) c.args.journal.now c.if-journal-ne0.true)

pub returns-in-None : goal.returns-in-None
returns-in-None c = verdict_of (blocks_of c.args.table.now) c.args.journal.now c.if-journal-ne0.false _ c.in-None.ensures

pub returns-in-Some : goal.returns-in-Some
returns-in-Some c = verdict_of (blocks_of c.args.table.now) c.args.journal.now c.if-journal-ne0.false _ c.in-Some.ensures
