-- The loop keeps `Serving`: the buffers are those of the first i blocks, called.
use Rattle.table.specs.Blocks.{blocks_of}
use Rattle.engine.specs.Lent.{SameLoans}
use Rattle.engine.proofs.ServingLaws.{Serving}
use Rattle.engine.proofs.lent.Lent.serve_all.Given as goal

abbrev pub invariant-loop-i : goal.invariant-loop-i
invariant-loop-i l = record {
  serving : Serving (blocks_of l.table) l.told l.initial.self.state.now l.initial.self.report.now l.initial.self.journal.now
      l.i l.self.state.now l.self.report.now l.self.journal.now l.self.events;
  same_loans : SameLoans l.initial.self l.self;
}
