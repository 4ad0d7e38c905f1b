-- The loop of `record::check_records` keeps `Recording`: the records before i passed, and their tags are marked.
use Rattle.table.proofs.RecordLaws.{Recording}
use Rattle.table.proofs.record.check_records.Given as goal

abbrev pub invariant-loop-i : goal.invariant-loop-i
invariant-loop-i l = Recording l.image l.marks l.i
