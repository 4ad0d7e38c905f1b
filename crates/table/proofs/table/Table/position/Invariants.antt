-- The loop of `table::Table::position` keeps `Searching`: the search from i on is all that is left.
use Rattle.table.proofs.SearchLaws.{Searching}
use Rattle.table.proofs.table.Table.position.Given as goal

abbrev pub invariant-loop-i : goal.invariant-loop-i
invariant-loop-i l = Searching l.self-inside.image.now l.tag l.i
