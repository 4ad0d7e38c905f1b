-- `table::Table::len` meets its contract: the chain counts the blocks.
use Rattle.std.proofs.Common.{sym}
use Rattle.table.proofs.HeldLaws.{table_length}
use Rattle.table.proofs.table.Table.len.Goals as goal

pub returns-clause-count : goal.returns-clause-count
returns-clause-count c = sym (table_length _ _ _ c.self.invariant c.self.view_is)
