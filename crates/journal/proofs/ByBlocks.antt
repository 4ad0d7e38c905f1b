-- Checking a journal goes by the blocks of an accepted table alone, wherever they stand in its image: for whoever writes a table anew.
use Prim.Native.Nat.{ℕ}
use mathlib.Core.Path.{◌≡◌}
use mathlib.Core.List.{List}
use Rattle.table.specs.Check.{check_of}
use Rattle.table.specs.Blocks.{blocks_of}
use Rattle.std.specs.Prelude.{Ok}
use Rattle.journal.specs.Check.{check_journal_of}

pub check_journal_by_blocks : (first second : List ℕ) (m n : ℕ) → check_of first ≡ Ok m → check_of second ≡ Ok n → blocks_of first ≡ blocks_of second
    → (journal : List ℕ) → check_journal_of first journal ≡ check_journal_of second journal
unfolding check_journal_of
check_journal_by_blocks first second m n one two same journal = rw (one, two, same)
