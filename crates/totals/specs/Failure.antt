-- Why there is no sheet.
use Rattle.std.specs.Prelude.{ℕ, ⊤, Result, Ok, Err}
use Rattle.totals.specs.declared.Cut.{Cut}
use Rattle.totals.specs.declared.Failure.{Failure}
use Rattle.totals.specs.declared.Failure.TheVariants.{Input, Output}

-- how many bytes came, of a read that failed too
abbrev pub came_count : Result ℕ Cut → ℕ
came_count (Ok count) = count
came_count (Err cut) = cut.count

-- a read failed
abbrev pub IsOfInput : Failure → Type 0
IsOfInput (Input error) = ⊤
IsOfInput (Output error) = ⊥
