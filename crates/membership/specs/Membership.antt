-- Whether a number is within a range, or among some numbers: for the kinds of a block, the header and the tags of a table, and its chain.
use Rattle.std.specs.Prelude.{ℕ, Bool, false, ◌||◌, ◌&&◌, List, [], ◌∷◌, leb, eqb}

-- k is one of first to last; std's is_in_range, under a name that the definitions of several crates have
abbrev pub within : ℕ → ℕ → ℕ → Bool
within first last k = leb first k && leb k last

-- k is one of some numbers; std's list_any takes a test in the place of the number
abbrev pub among : ℕ → List ℕ → Bool
among k [] = false
among k (m ∷ ms) = eqb m k || among k ms
