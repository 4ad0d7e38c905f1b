-- The length of a figure, and the line of a refusal: for the writers of lines.
use Prim.Native.Nat.{ℕ, ◌≤◌, ◌<◌}
use native.Mathlib.Omega.{arith}
use mathlib.Core.List.{[], ◌∷◌, ◌++◌}
use mathlib.Core.Path.{◌≡◌, refl}
use lib.ListN.{length}
use Rattle.text.specs.Ascii.{ascii}
use Rattle.text.specs.Text.{line_feed, without_spaces}
use Rattle.sheet.specs.Line.{figure, refused_line, figure_room}
use Rattle.text.proofs.TextLaws.{decimal_short}

-- the word as the code writes it
pub refused_is : (number : ℕ) → without_spaces (ascii "refused") ++ figure number ++ (line_feed ∷ []) ≡ refused_line number
unfolding refused_line without_spaces ascii
refused_is number = refl

pub figure_short : (n : ℕ) → n < 4294967296 → length (figure n) ≤ figure_room
figure_short n l = omega (arith, decimal_short n l)
