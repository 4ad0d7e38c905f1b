-- Texts in ASCII, as bytes.
use Rattle.std.specs.Prelude.{ℕ, List}
use Prim.Native.Char.{code}
use Prim.Native.String.{String, [], ◌∷◌}
use mathlib.Core.List as list

unfoldable pub ascii : String → List ℕ
ascii [] = list.[]
ascii (c ∷ s) = list.◌∷◌ (code c) (ascii s)
