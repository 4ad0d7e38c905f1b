-- Text written behind text on a page, and the room that is left: for every writer of the sheet.
use Prim.Native.Nat.{ℕ, ◌+◌, ◌≤◌}
use native.Mathlib.Omega.{arith}
use mathlib.Core.List.{List, [], ◌++◌}
use mathlib.Core.Path.{refl, ◌∙◌}
use lib.ListN.{length}
use Rattle.text.specs.Page.{HasRoom, Writes}
use Rattle.text.specs.declared.page.Page.{Page}
use Rattle.text.proofs.TextLaws.{wrote_nothing, wrote_same_length, wrote_then}

pub writes_nothing : (p : Page) → p.end ≤ length p.out.now → Writes [] p p
writes_nothing p h = record { wrote = wrote_nothing p.end p.out.now h; same_loan = refl }

pub writes_then : {a b : List ℕ} {p q r : Page} → Writes a p q → Writes b q r → Writes (a ++ b) p r
writes_then w v = record { wrote = wrote_then w.wrote v.wrote; same_loan = v.same_loan ∙ w.same_loan }

-- the room behind a text that was written
pub room_after : {a : List ℕ} {p q : Page} (n : ℕ) → Writes a p q → HasRoom (length a + n) p → HasRoom n q
room_after n w h = omega (arith, h, w.wrote.ends, wrote_same_length w.wrote)
