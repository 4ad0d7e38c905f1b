-- A page, and that text was written at its end. For contracts.
use Rattle.std.specs.Prelude.{ℕ, ◌+◌, ◌≤◌, List, ◌≡◌, length}
use Rattle.text.specs.Text.{Wrote}
use Rattle.text.specs.declared.page.Page.{Page}

-- so many bytes fit behind its text
abbrev pub HasRoom : ℕ → Page → Type 0
HasRoom n page = page.end + n ≤ length page.out.now

-- a text was written behind that of the old page, in the same buffer
pub record Writes (text : List ℕ) (old new : Page) : Type 0 where
  pub wrote : Wrote old.end text old.out.now new.end new.out.now
  pub same_loan : new.out.ghost_name ≡ old.out.ghost_name
