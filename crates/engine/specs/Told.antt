-- Document 01, "A list of scans": "All else that a scan is given may be anything." What a scan is given to read, beside the table and the state.
use Rattle.std.specs.Prelude.{ℕ, List}

pub record Told : Type 0 where
  pub frame : List ℕ
