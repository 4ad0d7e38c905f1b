-- Document 01: a fresh state. "Fresh is all zero."
use Rattle.std.specs.Prelude.{ℕ, List, Result, Ok, Err, length, replicate}
use Rattle.refusal.specs.Refusal.{Verdict}
use Rattle.refusal.specs.declared.Refusal.{Refusal}
use Rattle.table.specs.Check.{check_of}
use Rattle.table.specs.Blocks.{Block, blocks_of}
use Rattle.engine.specs.Verify.{state_length}

-- what fresh answers and leaves in the lent buffer
pub record FreshResult : Type 0 where
  pub answer : Result ℕ Refusal
  pub state : List ℕ

-- "An accepted table check, and a fresh state made, answer the number of blocks." A refusal leaves the buffer untouched.
abbrev pub fresh_by : Verdict → ℕ → List ℕ → FreshResult
fresh_by (Ok x) n state = record { answer = Ok n; state = replicate (length state) 0 }
fresh_by (Err refusal) n state = record { answer = Err refusal; state = state }

-- "Every entry point makes the table checks, 1 to 11, first; then fresh makes 20"
abbrev pub fresh_after : Result ℕ Refusal → List Block → List ℕ → FreshResult
fresh_after (Ok n) blocks state = fresh_by (state_length blocks state (Ok tt)) n state
fresh_after (Err refusal) blocks state = record { answer = Err refusal; state = state }

unfoldable pub fresh_of : List ℕ → List ℕ → FreshResult
fresh_of image state = fresh_after (check_of image) (blocks_of image) state
