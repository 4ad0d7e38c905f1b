-- Document 01: the table checks, 1 to 11, from the top down: header, chain, record, spare.
use Rattle.std.specs.Prelude.{ℕ, ◌≡◌, List, Result, Ok, length}
use Rattle.std.specs.Result.{result_and}
use Rattle.refusal.specs.Refusal.{Verdict}
use Rattle.refusal.specs.declared.Refusal.{Refusal}
use Rattle.table.specs.Header.{header_check}
use Rattle.table.specs.Walk.{walked}
use Rattle.table.specs.Chain.{chain_verdict, chain_of, Holds}
use Rattle.table.specs.Record.{records_check}
use Rattle.table.specs.Spare.{spares_check}
use Rattle.table.specs.declared.chain.Chain.{Chain}

-- the groups in order
unfoldable pub verdict_of : List ℕ → Verdict
verdict_of image =
    result_and (header_check image)
    (result_and (chain_verdict (walked image))
    (result_and (records_check image)
    (spares_check image)))

-- "An accepted table check, and a fresh state made, answer the number of blocks."
unfoldable pub check_of : List ℕ → Result ℕ Refusal
check_of image = result_and (verdict_of image) (Ok (length (chain_of image)))

-- an accepted table, and what the code holds of its chain
pub record IsAccepted (image : List ℕ) (held : Chain) : Type 0 where
  pub answer : check_of image ≡ Ok held.count
  pub chain : Holds (chain_of image) held
