-- Document 01: one scan, over the buffers as they are at entry.
use Rattle.std.specs.Prelude.{ℕ, List, Result, Ok, Err, length}
use Rattle.refusal.specs.Refusal.{Verdict}
use Rattle.refusal.specs.declared.Refusal.{Refusal}
use Rattle.table.specs.Check.{check_of}
use Rattle.table.specs.Blocks.{Block, blocks_of}
use Rattle.engine.specs.Told.{Told}
use Rattle.engine.specs.Verify.{verify_of}
use Rattle.engine.specs.Serve.{Buffers, served_to}

-- what a scan answers and leaves in the lent buffers
pub record ScanResult : Type 0 where
  pub answer : Result ℕ Refusal
  pub state : List ℕ
  pub report : List ℕ
  pub journal : List ℕ

-- "Nothing is written before the last check": a refusal leaves every lent buffer untouched
abbrev pub untouched : Refusal → List ℕ → List ℕ → List ℕ → ScanResult
untouched refusal state report journal = record { answer = Err refusal; state = state; report = report; journal = journal }

-- "A scan leaves the new records in the state buffer and answers the event count"
abbrev pub scanned : Buffers → ScanResult
scanned b = record { answer = Ok b.events; state = b.state; report = b.report; journal = b.journal }

-- "An accepted scan calls each block once, in chain order; a refused one calls none and has no events."
abbrev pub scan_by : Verdict → List Block → List ℕ → Told → List ℕ → List ℕ → ScanResult
scan_by (Ok x) blocks state told report journal =
    scanned (served_to blocks told (length blocks) (record { state = state; report = report; journal = journal; events = 0 }))
scan_by (Err refusal) blocks state told report journal = untouched refusal state report journal

-- the scan over a table as a list of blocks
unfoldable pub scan_blocks : List Block → List ℕ → Told → List ℕ → List ℕ → ScanResult
scan_blocks blocks state told report journal =
    scan_by (verify_of blocks state told report journal) blocks state told report journal

-- "the scan goes on only with a table that was accepted"
abbrev pub scan_after : Result ℕ Refusal → List Block → List ℕ → Told → List ℕ → List ℕ → ScanResult
scan_after (Ok n) blocks state told report journal = scan_blocks blocks state told report journal
scan_after (Err refusal) blocks state told report journal = untouched refusal state report journal

unfoldable pub scan_of : List ℕ → List ℕ → Told → List ℕ → List ℕ → ScanResult
scan_of image state told report journal = scan_after (check_of image) (blocks_of image) state told report journal
