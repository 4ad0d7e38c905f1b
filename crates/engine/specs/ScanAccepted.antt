-- Document 01, "Turned back": "a call that fails none does its work". Which scans are accepted, beside the run promise, which would hold of an engine
-- that refuses every scan; and that each call of an accepted scan is a call by the rules.
use Rattle.std.specs.Prelude.{ℕ, ◌*◌, ◌≤◌, ◌<◌, true, List, Ok, ◌≡◌, length}
use Rattle.table.specs.Blocks.{Block, blocks_of, block_at, config_at}
use Rattle.table.specs.Check.{check_of}
use Rattle.layout.specs.Buffer.{record_length, entry_length, report_length, event_length, part}
use Rattle.layout.specs.RecordLayout.{sound_bytes}
use Rattle.layout.specs.EntryLayout.{entry_bytes}
use Rattle.block.specs.Call.{Whole}
use Rattle.block.specs.declared.entry.Inputs.{Inputs}
use Rattle.engine.specs.Told.{Told}
use Rattle.engine.specs.Verify.{verify_of}
use Rattle.engine.specs.Inputs.{flags_in, inputs_of}
use Rattle.engine.specs.Serve.{record_in, entry_in, call_in, served_to}
use Rattle.engine.specs.Scan.{scan_of}

-- a state as checks 20 and 21 ask
pub record StateFits (blocks : List Block) (state : List ℕ) : Type 0 where
  pub sized : length state ≡ record_length * length blocks
  pub sound : (k : ℕ) → k < length blocks → sound_bytes (block_at blocks k).kind (part record_length k state) ≡ true

-- a frame, a report and a journal as checks 30 to 41 ask
pub record GivenFits (blocks : List Block) (told : Told) (report journal : List ℕ) : Type 0 where
  pub frame_sized : length told.frame ≡ entry_length * length blocks
  pub form : (k : ℕ) → k < length blocks → entry_bytes (part entry_length k told.frame) ≡ true
  pub report_sized : length report ≡ report_length * length blocks
  pub room : 2 * event_length * length blocks ≤ length journal

-- checks 20 to 41 pass exactly then
pub record VerifyPasses (blocks : List Block) (state : List ℕ) (told : Told) (report journal : List ℕ) : Type 0 where
  pub state_fits : verify_of blocks state told report journal ≡ Ok tt → StateFits blocks state
  pub given_fits : verify_of blocks state told report journal ≡ Ok tt → GivenFits blocks told report journal
  pub passes : StateFits blocks state → GivenFits blocks told report journal → verify_of blocks state told report journal ≡ Ok tt

-- theorem verify_passes, proofs/ScanAccepted.antt
abbrev pub VerifyPassesExactly : Type 0
VerifyPassesExactly = (blocks : List Block) (state : List ℕ) (told : Told) (report journal : List ℕ) → VerifyPasses blocks state told report journal

-- theorem scan_accepted, proofs/ScanAccepted.antt: over an accepted table, a scan of what fits is accepted
abbrev pub ScanIsAccepted : Type 0
ScanIsAccepted =
    (image state : List ℕ) (told : Told) (report journal : List ℕ) (n : ℕ) → check_of image ≡ Ok n
    → StateFits (blocks_of image) state → GivenFits (blocks_of image) told report journal
    → (m : ℕ) × ((scan_of image state told report journal).answer ≡ Ok m)

-- theorem events_few, proofs/ScanAccepted.antt: "answers the event count, at most two a block"
abbrev pub EventsAreFew : Type 0
EventsAreFew =
    (image state : List ℕ) (told : Told) (report journal : List ℕ) (m : ℕ) → (scan_of image state told report journal).answer ≡ Ok m → m ≤ 2 * length (blocks_of image)

-- the call of the block at index i
module _ (image state : List ℕ) (told : Told) (report journal : List ℕ) (i : ℕ) where
  -- the state as it stands then, after the calls of the blocks before it
  abbrev pub state_at_call : List ℕ
  state_at_call = (served_to (blocks_of image) told i (record { state = state; report = report; journal = journal; events = 0 })).state

  -- "A wired input reads that flag as it stands when the block is called"
  abbrev pub inputs_at_call : Inputs
  inputs_at_call = inputs_of (config_at (blocks_of image) i) (flags_in state_at_call) (entry_in told.frame i).inputs

-- theorem calls_are_whole, proofs/ScanAccepted.antt: "A call repeats passes until one stops": in an accepted scan the call of each block is such
-- a call, cut short by nothing, from the record that the scan was given, with at most 6 passes and 2 events
abbrev pub CallsAreWhole : Type 0
CallsAreWhole =
    (image state : List ℕ) (told : Told) (report journal : List ℕ) (m : ℕ) → (scan_of image state told report journal).answer ≡ Ok m
    → (i : ℕ) → i < length (blocks_of image)
    → Whole (block_at (blocks_of image) i).kind (inputs_at_call image state told report journal i) (entry_in told.frame i) (record_in state i)
    (call_in (config_at (blocks_of image) i) i told.frame (state_at_call image state told report journal i))
