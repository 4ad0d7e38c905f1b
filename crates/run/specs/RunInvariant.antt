-- Demand 3 of document 01, the run promise: one claim about any list of scans from fresh, refused ones included.
use Rattle.std.specs.Prelude.{ℕ, suc, ◌+◌, ◌≤◌, ◌<◌, true, cond, List, [], Ok, ◌≢◌, ◌≡◌, eqb, length}
use Rattle.std.proofs.Math.Option.{none}
use Rattle.table.specs.Blocks.{blocks_of, block_at}
use Rattle.layout.specs.Buffer.{record_length, part}
use Rattle.layout.specs.RecordLayout.{sound_bytes}
use Rattle.layout.specs.EventLayout.{events_at}
use Rattle.block.specs.Record.{Dormant, Executing, bit}
use Rattle.block.specs.Event.{Start, DoneEvent, Failed, AbortedEvent, Withdrawn}
use Rattle.block.specs.Turns.{Turns, count_of}
use Rattle.block.specs.History.{timer_of, taken_time_out, time_out_in_force, events_of}
use Rattle.block.specs.BlockInvariant.{EachCall, is_open, open_job, flag_count, CountsInStep}
use Rattle.block.specs.declared.record.Record.{Record}
use Rattle.block.specs.declared.event.Event.{Event}
use Rattle.engine.specs.Serve.{record_in}
use Rattle.engine.specs.Fresh.{fresh_of}
use Rattle.run.specs.Scans.{Scans, ◌and_then◌, FramesAreBytes, Given, seen_at, state_after, result_of, journal_of, history_of}
use Rattle.engine.specs.ScanAccepted.{StateFits, GivenFits}

module _ (image buffer : List ℕ) (scans : Scans) (k : ℕ) where
  -- the kind of the block at index k, whose position is k + 1
  abbrev pub block_kind : ℕ
  block_kind = (block_at (blocks_of image) k).kind

  -- "Step and flags are those in the state buffer after the list."
  abbrev pub block_record : Record
  block_record = record_in (state_after image buffer scans) k

  -- "A block's entries are the events there with its position."
  abbrev pub block_events : List Event
  block_events = events_at (suc k) (journal_of image buffer scans)

  -- what holds of one block
  pub record BlockRun : Type 0 where
    -- "The entries, if any, begin with a start and take turns; the last may be a start", each finish with its start's job; a job is open in Executing and Aborting
    pub turns : Turns block_kind none block_events (open_job block_record)
    -- starts are done, failed, aborted and withdrawn, and the open job
    pub balance : count_of Start block_events
        ≡ count_of DoneEvent block_events + count_of Failed block_events + count_of AbortedEvent block_events + count_of Withdrawn block_events + bit (is_open block_record.step)
    -- no flag in Dormant, one in every other step
    pub flags : flag_count block_record.flags ≡ cond (eqb block_record.step Dormant) 0 1
    -- each accepted scan called the block by the rules, from the record before to the record after, with the passes (at most 6) and pieces of its
    -- report; "A start's job is that of the block's frame entry in the scan that wrote it"
    pub calls : EachCall block_kind (history_of image buffer k scans)
    -- they are the events of these calls, in the order of the scans
    pub events : block_events ≡ events_of (history_of image buffer k scans)
    -- in Executing with a time-out in force, elapsed as the readings give it is at most that
    pub in_time : block_record.step ≡ Executing → time_out_in_force block_kind (history_of image buffer k scans) ≢ 0
        → (timer_of (history_of image buffer k scans)).elapsed ≤ time_out_in_force block_kind (history_of image buffer k scans)
    -- the record's elapsed and last reading are those that the readings give
    pub elapsed : block_record.step ≡ Executing → block_record.timer ≡ timer_of (history_of image buffer k scans)
    -- the stored time-out is the one that the last start took
    pub stored : block_record.step ≡ Executing → block_record.timeout ≡ taken_time_out block_kind (history_of image buffer k scans)
    -- the bytes of its record are sound
    pub sound : sound_bytes block_kind (part record_length k (state_after image buffer scans)) ≡ true

-- the claim: for every table and buffer of which fresh made a state, and every list of scans over them, it holds of each block
pub record RunInvariant (image buffer : List ℕ) (scans : Scans) : Type 0 where
  pub blocks : (k : ℕ) → k < length (blocks_of image) → BlockRun image buffer scans k
  -- "A block's entries are the events there with its position.", and there are no others: no event has a position p that is no block's
  pub positions : (p : ℕ) → ((k : ℕ) → k < length (blocks_of image) → p ≢ suc k) → events_at p (journal_of image buffer scans) ≡ []

-- theorem run_invariant, proofs/RunInvariant.antt
abbrev pub RunInvariantHolds : Type 0
RunInvariantHolds =
    (image buffer : List ℕ) (n : ℕ) → (fresh_of image buffer).answer ≡ Ok n → (scans : Scans) → FramesAreBytes scans → RunInvariant image buffer scans

-- Document 02, 1/14: "the time-out promise means time counted this way", which is no wall clock: after an accepted scan that leaves a block in Executing, its elapsed and
-- its last reading are those of its readings in step alone; one out of step changes neither. Theorem counts_in_step, proofs/RunInvariant.antt
abbrev pub ScansCountInStep : Type 0
ScansCountInStep =
    (image buffer : List ℕ) (n : ℕ) → (fresh_of image buffer).answer ≡ Ok n → (scans : Scans) (g : Given) → FramesAreBytes (scans and_then g)
    → (m : ℕ) → (result_of image buffer scans g).answer ≡ Ok m → (k : ℕ) → k < length (blocks_of image) → (block_record image buffer (scans and_then g) k).step ≡ Executing
    → CountsInStep (seen_at image k (state_after image buffer scans) g (result_of image buffer scans g) m)

-- theorem state_fits, proofs/RunInvariant.antt: after any list of scans from fresh the state buffer fits
abbrev pub StateFitsAfter : Type 0
StateFitsAfter =
    (image buffer : List ℕ) (n : ℕ) → (fresh_of image buffer).answer ≡ Ok n → (scans : Scans) → FramesAreBytes scans
    → StateFits (blocks_of image) (state_after image buffer scans)

-- theorem next_accepted, proofs/RunInvariant.antt: so that only what it is given can turn the next scan back
abbrev pub NextIsAccepted : Type 0
NextIsAccepted =
    (image buffer : List ℕ) (n : ℕ) → (fresh_of image buffer).answer ≡ Ok n → (scans : Scans) → FramesAreBytes scans → (g : Given)
    → GivenFits (blocks_of image) g.told g.report g.journal → (m : ℕ) × ((result_of image buffer scans g).answer ≡ Ok m)
