-- The buffers after the first n calls of a scan, over any list of blocks: each step of them, their lengths, the records not yet called, and that each
-- call is whole, with at most two events. For the proof of `serve_all`, the laws of accepted scans, and the projection of a scan to one block.
use Prim.Native.Nat.{ℕ, zero, suc, ◌+◌, ◌*◌, ◌≤◌, ◌<◌}
use native.Mathlib.Omega.{arith}
use mathlib.Core.List.{List}
use mathlib.Core.Path.{◌≡◌, refl, ap}
use lib.ListN.{length}
use Rattle.table.specs.Blocks.{Block, block_at, config_at}
use Rattle.layout.specs.Buffer.{record_length, report_length, event_length, part, put}
use Rattle.layout.specs.RecordLayout.{encode_record, decode_record}
use Rattle.layout.specs.ReportLayout.{encode_report}
use Rattle.layout.specs.EventLayout.{encode_events}
use Rattle.layout.proofs.RecordLaws.{encode_length, sound_record}
use Rattle.layout.proofs.ReportLaws.{report_length_lem}
use Rattle.block.specs.Call.{Outcome, Whole}
use Rattle.block.specs.declared.entry.Inputs.{Inputs}
use Rattle.block.proofs.CallLaws.{call_whole}
use Rattle.engine.specs.Told.{Told}
use Rattle.engine.specs.Inputs.{flags_in, inputs_of}
use Rattle.engine.specs.Serve.{Buffers, record_in, entry_in, call_in, served, served_to}
use Rattle.engine.specs.ScanAccepted.{StateFits}
use Rattle.engine.proofs.GridLaws.{grid_length, grid_later, grid_earlier}

module _ (blocks : List Block) (told : Told) (state report journal : List ℕ) where
  -- the buffers after the first n calls, and the call of block i
  abbrev pub buffers_at : ℕ → Buffers
  buffers_at n = served_to blocks told n (record { state = state; report = report; journal = journal; events = 0 })

  abbrev pub outcome_at : ℕ → Outcome
  outcome_at i = call_in (config_at blocks i) i told.frame (buffers_at i).state

  abbrev pub state_to : ℕ → List ℕ
  state_to n = (buffers_at n).state

  -- the inputs of the call of block i
  abbrev pub inputs_at : ℕ → Inputs
  inputs_at i = inputs_of (config_at blocks i) (flags_in (state_to i)) (entry_in told.frame i).inputs

  abbrev pub report_to : ℕ → List ℕ
  report_to n = (buffers_at n).report

  abbrev pub record_bytes : ℕ → List ℕ
  record_bytes i = encode_record (outcome_at i).next

  abbrev pub report_bytes : ℕ → List ℕ
  report_bytes i = encode_report (outcome_at i)

  -- one call more
  pub state_next : (i : ℕ) → state_to (suc i) ≡ put (record_length * i) (record_bytes i) (state_to i)
  unfolding served_to served
  state_next i = refl

  pub report_next : (i : ℕ) → report_to (suc i) ≡ put (report_length * i) (report_bytes i) (report_to i)
  unfolding served_to served
  report_next i = refl

  pub journal_next : (i : ℕ) → (buffers_at (suc i)).journal
      ≡ put (event_length * (buffers_at i).events) (encode_events (suc i) (outcome_at i).events) (buffers_at i).journal
  unfolding served_to served
  journal_next i = refl

  pub count_next : (i : ℕ) → (buffers_at (suc i)).events ≡ (buffers_at i).events + length (outcome_at i).events
  unfolding served_to served
  count_next i = refl

  module _ (sized : length state ≡ record_length * length blocks) where
    pub state_length : (n : ℕ) → n ≤ length blocks → length (state_to n) ≡ length state
    unfolding served_to
    state_length n h = grid_length record_length record_bytes state_to (λ i. encode_length (outcome_at i).next) state_next n (omega arith)

    -- a record is the one from before until its block is called, then the one that the call left
    pub state_later : (n j : ℕ) → n ≤ length blocks → n ≤ j → part record_length j (state_to n) ≡ part record_length j state
    unfolding served_to
    state_later n j h l = grid_later record_length record_bytes state_to (λ i. encode_length (outcome_at i).next) state_next n j (omega arith) l

    pub state_earlier : (n j : ℕ) → n ≤ length blocks → j < n → part record_length j (state_to n) ≡ record_bytes j
    unfolding served_to
    state_earlier n j h l = grid_earlier record_length record_bytes state_to (λ i. encode_length (outcome_at i).next) state_next n j (omega arith) l

  module _ (reported : length report ≡ report_length * length blocks) where
    pub report_sized : (n : ℕ) → n ≤ length blocks → length (report_to n) ≡ length report
    unfolding served_to
    report_sized n h = grid_length report_length report_bytes report_to (λ i. report_length_lem (outcome_at i)) report_next n (omega arith)

    -- an entry of the report is the one that the call wrote
    pub report_earlier : (n j : ℕ) → n ≤ length blocks → j < n → part report_length j (report_to n) ≡ report_bytes j
    unfolding served_to
    report_earlier n j h l = grid_earlier report_length report_bytes report_to (λ i. report_length_lem (outcome_at i)) report_next n j (omega arith) l

  module _ (s : StateFits blocks state) where
    -- each call is from the record of the state as it was given, which is sound
    pub outcome_whole : (i : ℕ) → i < length blocks → Whole (block_at blocks i).kind (inputs_at i) (entry_in told.frame i) (record_in state i) (outcome_at i)
    unfolding call_in
    outcome_whole i l =
        let kind = (block_at blocks i).kind in
        let given : record_in (state_to i) i ≡ record_in state i = ap decode_record (state_later s.sized i i (omega arith) (omega arith)) in
        rw given (call_whole kind (inputs_at i) (entry_in told.frame i) (record_in state i) (sound_record kind (part record_length i state) (s.sound i l)))

    -- as many events as the calls have, at most two each
    pub events_few : (n : ℕ) → n ≤ length blocks → (buffers_at n).events ≤ 2 * n
    unfolding served_to
    events_few zero l = omega arith
    events_few (suc i) l = rw (count_next i) (omega (arith, events_few i (omega arith), (outcome_whole i l).events))
