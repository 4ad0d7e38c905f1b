-- An accepted scan over a table as a list of blocks, read off its bytes: what is seen of each block is its call by the machine. For the run promise.
use Rattle.std.proofs.Common.{◌≡◌, ℕ, zero, suc, ◌*◌, ◌<◌, ◌≤◌, ◌≢◌, true, ltb, List, [], ◌++◌, length, refl, ap, sym, ◌∙◌, arith, append-nil, ltb-true, ltb-false}
use Rattle.std.proofs.Math.Decide.{ℕ_discrete, dec_lt}
use Rattle.std.proofs.Math.Logic.{by_cases}
use Rattle.membership.proofs.Logic.{by_test}
use Rattle.table.specs.Blocks.{Block, block_at, config_at}
use Rattle.layout.specs.Buffer.{record_length, entry_length, report_length, event_length, part}
use Rattle.layout.specs.RecordLayout.{decode_record, record_form}
use Rattle.layout.proofs.Fits.{RecordFits}
use Rattle.layout.specs.ReportLayout.{reported_pieces, reported_passes}
use Rattle.layout.specs.EventLayout.{decode_events, events_at}
use Rattle.layout.specs.declared.event.Posted.{Posted}
use Rattle.layout.proofs.BufferLaws.{part_bytes}
use Rattle.layout.proofs.RecordLaws.{decode_encode, encode_form}
use Rattle.layout.proofs.EntryLaws.{decode_fits}
use Rattle.layout.proofs.ReportLaws.{reported_pieces_lem, reported_passes_lem}
use Rattle.layout.proofs.EventLaws.{posted, at_append, at_own, at_other}
use Rattle.block.specs.Call.{Outcome, call_of}
use Rattle.block.specs.History.{Seen}
use Rattle.block.specs.BlockInvariant.{seen_call}
use Rattle.block.specs.declared.entry.Inputs.{Inputs}
use Rattle.engine.specs.Told.{Told}
use Rattle.engine.specs.Inputs.{flags_in, inputs_of}
use Rattle.engine.specs.Serve.{Buffers, record_in, entry_in, call_in, served_to}
use Rattle.words.specs.Word.{Bytes}
use Rattle.run.specs.Scans.{flags_seen}
use Rattle.run.proofs.FitsLaws.{OutcomeFits, call_fits}
use Rattle.engine.proofs.ServedLaws as laws
use Rattle.run.proofs.JournalLaws.{decode_after, room_after}

module _ (blocks : List Block) (told : Told) (state report journal : List ℕ) where
  -- the buffers after the first n calls, the call of block i, and the events so far
  abbrev buffers_at : ℕ → Buffers
  buffers_at n = laws.buffers_at blocks told state report journal n

  abbrev state_to : ℕ → List ℕ
  state_to n = (buffers_at n).state

  abbrev report_to : ℕ → List ℕ
  report_to n = (buffers_at n).report

  abbrev outcome_at : ℕ → Outcome
  outcome_at i = laws.outcome_at blocks told state report journal i

  abbrev pub events_to : ℕ → List Posted
  events_to n = decode_events (buffers_at n).events (buffers_at n).journal

  -- the journal has room for the events so far
  pub journal_room : (n : ℕ) → event_length * (buffers_at n).events ≤ length (buffers_at n).journal
  unfolding served_to
  journal_room zero = omega arith
  journal_room (suc i) =
      rw (laws.count_next blocks told state report journal i, laws.journal_next blocks told state report journal i)
      (room_after (buffers_at i).events (suc i) (outcome_at i).events (buffers_at i).journal (journal_room i))

  -- the report and the frame of an accepted scan too; each record fits its bytes
  module _ (sized : length state ≡ record_length * length blocks) (reported : length report ≡ report_length * length blocks) (framed : Bytes told.frame)
      (fit : (j : ℕ) → RecordFits (record_in state j)) where
    pub outcome_fits : (i : ℕ) → i < length blocks → OutcomeFits (outcome_at i)
    unfolding call_in
    outcome_fits i l =
        call_fits (block_at blocks i).kind (laws.inputs_at blocks told state report journal i) (entry_in told.frame i)
        (decode_fits (part entry_length i told.frame) (part_bytes entry_length i told.frame framed))
        (record_in (state_to i) i) (rw (laws.state_later blocks told state report journal sized i i (omega arith) (omega arith)) (fit i))

    -- a flag is this scan's for an earlier block, and the last scan's for a later one or the block itself
    flags_are : (k : ℕ) → k < length blocks → (i : ℕ) → flags_in (state_to k) i ≡ flags_seen k state (state_to (length blocks)) i
    unfolding flags_seen
    flags_are k l i =
        by_test (ltb i k)
        (λ e.
        let h : i < k = ltb-true i k e in
        rw e
        (ap (λ (p : List ℕ). (decode_record p).flags)
        (laws.state_earlier blocks told state report journal sized k i (omega arith) h
        ∙ sym (laws.state_earlier blocks told state report journal sized (length blocks) i (omega arith) (omega arith)))))
        (λ e. rw e (ap (λ (p : List ℕ). (decode_record p).flags) (laws.state_later blocks told state report journal sized k i (omega arith) (ltb-false i k e))))

    module _ (k : ℕ) (l : k < length blocks) where
      -- the inputs, as they are seen in the bytes
      abbrev pub inputs_seen : Inputs
      inputs_seen = inputs_of (config_at blocks k) (flags_seen k state (state_to (length blocks))) (entry_in told.frame k).inputs

      pub outcome_is : outcome_at k ≡ call_of (block_at blocks k).kind inputs_seen (entry_in told.frame k) (record_in state k)
      unfolding call_in
      outcome_is = λ i.
          call_of (block_at blocks k).kind (inputs_of (config_at blocks k) (λ j. flags_are k l j i) (entry_in told.frame k).inputs) (entry_in told.frame k)
          (decode_record (laws.state_later blocks told state report journal sized k k (omega arith) (omega arith) i))

    -- the events of each call come after those of the calls before it
    pub events_next : (i : ℕ) → i < length blocks → events_to (suc i) ≡ events_to i ++ posted (suc i) (outcome_at i).events
    events_next i l =
        rw (laws.count_next blocks told state report journal i, laws.journal_next blocks told state report journal i)
        (decode_after (buffers_at i).events (suc i) (outcome_at i).events (buffers_at i).journal (journal_room i) (outcome_fits i l).events)

    -- so none has a position that is none of theirs
    pub events_none : (p n : ℕ) → n ≤ length blocks → ((k : ℕ) → k < n → p ≢ suc k) → events_at p (events_to n) ≡ []
    unfolding served_to decode_events events_at
    events_none p zero h o = refl
    events_none p (suc n) h o =
        let before : events_at p (events_to n) ≡ [] = events_none p n (omega arith) (λ k l. o k (omega arith)) in
        rw (events_next n h, at_append, before, at_other p (suc n) (outcome_at n).events (λ e. o n (omega arith) (sym e)))

    -- and those with a block's position are those of its call
    pub events_one : (k n : ℕ) → n ≤ length blocks → k < n → events_at (suc k) (events_to n) ≡ (outcome_at k).events
    events_one k zero h l = absurd (omega arith)
    events_one k (suc n) h l =
        by_cases (ℕ_discrete k n)
        (λ e. rw (e, events_next n h, at_append, events_none (suc n) n (omega arith) (λ j l q. omega arith), at_own))
        (λ m. rw (events_next n h, at_append, at_other (suc k) (suc n) (outcome_at n).events (λ e. m (omega arith)), append-nil) (events_one k n (omega arith) (omega arith)))

    pub record_is : (k : ℕ) → k < length blocks → record_in (state_to (length blocks)) k ≡ (outcome_at k).next
    record_is k l =
        ap decode_record (laws.state_earlier blocks told state report journal sized (length blocks) k (omega arith) l) ∙ decode_encode (outcome_at k).next (outcome_fits k l).next

    -- what is seen of a block in the bytes is a call of the machine
    abbrev pub seen_in : ℕ → Seen
    seen_in k =
        record {
          before = record_in state k;
          inputs = inputs_of (config_at blocks k) (flags_seen k state (state_to (length blocks))) (entry_in told.frame k).inputs;
          entry = entry_in told.frame k;
          passes = reported_passes (part report_length k (report_to (length blocks)));
          used = reported_pieces (part report_length k (report_to (length blocks)));
          events = events_at (suc k) (events_to (length blocks));
          after = record_in (state_to (length blocks)) k;
        }

    pub seen_is : (k : ℕ) → (l : k < length blocks) → seen_in k ≡ seen_call (block_at blocks k).kind (inputs_seen k l) (entry_in told.frame k) (record_in state k)
    seen_is k l =
        let p = laws.report_earlier blocks told state report journal reported (length blocks) k (omega arith) l in
        let o = outcome_is k l in
        let passes = ap reported_passes p ∙ reported_passes_lem (outcome_at k) ∙ ap (λ (c : Outcome). c.passes) o in
        let used = ap reported_pieces p ∙ reported_pieces_lem (outcome_at k) ∙ ap (λ (c : Outcome). c.used) o in
        let events = events_one k (length blocks) (omega arith) l ∙ ap (λ (c : Outcome). c.events) o in
        let after = record_is k l ∙ ap (λ (c : Outcome). c.next) o in
        λ i. record {
          before = record_in state k;
          inputs = inputs_seen k l;
          entry = entry_in told.frame k;
          passes = passes i;
          used = used i;
          events = events i;
          after = after i;
        }

    -- the records that the scan leaves fit their bytes too
    pub still_fits : (j : ℕ) → RecordFits (record_in (state_to (length blocks)) j)
    still_fits j =
        by_cases (dec_lt j (length blocks))
        (λ l. rw (record_is j l) (outcome_fits j l).next)
        (λ m. rw (laws.state_later blocks told state report journal sized (length blocks) j (omega arith) (omega arith)) (fit j))

    pub still_form : (j : ℕ) → j < length blocks → record_form (part record_length j (state_to (length blocks))) ≡ true
    still_form j l = ap record_form (laws.state_earlier blocks told state report journal sized (length blocks) j (omega arith) l) ∙ encode_form (outcome_at j).next
