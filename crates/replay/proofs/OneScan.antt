-- One scan more over a table without wires, with any entries in form: it is accepted, and for each block it is the call with that block's own entry. It rests on the projection of a scan to
-- the calls of its blocks, which holds of every kind. For the two scans of one event.
use Rattle.std.proofs.Common.{◌≡◌, ℕ, suc, ◌*◌, ◌<◌, ◌≢◌, true, List, [], ◌++◌, length, replicate, Ok, refl, ap, sym, ◌∙◌, subst, arith}
use Rattle.std.proofs.lemmas.List.{length-replicate}
use Rattle.table.specs.Blocks.{Block, BlockConfig, from_frame, blocks_of, block_at, config_at}
use Rattle.refusal.specs.Refusal.{Verdict}
use Rattle.layout.specs.Buffer.{report_length, event_length}
use Rattle.layout.specs.EventLayout.{decode_events, events_at}
use Rattle.layout.specs.declared.event.Posted.{Posted}
use Rattle.layout.proofs.Fits.{EntryFits}
use Rattle.block.specs.Entry.{entry_fits}
use Rattle.block.specs.History.{Seen}
use Rattle.block.specs.BlockInvariant.{seen_call}
use Rattle.block.specs.declared.record.Flags.{Flags}
use Rattle.block.specs.declared.record.Record.{Record}
use Rattle.block.specs.declared.entry.Inputs.{Inputs}
use Rattle.block.specs.Entry.{Entry}
use Rattle.engine.specs.Fresh.{fresh_of}
use Rattle.engine.specs.Inputs.{inputs_of}
use Rattle.engine.specs.Serve.{record_in, entry_in}
use Rattle.engine.specs.Scan.{ScanResult}
use Rattle.engine.specs.ScanAccepted.{GivenFits}
use Rattle.engine.proofs.FreshLaws.{FreshMade, fresh_made}
use Rattle.engine.proofs.ServedLaws.{buffers_at}
use Rattle.engine.proofs.ScanAccepted.{verify_passes}
use Rattle.run.specs.Scans.{Scans, Given, ◌and_then◌, FramesAreBytes, and_scan, flags_seen, state_from, state_after, result_of, with_events, journal_from, journal_of}
use Rattle.run.proofs.Projection.{seen_in, seen_is, events_none}
use Rattle.run.proofs.ScanLaws.{Held, result_by, scan_is}
use Rattle.run.proofs.RunInvariant.{held, fresh_held, state_fits}
use Rattle.replay.specs.Written.{NoWires}
use Rattle.replay.proofs.Moves.{called_with}
use Rattle.replay.proofs.Frames.{frame_of, frame_length, frame_bytes, frame_entry, frame_form}

-- the inputs of a block without wires are the frame's own bits
unwired : (b : BlockConfig) (flags : ℕ → Flags) (bits : Inputs) → b.start ≡ from_frame → b.abort ≡ from_frame → inputs_of b flags bits ≡ bits
unfolding inputs_of
unwired b flags bits s a = rw (s, a)

-- a scan with an entry for each of n blocks
abbrev pub scan_with : ℕ → (ℕ → Entry) → Given
scan_with n f =
    record {
      told = record { frame = frame_of f n };
      report = replicate (report_length * n) 0;
      journal = replicate (2 * event_length * n) 0;
    }

module _ (image buffer : List ℕ) where
  abbrev pub blocks : List Block
  blocks = blocks_of image

  abbrev pub kind_at : ℕ → ℕ
  kind_at k = (block_at blocks k).kind

  -- the record of the block at index k after some scans, and what the next one writes
  abbrev pub record_at : Scans → ℕ → Record
  record_at h k = record_in (state_after image buffer h) k

  abbrev pub written : Scans → Given → ℕ → List Posted
  written h g m = decode_events m (result_of image buffer h g).journal

  pub record Scanned (h : Scans) (f : ℕ → Entry) : Type 0 where
    pub count : ℕ
    pub framed : FramesAreBytes (h and_then scan_with (length blocks) f)
    pub accepted : (result_of image buffer h (scan_with (length blocks) f)).answer ≡ Ok count
    pub records : (k : ℕ) → k < length blocks → record_at (h and_then scan_with (length blocks) f) k ≡ (called_with (kind_at k) (f k) (record_at h k)).next
    pub events : (k : ℕ) → k < length blocks → events_at (suc k) (written h (scan_with (length blocks) f) count) ≡ (called_with (kind_at k) (f k) (record_at h k)).events
    pub others : (p : ℕ) → ((k : ℕ) → k < length blocks → p ≢ suc k) → events_at p (written h (scan_with (length blocks) f) count) ≡ []
    pub journal : journal_of image buffer (h and_then scan_with (length blocks) f) ≡ journal_of image buffer h ++ written h (scan_with (length blocks) f) count

  module _ (n : ℕ) (fresh : (fresh_of image buffer).answer ≡ Ok n) (bare : NoWires blocks) (h : Scans) (framed : FramesAreBytes h)
      (f : ℕ → Entry) (fits : (k : ℕ) → EntryFits (f k)) (form : (k : ℕ) → entry_fits (f k) ≡ true) where
    abbrev g : Given
    g = scan_with (length blocks) f

    abbrev state : List ℕ
    state = state_after image buffer h

    given_fits : GivenFits blocks g.told g.report g.journal
    given_fits =
        record {
          frame_sized = frame_length f fits (length blocks);
          form = λ k l. frame_form f fits (length blocks) k l (form k);
          report_sized = length-replicate (report_length * length blocks) 0;
          room = let e = length-replicate {A = ℕ} (2 * event_length * length blocks) 0 in omega arith;
        }

    made : FreshMade image buffer n
    made = fresh_made image buffer n fresh

    holds : Held image state
    holds = held image (fresh_of image buffer).state n made.table (fresh_held image buffer n made) framed

    -- it passes its checks
    abbrev result : ScanResult
    result = result_by (Ok tt) image state g

    result_is : result_of image buffer h g ≡ result
    result_is =
        scan_is image state g n made.table
        ∙ ap (λ (v : Verdict). result_by v image state g) ((verify_passes blocks state g.told g.report g.journal).passes (state_fits image buffer n fresh h framed) given_fits)

    abbrev events : ℕ
    events = (buffers_at blocks g.told state g.report g.journal (length blocks)).events

    -- what is seen of a block is the call with its own entry
    seen : (k : ℕ) → k < length blocks
        → seen_in blocks g.told state g.report g.journal holds.sized given_fits.report_sized (frame_bytes f fits (length blocks)) holds.fit k
        ≡ seen_call (kind_at k) (f k).inputs (f k) (record_at h k)
    seen k l =
        let entry : entry_in g.told.frame k ≡ f k = frame_entry f fits (length blocks) k l in
        let inputs : inputs_of (config_at blocks k) (flags_seen k state result.state) (entry_in g.told.frame k).inputs ≡ (f k).inputs =
        unwired (config_at blocks k) (flags_seen k state result.state) (entry_in g.told.frame k).inputs (bare k l).0 (bare k l).1 ∙ ap (λ (e : Entry). e.inputs) entry in
        seen_is blocks g.told state g.report g.journal holds.sized given_fits.report_sized (frame_bytes f fits (length blocks)) holds.fit k l
        ∙ (λ i. seen_call (kind_at k) (inputs i) (entry i) (record_at h k))

    none_other : (p : ℕ) → ((k : ℕ) → k < length blocks → p ≢ suc k) → events_at p (decode_events events result.journal) ≡ []
    none_other p o =
        events_none blocks g.told state g.report g.journal holds.sized given_fits.report_sized (frame_bytes f fits (length blocks)) holds.fit
        p (length blocks) (omega arith) o

    pub one_scan : Scanned h f
    unfolding state_from journal_from
    one_scan =
        record {
          count = events;
          framed = and_scan framed (frame_bytes f fits (length blocks));
          accepted = ap (λ (r : ScanResult). r.answer) result_is;
          records = λ k l. ap (λ (r : ScanResult). record_in r.state k) result_is ∙ ap (λ (s : Seen). s.after) (seen k l);
          events = λ k l. ap (λ (r : ScanResult). events_at (suc k) (decode_events events r.journal)) result_is ∙ ap (λ (s : Seen). s.events) (seen k l);
          others = λ p o. ap (λ (r : ScanResult). events_at p (decode_events events r.journal)) result_is ∙ none_other p o;
          journal =
              subst (λ (r : ScanResult). with_events (journal_of image buffer h) r.answer r ≡ journal_of image buffer h ++ decode_events events r.journal)
              (sym result_is) refl;
        }
