-- One scan over an accepted table, accepted or refused: it keeps the state buffer in form, and of each block it keeps that the history read off the
-- bytes is one that the machine made. For the list of scans.
use Rattle.std.proofs.Common.{◌≡◌, ℕ, suc, ◌*◌, ◌<◌, ◌≢◌, true, List, [], length, Result, Ok, Err, refl, ap, sym, ◌∙◌, subst, arith}
use Rattle.words.specs.Word.{Bytes}
use Rattle.table.specs.Blocks.{blocks_of, block_at}
use Rattle.table.specs.Check.{check_of}
use Rattle.refusal.specs.Refusal.{Verdict}
use Rattle.refusal.specs.declared.Refusal.{Refusal}
use Rattle.layout.specs.Buffer.{record_length, entry_length, part}
use Rattle.layout.specs.RecordLayout.{record_form}
use Rattle.layout.specs.EventLayout.{events_at}
use Rattle.layout.specs.declared.event.Posted.{Posted}
use Rattle.layout.proofs.Fits.{RecordFits}
use Rattle.layout.proofs.BufferLaws.{part_bytes}
use Rattle.layout.proofs.EntryLaws.{decode_fits, entry_fits_lem}
use Rattle.layout.proofs.EventLaws.{at_append}
use Rattle.block.specs.History.{Seen, History, ◌then◌, events_of, record_after}
use Rattle.block.specs.BlockInvariant.{MachineHistory, and_call, seen_call}
use Rattle.engine.specs.Verify.{verify_of}
use Rattle.engine.specs.Serve.{record_in, entry_in}
use Rattle.engine.specs.Scan.{ScanResult, scan_by, scan_blocks, scan_of}
use Rattle.engine.specs.ScanAccepted.{GivenFits}
use Rattle.engine.proofs.ServedLaws.{state_length}
use Rattle.engine.proofs.ScanAccepted.{verify_passes}
use Rattle.run.specs.Scans.{Given, with_events, with_seen}
use Rattle.run.proofs.Projection.{inputs_seen, seen_is, events_none, still_fits, still_form}

-- a state buffer of the right length whose records are in form and fit their bytes
pub record Held (image state : List ℕ) : Type 0 where
  pub sized : length state ≡ record_length * length (blocks_of image)
  pub fit : (j : ℕ) → RecordFits (record_in state j)
  pub form : (j : ℕ) → j < length (blocks_of image) → record_form (part record_length j state) ≡ true

-- of the block at index k: the machine made its history in the bytes, which ends in the record of the state buffer
pub record Kept (image : List ℕ) (k : ℕ) (h : History) (state : List ℕ) : Type 0 where
  pub record_is : record_in state k ≡ record_after h
  pub made : MachineHistory (block_at (blocks_of image) k).kind h

-- the verdict of checks 20 to 41, and what a scan by a verdict leaves
abbrev pub scan_verdict : List ℕ → List ℕ → Given → Verdict
scan_verdict image state g = verify_of (blocks_of image) state g.told g.report g.journal

abbrev pub result_by : Verdict → List ℕ → List ℕ → Given → ScanResult
result_by v image state g = scan_by v (blocks_of image) state g.told g.report g.journal

pub scan_is : (image state : List ℕ) (g : Given) (n : ℕ) → check_of image ≡ Ok n
    → scan_of image state g.told g.report g.journal ≡ result_by (scan_verdict image state g) image state g
unfolding scan_of scan_blocks
scan_is image state g n e = rw e

-- of any scan: the events at a block's position in the journal are those of its history
pub events_by : (image state : List ℕ) (g : Given) (k : ℕ) (answer : Result ℕ Refusal) (r : ScanResult) (h : History) (ps : List Posted) → events_at (suc k) ps ≡ events_of h
    → events_at (suc k) (with_events ps answer r) ≡ events_of (with_seen image k h state g answer r)
unfolding events_of
events_by image state g k (Ok n) r h ps x = rw (at_append, x)
events_by image state g k (Err refusal) r h ps x = x

module _ (image state : List ℕ) (g : Given) (framed : Bytes g.told.frame) (s : Held image state) where
  -- of a scan that passed checks 20 to 41
  given : scan_verdict image state g ≡ Ok tt → GivenFits (blocks_of image) g.told g.report g.journal
  given e = (verify_passes (blocks_of image) state g.told g.report g.journal).given_fits e

  pub held_by : (v : Verdict) → scan_verdict image state g ≡ v → Held image (result_by v image state g).state
  held_by (Err refusal) e = s
  held_by (Ok u) e =
      let r = (given e).report_sized in
      record {
        sized = state_length (blocks_of image) g.told state g.report g.journal s.sized (length (blocks_of image)) (omega arith) ∙ s.sized;
        fit = still_fits (blocks_of image) g.told state g.report g.journal s.sized r framed s.fit;
        form = still_form (blocks_of image) g.told state g.report g.journal s.sized r framed s.fit;
      }

  pub kept_by : (k : ℕ) → k < length (blocks_of image) → (v : Verdict) → scan_verdict image state g ≡ v → (h : History) → Kept image k h state
      → Kept image k (with_seen image k h state g (result_by v image state g).answer (result_by v image state g)) (result_by v image state g).state
  unfolding record_after
  kept_by k l (Err refusal) e h x = x
  kept_by k l (Ok u) e h x =
      let r = (given e).report_sized in
      let kind = (block_at (blocks_of image) k).kind in
      let entry = entry_in g.told.frame k in
      let inputs = inputs_seen (blocks_of image) g.told state g.report g.journal s.sized r framed s.fit k l in
      let form = entry_fits_lem (part entry_length k g.told.frame) ((given e).form k l) in
      let clock = (decode_fits (part entry_length k g.told.frame) (part_bytes entry_length k g.told.frame framed)).clock in
      let seen =
      seen_is (blocks_of image) g.told state g.report g.journal s.sized r framed s.fit k l
      ∙ ap (seen_call kind inputs entry) x.record_is in
      record {
        record_is = refl;
        made = subst (λ (q : Seen). MachineHistory kind (h then q)) (sym seen) (and_call x.made inputs entry form clock);
      }

  -- no event has a position that is no block's
  pub none_by : (p : ℕ) → ((k : ℕ) → k < length (blocks_of image) → p ≢ suc k) → (v : Verdict) → scan_verdict image state g ≡ v → (ps : List Posted) → events_at p ps ≡ []
      → events_at p (with_events ps (result_by v image state g).answer (result_by v image state g)) ≡ []
  none_by p o (Err refusal) e ps x = x
  none_by p o (Ok u) e ps x =
      let r = (given e).report_sized in
      let all = length (blocks_of image) in
      rw (at_append, x) (events_none (blocks_of image) g.told state g.report g.journal s.sized r framed s.fit p all (omega arith) o)
