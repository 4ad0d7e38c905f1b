-- The run promise, demand 3: every block's history in a list of scans, read off the bytes, is one that the machine made, so that the promise of one
-- block holds of it.
use Rattle.std.proofs.Common.{◌≡◌, ℕ, suc, ◌*◌, ◌<◌, ◌≢◌, true, List, [], length, replicate, Result, Ok, refl, sym, subst, arith}
use Rattle.std.proofs.lemmas.List.{length-replicate}
use Rattle.table.specs.Blocks.{blocks_of, block_at}
use Rattle.table.specs.Check.{check_of}
use Rattle.refusal.specs.declared.Refusal.{Refusal}
use Rattle.table.proofs.AcceptedLaws.{accepted_blocks, accepted_kind}
use Rattle.layout.specs.Buffer.{record_length, part}
use Rattle.layout.specs.RecordLayout.{record_form, sound_bytes}
use Rattle.layout.specs.EventLayout.{events_at}
use Rattle.std.proofs.lemmas.Bool.{and_from}
use Rattle.block.specs.History.{fresh, events_of, record_after}
use Rattle.block.specs.BlockInvariant.{MachineHistory, no_call}
use Rattle.block.specs.Sound.{sound}
use Rattle.block.proofs.BlockInvariant.{block_invariant}
use Rattle.block.proofs.BlockInvariant.{counts_in_step as call_counts}
use Rattle.engine.specs.Serve.{record_in}
use Rattle.engine.specs.Fresh.{fresh_of}
use Rattle.engine.specs.Scan.{ScanResult}
use Rattle.run.specs.Scans.{Scans, Given, FramesAreBytes, no_scan, and_scan, seen_at, with_events, with_seen, state_from, result_from, journal_from, history_from, state_after, result_of, history_of, none, ◌and_then◌}
use Rattle.run.specs.RunInvariant.{BlockRun, RunInvariantHolds, ScansCountInStep, StateFitsAfter, NextIsAccepted}
use Rattle.run.proofs.FitsLaws.{fresh_fits}
use Rattle.engine.proofs.FreshLaws.{FreshMade, fresh_made, zeros_fresh, zeros_form}
use Rattle.engine.proofs.ScanAccepted.{scan_accepted}
use Rattle.run.proofs.ScanLaws.{Held, Kept, scan_verdict, result_by, scan_is, held_by, kept_by, none_by, events_by}

-- "A block's entries are the events there with its position.": of any list of scans, from any state
pub events_from : (image start : List ℕ) (k : ℕ) (h : Scans) → events_at (suc k) (journal_from image start h) ≡ events_of (history_from image start k h)
unfolding journal_from history_from events_of events_at
events_from image start k none = refl
events_from image start k (h and_then g) =
    let r = result_from image start h g in
    events_by image (state_from image start h) g k r.answer r (history_from image start k h) (journal_from image start h) (events_from image start k h)

-- a list of scans over an accepted table, from a state in form
module _ (image start : List ℕ) (n : ℕ) (table : check_of image ≡ Ok n) (first : Held image start) where
  result_is : (h : Scans) (g : Given)
      → result_from image start h g ≡ result_by (scan_verdict image (state_from image start h) g) image (state_from image start h) g
  result_is h g = scan_is image (state_from image start h) g n table

  pub held : {h : Scans} → FramesAreBytes h → Held image (state_from image start h)
  unfolding state_from
  held no_scan = first
  held (and_scan {h = h} {g = g} x b) =
      let state = state_from image start h in
      subst (λ (r : ScanResult). Held image r.state) (sym (result_is h g)) (held_by image state g b (held x) (scan_verdict image state g) refl)

  pub kept : (k : ℕ) → k < length (blocks_of image) → Kept image k fresh start → {h : Scans} → FramesAreBytes h
      → Kept image k (history_from image start k h) (state_from image start h)
  unfolding state_from history_from
  kept k l z no_scan = z
  kept k l z (and_scan {h = h} {g = g} x b) =
      let state = state_from image start h in
      subst (λ (r : ScanResult). Kept image k (with_seen image k (history_from image start k h) state g r.answer r) r.state) (sym (result_is h g))
      (kept_by image state g b (held x) k l (scan_verdict image state g) refl (history_from image start k h) (kept k l z x))

  -- no event has a position that is no block's
  pub none_other : (p : ℕ) → ((k : ℕ) → k < length (blocks_of image) → p ≢ suc k) → {h : Scans} → FramesAreBytes h → events_at p (journal_from image start h) ≡ []
  unfolding journal_from events_at
  none_other p o no_scan = refl
  none_other p o (and_scan {h = h} {g = g} x b) =
      let state = state_from image start h in
      subst (λ (r : ScanResult). events_at p (with_events (journal_from image start h) r.answer r) ≡ []) (sym (result_is h g))
      (none_by image state g b (held x) p o (scan_verdict image state g) refl (journal_from image start h) (none_other p o x))

-- from fresh
module _ (image buffer : List ℕ) (n : ℕ) (m : FreshMade image buffer n) where
  pub fresh_is : (fresh_of image buffer).state ≡ replicate (record_length * length (blocks_of image)) 0
  fresh_is = rw (m.zeros, m.sized)

  pub fresh_held : Held image (fresh_of image buffer).state
  fresh_held =
      rw fresh_is
      (record {
        sized = length-replicate (record_length * length (blocks_of image)) 0;
        fit = λ j. rw (zeros_fresh (length (blocks_of image)) j) fresh_fits;
        form = zeros_form (length (blocks_of image));
      })

  pub fresh_kept : (k : ℕ) → k < length (blocks_of image) → Kept image k fresh (fresh_of image buffer).state
  unfolding record_after
  fresh_kept k l =
      record {
        record_is = rw (fresh_is, zeros_fresh (length (blocks_of image)) k);
        made = no_call (accepted_kind image n m.table k (omega (arith, accepted_blocks image n m.table)));
      }

  held_after : {h : Scans} → FramesAreBytes h → Held image (state_after image buffer h)
  held_after x = held image (fresh_of image buffer).state n m.table fresh_held x

  kept_after : (k : ℕ) → k < length (blocks_of image) → {h : Scans} → FramesAreBytes h → Kept image k (history_of image buffer k h) (state_after image buffer h)
  kept_after k l x = kept image (fresh_of image buffer).state n m.table fresh_held k l (fresh_kept k l) x

  -- the record's bytes: its form, and its fields by the promise of one block
  sound_after : {h : Scans} → FramesAreBytes h → (k : ℕ) → k < length (blocks_of image)
      → sound_bytes (block_at (blocks_of image) k).kind (part record_length k (state_after image buffer h)) ≡ true
  unfolding sound_bytes
  sound_after {h} x k l =
      let s = kept_after k l x in
      let p = block_invariant (block_at (blocks_of image) k).kind (history_of image buffer k h) s.made in
      and_from (record_form (part record_length k (state_after image buffer h)))
      (sound (block_at (blocks_of image) k).kind (record_in (state_after image buffer h) k))
      ((held_after x).form k l) (rw s.record_is p.sound)

-- of one block
block_run : (image buffer : List ℕ) (n : ℕ) → FreshMade image buffer n → {scans : Scans} → FramesAreBytes scans
    → (k : ℕ) → k < length (blocks_of image) → BlockRun image buffer scans k
block_run image buffer n m {scans} x k l =
    let s = kept_after image buffer n m k l x in
    let events = events_from image (fresh_of image buffer).state k scans in
    let p = block_invariant (block_at (blocks_of image) k).kind (history_of image buffer k scans) s.made in
    record {
      turns = rw (events, s.record_is) p.turns;
      balance = rw (events, s.record_is) p.balance;
      flags = rw s.record_is p.flags;
      calls = p.calls;
      events = events;
      in_time = rw s.record_is p.in_time;
      elapsed = rw s.record_is p.elapsed;
      stored = rw s.record_is p.stored;
      sound = sound_after image buffer n m x k l;
    }

pub run_invariant : RunInvariantHolds
run_invariant image buffer n e scans x =
    let m = fresh_made image buffer n e in
    record { blocks = block_run image buffer n m x; positions = λ p o. none_other image (fresh_of image buffer).state n m.table (fresh_held image buffer n m) p o x }

-- elapsed and the last reading after an accepted scan
pub counts_in_step : ScansCountInStep
unfolding state_from history_from
counts_in_step image buffer n e scans g x m answer k l to =
    let kind = (block_at (blocks_of image) k).kind in
    let result = result_of image buffer scans g in
    let history = subst (λ (a : Result ℕ Refusal). MachineHistory kind (with_seen image k (history_of image buffer k scans) (state_after image buffer scans) g a result)) answer
    (kept_after image buffer n (fresh_made image buffer n e) k l x).made in
    call_counts kind (history_of image buffer k scans) (seen_at image k (state_after image buffer scans) g result m) history to

-- the state fits after any list of scans, so that only what it is given can turn the next one back
pub state_fits : StateFitsAfter
state_fits image buffer n e scans x =
    let m = fresh_made image buffer n e in
    record { sized = (held_after image buffer n m x).sized; sound = sound_after image buffer n m x }

pub next_accepted : NextIsAccepted
next_accepted image buffer n e scans x g f =
    scan_accepted image (state_after image buffer scans) g.told g.report g.journal n
    (fresh_made image buffer n e).table (state_fits image buffer n e scans x) f
