-- Which scans are accepted: checks 20 to 41 pass exactly for a state, a frame, a report and a journal that fit, and then a scan over an accepted
-- table answers with its events, at most two a block, and each of its calls is whole. For the run promise, and so that it is about scans that are
-- accepted.
use Prim.Native.Nat.{ℕ, suc, ◌*◌}
use native.Mathlib.Omega.{arith}
use mathlib.Core.List.{List}
use mathlib.Core.Path.{◌≡◌, refl}
use lib.Dec.{eqb, leb}
use lib.ListN.{length}
use borrow.Author.Tests.{eqb-true, leb-true, eq-eqb, le-leb}
use Rattle.std.specs.Prelude.{Result, Ok, Err}
use Rattle.std.specs.Result.{result_and}
use Rattle.refusal.specs.Refusal.{Verdict, require, first_refused}
use Rattle.refusal.specs.declared.Refusal.{Refusal}
use Rattle.refusal.specs.declared.Check.{Check}
use Rattle.refusal.specs.declared.Check.TheVariants.{StateLength, Unsound, FrameLength, EntryForm, ReportLength, JournalLength}
use Rattle.table.specs.Blocks.{Block, block_at, blocks_of}
use Rattle.table.specs.Check.{check_of}
use Rattle.refusal.specs.declared.Place.TheVariants.{Header, Position}
use Rattle.refusal.proofs.Rows.{require_this, require_below, group_passes, rest_passes, each_passes, row_passes}
use Rattle.layout.specs.Buffer.{record_length, entry_length, report_length, event_length, part}
use Rattle.layout.specs.RecordLayout.{sound_bytes}
use Rattle.layout.specs.EntryLayout.{entry_bytes}
use Rattle.engine.specs.Told.{Told}
use Rattle.engine.specs.Verify.{sound_at, state_sound, state_check, form_at, frame_form, frame_check, journal_length, lent_check, verify_of}
use Rattle.engine.specs.Scan.{scan_blocks, scan_of}
use Rattle.engine.specs.ScanAccepted.{StateFits, GivenFits, VerifyPassesExactly, ScanIsAccepted, EventsAreFew, CallsAreWhole}
use Rattle.engine.proofs.ServedLaws.{buffers_at, outcome_whole, events_few as two_each}

-- a check of a length
length_is : (m n : ℕ) (check : Check) (below : Verdict) → require (eqb m n) check Header below ≡ Ok tt → m ≡ n
length_is m n check below e = eqb-true m n (require_this (eqb m n) check Header below tt e)

module _ (blocks : List Block) where
  -- checks 20 and 21 pass exactly for a state that fits
  pub state_fits : (state : List ℕ) → state_check blocks state ≡ Ok tt → StateFits blocks state
  unfolding state_sound
  state_fits state e =
      let sound = require_below (eqb (length state) (record_length * length blocks)) StateLength Header (state_sound blocks state) tt e in
      record {
        sized = length_is (length state) (record_length * length blocks) StateLength (state_sound blocks state) e;
        sound = λ k l. require_this (sound_bytes (block_at blocks k).kind (part record_length k state)) Unsound (Position (suc k)) (Ok tt) tt (each_passes (sound_at blocks state) (length blocks) sound k l);
      }

  pub state_passes : (state : List ℕ) → StateFits blocks state → state_check blocks state ≡ Ok tt
  unfolding state_sound
  state_passes state s =
      let sound : first_refused (sound_at blocks state) (length blocks) ≡ Ok tt = row_passes (sound_at blocks state) (length blocks) (λ j l. rw (s.sound j l)) in
      rw (eq-eqb (length state) (record_length * length blocks) s.sized, sound)

  -- checks 30 to 41 pass exactly for a frame, a report and a journal that fit
  module _ (told : Told) (report journal : List ℕ) where
    pub given_fits : frame_check blocks told.frame ≡ Ok tt → lent_check blocks report journal ≡ Ok tt → GivenFits blocks told report journal
    unfolding frame_form
    given_fits e f =
        let form = require_below (eqb (length told.frame) (entry_length * length blocks)) FrameLength Header (frame_form blocks told.frame) tt e in
        let room = require_below (eqb (length report) (report_length * length blocks)) ReportLength Header (journal_length blocks journal (Ok tt)) tt f in
        record {
          frame_sized = length_is (length told.frame) (entry_length * length blocks) FrameLength (frame_form blocks told.frame) e;
          form = λ k l. require_this (entry_bytes (part entry_length k told.frame)) EntryForm (Position (suc k)) (Ok tt) tt (each_passes (form_at told.frame) (length blocks) form k l);
          report_sized = length_is (length report) (report_length * length blocks) ReportLength (journal_length blocks journal (Ok tt)) f;
          room =
              leb-true (2 * event_length * length blocks) (length journal)
              (require_this (leb (2 * event_length * length blocks) (length journal)) JournalLength Header (Ok tt) tt room);
        }

    frame_passes : GivenFits blocks told report journal → frame_check blocks told.frame ≡ Ok tt
    unfolding frame_form
    frame_passes g =
        let form : first_refused (form_at told.frame) (length blocks) ≡ Ok tt = row_passes (form_at told.frame) (length blocks) (λ j l. rw (g.form j l)) in
        rw (eq-eqb (length told.frame) (entry_length * length blocks) g.frame_sized, form)

    lent_passes : GivenFits blocks told report journal → lent_check blocks report journal ≡ Ok tt
    lent_passes g =
        rw (
          eq-eqb (length report) (report_length * length blocks) g.report_sized,
          le-leb (2 * event_length * length blocks) (length journal) g.room,
        )

pub verify_passes : VerifyPassesExactly
unfolding verify_of
verify_passes blocks state told report journal =
    let below = result_and (frame_check blocks told.frame) (lent_check blocks report journal) in
    let group = group_passes (state_check blocks state) below tt in
    let rest = rest_passes (state_check blocks state) below tt in
    record {
      state_fits = λ e. state_fits blocks state (group e);
      given_fits = λ e.
          given_fits blocks told report journal (group_passes (frame_check blocks told.frame) (lent_check blocks report journal) tt (rest e))
          (rest_passes (frame_check blocks told.frame) (lent_check blocks report journal) tt (rest e));
      passes = λ s g. rw (state_passes blocks state s, frame_passes blocks told report journal g, lent_passes blocks told report journal g);
    }

pub scan_accepted : ScanIsAccepted
unfolding scan_of scan_blocks
scan_accepted image state told report journal n e s g =
    let v : verify_of (blocks_of image) state told report journal ≡ Ok tt = (verify_passes (blocks_of image) state told report journal).passes s g in
    rw (e, v) ((buffers_at (blocks_of image) told state report journal (length (blocks_of image))).events, refl)

-- an accepted scan is over an accepted table, and passed checks 20 to 41
pub accepted_by : (image state : List ℕ) (told : Told) (report journal : List ℕ) (m : ℕ) → (scan_of image state told report journal).answer ≡ Ok m
    → ((n : ℕ) × (check_of image ≡ Ok n)) × (verify_of (blocks_of image) state told report journal ≡ Ok tt)
unfolding scan_of scan_blocks
accepted_by image state told report journal m = by (check_of image) refl (verify_of (blocks_of image) state told report journal) refl
  where
    by : (c : Result ℕ Refusal) → check_of image ≡ c → (v : Verdict) → verify_of (blocks_of image) state told report journal ≡ v
        → (scan_of image state told report journal).answer ≡ Ok m
        → ((n : ℕ) × (check_of image ≡ Ok n)) × (verify_of (blocks_of image) state told report journal ≡ Ok tt)
    by (Ok n) c (Ok tt) v a = ((n, c), v)
    by (Ok n) c (Err refusal) v a = let z = rw (c, v) at a in cc
    by (Err refusal) c w v a = let z = rw c at a in cc

pub events_few : EventsAreFew
unfolding scan_of scan_blocks
events_few image state told report journal m a =
    let p = accepted_by image state told report journal m a in
    let count = (buffers_at (blocks_of image) told state report journal (length (blocks_of image))).events in
    let z = rw (p.0.1, p.1) at a in
    let e : count ≡ m = cc in
    let s = (verify_passes (blocks_of image) state told report journal).state_fits p.1 in
    omega (arith, two_each (blocks_of image) told state report journal s (length (blocks_of image)) (omega arith))

pub calls_are_whole : CallsAreWhole
calls_are_whole image state told report journal m a =
    outcome_whole (blocks_of image) told state report journal
    ((verify_passes (blocks_of image) state told report journal).state_fits (accepted_by image state told report journal m a).1)
