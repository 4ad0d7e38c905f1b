-- Over a table without wires a journal is accepted exactly when some list of accepted scans from a fresh state writes it; over any table the journal of a list of scans is accepted:
-- specs/Written.antt. One way is built from two scans an event; the other is the run promise. For the reader of request 6/14.
use Rattle.std.proofs.Common.{◌≡◌, ℕ, ◌*◌, ◌<◌, List, [], length, Ok, refl, ap, sym, ◌∙◌, arith, append-nil}
use Rattle.words.specs.Word.{Bytes}
use Rattle.table.specs.Blocks.{block_in, blocks_of}
use Rattle.table.proofs.AcceptedLaws.{accepted_blocks, accepted_block}
use Rattle.layout.specs.Buffer.{event_length}
use Rattle.layout.specs.EventLayout.{decode_events}
use Rattle.layout.specs.declared.event.Posted.{Posted}
use Rattle.layout.proofs.EventLaws.{encode_posted, encode_length, decode_posted, journal_fits, journal_back}
use Rattle.block.specs.BlockInvariant.{open_job}
use Rattle.engine.specs.Fresh.{fresh_of}
use Rattle.engine.specs.Serve.{record_in}
use Rattle.engine.proofs.FreshLaws.{fresh_made, zeros_fresh}
use Rattle.run.specs.Scans.{Scans, none, FramesAreBytes, no_scan, state_from, state_after, journal_from, journal_of}
use Rattle.run.proofs.RunInvariant.{fresh_is, run_invariant}
use Rattle.journal.specs.Allowed.{Allowed}
use Rattle.journal.specs.Check.{none_open, first_bad, event_count, events_of, check_journal_of}
use Rattle.journal.proofs.CheckIsExact.{check_is_exact}
use Rattle.journal.proofs.AnswerLaws.{passes_accepted, accepted_passes}
use Rattle.replay.specs.Written.{NoWires, no_scan as none_accepted, journal_bytes, Written, AcceptedIsWritten, ScansAreAccepted, BytesAreEvents, ZeroSlotsAreNoWires}
use Rattle.replay.proofs.JournalBytes.{list_encoded}
use Rattle.replay.proofs.OneEvent.{Rests, all_events}

module _ (image buffer : List ℕ) (n : ℕ) (fresh : (fresh_of image buffer).answer ≡ Ok n) where
  -- every block of a fresh state is at rest with no job open
  fresh_rests : Rests image buffer none none_open
  unfolding state_from
  fresh_rests =
      record {
        framed = no_scan;
        accepted = none_accepted;
        rests = λ k l. rw (fresh_is image buffer n (fresh_made image buffer n fresh)) (zeros_fresh (length (blocks_of image)) k);
      }

  -- of the bytes that a list of scans wrote: how many events, and which
  module _ (scans : Scans) (framed : FramesAreBytes scans) where
    abbrev bytes : List ℕ
    bytes = journal_bytes image buffer scans

    abbrev events : List Posted
    events = journal_of image buffer scans

    bytes_length : length bytes ≡ event_length * length events
    bytes_length = let w = list_encoded image buffer n (fresh_made image buffer n fresh) framed in ap length w.encoded ∙ encode_length events

    count_is : event_count bytes ≡ length events
    count_is = let l = bytes_length in omega arith

    events_are : events_of bytes ≡ events
    events_are =
        let w = list_encoded image buffer n (fresh_made image buffer n fresh) framed in
        ap (λ (m : ℕ). decode_events m bytes) count_is ∙ ap (decode_events (length events)) (w.encoded ∙ sym (append-nil (encode_posted events))) ∙ decode_posted [] w.fits

    -- the run promise gives the rules
    allowed : Allowed (blocks_of image) events
    allowed =
        let run = run_invariant image buffer n fresh scans framed in
        record { turns = λ k l. (open_job (record_in (state_after image buffer scans) k), (run.blocks k l).turns); positions = run.positions }

    accepted : check_journal_of image bytes ≡ Ok (event_count bytes)
    accepted =
        passes_accepted image bytes n (fresh_made image buffer n fresh).table
        (record {
          whole = let l = bytes_length in omega arith;
          good = ap (first_bad (blocks_of image) none_open 0) events_are ∙ (check_is_exact (blocks_of image) events).accepts allowed;
        })

  is_written : NoWires (blocks_of image) → (journal : List ℕ) → Bytes journal → (m : ℕ) → check_journal_of image journal ≡ Ok m → Written image buffer journal
  unfolding journal_from
  is_written bare journal b m v =
      let made = fresh_made image buffer n fresh in
      let p = accepted_passes image journal n made.table m v in
      let sized : length journal ≡ event_length * event_count journal = let w = p.whole in omega arith in
      let g = all_events image buffer n fresh bare 0 (journal_fits (event_count journal) journal b) none none_open fresh_rests p.good in
      record {
        scans = g.scans;
        framed = g.framed;
        accepted = g.accepted;
        writes = (list_encoded image buffer n made g.framed).encoded ∙ ap encode_posted g.journal ∙ journal_back (event_count journal) journal sized b;
      }

pub bytes_are_events : BytesAreEvents
bytes_are_events image buffer n fresh scans framed = events_are image buffer n fresh scans framed

pub scans_are_accepted : ScansAreAccepted
scans_are_accepted image buffer n fresh scans framed =
    accepted image buffer n fresh scans framed ∙ ap Ok (count_is image buffer n fresh scans framed)

pub accepted_is_written : AcceptedIsWritten
accepted_is_written image buffer journal n fresh bare b =
    record {
      written = is_written image buffer n fresh bare journal b;
      accepted = λ w. rw w.writes at (accepted image buffer n fresh w.scans w.framed);
    }

pub no_wires : ZeroSlotsAreNoWires
unfolding block_in
no_wires image n ok zero k l =
    let i : k < n = omega (arith, accepted_blocks image n ok) in
    rw (accepted_block image n ok k i, (zero k i).0, (zero k i).1) (refl, refl)
