-- The bytes that a list of scans wrote are the encoding of its journal, and its events fit their bytes. For both directions of the theorem about written journals.
use Rattle.std.proofs.Common.{◌≡◌, ℕ, zero, suc, ◌+◌, ◌*◌, ◌≤◌, List, ◌++◌, length, take, Ok, Err, refl, ap, sym, ◌∙◌, subst, arith, append_assoc, length-append, length-take-le, take_at}
use Rattle.words.specs.Word.{Bytes}
use Rattle.table.specs.Blocks.{Block, blocks_of}
use Rattle.refusal.specs.Refusal.{Verdict}
use Rattle.layout.specs.Buffer.{record_length, report_length, event_length, put}
use Rattle.layout.specs.EventLayout.{encode_events, decode_events}
use Rattle.layout.specs.declared.event.Posted.{Posted}
use Rattle.layout.proofs.Fits.{All, nil, RecordFits, EventFits}
use Rattle.layout.proofs.EventLaws.{encode_posted, encode_append, posted, posted_events, posted_fits, events_length}
use Rattle.block.specs.declared.event.Event.{Event}
use Rattle.engine.specs.Told.{Told}
use Rattle.engine.specs.Serve.{record_in, served_to}
use Rattle.engine.specs.Scan.{ScanResult}
use Rattle.engine.proofs.FreshLaws.{FreshMade}
use Rattle.engine.proofs.ServedLaws.{buffers_at, outcome_at, journal_next, count_next}
use Rattle.engine.proofs.ScanAccepted.{verify_passes}
use Rattle.engine.specs.Fresh.{fresh_of}
use Rattle.run.specs.Scans.{Scans, Given, FramesAreBytes, no_scan, and_scan, state_after, with_events, journal_from, journal_of}
use Rattle.run.proofs.FitsLaws.{all_append}
use Rattle.run.proofs.Projection.{events_to, journal_room, outcome_fits, events_next}
use Rattle.run.proofs.ScanLaws.{Held, scan_verdict, result_by, scan_is}
use Rattle.run.proofs.RunInvariant.{held, fresh_held}
use Rattle.replay.specs.Written.{with_bytes, journal_bytes}

-- bytes that are the encoding of events
pub record Encodes (bytes : List ℕ) (events : List Posted) : Type 0 where
  pub encoded : bytes ≡ encode_posted events
  pub fits : All (λ p. EventFits p.event) events

-- what stands in front after a call's events were put
front_after : (n position : ℕ) (vs : List Event) (journal : List ℕ) → event_length * n ≤ length journal
    → take (event_length * (n + length vs)) (put (event_length * n) (encode_events position vs) journal) ≡ take (event_length * n) journal ++ encode_events position vs
front_after n position vs journal room =
    let l : length (take (event_length * n) journal ++ encode_events position vs) ≡ event_length * (n + length vs) =
    simp length-append (omega (arith, length-take-le (event_length * n) journal room, events_length position vs)) in
    rw (← append_assoc) (take_at (take (event_length * n) journal ++ encode_events position vs) _ (event_length * (n + length vs)) l)

-- in a scan, after n calls
module _ (blocks : List Block) (told : Told) (state report journal : List ℕ) (sized : length state ≡ record_length * length blocks)
    (reported : length report ≡ report_length * length blocks) (framed : Bytes told.frame) (fit : (j : ℕ) → RecordFits (record_in state j)) where
  abbrev events_by : ℕ → ℕ
  events_by n = (buffers_at blocks told state report journal n).events

  abbrev journal_by : ℕ → List ℕ
  journal_by n = (buffers_at blocks told state report journal n).journal

  calls_encoded : (n : ℕ) → n ≤ length blocks → Encodes (take (event_length * events_by n) (journal_by n)) (events_to blocks told state report journal n)
  unfolding served_to decode_events encode_posted
  calls_encoded zero h = record { encoded = refl; fits = nil }
  calls_encoded (suc i) h =
      let before = calls_encoded i (omega arith) in
      let vs = (outcome_at blocks told state report journal i).events in
      let next = events_next blocks told state report journal sized reported framed fit i h in
      record {
        encoded =
            (λ t. take (event_length * count_next blocks told state report journal i t) (journal_next blocks told state report journal i t))
            ∙ front_after (events_by i) (suc i) vs (journal_by i) (journal_room blocks told state report journal i)
            ∙ (λ t. before.encoded t ++ posted_events (suc i) vs t)
            ∙ sym (ap encode_posted next ∙ encode_append (events_to blocks told state report journal i) (posted (suc i) vs));
        fits = subst (All (λ p. EventFits p.event)) (sym next)
            (all_append before.fits (posted_fits (suc i) (outcome_fits blocks told state report journal sized reported framed fit i h).events));
      }

-- one scan more, accepted or refused
scan_encoded : (image state : List ℕ) (g : Given) → Bytes g.told.frame → Held image state → (v : Verdict) → scan_verdict image state g ≡ v
    → (bytes : List ℕ) (events : List Posted) → Encodes bytes events
    → Encodes (with_bytes bytes (result_by v image state g).answer (result_by v image state g)) (with_events events (result_by v image state g).answer (result_by v image state g))
scan_encoded image state g b s (Err refusal) e bytes events x = x
scan_encoded image state g b s (Ok u) e bytes events x =
    let blocks = blocks_of image in
    let reported = ((verify_passes blocks state g.told g.report g.journal).given_fits e).report_sized in
    let own = calls_encoded blocks g.told state g.report g.journal s.sized reported b s.fit (length blocks) (omega arith) in
    record { encoded = (λ t. x.encoded t ++ own.encoded t) ∙ sym (encode_append events _); fits = all_append x.fits own.fits }

pub list_encoded : (image buffer : List ℕ) (n : ℕ) → FreshMade image buffer n → {h : Scans} → FramesAreBytes h → Encodes (journal_bytes image buffer h) (journal_of image buffer h)
unfolding journal_bytes journal_from encode_posted
list_encoded image buffer n m no_scan = record { encoded = refl; fits = nil }
list_encoded image buffer n m (and_scan {h = h} {g = g} x b) =
    let state = state_after image buffer h in
    let holds = held image (fresh_of image buffer).state n m.table (fresh_held image buffer n m) x in
    subst (λ (r : ScanResult). Encodes (with_bytes (journal_bytes image buffer h) r.answer r) (with_events (journal_of image buffer h) r.answer r))
    (sym (scan_is image state g n m.table))
    (scan_encoded image state g b holds (scan_verdict image state g) refl (journal_bytes image buffer h) (journal_of image buffer h) (list_encoded image buffer n m x))
