-- The scan's loop over the blocks: after i of them the buffers are those of `served_to`, so that the next block can be called. For the proof of `serve_all`.
use Prim.Native.Nat.{ℕ, zero, suc, ◌+◌, ◌*◌, ◌≤◌, ◌<◌}
use native.Mathlib.Numerals.{add-one}
use native.Mathlib.Omega.{arith}
use mathlib.Core.Bool.{true, ◌&&◌}
use mathlib.Core.List.{List}
use mathlib.Core.Path.{◌≡◌, refl, ap, ◌∙◌}
use lib.Dec.{leb}
use lib.ListN.{length}
use borrow.Author.Tests.{leb-true}
use Rattle.membership.proofs.Logic.{and_left}
use Rattle.table.specs.Check.{check_of}
use Rattle.table.specs.Blocks.{Block, blocks_of, config_at}
use Rattle.std.specs.Prelude.{Ok, Option, None, Some}
use Rattle.table.specs.Table.{WireFits}
use Rattle.table.specs.declared.blocks.Wire.{Wire}
use Rattle.table.proofs.AcceptedLaws.{accepted_blocks, accepted_few, accepted_start, accepted_abort}
use Rattle.layout.specs.Buffer.{record_length, entry_length, event_length, part}
use Rattle.layout.specs.EventLayout.{encode_events}
use Rattle.layout.proofs.BufferLaws.{put_length}
use Rattle.layout.proofs.EntryLaws.{entry_fits_lem}
use Rattle.layout.proofs.EventLaws.{events_length}
use Rattle.block.specs.Entry.{Entry, Complete, ErrorReply, most_pieces, code_fits, head_fits, pieces_fit, entry_fits}
use Rattle.block.specs.Call.{Outcome}
use Rattle.engine.specs.Told.{Told}
use Rattle.engine.specs.Serve.{Buffers, entry_in, served, served_to}
use Rattle.engine.specs.Callable.{Callable, Reaches, Reached, HasRoom}
use Rattle.engine.specs.ScanAccepted.{StateFits, GivenFits}
use Rattle.engine.proofs.ServedLaws.{buffers_at, outcome_at, state_length, state_later, report_sized, events_few}

-- "piece count n, 0 to 4"
count_few : (e : Entry) → entry_fits e ≡ true → e.count ≤ most_pieces
unfolding entry_fits
count_few e h =
    let head = and_left (head_fits e) (pieces_fit e.count 0 e.pieces) h in
    let counted = leb e.count most_pieces in
    let replies = leb e.abort_reply ErrorReply in
    let reset = leb e.reset_reply Complete in
    let code = code_fits e.abort_reply e.abort_code in
    leb-true e.count most_pieces (and_left counted replies (and_left (counted && replies) reset (and_left (counted && replies && reset) code head)))

-- a wire of a table reaches a record of a state that has one for each block
reaches : (wire : Option Wire) (n : ℕ) (state : List ℕ) → WireFits n wire → record_length * n ≤ length state → Reaches wire state
reaches None n state fits l = tt
reaches (Some w) n state fits l = (fits.0, omega (arith, fits.1))

-- the buffers after n blocks, of what passed checks 20 to 41
module _ (blocks : List Block) (told : Told) (state report journal : List ℕ) (s : StateFits blocks state) (g : GivenFits blocks told report journal) where
  abbrev after : ℕ → Buffers
  after n = buffers_at blocks told state report journal n

  abbrev outcome : ℕ → Outcome
  outcome i = outcome_at blocks told state report journal i

  few : (n : ℕ) → n ≤ length blocks → (after n).events ≤ 2 * n
  few n l = events_few blocks told state report journal s n l

  journal_sized : (n : ℕ) → n ≤ length blocks → length (after n).journal ≡ length journal
  unfolding served_to served
  journal_sized zero l = refl
  journal_sized (suc i) l =
      let h = journal_sized i (omega arith) in
      let e = events_length (suc i) (outcome i).events in
      put_length (event_length * (after i).events) (encode_events (suc i) (outcome i).events) (after i).journal (omega (arith, g.room, few (suc i) l))
      ∙ h

-- the buffers after i blocks
pub record Serving (blocks : List Block) (told : Told) (state₀ report₀ journal₀ : List ℕ) (i : ℕ) (state report journal : List ℕ) (events : ℕ) : Type 0 where
  pub within : i ≤ length blocks
  pub whole : ◌≡◌ {A = Buffers} (record { state = state; report = report; journal = journal; events = events })
      (served_to blocks told i (record { state = state₀; report = report₀; journal = journal₀; events = 0 }))

pub serving_start : (blocks : List Block) (told : Told) (state report journal : List ℕ) → Serving blocks told state report journal 0 state report journal 0
unfolding served_to
serving_start blocks told state report journal = record { within = omega arith; whole = refl }

module _ (blocks : List Block) (told : Told) (state₀ report₀ journal₀ : List ℕ) (i : ℕ) (state report journal : List ℕ) (events : ℕ)
    (h : Serving blocks told state₀ report₀ journal₀ i state report journal events) where
  pub serving_sized : StateFits blocks state₀ → GivenFits blocks told report₀ journal₀
      → (length state ≡ length state₀) × (length report ≡ length report₀) × (length journal ≡ length journal₀) × (events ≤ 2 * i)
  serving_sized s g = (
    ap (λ (b : Buffers). length b.state) h.whole ∙ state_length blocks told state₀ report₀ journal₀ s.sized i h.within,
    ap (λ (b : Buffers). length b.report) h.whole ∙ report_sized blocks told state₀ report₀ journal₀ g.report_sized i h.within,
    ap (λ (b : Buffers). length b.journal) h.whole ∙ journal_sized blocks told state₀ report₀ journal₀ s g i h.within,
    rw (ap (λ (b : Buffers). b.events) h.whole) (few blocks told state₀ report₀ journal₀ s g i h.within),
  )

  -- the record of the next block is the one from before
  serving_record : StateFits blocks state₀ → part record_length i state ≡ part record_length i state₀
  serving_record s =
      ap (λ (b : Buffers). part record_length i b.state) h.whole ∙ state_later blocks told state₀ report₀ journal₀ s.sized i i h.within (omega arith)

  pub serving_on : (new_state new_report new_journal : List ℕ) (count : ℕ) → i < length blocks
      → ◌≡◌ {A = Buffers} (record { state = new_state; report = new_report; journal = new_journal; events = count })
      (served (config_at blocks i) i told.frame (record { state = state; report = report; journal = journal; events = events }))
      → Serving blocks told state₀ report₀ journal₀ (i + 1) new_state new_report new_journal count
  unfolding served_to
  serving_on new_state new_report new_journal count l e =
      rw add-one (record { within = l; whole = e ∙ ap (served (config_at blocks i) i told.frame) h.whole })

  -- the next block of an accepted table can be called
  pub serving_callable : (image : List ℕ) (n : ℕ) → check_of image ≡ Ok n → blocks ≡ blocks_of image
      → StateFits blocks state₀ → GivenFits blocks told report₀ journal₀ → i < n
      → (Callable (config_at blocks i).kind i told.frame state × Reached (config_at blocks i) state) × HasRoom i events report journal
  serving_callable image n ok from s g l =
      let z = serving_sized s g in
      let c : length blocks ≡ n = ap length from ∙ accepted_blocks image n ok in (
        (
          record {
            few = omega (arith, accepted_few image n ok);
            own = omega (arith, z.0, s.sized);
            entry = omega (arith, g.frame_sized);
            is_sound = rw (serving_record s) (s.sound i (omega arith));
            pieces = count_few (entry_in told.frame i) (entry_fits_lem (part entry_length i told.frame) (g.form i (omega arith)));
          },
          record {
            start = rw from (reaches _ n state (accepted_start image n ok i l) (omega (arith, z.0, s.sized)));
            abort = rw from (reaches _ n state (accepted_abort image n ok i l) (omega (arith, z.0, s.sized)));
          },
        ),
        record { reported = omega (arith, z.1, g.report_sized); posted = omega (arith, z.2, z.3, g.room) },
      )
