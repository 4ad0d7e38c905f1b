-- `Tally::of` meets its contract: one event more at a time.
use Rattle.std.proofs.Common.{◌≡◌, ◌<◌, ◌/◌, ◌∙◌, ℕ, ap, arith, rules, length, length-append, length-drop}
use Rattle.std.proofs.lemmas.List.{length_push}
use Rattle.layout.specs.Buffer.{event_length}
use Rattle.layout.specs.EventLayout.{decode_events}
use Rattle.layout.proofs.EventLaws.{decoded_length}
use Rattle.figures.proofs.TallyLaws.{chunk_next, tallied_start, tallied_fits, tallied_next}
use Rattle.figures.proofs.tally.Tally.of.Goals as goal

pub loop-bytes-init : goal.loop-bytes-init
loop-bytes-init c = record { tallied = tallied_start c.args.journal.now _ c.new-tally.ensures; rest = search rules; size = search rules; within = omega arith }

pub add-requires : goal.add-requires
add-requires c =
    let L = c.loop-bytes in
    let e = c.decode_event-posted.result in
    let step = c.in-Some.ensures.steps in
    let few : length (decode_events (length L.yielded) c.args.journal.now) < 4294967295 =
    omega (arith, c.requires, decoded_length (length L.yielded) c.args.journal.now, L.invariant.within, ap length L.invariant.rest, ap length step.1.0, length-drop {A = ℕ}, length-append {A = ℕ}) in
    tallied_fits L.invariant.tallied few e.position e.event.kind

pub loop-bytes-preserved : goal.loop-bytes-preserved
loop-bytes-preserved c =
    let L = c.loop-bytes in
    let journal = c.args.journal.now in
    let read = c.decode_event-posted in
    let step = c.in-Some.ensures.steps in
    let chunk = chunk_next event_length (length L.yielded) journal _ _ _ L.invariant.rest step.1.0 (step.1.1 ∙ L.invariant.size) in
    rw (length_push L.yielded c.in-Some.bytes)
    (record {
      tallied = tallied_next (length L.yielded) journal _ L.invariant.tallied chunk.0 read.result read.ensures _ c.add.ensures;
      rest = chunk.1;
      size = step.0 ∙ L.invariant.size;
      within = omega (arith, L.invariant.within, ap length L.invariant.rest, ap length step.1.0, step.1.1, L.invariant.size, length-drop {A = ℕ}, length-append {A = ℕ});
    })

pub returns : goal.returns
returns c =
    let L = c.loop-bytes in
    let end = c.in-None.ensures.steps in
    let all : length L.yielded ≡ length c.args.journal.now / event_length =
    omega (arith, L.invariant.within, ap length L.invariant.rest, L.invariant.size, end.1.0, length-drop {A = ℕ}) in
    rw all at L.invariant.tallied
