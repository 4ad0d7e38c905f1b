-- The loop of `Tally::of` keeps the counts of the events before, and what is left of the journal.
use Rattle.std.proofs.Common.{◌≡◌, ◌*◌, ◌≤◌, length, drop}
use Rattle.layout.specs.Buffer.{event_length}
use Rattle.layout.specs.EventLayout.{decode_events}
use Rattle.figures.specs.Tally.{counts_of, Tallied}
use Rattle.figures.proofs.tally.Tally.of.Given as goal

abbrev pub invariant-loop-bytes : goal.invariant-loop-bytes
invariant-loop-bytes l = record {
  tallied : Tallied (decode_events (length l.yielded) l.journal) (counts_of l.tally);
  rest : l.bytes-iterator.rest.now ≡ drop (event_length * length l.yielded) l.journal;
  size : l.bytes-iterator.size ≡ event_length;
  within : event_length * length l.yielded ≤ length l.journal;
}
