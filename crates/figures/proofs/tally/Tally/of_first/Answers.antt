-- `Tally::of_first` meets its contract: the front of the journal holds those events and no other.
use Rattle.std.proofs.Common.{◌≡◌, ◌/◌, ◌*◌, ◌≤◌, ℕ, List, arith, length, take, length-take-le}
use Rattle.layout.specs.Buffer.{event_length}
use Rattle.layout.specs.EventLayout.{decode_events}
use Rattle.layout.proofs.EventLaws.{decode_taken}
use Rattle.figures.specs.Tally.{Counts, Tallied}
use Rattle.figures.proofs.tally.Tally.of_first.Goals as goal

-- the counts of the front are those of the first events
front_tallied : (n : ℕ) (s : List ℕ) (counts : Counts) → event_length * n ≤ length s
    → Tallied (decode_events (length (take (event_length * n) s) / event_length) (take (event_length * n) s)) counts
    → Tallied (decode_events n s) counts
front_tallied n s counts fits h =
    let whole : length (take (event_length * n) s) / event_length ≡ n = omega (arith, length-take-le (event_length * n) s fits) in
    rw (whole, decode_taken n s fits) at h

pub returns : goal.returns
returns c = front_tallied c.args.events c.args.journal.now _ c.requires.events_in_bounds c.of.ensures
