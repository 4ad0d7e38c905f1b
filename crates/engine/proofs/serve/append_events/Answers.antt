-- `serve::append_events` meets its contract, by which events there are.
use Rattle.std.proofs.Common.{◌≡◌, None, Some, sym, append-nil, ◌+◌, ◌*◌}
use Rattle.layout.specs.Buffer.{event_length}
use Rattle.layout.specs.EventLayout.{encode_event, encode_events}
use Rattle.layout.proofs.BufferLaws.{put_nothing, put_front}
use Rattle.layout.proofs.EventLaws.{event_length_lem}
use Rattle.engine.proofs.ServeLaws.{append_two}
use Rattle.engine.proofs.serve.append_events.Goals as goal

pub returns-in_default-clause-journal : goal.returns-in_default-clause-journal
unfolding encode_events
returns-in_default-clause-journal c = rw c.in_default.is (sym (put_nothing (event_length * c.args.events) c.args.journal.now))

pub returns-in_default-last-clause-journal : goal.returns-in_default-last-clause-journal
unfolding encode_events
returns-in_default-last-clause-journal c =
    let a = c.args in
    let first = c.in-Some.first in
    let none : a.a.second ≡ None = c.in_default-last.is in
    rw (c.in-Some.is, none, append-nil)
    (put_front (event_length * a.events) event_length a.journal.now (encode_event a.position first) _ (event_length_lem a.position first) c.write_event.ensures)

pub returns-clause-journal : goal.returns-clause-journal
unfolding encode_events
returns-clause-journal c =
    let a = c.args in
    let at = event_length * a.events in
    let first = c.in-Some.first in
    let second = c.in-Some-last.second in
    let both : a.a.second ≡ Some second = c.in-Some-last.is in
    rw (c.in-Some.is, both, append-nil)
    (append_two a.events a.position first second a.journal.now _ _ c.requires
    (put_front at event_length a.journal.now (encode_event a.position first) _ (event_length_lem a.position first) c.write_event.ensures)
    (put_front (at + event_length) event_length _ (encode_event a.position second) _ (event_length_lem a.position second) c.write_event-2.ensures))
