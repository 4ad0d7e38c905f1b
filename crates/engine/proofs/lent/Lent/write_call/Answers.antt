-- `lent::Lent::write_call` meets its contract: the part of the state from the block's own place on, with its record written at its front.
use Rattle.std.proofs.Common.{◌*◌, add-one}
use Rattle.layout.specs.Buffer.{record_length}
use Rattle.layout.specs.RecordLayout.{encode_record}
use Rattle.layout.proofs.BufferLaws.{put_front}
use Rattle.layout.proofs.RecordLaws.{encode_length}
use Rattle.engine.proofs.lent.Lent.write_call.Goals as goal

pub returns-clause-written : goal.returns-clause-written
returns-clause-written c =
    let g = c.args in
    let next = g.a.next in
    let journal = rw add-one at c.append_events-self.ensures.journal in
    λ j. record {
      state = put_front (record_length * g.i) record_length g.self.now.state.now (encode_record next) _ (encode_length next) c.write_record.ensures j;
      report = c.report_call.ensures j;
      journal = journal j;
      events = c.append_events-self.ensures.count j;
    }
