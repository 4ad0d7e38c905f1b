-- The step of a block that goes on working: its call makes one pass and leaves it at Executing, so of its record only the timer changes, and it has no
-- events. For the proof of `serve`.
use Prim.Native.Nat.{ℕ, suc, ◌+◌, ◌*◌}
use native.Mathlib.Nat.{add-zero}
use mathlib.Core.List.{List, []}
use mathlib.Core.Path.{◌≡◌, ap, sym, ◌∙◌}
use lib.ListN.{length}
use Rattle.words.specs.Word.{Bytes}
use Rattle.table.specs.Blocks.{BlockConfig}
use Rattle.layout.specs.Buffer.{record_length, report_length, event_length, part, put}
use Rattle.layout.specs.RecordLayout.{record_offset, encode_record, encode_timer}
use Rattle.layout.specs.ReportLayout.{encode_report, working_report}
use Rattle.layout.specs.EventLayout.{encode_events}
use Rattle.layout.proofs.BufferLaws.{put_nothing, part_length, part_bytes}
use Rattle.layout.proofs.RecordLaws.{encode_decode, sound_form, sound_record, put_timer}
use Rattle.layout.proofs.ReportLaws.{working_report_lem}
use Rattle.block.specs.Record.{Executing}
use Rattle.block.specs.CallResult.{outcome_of}
use Rattle.block.specs.declared.record.Record.{Record}
use Rattle.block.specs.declared.event.Event.{Event}
use Rattle.block.specs.declared.call.CallResult.{CallResult}
use Rattle.block.proofs.Passes.{running}
use Rattle.block.proofs.WorkingLaws.{Working, working_call}
use Rattle.engine.specs.Inputs.{flags_in, inputs_of}
use Rattle.engine.specs.Serve.{Buffers, record_in, entry_in, call_in, served}
use Rattle.engine.specs.Callable.{Callable}
use Rattle.engine.proofs.ServeLaws.{served_is}

-- the block at index i, its call, and the buffers before
module _ (b : BlockConfig) (i : ℕ) (frame : List ℕ) (x : Buffers) (a : CallResult) (called : outcome_of a ≡ call_in b i frame x.state)
    (can : Callable b.kind i frame x.state) (all : Bytes x.state) (one : a.passes ≡ 1) (works : a.next.step ≡ Executing) where
  abbrev own : List ℕ
  own = part record_length i x.state

  abbrev r : Record
  r = record_in x.state i

  keeps : Working r (outcome_of a)
  unfolding call_in
  keeps =
      working_call b.kind (inputs_of b (flags_in x.state) (entry_in frame i).inputs) (entry_in frame i) r (outcome_of a) (sound_record b.kind own can.is_sound)
      called one works

  -- the record put anew is the timer put in it
  timer_only : put (record_length * i + record_offset.last) (encode_timer a.next.timer) x.state
      ≡ put (record_length * i) (encode_record a.next) x.state
  timer_only =
      let before : r ≡ running r.job r.limit r.timeout r.timer = keeps.before in
      let after : a.next ≡ running r.job r.limit r.timeout a.next.timer = keeps.after in
      let stands : own ≡ encode_record (running r.job r.limit r.timeout r.timer) =
      sym (encode_decode own (part_length record_length i x.state can.own) (part_bytes record_length i x.state all) (sound_form b.kind own can.is_sound))
      ∙ ap encode_record before in
      put_timer (record_length * i) (running r.job r.limit r.timeout r.timer) a.next.timer x.state stands can.own
      ∙ ap (λ (n : Record). put (record_length * i) (encode_record n) x.state) (sym after)

  pub working_served : (state report : List ℕ)
      → state ≡ put (record_length * i + record_offset.last) (encode_timer a.next.timer) x.state
      → report ≡ put (report_length * i) (working_report a.used a.next.job) x.report
      → ◌≡◌ {A = Buffers} (record { state = state; report = report; journal = x.journal; events = x.events }) (served b i frame x)
  unfolding encode_events
  working_served state report es er =
      let o = outcome_of a in
      let reported : working_report a.used a.next.job ≡ encode_report o = working_report_lem o r.job r.limit r.timeout a.next.timer keeps.after one in
      let quiet : o.events ≡ [] = keeps.quiet in
      let events : x.events ≡ x.events + length o.events = sym (ap (λ (e : List Event). x.events + length e) quiet ∙ add-zero x.events) in
      let journal : x.journal ≡ put (event_length * x.events) (encode_events (suc i) o.events) x.journal =
      sym (ap (λ (e : List Event). put (event_length * x.events) (encode_events (suc i) e) x.journal) quiet ∙ put_nothing (event_length * x.events) x.journal) in
      served_is b i frame x (record { state = state; report = report; journal = x.journal; events = x.events }) a called
      (λ j. record {
        state = (es ∙ timer_only) j;
        report = (er ∙ ap (λ (v : List ℕ). put (report_length * i) v x.report) reported) j;
        journal = journal j;
        events = events j;
      })
