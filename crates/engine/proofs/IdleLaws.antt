-- An idle block's step: its record is all zero and stays so, it has no events, and its report entry is that of a fresh record after one pass. For the
-- proof of `serve_idle`.
use Prim.Native.Nat.{ℕ, ◌+◌, ◌*◌, ◌≤◌}
use native.Mathlib.Nat.{add-zero}
use native.Mathlib.Omega.{arith}
use mathlib.Core.List.{List}
use mathlib.Core.Path.{◌≡◌, ap, sym, ◌∙◌}
use lib.ListN.{length, drop, replicate}
use Rattle.layout.specs.Buffer.{record_length, report_length, event_length, part, put}
use Rattle.layout.specs.RecordLayout.{encode_record, decode_record}
use Rattle.layout.specs.ReportLayout.{encode_report}
use Rattle.layout.specs.EventLayout.{encode_events}
use Rattle.layout.proofs.BufferLaws.{put_own, put_nothing, put_from, part_length}
use Rattle.layout.proofs.RecordLaws.{encode_fresh, decode_fresh}
use Rattle.layout.proofs.ReportLaws.{report_length_lem}
use Rattle.layout.proofs.RecordCheckLaws.{dormant_zeros}
use Rattle.block.specs.Record.{Dormant, fresh_record}
use Rattle.block.specs.Call.{Outcome, unchanged}
use Rattle.block.proofs.IdleLaws.{idle_dormant, idle_call}
use Rattle.engine.specs.Inputs.{flags_in, inputs_of}
use Rattle.engine.specs.Serve.{Buffers, record_in, entry_in, call_in, written, served}
use Rattle.engine.specs.Idle.{reported_from, idle_report, IdleIsReported}

-- a call of a fresh record that keeps it writes its report entry only, where the record is all zero
fresh_written : (i : ℕ) (buffers : Buffers) → record_length * i + record_length ≤ length buffers.state → part record_length i buffers.state ≡ replicate record_length 0
    → written i (unchanged fresh_record) buffers ≡ reported_from i (idle_report (drop (report_length * i) buffers.report)) buffers
unfolding encode_events
fresh_written i x fits zeros =
    let o = unchanged fresh_record in
    let kept : put (record_length * i) (encode_record fresh_record) x.state ≡ x.state =
    ap (λ (v : List ℕ). put (record_length * i) v x.state) (encode_fresh ∙ sym zeros) ∙ put_own (record_length * i) record_length x.state fits in
    λ j. record {
      state = kept j;
      report = put_from (report_length * i) report_length (encode_report o) x.report (report_length_lem o) j;
      journal = put_nothing (event_length * x.events) x.journal j;
      events = add-zero x.events j;
    }

pub idle_step : IdleIsReported
unfolding served call_in decode_record
idle_step state lent i b frame buffers e l c idles =
    let own = part record_length i state in
    let inputs = inputs_of b (flags_in state) (entry_in frame i).inputs in
    let full : length own ≡ record_length = part_length record_length i state c.own in
    let dormant : (record_in state i).step ≡ Dormant = idle_dormant inputs.start (record_in state i).step idles in
    let zeros : own ≡ replicate record_length 0 = dormant_zeros own (omega arith) b.kind dormant full c.is_sound in
    let fresh : record_in state i ≡ fresh_record = ap decode_record zeros ∙ decode_fresh in
    let called : call_in b i frame state ≡ unchanged fresh_record = idle_call b.kind inputs (entry_in frame i) (record_in state i) idles ∙ ap unchanged fresh in
    ap (λ (s : List ℕ). written i (call_in b i frame s) buffers) e
    ∙ ap (λ (o : Outcome). written i o buffers) called
    ∙ rw l at (fresh_written i buffers (rw e c.own) (rw e zeros))
