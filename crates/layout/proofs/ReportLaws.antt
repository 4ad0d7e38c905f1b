-- Report entries: their length, what they state of a call, and the entry of a block that goes on working. For the engine, and for the history of a block that is read off the report's bytes.
use Prim.Native.Nat.{ℕ}
use mathlib.Core.Path.{◌≡◌, refl, ap, sym, ◌∙◌}
use lib.ListN.{length}
use Rattle.words.specs.Word.{bytes}
use Rattle.clock.specs.declared.Timer.{Timer}
use Rattle.block.specs.Call.{Outcome}
use Rattle.block.specs.declared.record.Record.{Record}
use Rattle.block.proofs.Passes.{running}
use Rattle.layout.specs.Buffer.{report_length}
use Rattle.layout.specs.ReportLayout.{encode_report, working_report, reported_pieces, reported_passes}

pub report_length_lem : (o : Outcome) → length (encode_report o) ≡ report_length
unfolding encode_report bytes
report_length_lem o = refl

pub reported_pieces_lem : (o : Outcome) → reported_pieces (encode_report o) ≡ o.used
unfolding encode_report
reported_pieces_lem o = refl

pub reported_passes_lem : (o : Outcome) → reported_passes (encode_report o) ≡ o.passes
unfolding encode_report
reported_passes_lem o = refl

-- the entry of a call of one pass that leaves its block at Executing
pub working_report_lem : (o : Outcome) (j l t : ℕ) (w : Timer) → o.next ≡ running j l t w → o.passes ≡ 1
    → working_report o.used o.next.job ≡ encode_report o
unfolding encode_report bytes
working_report_lem o j l t w e one =
    ap (λ (r : Record). working_report o.used r.job) e
    ∙ sym (λ i. encode_report (record { next = e i; events = o.events; used = o.used; passes = one i }))

pub working_length : (used job : ℕ) → length (working_report used job) ≡ report_length
unfolding bytes
working_length used job = refl
