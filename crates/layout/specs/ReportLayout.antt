-- Document 01, "Report and journal", with the job as document 02, 3/14 has it: what a call leaves, as its bytes of the report.
use Rattle.std.specs.Prelude.{ℕ, List, [], ◌∷◌, ◌++◌, replicate}
use Rattle.words.specs.Word.{bytes, number_at}
use Rattle.block.specs.Record.{Executing}
use Rattle.block.specs.Call.{Outcome}
use Rattle.layout.specs.Buffer.{byte_at, job_width}
use Rattle.layout.specs.RecordLayout.{flags_byte}
use Rattle.layout.specs.declared.report.Report.{Report}

-- where each field begins
pub record ReportOffsets : Type 0 where
  pub flags : ℕ
  pub used : ℕ
  pub passes : ℕ
  pub step : ℕ
  pub code : ℕ
  pub job : ℕ

-- "flags, pieces used, passes, step, code (2), zero (2), ... the record's fields as the call leaves them" "job in 8-15"
abbrev pub report_offset : ReportOffsets
report_offset = record { flags = 0; used = 1; passes = 2; step = 3; code = 4; job = 8 }

unfoldable pub encode_report : Outcome → List ℕ
encode_report o =
    (flags_byte o.next.flags ∷ o.used ∷ o.passes ∷ o.next.step ∷ [])
    ++ (bytes 2 o.next.code ++ (replicate 2 0 ++ bytes job_width o.next.job))

-- what an entry states of a call, and the entry with those fields: `encode_report` in two steps, for the contracts of `Report`
abbrev pub report_of : Outcome → Report
report_of o =
    record { flags = flags_byte o.next.flags; used = o.used; passes = o.passes; step = o.next.step; code = o.next.code; job = o.next.job }

abbrev pub encode_fields : Report → List ℕ
encode_fields r = (r.flags ∷ r.used ∷ r.passes ∷ r.step ∷ []) ++ (bytes 2 r.code ++ (replicate 2 0 ++ bytes job_width r.job))

-- and read back
abbrev pub decode_report : List ℕ → Report
decode_report s =
    record {
      flags = byte_at s report_offset.flags;
      used = byte_at s report_offset.used;
      passes = byte_at s report_offset.passes;
      step = byte_at s report_offset.step;
      code = number_at 2 s report_offset.code;
      job = number_at job_width s report_offset.job;
    }

-- the pieces used and the passes, as a report entry states them
abbrev pub reported_pieces : List ℕ → ℕ
reported_pieces s = byte_at s report_offset.used

abbrev pub reported_passes : List ℕ → ℕ
reported_passes s = byte_at s report_offset.passes

-- the entry of a call of one pass that leaves its block at Executing: busy alone, the pieces used, one pass, no code. For the contract of `write_working_report`
abbrev pub working_report : ℕ → ℕ → List ℕ
working_report used job = (1 ∷ used ∷ 1 ∷ Executing ∷ []) ++ (replicate 4 0 ++ bytes job_width job)
