-- Document 02, 4/14: "what serves such a block shall get the state buffer only to read, so that its record stays in place. All outputs are as before."
use Rattle.std.specs.Prelude.{ℕ, ◌*◌, Bool, true, List, ◌++◌, ◌≡◌, take, drop}
use Rattle.table.specs.Blocks.{BlockConfig}
use Rattle.layout.specs.Buffer.{report_length}
use Rattle.layout.specs.ReportLayout.{encode_report}
use Rattle.block.specs.Record.{fresh_record}
use Rattle.block.specs.Call.{unchanged}
use Rattle.block.specs.Idle.{idle}
use Rattle.engine.specs.Inputs.{flags_in, inputs_of}
use Rattle.engine.specs.Serve.{Buffers, record_in, entry_in, served}
use Rattle.engine.specs.Callable.{Callable}

-- whether the block at index i is idle: by the start of its call and by its record, as frame and state stand when its turn comes
abbrev pub idle_in : BlockConfig → ℕ → List ℕ → List ℕ → Bool
idle_in b i frame state = idle (inputs_of b (flags_in state) (entry_in frame i).inputs).start (record_in state i).step

-- state, journal and event count as before; the report from the place of the block at index i on becomes `left`
abbrev pub reported_from : ℕ → List ℕ → Buffers → Buffers
reported_from i left b = record { state = b.state; report = take (report_length * i) b.report ++ left; journal = b.journal; events = b.events }

-- what serving an idle block leaves of the report from its place on: its own entry is that of a fresh record after one pass
abbrev pub idle_report : List ℕ → List ℕ
idle_report lent = encode_report (unchanged fresh_record) ++ drop report_length lent

-- where `lent`, the report from a block's place on, becomes `left`, the scan's step is made: that of every block which can be called and is idle in this state
abbrev pub IdleStep : List ℕ → List ℕ → List ℕ → Type 0
IdleStep state lent left =
    (i : ℕ) (b : BlockConfig) (frame : List ℕ) (buffers : Buffers) → buffers.state ≡ state → drop (report_length * i) buffers.report ≡ lent
    → Callable b.kind i frame state → idle_in b i frame state ≡ true → served b i frame buffers ≡ reported_from i left buffers

-- "All outputs are as before": proved as idle_step in proofs/IdleLaws.antt
abbrev pub IdleIsReported : Type 0
IdleIsReported = (state lent : List ℕ) → IdleStep state lent (idle_report lent)
