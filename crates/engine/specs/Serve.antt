-- Document 01, "An accepted scan calls each block once, in chain order": one block's step over the lent buffers.
use Rattle.std.specs.Prelude.{ℕ, zero, suc, ◌+◌, ◌*◌, List, length}
use Rattle.table.specs.Blocks.{Block, BlockConfig, config_at}
use Rattle.layout.specs.Buffer.{record_length, entry_length, report_length, event_length, part, put}
use Rattle.layout.specs.RecordLayout.{encode_record, decode_record}
use Rattle.layout.specs.EntryLayout.{decode_entry}
use Rattle.layout.specs.ReportLayout.{encode_report}
use Rattle.layout.specs.EventLayout.{encode_events}
use Rattle.block.specs.Call.{Outcome, call_of}
use Rattle.block.specs.declared.record.Record.{Record}
use Rattle.block.specs.Entry.{Entry}
use Rattle.engine.specs.Told.{Told}
use Rattle.engine.specs.Inputs.{flags_in, inputs_of}

-- the lent buffers as they stand, and the events written so far
pub record Buffers : Type 0 where
  pub state : List ℕ
  pub report : List ℕ
  pub journal : List ℕ
  pub events : ℕ

abbrev pub record_in : List ℕ → ℕ → Record
record_in state i = decode_record (part record_length i state)

abbrev pub entry_in : List ℕ → ℕ → Entry
entry_in frame i = decode_entry (part entry_length i frame)

-- the call of the block at index i: "A wired input reads that flag as it stands when the block is called"
unfoldable pub call_in : BlockConfig → ℕ → List ℕ → List ℕ → Outcome
call_in b i frame state =
    call_of b.kind (inputs_of b (flags_in state) (entry_in frame i).inputs) (entry_in frame i) (record_in state i)

-- "Events stand in order of call; journal bytes after the last are unchanged."
-- what the call leaves: its record in the state, "its own twelve bytes of the report" (sixteen since 3/14), its events after those before; position i + 1
abbrev pub written : ℕ → Outcome → Buffers → Buffers
written i o b =
    record {
      state = put (record_length * i) (encode_record o.next) b.state;
      report = put (report_length * i) (encode_report o) b.report;
      journal = put (event_length * b.events) (encode_events (suc i) o.events) b.journal;
      events = b.events + length o.events;
    }

unfoldable pub served : BlockConfig → ℕ → List ℕ → Buffers → Buffers
served b i frame buffers = written i (call_in b i frame buffers.state) buffers

-- the first n blocks, each called once, in chain order
unfoldable pub served_to : List Block → Told → ℕ → Buffers → Buffers
served_to blocks told zero buffers = buffers
served_to blocks told (suc i) buffers = served (config_at blocks i) i told.frame (served_to blocks told i buffers)
