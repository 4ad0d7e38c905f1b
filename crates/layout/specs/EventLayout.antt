-- Document 01, "Report and journal", with the job as document 02, 3/14 has it: journal events as bytes, and back.
use Rattle.std.specs.Prelude.{ℕ, zero, suc, cond, List, [], ◌∷◌, ◌++◌, ◌==◌}
use Rattle.words.specs.Word.{bytes, number_at}
use Rattle.layout.specs.Buffer.{byte_at, part, event_length, job_width}
use Rattle.block.specs.declared.event.Event.{Event}
use Rattle.layout.specs.declared.event.Posted.{Posted}

-- where each field begins
pub record EventOffsets : Type 0 where
  pub kind : ℕ
  pub position : ℕ
  pub code : ℕ
  pub job : ℕ

-- "kind (1 start, 2 done, 3 failed, 4 aborted, 5 withdrawn), position, code (2; 0 unless failed)" "job in 4-11"
abbrev pub event_offset : EventOffsets
event_offset = record { kind = 0; position = 1; code = 2; job = 4 }

unfoldable pub encode_event : ℕ → Event → List ℕ
encode_event position v = (v.kind ∷ position ∷ []) ++ (bytes 2 v.code ++ bytes job_width v.job)

unfoldable pub decode_event : List ℕ → Posted
decode_event s =
    record {
      position = byte_at s event_offset.position;
      event = record { kind = byte_at s event_offset.kind; code = number_at 2 s event_offset.code; job = number_at job_width s event_offset.job };
    }

-- the events of a block, one after the other
unfoldable pub encode_events : ℕ → List Event → List ℕ
encode_events position [] = []
encode_events position (v ∷ vs) = encode_event position v ++ encode_events position vs

-- the first n events of a journal
unfoldable pub decode_events : ℕ → List ℕ → List Posted
decode_events zero s = []
decode_events (suc n) s = decode_events n s ++ (decode_event (part event_length n s) ∷ [])

-- "A block's entries are the events there with its position."
unfoldable pub events_at : ℕ → List Posted → List Event
events_at position [] = []
events_at position (p ∷ ps) = cond (p.position == position) (p.event ∷ events_at position ps) (events_at position ps)
