-- What the computed lists of scans are made of and read by: frame entries, what each scan answered, and what each call reported.
use Rattle.std.specs.Prelude.{ℕ, ◌*◌, Bool, List, [], ◌∷◌, ◌++◌, replicate}
use Rattle.clock.specs.declared.Timer.{Timer}
use Rattle.refusal.specs.Refusal.{Answer, answer_of}
use Rattle.layout.specs.Buffer.{report_length, event_length}
use Rattle.layout.specs.declared.event.Posted.{Posted}
use Rattle.block.specs.Entry.{Complete}
use Rattle.block.specs.WorkedExamples.{entry}
use Rattle.block.specs.History.{History, fresh, ◌then◌}
use Rattle.block.specs.declared.entry.Piece.{Piece}
use Rattle.block.specs.Entry.{Entry}
use Rattle.run.specs.Scans.{Scans, none, ◌and_then◌, Given, result_of}

-- an entry that has these pieces; abort and reset reply complete
abbrev pub entry_of : Bool → Bool → ℕ → ℕ → ℕ → ℕ → List Piece → Entry
entry_of start abort job limit timeout clock pieces = entry start abort Complete job limit timeout clock pieces

-- a scan of n blocks with a report and a journal of ones
abbrev pub scan_on : ℕ → List ℕ → Given
scan_on n frame =
    record {
      told = record { frame = frame };
      report = replicate (report_length * n) 255;
      journal = replicate (2 * event_length * n) 255;
    }

-- what each scan answered, in the order of the scans
unfoldable pub answers_of : List ℕ → List ℕ → Scans → List Answer
answers_of image buffer none = []
answers_of image buffer (h and_then g) = answers_of image buffer h ++ (answer_of (result_of image buffer h g).answer ∷ [])

-- the passes and the pieces of each call, as the reports state them
unfoldable pub passes_of : History → List ℕ
passes_of fresh = []
passes_of (h then s) = passes_of h ++ (s.passes ∷ [])

unfoldable pub used_of : History → List ℕ
used_of fresh = []
used_of (h then s) = used_of h ++ (s.used ∷ [])

-- the start input of each call, after wires
unfoldable pub starts_of : History → List Bool
starts_of fresh = []
starts_of (h then s) = starts_of h ++ (s.inputs.start ∷ [])

-- the last reading and elapsed after each call, as the state buffer has them
unfoldable pub timers_of : History → List Timer
timers_of fresh = []
timers_of (h then s) = timers_of h ++ (s.after.timer ∷ [])

-- an event of the block at a position
abbrev pub at : ℕ → ℕ → ℕ → ℕ → Posted
at position kind code job = record { position = position; event = record { kind = kind; code = code; job = job } }
