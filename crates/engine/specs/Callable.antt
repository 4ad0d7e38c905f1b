-- What the code asks before it calls the block at an index: the table's checks and checks 20 to 41 give it to every block of an accepted table.
use Rattle.std.specs.Prelude.{ℕ, ◌+◌, ◌*◌, ◌≤◌, ◌<◌, true, List, Option, IfSome, ◌≡◌, length}
use Rattle.image.specs.Image.{most_slots}
use Rattle.table.specs.declared.blocks.Wire.{Wire}
use Rattle.table.specs.Blocks.{BlockConfig}
use Rattle.layout.specs.Buffer.{record_length, entry_length, report_length, event_length, part}
use Rattle.layout.specs.RecordLayout.{sound_bytes}
use Rattle.block.specs.Entry.{most_pieces}
use Rattle.engine.specs.Serve.{entry_in}

-- its record and its entry
pub record Callable (kind i : ℕ) (frame state : List ℕ) : Type 0 where
  pub few : i < most_slots
  pub own : record_length * i + record_length ≤ length state
  pub entry : entry_length * i + entry_length ≤ length frame
  pub is_sound : sound_bytes kind (part record_length i state) ≡ true
  pub pieces : (entry_in frame i).count ≤ most_pieces

-- its report entry, and two events after those so far
pub record HasRoom (i events : ℕ) (report journal : List ℕ) : Type 0 where
  pub reported : report_length * i + report_length ≤ length report
  pub posted : event_length * events + 2 * event_length ≤ length journal

-- where there is a wire, the record of its block
abbrev pub Reaches : Option Wire → List ℕ → Type 0
Reaches wire state = IfSome wire (λ w. (0 < w.position) × (record_length * w.position ≤ length state))

-- its wires
pub record Reached (b : BlockConfig) (state : List ℕ) : Type 0 where
  pub start : Reaches b.start state
  pub abort : Reaches b.abort state
