-- Records, frame entries and events whose fields fit their bytes: what the laws of writing and reading back ask for, here and in the engine.
use Prim.Native.Nat.{◌<◌, ◌^◌}
use mathlib.Core.Path.{◌≡◌}
use mathlib.Core.List.{List, [], ◌∷◌}
use lib.ListN.{length}
use Rattle.block.specs.Entry.{most_pieces}
use Rattle.block.specs.declared.record.Record.{Record}
use Rattle.block.specs.declared.entry.Piece.{Piece}
use Rattle.block.specs.Entry.{Entry}
use Rattle.block.specs.declared.event.Event.{Event}
use Rattle.layout.specs.Buffer.{job_width}

-- each element of a list
pub data All {A : Type 0} (P : A → Type 0) : List A → Type 0 where
  nil : All P []
  cons : {x : A} {xs : List A} → P x → All P xs → All P (x ∷ xs)

-- a record whose fields fit their bytes
pub record RecordFits (r : Record) : Type 0 where
  pub step : r.step < 256
  pub job : r.job < 256 ^ job_width
  pub code : r.code < 256 ^ 2
  pub limit : r.limit < 256 ^ 4
  pub timeout : r.timeout < 256 ^ 4
  pub last : r.timer.last < 256 ^ 4
  pub elapsed : r.timer.elapsed < 256 ^ 8

-- a piece, and an entry of four pieces, whose fields fit their bytes
pub record PieceFits (p : Piece) : Type 0 where
  pub reply : p.reply < 256
  pub code : p.code < 256 ^ 2
  pub clock : p.clock < 256 ^ 4

pub record EntryFits (e : Entry) : Type 0 where
  pub count : e.count < 256
  pub abort_reply : e.abort_reply < 256
  pub reset_reply : e.reset_reply < 256
  pub abort_code : e.abort_code < 256 ^ 2
  pub job : e.job < 256 ^ job_width
  pub limit : e.limit < 256 ^ 4
  pub timeout : e.timeout < 256 ^ 4
  pub clock : e.clock < 256 ^ 4
  pub four : length e.pieces ≡ most_pieces
  pub pieces : All PieceFits e.pieces

-- an event whose numbers fit their bytes
pub record EventFits (v : Event) : Type 0 where
  pub code : v.code < 256 ^ 2
  pub job : v.job < 256 ^ job_width
