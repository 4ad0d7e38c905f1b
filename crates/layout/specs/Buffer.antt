-- Lengths by name, and parts of a buffer by their index: document 01, "State record" and so on, with the lengths of document 02, 3/14.
use Rattle.std.specs.Prelude.{ℕ, ◌*◌, List, take, drop, slice_index}
pub use Rattle.words.specs.Word.{put}

-- "State record: 40 bytes"
abbrev pub record_length : ℕ
record_length = 40

-- "Frame entry: 64 bytes"
abbrev pub entry_length : ℕ
entry_length = 64

-- "Report: 16 bytes"
abbrev pub report_length : ℕ
report_length = 16

-- "Event: 12 bytes"
abbrev pub event_length : ℕ
event_length = 12

-- "The port community's appointment number has eight bytes.": the width of a job in every layout
abbrev pub job_width : ℕ
job_width = 8

abbrev pub byte_at : List ℕ → ℕ → ℕ
byte_at s i = slice_index s i

-- part i, from 0, of a buffer whose parts have `size` bytes each
-- std's slice_range is told both ends; a part is told its size and its number
abbrev pub part : ℕ → ℕ → List ℕ → List ℕ
part size i s = take size (drop (size * i) s)
