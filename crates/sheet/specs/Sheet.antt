-- Document 02, 7/14: the lines of the sheet, by the figures of each position.
use Rattle.std.specs.Prelude.{ℕ, zero, suc, ◌*◌, List, [], ◌++◌, length}
use Rattle.image.specs.Image.{most_slots}
use Rattle.table.specs.Blocks.{Block, block_at}
use Rattle.text.specs.Ascii.{ascii}
use Rattle.figures.specs.Figures.{no_figures, plus}
use Rattle.sheet.specs.Line.{line, line_room}
use Rattle.figures.specs.declared.figures.Figures.{Figures}

-- "one line a block in chain order", of the first k blocks; "The k-th block met has position k."
unfoldable pub lines_to : List Block → (ℕ → Figures) → ℕ → List ℕ
lines_to blocks figures zero = []
lines_to blocks figures (suc k) = lines_to blocks figures k ++ line (block_at blocks k).tag (figures (suc k))

-- "the column sums", of the first k blocks
unfoldable pub sums_to : (ℕ → Figures) → ℕ → Figures
sums_to figures zero = no_figures
sums_to figures (suc k) = plus (sums_to figures k) (figures (suc k))

-- "The last line is TOTAL and the column sums."
unfoldable pub sheet_of : List Block → (ℕ → Figures) → List ℕ
sheet_of blocks figures = lines_to blocks figures (length blocks) ++ line (ascii "TOTAL") (sums_to figures (length blocks))

-- room for a line for each block, and the last one. For contracts.
abbrev pub sheet_room : ℕ
sheet_room = line_room * suc most_slots
