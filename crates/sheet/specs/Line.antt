-- Document 02, 7/14: one line of the sheet, as bytes.
use Rattle.std.specs.Prelude.{ℕ, ◌+◌, ◌*◌, List, [], ◌∷◌, ◌++◌}
use Rattle.image.specs.Image.{tag_length}
use Rattle.text.specs.Ascii.{ascii}
use Rattle.text.specs.Text.{space, line_feed, decimal, without_spaces}
use Rattle.figures.specs.declared.figures.Figures.{Figures}

-- "with one space between"
abbrev pub figure : ℕ → List ℕ
figure n = space ∷ decimal n

-- "starts, done, failed, aborted, withdrawn, open"; "Every line ends with one line feed."
unfoldable pub figures_text : Figures → List ℕ
figures_text f = figure f.starts ++ figure f.done ++ figure f.failed ++ figure f.aborted ++ figure f.withdrawn ++ figure f.left_open ++ (line_feed ∷ [])

-- "the tag without spaces, then" its figures
abbrev pub line : List ℕ → Figures → List ℕ
line tag f = without_spaces tag ++ figures_text f

-- 'only the line "refused", a space and its number'
unfoldable pub refused_line : ℕ → List ℕ
refused_line number = ascii "refused" ++ figure number ++ (line_feed ∷ [])

-- Room for a figure whose number has four bytes, for six of them and the line feed, and for a line. For contracts.
abbrev pub figure_room : ℕ
figure_room = 11

abbrev pub figures_room : ℕ
figures_room = 6 * figure_room + 1

abbrev pub line_room : ℕ
line_room = tag_length + figures_room
