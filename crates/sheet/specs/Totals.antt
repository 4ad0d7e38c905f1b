-- Document 02, 7/14: "Shift totals.": what is printed of all that came on standard input.
use Rattle.std.specs.Prelude.{ℕ, min, cond, List, Result, Ok, Err, ltb, length, take, drop}
use Rattle.refusal.specs.Refusal.{check_number}
use Rattle.refusal.specs.declared.Refusal.{Refusal}
use Rattle.image.specs.Image.{slot_count, image_length}
use Rattle.table.specs.Blocks.{blocks_of}
use Rattle.layout.specs.EventLayout.{decode_events}
use Rattle.journal.specs.Check.{check_journal_of}
use Rattle.figures.specs.Figures.{figures_at}
use Rattle.sheet.specs.Line.{refused_line}
use Rattle.sheet.specs.Sheet.{sheet_of}

-- "a table (4 + 16 × N bytes by its header, or all that came if fewer)"; N is byte 1, or 0 where there is none
abbrev pub table_length : List ℕ → ℕ
table_length input = min (image_length (slot_count input)) (length input)

abbrev pub table_in : List ℕ → List ℕ
table_in input = take (table_length input) input

-- "and then a journal": the rest
abbrev pub journal_in : List ℕ → List ℕ
journal_in input = drop (table_length input) input

-- the sheet of an accepted journal of n events, or the line of the refusal, without its place
abbrev pub printed : Result ℕ Refusal → List ℕ → List ℕ → List ℕ
printed (Ok n) image journal = sheet_of (blocks_of image) (figures_at (decode_events n journal))
printed (Err r) image journal = refused_line (check_number r.check)

-- "at most 65,536 bytes together"
abbrev pub most_input : ℕ
most_input = 65536

-- "75, before all other checks, when more than 65,536 bytes arrive"; then "the table checks, 70, 71"
unfoldable pub totals_of : List ℕ → List ℕ
totals_of input =
    cond (ltb most_input (length input)) (refused_line 75)
    (printed (check_journal_of (table_in input) (journal_in input)) (table_in input) (journal_in input))
