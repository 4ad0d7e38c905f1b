-- The inputs of specs/SheetExamples.antt, printed by computing: for the reader.
use mathlib.Core.Path.{refl}
use Rattle.words.specs.Word.{number, all_zero}
use Rattle.kind.specs.Kind.{is_kind, is_edge, has_abort, has_time_out, is_continuous}
use Rattle.table.specs.Header.{header_check}
use Rattle.table.specs.Walk.{unmet, walk_in, walked}
use Rattle.table.specs.Chain.{position_from}
use Rattle.table.specs.Record.{tag_among, record_check, records_check}
use Rattle.table.specs.Tag.{tag_char, spaces, padded, tag_text, tag_form, same_bytes}
use Rattle.table.specs.Spare.{spares_check}
use Rattle.table.specs.Check.{verdict_of, check_of}
use Rattle.table.specs.Blocks.{block_in, blocks_in}
use Rattle.layout.specs.EventLayout.{decode_event, decode_events, events_at}
use Rattle.block.specs.Turns.{admits, takes_turn, count_of}
use Rattle.journal.specs.Check.{is_good, first_bad, journal_verdict, check_journal_of}
use Rattle.text.specs.Ascii.{ascii}
use Rattle.text.specs.Text.{decimal_in, decimal, without_spaces}
use Rattle.figures.specs.Figures.{figures_by}
use Rattle.sheet.specs.Line.{figures_text, refused_line}
use Rattle.sheet.specs.Sheet.{lines_to, sums_to, sheet_of}
use Rattle.sheet.specs.Totals.{totals_of}
use Rattle.sheet.specs.SheetExamples.{slot, event, one_lane, two_lanes, jobs, SheetExamples}

pub sheet_examples : SheetExamples
unfolding slot event one_lane two_lanes jobs ascii totals_of refused_line sheet_of sums_to lines_to figures_text figures_by count_of events_at decimal decimal_in without_spaces
    check_journal_of journal_verdict first_bad is_good takes_turn admits decode_events decode_event number
    check_of verdict_of header_check walked walk_in unmet records_check record_check tag_among tag_form tag_text tag_char padded
    spaces same_bytes spares_check all_zero blocks_in block_in position_from is_kind is_edge has_abort has_time_out is_continuous
sheet_examples =
    record {
      one_job = refl;
      no_job = refl;
      ten_jobs = refl;
      two_blocks = refl;
      no_blocks = refl;
      nothing = refl;
      one_byte = refl;
      no_slots = refl;
      cut_short = refl;
      version = refl;
      odd = refl;
      no_start = refl;
    }
