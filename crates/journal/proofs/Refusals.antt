-- The rows of specs/Refusals.antt, computed: for the reader, so that 70 and 71 are seen to be answered as document 02 says, rule by rule.
use mathlib.Core.Path.{refl}
use Rattle.words.specs.Word.{number, all_zero}
use Rattle.kind.specs.Kind.{is_kind, is_edge, has_abort, has_time_out, is_continuous}
use Rattle.table.specs.Header.{header_check}
use Rattle.table.specs.Walk.{unmet, walk_in, walked}
use Rattle.table.specs.Chain.{position_from}
use Rattle.table.specs.Record.{tag_among, record_check, records_check}
use Rattle.table.specs.Tag.{tag_char, spaces, padded, tag_text, tag_form, same_bytes}
use Rattle.table.specs.Spare.{spares_check}
use Rattle.table.specs.Check.{verdict_of, check_of}
use Rattle.table.specs.Blocks.{block_in, blocks_in}
use Rattle.table.specs.Refusals.{answers_due, answers_made}
use Rattle.layout.specs.EventLayout.{decode_event, decode_events}
use Rattle.block.specs.Turns.{admits, takes_turn}
use Rattle.journal.specs.Check.{is_good, first_bad, journal_verdict, check_journal_of}
use Rattle.journal.specs.Refusals.{image, event, journal_rows, JournalRefusals}

pub journal_refusals : JournalRefusals
unfolding answers_due answers_made image event journal_rows
    check_journal_of journal_verdict first_bad is_good takes_turn admits decode_events decode_event number
    check_of verdict_of header_check walked walk_in unmet records_check record_check tag_among tag_form tag_text tag_char padded
    spaces same_bytes spares_check all_zero blocks_in block_in position_from is_kind is_edge has_abort has_time_out is_continuous
journal_refusals = refl
