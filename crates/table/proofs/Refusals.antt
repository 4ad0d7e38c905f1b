-- The rows of specs/Refusals.antt, computed: for the reader, so that each number of document 01 is seen to be answered for its bytes and at its place.
use mathlib.Core.Path.{refl}
use Rattle.kind.specs.Kind.{is_kind, has_abort}
use Rattle.words.specs.Word.{all_zero}
use Rattle.table.specs.Header.{header_check}
use Rattle.table.specs.Tag.{tag_char, spaces, padded, tag_text, tag_form, same_bytes}
use Rattle.table.specs.Walk.{unmet, walk_in, walked}
use Rattle.table.specs.Record.{tag_among, record_check, records_check}
use Rattle.table.specs.Spare.{spares_check}
use Rattle.table.specs.Check.{verdict_of, check_of}
use Rattle.table.specs.Lookup.{tag_position, find_of}
use Rattle.table.specs.Refusals.{answers_due, answers_made, image, check_rows, find_rows, TableRefusals}

pub table_refusals : TableRefusals
unfolding answers_due answers_made image check_rows find_rows
    find_of tag_position check_of verdict_of header_check walked walk_in unmet records_check record_check tag_among
    tag_form tag_text tag_char padded spaces same_bytes spares_check all_zero is_kind has_abort
table_refusals = record { check = refl; find = refl }
