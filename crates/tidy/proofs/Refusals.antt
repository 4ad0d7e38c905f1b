-- The rows of specs/Refusals.antt and the bytes of specs/TidyExample.antt, computed: for the reader, so that 60 is seen to be answered for its lengths, and the slots to be written as document
-- 02 says.
use mathlib.Core.Path.{refl}
use Rattle.words.specs.Word.{all_zero}
use Rattle.kind.specs.Kind.{is_kind, has_abort}
use Rattle.table.specs.Header.{header_check}
use Rattle.table.specs.Walk.{unmet, walk_in, walked}
use Rattle.table.specs.Chain.{position_from}
use Rattle.table.specs.Record.{tag_among, record_check, records_check}
use Rattle.table.specs.Tag.{tag_char, spaces, padded, tag_text, tag_form, same_bytes}
use Rattle.table.specs.Spare.{spares_check}
use Rattle.table.specs.Check.{verdict_of, check_of}
use Rattle.table.specs.Lookup.{tag_position, find_of, show_of}
use Rattle.table.specs.Blocks.{block_in, blocks_in}
use Rattle.table.specs.Refusals.{answers_due, answers_made, image}
use Rattle.tidy.specs.Encode.{encode_slot, encode_slots, encode_table}
use Rattle.tidy.specs.Tidy.{tidy_into}
use Rattle.tidy.specs.TidyExample.{pump1_slot, fan_slot, TidyExample}
use Rattle.tidy.specs.Refusals.{tidy_rows, TidyRefusals}

computed : TidyRefusals × TidyExample
unfolding answers_due answers_made image tidy_rows pump1_slot fan_slot
    tidy_into encode_table encode_slots encode_slot show_of find_of tag_position
    check_of verdict_of header_check walked walk_in unmet records_check record_check tag_among tag_form tag_text tag_char padded
    spaces same_bytes spares_check all_zero blocks_in block_in position_from is_kind has_abort
computed = (refl, record { tidied = refl; empty = refl; refused = refl; shown = refl; shown_tidy = refl })

pub tidy_refusals : TidyRefusals
tidy_refusals = computed.0

pub tidy_example : TidyExample
tidy_example = computed.1
