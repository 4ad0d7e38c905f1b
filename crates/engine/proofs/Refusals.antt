-- The rows of specs/Refusals.antt and the calls of specs/ScanExample.antt, computed: for the reader, so that each number of document 01 is seen to be answered for its bytes and at its place.
use mathlib.Core.Path.{refl}
use Rattle.words.specs.Word.{number, bytes, all_zero}
use Rattle.kind.specs.Kind.{is_kind, is_edge, can_abort, has_abort, has_time_limit, has_time_out, is_continuous}
use Rattle.clock.specs.Clock.{since, tick, past, past_limit, past_time_out}
use Rattle.table.specs.Blocks.{blocks_in, block_in}
use Rattle.table.specs.Header.{header_check}
use Rattle.table.specs.Walk.{unmet, walk_in, walked}
use Rattle.table.specs.Chain.{position_from}
use Rattle.table.specs.Record.{tag_among, record_check, records_check}
use Rattle.table.specs.Tag.{tag_char, spaces, padded, tag_text, tag_form, same_bytes}
use Rattle.table.specs.Spare.{spares_check}
use Rattle.table.specs.Check.{verdict_of, check_of}
use Rattle.table.specs.Refusals.{answers_due, answers_made, image}
use Rattle.block.specs.Sound.{zeroed, flags_fit, code_sound, request_sound, step_sound, times_sound, sound}
use Rattle.block.specs.Entry.{pieces_fit, entry_fits}
use Rattle.block.specs.Dormant.{dormant}
use Rattle.block.specs.Executing.{use_pieces, judge, executing}
use Rattle.block.specs.Ended.{ended}
use Rattle.block.specs.Aborting.{aborting}
use Rattle.block.specs.Resetting.{resetting}
use Rattle.block.specs.Rules.{rule}
use Rattle.block.specs.Call.{call_within, call_of}
use Rattle.layout.specs.RecordLayout.{encode_record, decode_record, record_form, sound_bytes}
use Rattle.layout.specs.EntryLayout.{decode_entry, entry_form, entry_bytes}
use Rattle.layout.specs.ReportLayout.{encode_report}
use Rattle.layout.specs.EventLayout.{encode_event, encode_events}
use Rattle.engine.specs.Verify.{state_sound, frame_form, verify_of}
use Rattle.engine.specs.Inputs.{inputs_of}
use Rattle.engine.specs.Serve.{call_in, served, served_to}
use Rattle.engine.specs.Fresh.{fresh_of}
use Rattle.engine.specs.Scan.{scan_blocks, scan_of}
use Rattle.engine.specs.Refusals.{input, fresh_rows, state_rows, frame_rows, buffer_rows, EngineRefusals}
use Rattle.engine.specs.ScanExample.{state, first, second, damaged, ScanExample}

computed : EngineRefusals × ScanExample
unfolding answers_due answers_made image input fresh_rows state_rows frame_rows buffer_rows state first second damaged
    fresh_of scan_of scan_blocks verify_of state_sound frame_form served_to served call_in inputs_of
    check_of verdict_of header_check walked walk_in unmet records_check record_check tag_among tag_form tag_text tag_char padded
    spaces same_bytes spares_check all_zero blocks_in block_in position_from
    sound_bytes record_form entry_bytes entry_form decode_entry decode_record encode_record encode_report encode_events encode_event number bytes
    sound zeroed flags_fit code_sound request_sound step_sound times_sound entry_fits pieces_fit
    call_of call_within rule dormant executing judge use_pieces ended aborting resetting tick since past past_limit past_time_out
    is_kind is_edge can_abort has_abort has_time_limit has_time_out is_continuous
computed = (
  record { fresh = refl; states = refl; frames = refl; buffers = refl },
  record { accepted = refl; refused = refl; fresh_refused = refl },
)

pub engine_refusals : EngineRefusals
engine_refusals = computed.0

pub scan_example : ScanExample
scan_example = computed.1
