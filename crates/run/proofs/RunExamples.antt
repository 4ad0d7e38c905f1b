-- The lists of scans of specs/RunExamples, WireExamples, SelfWireExamples and CountedTimeExamples, computed from the bytes of the table, the lent buffer and the
-- frames: for the reader, so that the run promise is seen not to be empty.
use Rattle.std.proofs.Common.{refl}
use Rattle.kind.specs.Kind.{is_kind, is_edge, can_abort, has_abort, has_time_limit, has_time_out, is_continuous}
use Rattle.clock.specs.Clock.{since, tick, past, past_limit, past_time_out}
use Rattle.words.specs.Word.{number, bytes, all_zero}
use Rattle.table.specs.Blocks.{blocks_in, block_in}
use Rattle.table.specs.Header.{header_check}
use Rattle.table.specs.Walk.{unmet, walk_in, walked}
use Rattle.table.specs.Chain.{position_from}
use Rattle.table.specs.Record.{tag_among, record_check, records_check}
use Rattle.table.specs.Tag.{tag_char, spaces, padded, tag_text, tag_form, same_bytes}
use Rattle.table.specs.Spare.{spares_check}
use Rattle.table.specs.Check.{verdict_of, check_of}
use Rattle.layout.specs.RecordLayout.{encode_record, decode_record, record_form, sound_bytes}
use Rattle.layout.specs.EntryLayout.{encode_pieces, encode_entry, decode_entry, entry_form, entry_bytes}
use Rattle.layout.specs.ReportLayout.{encode_report}
use Rattle.layout.specs.EventLayout.{encode_event, decode_event, encode_events, decode_events, events_at}
use Rattle.block.specs.Sound.{zeroed, flags_fit, code_sound, request_sound, step_sound, times_sound, sound}
use Rattle.block.specs.Entry.{pieces_fit, entry_fits}
use Rattle.block.specs.Dormant.{dormant}
use Rattle.block.specs.Executing.{use_pieces, judge, executing}
use Rattle.block.specs.Ended.{ended}
use Rattle.block.specs.Aborting.{aborting}
use Rattle.block.specs.Resetting.{resetting}
use Rattle.block.specs.Rules.{rule}
use Rattle.block.specs.Call.{call_within, call_of}
use Rattle.block.specs.Turns.{has_start}
use Rattle.block.specs.History.{tick_all, clocks_of, timer_of, in_step, taken_time_out, time_out_in_force}
use Rattle.engine.specs.Verify.{state_sound, frame_form, verify_of}
use Rattle.engine.specs.Inputs.{inputs_of}
use Rattle.engine.specs.Serve.{call_in, served, served_to}
use Rattle.engine.specs.Fresh.{fresh_of}
use Rattle.engine.specs.Scan.{scan_blocks, scan_of}
use Rattle.run.specs.Scans.{flags_seen, state_from, journal_from, history_from}
use Rattle.run.specs.ExampleParts.{answers_of, passes_of, used_of, starts_of, timers_of}
use Rattle.run.specs.RunExamples.{image, buffer, starts, is_done, damaged, fails, rests, is_late, is_aborted, works, scans, running, RunExample}
use Rattle.run.specs.WireExamples.{cam_bytes, times_out, restarts, WireExample}
use Rattle.run.specs.WireExamples.{image as wire_image, buffer as wire_buffer, starts as wire_starts, works as wire_works, running as wire_running, scans as wire_scans}
use Rattle.run.specs.SelfWireExamples.{aborts, SelfWireExample}
use Rattle.run.specs.SelfWireExamples.{image as self_image, buffer as self_buffer, starts as self_starts, scans as self_scans}
use Rattle.run.specs.CountedTimeExamples.{CountedTimeExample}
use Rattle.run.specs.CountedTimeExamples.{image as clock_image, buffer as clock_buffer, running as clock_running, scans as clock_scans}

computed : RunExample × WireExample × SelfWireExample × CountedTimeExample
unfolding image buffer starts is_done damaged fails rests is_late is_aborted works scans running answers_of passes_of used_of starts_of timers_of
    wire_image wire_buffer cam_bytes wire_starts wire_works times_out restarts wire_running wire_scans
    self_image self_buffer self_starts aborts self_scans
    clock_image clock_buffer clock_running clock_scans
    fresh_of state_from journal_from history_from scan_of scan_blocks verify_of state_sound frame_form served_to served call_in inputs_of flags_seen
    check_of verdict_of header_check walked walk_in unmet records_check record_check tag_among tag_form tag_text tag_char padded
    spaces same_bytes spares_check all_zero blocks_in block_in position_from
    sound_bytes record_form entry_bytes entry_form decode_entry decode_record encode_entry encode_pieces encode_record encode_report encode_events
    encode_event decode_events decode_event events_at number bytes
    sound zeroed flags_fit code_sound request_sound step_sound times_sound entry_fits pieces_fit
    call_of call_within rule dormant executing judge use_pieces ended aborting resetting
    timer_of in_step time_out_in_force taken_time_out tick_all clocks_of has_start tick since past past_limit past_time_out
    is_kind is_edge can_abort has_abort has_time_limit has_time_out is_continuous
computed = (
  record { made = refl; answers = refl; journal = refl; passes = refl; wired = refl; state = refl; step = refl; elapsed = refl; in_force = refl },
  record {
    made = refl;
    entry = refl;
    answers = refl;
    journal = refl;
    passes = refl;
    pieces = refl;
    gate = refl;
    alarm = refl;
    lamp = refl;
    report = refl;
    events = refl;
    state = refl;
  },
  record { answers = refl; journal = refl; beacon = refl; passes = refl; report = refl; events = refl },
  record { answers = refl; readings = refl; timers = refl; step = refl; elapsed = refl; in_force = refl; journal = refl },
)

pub run_example : RunExample
run_example = computed.0

pub wire_example : WireExample
wire_example = computed.1

pub self_wire_example : SelfWireExample
self_wire_example = computed.2

pub counted_time_example : CountedTimeExample
counted_time_example = computed.3
