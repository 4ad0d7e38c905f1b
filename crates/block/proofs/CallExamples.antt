-- The cases of specs/CallExamples.antt hold of the block machine: the lists are computed. For the reader of document 01.
use mathlib.Core.Path.{refl}
use Rattle.kind.specs.Kind.{is_edge, has_abort, has_time_limit, has_time_out, is_continuous}
use Rattle.clock.specs.Clock.{since, tick, past, past_limit, past_time_out}
use Rattle.block.specs.Dormant.{dormant}
use Rattle.block.specs.Executing.{executing, judge, use_pieces}
use Rattle.block.specs.Ended.{ended}
use Rattle.block.specs.Aborting.{aborting}
use Rattle.block.specs.Resetting.{resetting}
use Rattle.block.specs.Rules.{rule}
use Rattle.block.specs.Call.{call_within, call_of}
use Rattle.block.specs.WorkedExamples.{rows_from}
use Rattle.block.specs.CallExamples.{taken_at_start, read_each_call, abort_inputs, start_inputs, time_limits, limit_tests, out_of_step_readings, end_of_pieces, time_outs, held_elapsed}
use Rattle.block.specs.CallExamples.{completes, continuous_errors, ended_steps, abort_replies, reset_replies, more_cases, CallExamples}

pub call_examples : CallExamples
unfolding more_cases taken_at_start read_each_call abort_inputs start_inputs time_limits limit_tests out_of_step_readings end_of_pieces time_outs held_elapsed completes continuous_errors ended_steps abort_replies reset_replies
    rows_from call_of call_within rule dormant executing judge use_pieces ended aborting resetting
    is_edge has_abort has_time_limit has_time_out is_continuous since tick past past_limit past_time_out
call_examples = refl
