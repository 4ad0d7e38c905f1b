-- The cases of specs/TimeExamples.antt hold of the block machine: the lists are computed. For the reader of document 01.
use mathlib.Core.Path.{refl}
use Rattle.kind.specs.Kind.{is_edge, has_abort, has_time_limit, has_time_out, is_continuous}
use Rattle.clock.specs.Clock.{since, tick, past, past_limit, past_time_out}
use Rattle.block.specs.Dormant.{dormant}
use Rattle.block.specs.Executing.{executing, judge, use_pieces}
use Rattle.block.specs.Ended.{ended}
use Rattle.block.specs.Aborting.{aborting}
use Rattle.block.specs.Resetting.{resetting}
use Rattle.block.specs.Rules.{rule}
use Rattle.block.specs.Call.{call_within, call_of}
use Rattle.block.specs.TimeExamples.{timers_from, every_kind, time_rules, timed_cases, TimeExamples}

pub time_examples : TimeExamples
unfolding timed_cases every_kind time_rules timers_from call_of call_within rule dormant executing judge use_pieces ended aborting resetting
    is_edge has_abort has_time_limit has_time_out is_continuous since tick past past_limit past_time_out
time_examples = refl
