-- `check::first_bad` meets its contract: an event that is bad, or one more that is good.
use Rattle.std.proofs.Common.{◌∙◌, sym}
use Rattle.table.specs.Blocks.{blocks_of}
use Rattle.journal.proofs.LoopLaws.{checking_starts, checking_ends, found_bad, checking_on}
use Rattle.journal.proofs.check.first_bad.Goals as goal

pub loop-i-init : goal.loop-i-init
loop-i-init c = checking_starts (blocks_of c.args.table.now) c.args.journal.now _ c.new-open_jobs.ensures _ c.as_chunks.ensures.front

pub returns-then-not-is_good : goal.returns-then-not-is_good
returns-then-not-is_good c =
    let L = c.loop-i in
    found_bad L.invariant c.loop-i-test.true c.decode_event-posted.result c.decode_event-posted.ensures (sym c.is_good.ensures.good ∙ c.if-not-is_good.true)

pub loop-i-preserved : goal.loop-i-preserved
loop-i-preserved c =
    let L = c.loop-i in
    checking_on L.invariant c.loop-i-test.true c.decode_event-posted.result c.decode_event-posted.ensures (sym c.is_good.ensures.good ∙ c.if-not-is_good.false) _ c.set.ensures

pub returns : goal.returns
returns c = checking_ends c.loop-i.invariant c.loop-i-test.false
