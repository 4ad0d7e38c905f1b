-- `chain::walk` meets its contract: each link by the law of `Walking` that it falls under.
use mathlib.Core.Path.{◌≡◌, ap, ◌∙◌}
use native.Mathlib.Omega.{arith}
use borrow.Author.Tests.{ne_eqb}
use Rattle.image.specs.Image.{head_slot, next_of}
use Rattle.table.specs.Chain.{chain_verdict}
use Rattle.table.proofs.ChainLaws.{walking_start, walking_ends, walking_above, walking_again, walking_room, walking_onward}
use Rattle.table.proofs.chain.walk.Goals as goal

pub loop-at-init : goal.loop-at-init
loop-at-init c =
    let e : c.slot_after-at.result ≡ head_slot c.args.image.now = c.slot_after-at.ensures in
    rw e (walking_start c.args.image.now _ _ (omega (arith, c.well_formed)) c.requires.unmet (omega arith))

-- there is room for a slot that was not met
pub bounds-chain-count : goal.bounds-chain-count
bounds-chain-count c =
    let L = c.loop-at in
    let room = walking_room c.args.image.now L.chain.slots L.chain.positions L.count L.from L.at c.requires.header_ok L.invariant c.loop-at-test.true c.if-n-at.false c.if-chain-i-ne0.false in
    omega (arith, room, c.requires.header_ok.few)

pub loop-at-smaller : goal.loop-at-smaller
loop-at-smaller c =
    let L = c.loop-at in
    omega (arith, walking_room c.args.image.now L.chain.slots L.chain.positions L.count L.from L.at c.requires.header_ok L.invariant c.loop-at-test.true c.if-n-at.false c.if-chain-i-ne0.false)

pub loop-at-preserved : goal.loop-at-preserved
loop-at-preserved c =
    let L = c.loop-at in
    let next : c.slot_after-at-in-loop-at.result ≡ next_of c.args.image.now L.at = c.slot_after-at-in-loop-at.ensures ∙ simp (ne_eqb _ _ c.loop-at-test.true) in
    rw next (walking_onward c.args.image.now L.chain.slots L.chain.positions L.count L.from L.at c.requires.header_ok L.invariant c.loop-at-test.true c.if-n-at.false
    c.if-chain-i-ne0.false (omega arith))

pub returns-then-n-at-clause-answer : goal.returns-then-n-at-clause-answer
returns-then-n-at-clause-answer c =
    let L = c.loop-at in
    ap chain_verdict (walking_above c.args.image.now L.chain.slots L.chain.positions L.count L.from L.at c.requires.header_ok L.invariant c.if-n-at.true)

pub returns-then-chain-i-ne0-clause-answer : goal.returns-then-chain-i-ne0-clause-answer
returns-then-chain-i-ne0-clause-answer c =
    let L = c.loop-at in
    ap chain_verdict (walking_again c.args.image.now L.chain.slots L.chain.positions L.count L.from L.at c.requires.header_ok L.invariant c.loop-at-test.true c.if-n-at.false c.if-chain-i-ne0.true)

pub returns-clause-answer : goal.returns-clause-answer
returns-clause-answer c =
    let L = c.loop-at in
    (walking_ends c.args.image.now L.chain.slots L.chain.positions L.count L.from L.at c.requires.header_ok L.invariant c.loop-at-test.false).0

pub returns-clause-holds : goal.returns-clause-holds
returns-clause-holds c =
    let L = c.loop-at in
    (walking_ends c.args.image.now L.chain.slots L.chain.positions L.count L.from L.at c.requires.header_ok L.invariant c.loop-at-test.false).1
