-- `spare::spare_ok` meets its contract: the code's test of a slot is the chain's.
use mathlib.Core.Path.{◌≡◌}
use mathlib.Core.Bool.{true, false}
use Rattle.membership.specs.Membership.{among}
use Rattle.table.specs.Chain.{chain_of}
use Rattle.table.proofs.ChainLaws.{on_chain_is}
use Rattle.table.proofs.spare.spare_ok.Goals as goal

pub returns-then-on_chain : goal.returns-then-on_chain
returns-then-on_chain c =
    let a = c.args in
    let e = on_chain_is (chain_of a.image.now) a.chain.now.positions a.slot c.on_chain.result c.requires.places c.on_chain.ensures in
    let m : among a.slot (chain_of a.image.now) ≡ true = cc in
    simp m

pub returns : goal.returns
returns c =
    let a = c.args in
    let e = on_chain_is (chain_of a.image.now) a.chain.now.positions a.slot c.on_chain.result c.requires.places c.on_chain.ensures in
    let m : among a.slot (chain_of a.image.now) ≡ false = cc in
    simp m c.slot_zero.ensures
