-- `record::wire_ok` meets its contract: the code's test of a slot is the chain's.
use Prim.Native.Nat.{ℕ}
use mathlib.Core.Path.{◌≡◌, ap, sym, ◌∙◌}
use mathlib.Core.Bool.{false, not}
use lib.Dec.{eqb}
use lib.ListN.{get_or}
use Rattle.image.specs.Image.{wire_slot, wire_code}
use Rattle.table.specs.Chain.{chain_of}
use Rattle.table.specs.Record.{no_wire}
use Rattle.table.proofs.ChainLaws.{on_chain_is}
use Rattle.table.proofs.WireLaws.{wire_some}
use Rattle.table.proofs.record.wire_ok.Goals as goal

pub returns : goal.returns
returns c =
    let a = c.args in
    let image = a.image.now in
    let source = wire_slot image a.slot a.wire in
    let code = wire_code image a.slot a.wire in
    let none : no_wire source code ≡ false = sym c.no_wire.ensures ∙ c.if-no_wire.false in
    let o = on_chain_is (chain_of image) a.chain.now.positions source c.on_chain.result c.requires.holds.places
    (c.on_chain.ensures ∙ ap (λ (k : ℕ). not (eqb (get_or a.chain.now.positions k 0) 0)) c.slot_byte-source.ensures) in
    rw (o, c.slot_byte-code.ensures) (wire_some image source code none)
