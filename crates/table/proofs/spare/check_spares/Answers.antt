-- `spare::check_spares` meets its contract: none is left to look at where the chain has all slots.
use Rattle.std.proofs.Common.{◌≡◌, ◌∙◌, sym, suc, false, add-one, arith}
use Rattle.refusal.proofs.Rows.{refused_at}
use Rattle.image.specs.Image.{slot_count}
use Rattle.table.specs.Chain.{chain_of}
use Rattle.table.specs.Spare.{spare_ok, spare_at, spares_check}
use Rattle.table.proofs.SpareLaws.{no_spares}
use Rattle.table.proofs.spare.check_spares.Goals as goal

pub returns-then-none_spare : goal.returns-then-none_spare
returns-then-none_spare c = no_spares c.args.image.now (c.requires.counted ∙ c.if-none_spare.true)

pub returns-then-not-spare_ok : goal.returns-then-not-spare_ok
unfolding spares_check
returns-then-not-spare_ok c =
    let image = c.args.image.now in
    let fails : spare_ok image (chain_of image) (suc c.loop-i.i) ≡ false = rw add-one at (sym c.spare_ok.ensures ∙ c.if-not-spare_ok.true) in
    rw (c.at_slot.ensures, add-one) (sym (refused_at (spare_at image) c.loop-i.i (slot_count image) _ (omega arith) c.loop-i.invariant (rw fails)))
