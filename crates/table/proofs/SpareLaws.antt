-- Laws of the spare slots: sixteen zeros by two numbers, for the proof of spare::slot_zero; and that there are none where the chain has all slots, for that of
-- spare::check_spares.
use Prim.Native.Nat.{ℕ, suc, ◌+◌}
use mathlib.Core.Path.{◌≡◌, sym, ◌∙◌}
use mathlib.Core.List.{List}
use mathlib.Core.Bool.{true, ◌&&◌}
use native.Mathlib.Omega.{arith}
use lib.Dec.{eqb}
use lib.ListN.{length}
use Rattle.membership.specs.Membership.{among}
use Rattle.words.specs.Word.{number_at, zero_at}
use Rattle.words.proofs.ZeroLaws.{zero_at_lem, zero_split}
use Rattle.std.specs.Prelude.{Ok}
use Rattle.refusal.proofs.Rows.{row_passes}
use Rattle.image.specs.Image.{slot_length, slot_count, tag_offset, tag_length}
use Rattle.table.specs.Chain.{chain_of}
use Rattle.table.specs.Spare.{spare_at, spares_check}
use Rattle.table.proofs.ChainLaws.{chain_all}

-- a slot's bytes: those before the tag, and the tag
pub zero_sixteen : (s : List ℕ) (a : ℕ) → zero_at slot_length s a ≡ (eqb (number_at tag_offset s a) 0 && eqb (number_at tag_length s (a + tag_offset)) 0)
zero_sixteen s a = zero_split tag_offset tag_length a s ∙ rw (zero_at_lem tag_offset a s, zero_at_lem tag_length (a + tag_offset) s)

-- a chain of all N slots leaves no spare ones
pub no_spares : (image : List ℕ) → length (chain_of image) ≡ slot_count image → Ok tt ≡ spares_check image
unfolding spares_check
no_spares image e =
    sym (row_passes (spare_at image) (slot_count image)
    (λ i l. let m : among (suc i) (chain_of image) ≡ true = chain_all image e (suc i) (omega arith) (omega arith) in rw m))
