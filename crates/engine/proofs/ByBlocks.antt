-- Fresh and the scan go by the blocks of an accepted table alone, wherever they stand in its image: for whoever writes a table anew.
use Prim.Native.Nat.{ℕ}
use mathlib.Core.Path.{◌≡◌, ap, sym, ◌∙◌}
use mathlib.Core.List.{List}
use lib.ListN.{length}
use Rattle.table.specs.Check.{check_of}
use Rattle.table.specs.Blocks.{Block, blocks_of}
use Rattle.std.specs.Prelude.{Ok}
use Rattle.table.proofs.AcceptedLaws.{accepted_blocks}
use Rattle.engine.specs.Told.{Told}
use Rattle.engine.specs.Fresh.{fresh_of}
use Rattle.engine.specs.Scan.{scan_of}

module _ (first second : List ℕ) (m n : ℕ) (one : check_of first ≡ Ok m) (two : check_of second ≡ Ok n) (same : blocks_of first ≡ blocks_of second) where
  pub fresh_by_blocks : (state : List ℕ) → fresh_of first state ≡ fresh_of second state
  unfolding fresh_of
  fresh_by_blocks state =
      let count : m ≡ n = sym (accepted_blocks first m one) ∙ ap (λ (bs : List Block). length bs) same ∙ accepted_blocks second n two in
      rw (one, two, same, count)

  pub scan_by_blocks : (state : List ℕ) (told : Told) (report journal : List ℕ) → scan_of first state told report journal ≡ scan_of second state told report journal
  unfolding scan_of
  scan_by_blocks state told report journal = rw (one, two, same)
