-- A list of scans goes by the blocks of an accepted table alone, wherever they stand in its image: for whoever writes a table anew.
use Rattle.std.proofs.Common.{◌≡◌, ℕ, List, Ok, refl, ap, ◌∙◌}
use Rattle.table.specs.Check.{check_of}
use Rattle.table.specs.Blocks.{blocks_of}
use Rattle.engine.specs.Scan.{ScanResult}
use Rattle.engine.proofs.ByBlocks.{scan_by_blocks}
use Rattle.run.specs.Scans.{Given, Scans, none, ◌and_then◌, with_events, scan_given, state_from, result_from, journal_from}

module _ (first second : List ℕ) (m n : ℕ) (one : check_of first ≡ Ok m) (two : check_of second ≡ Ok n) (same : blocks_of first ≡ blocks_of second) (start : List ℕ) where
  -- one scan more, from equal states
  next_by_blocks : (s t : List ℕ) → s ≡ t → (g : Given) → scan_given first s g ≡ scan_given second t g
  next_by_blocks s t e g =
      scan_by_blocks first second m n one two same s g.told g.report g.journal ∙ ap (λ (state : List ℕ). scan_given second state g) e

  pub state_by_blocks : (h : Scans) → state_from first start h ≡ state_from second start h
  unfolding state_from
  state_by_blocks none = refl
  state_by_blocks (h and_then g) = ap (λ (r : ScanResult). r.state) (next_by_blocks (state_from first start h) (state_from second start h) (state_by_blocks h) g)

  result_by_blocks : (h : Scans) (g : Given) → result_from first start h g ≡ result_from second start h g
  result_by_blocks h g = next_by_blocks (state_from first start h) (state_from second start h) (state_by_blocks h) g

  pub journal_by_blocks : (h : Scans) → journal_from first start h ≡ journal_from second start h
  unfolding journal_from
  journal_by_blocks none = refl
  journal_by_blocks (h and_then g) = λ j. with_events (journal_by_blocks h j) (result_by_blocks h g j).answer (result_by_blocks h g j)
