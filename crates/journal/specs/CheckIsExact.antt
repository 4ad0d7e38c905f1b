-- Document 02, 6/14: event by event, just those journals are accepted that the rules allow (specs/Allowed.antt), and the event that is named is the first by which a rule is broken.
use Rattle.std.specs.Prelude.{ℕ, suc, ◌≤◌, ◌<◌, List, ◌≡◌, length, take}
use Rattle.std.proofs.Math.Option.{Option, none, some}
use Rattle.table.specs.Blocks.{Block}
use Rattle.layout.specs.declared.event.Posted.{Posted}
use Rattle.journal.specs.Allowed.{Allowed}
use Rattle.journal.specs.Check.{none_open, first_bad}

-- `bad` is what is found among the events
pub record Exact (blocks : List Block) (events : List Posted) (bad : Option ℕ) : Type 0 where
  -- none is found exactly where the rules allow all of them
  pub accepted : bad ≡ none → Allowed blocks events
  pub accepts : Allowed blocks events → bad ≡ none
  -- event n is found exactly where n is the least number such that the first n events break a rule
  pub refused : (n : ℕ) → bad ≡ some n → (1 ≤ n) × (n ≤ length events) × ((m : ℕ) → m < n → Allowed blocks (take m events)) × (Allowed blocks (take n events) → ⊥)
  pub refuses : (n : ℕ) → n < length events → Allowed blocks (take n events) → (Allowed blocks (take (suc n) events) → ⊥) → bad ≡ some (suc n)

-- theorem check_is_exact, proofs/CheckIsExact.antt
abbrev pub CheckIsExact : Type 0
CheckIsExact = (blocks : List Block) (events : List Posted) → Exact blocks events (first_bad blocks none_open 0 events)
