-- Document 01: the chain, checks 5 and 6. "The k-th block met has position k."
use Rattle.std.specs.Prelude.{ℕ, suc, ◌+◌, ◌≤◌, ◌≡◌, List, [], ◌∷◌, Ok, cond, eqb, length, get_or, take}
use Rattle.image.specs.Image.{most_slots}
use Rattle.table.specs.Walk.{Walked, Met, Stopped, walked}
use Rattle.refusal.specs.Refusal.{Verdict, refused}
use Rattle.table.specs.declared.chain.Chain.{Chain}

-- the slots of the chain, in order; none where the walk stops
abbrev pub slots_of : Walked → List ℕ
slots_of (Met slots) = slots
slots_of (Stopped check place) = []

abbrev pub chain_of : List ℕ → List ℕ
chain_of image = slots_of (walked image)

-- checks 5 and 6
abbrev pub chain_verdict : Walked → Verdict
chain_verdict (Met slots) = Ok tt
chain_verdict (Stopped check place) = refused check place

-- "The k-th block met has position k": the position of a slot, from p on; 0 where it is not there
unfoldable pub position_from : ℕ → ℕ → List ℕ → ℕ
position_from p slot [] = 0
position_from p slot (x ∷ xs) = cond (eqb x slot) p (position_from (suc p) slot xs)

abbrev pub position_of : ℕ → List ℕ → ℕ
position_of slot chain = position_from 1 slot chain

-- What the code holds of a chain: the position of each slot,
pub record HoldsPositions (chain positions : List ℕ) : Type 0 where
  pub sized : length positions ≡ most_slots + 1
  pub placed : (slot : ℕ) → get_or positions slot 0 ≡ position_of slot chain

-- and its slots, the first `count` of `slots`.
pub record Holds (chain : List ℕ) (held : Chain) : Type 0 where
  pub listed : take held.count held.slots ≡ chain
  pub counted : length chain ≡ held.count
  pub few : held.count ≤ most_slots
  pub places : HoldsPositions chain held.positions

-- no slot has been met
abbrev pub IsUnmet : Chain → Type 0
IsUnmet held = HoldsPositions [] held.positions
