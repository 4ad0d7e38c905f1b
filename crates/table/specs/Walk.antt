-- Document 01: "The chain is walked from the head to the zero that ends it." The walk by its rules, and computed.
use Rattle.std.specs.Prelude.{ℕ, zero, suc, ◌<◌, ◌≤◌, ◌≡◌, List, [], ◌∷◌, ◌++◌, true, false, cond, ltb, eqb}
use Rattle.membership.specs.Membership.{among}
use Rattle.image.specs.Image.{slot_count, head_slot, next_of}
use Rattle.refusal.specs.declared.Place.{Place}
use Rattle.refusal.specs.declared.Place.TheVariants.{Header, Slot}
use Rattle.refusal.specs.declared.Check.{Check}
use Rattle.refusal.specs.declared.Check.TheVariants.{LinkAbove, LinkAgain}

-- what a walk comes to: the slots met, in order, or the check that fails and its place
pub data Walked : Type 0 where
  Met : List ℕ → Walked
  Stopped : Check → Place → Walked

-- The walk by its rules. `met` are the slots met so far, in order; the next link names slot `at`, and stands at `from`: the header
-- for the head, else the slot that holds it.
pub data Walk (image : List ℕ) : List ℕ → Place → ℕ → Walked → Type 0 where
  -- "to the zero that ends it"; "Head 0 is a table of no blocks."
  ends : {met : List ℕ} {from : Place} {at : ℕ} → at ≡ 0 → Walk image met from at (Met met)
  -- 5: "head, or the next of a slot met on the walk, above N; slot holding it, 0 for head"
  above : {met : List ℕ} {from : Place} {at : ℕ} → slot_count image < at → Walk image met from at (Stopped LinkAbove from)
  -- 6: "next names a slot already met; slot holding it"
  again : {met : List ℕ} {from : Place} {at : ℕ} → 0 < at → at ≤ slot_count image → among at met ≡ true → Walk image met from at (Stopped LinkAgain from)
  -- a slot of 1 to N that was not met: it is met now, and the walk goes on to its next
  onward : {met : List ℕ} {from : Place} {at : ℕ} {end : Walked} → 0 < at → at ≤ slot_count image → among at met ≡ false
      → Walk image (met ++ (at ∷ [])) (Slot at) (next_of image at) end → Walk image met from at end

-- The same walk computed. One link: `later` is what comes of going on.
abbrev pub at_link : List ℕ → List ℕ → Place → ℕ → Walked → Walked
at_link image met from at later =
    cond (eqb at 0) (Met met)
    (cond (ltb (slot_count image) at) (Stopped LinkAbove from)
    (cond (among at met) (Stopped LinkAgain from) later))

-- how many of the slots 1 to n are not met yet
unfoldable pub unmet : ℕ → List ℕ → ℕ
unmet zero met = 0
unmet (suc n) met = cond (among (suc n) met) (unmet n met) (suc (unmet n met))

-- from a link on, where `left` slots are not met yet
unfoldable pub walk_in : ℕ → List ℕ → List ℕ → Place → ℕ → Walked
walk_in zero image met from at = at_link image met from at (Stopped LinkAgain from)
walk_in (suc left) image met from at = at_link image met from at (walk_in left image (met ++ (at ∷ [])) (Slot at) (next_of image at))

-- each link that leads on meets one of them, so `left` never runs out: WalkByRules, below
abbrev pub walk_from : List ℕ → List ℕ → Place → ℕ → Walked
walk_from image met from at = walk_in (unmet (slot_count image) met) image met from at

unfoldable pub walked : List ℕ → Walked
walked image = walk_from image [] Header (head_slot image)

-- The computed walk is one of the rules' walks, and the rules have no other: no walk is cut short. Theorem: proofs/Walk.antt.
pub record WalkByRules (image : List ℕ) : Type 0 where
  pub walks : Walk image [] Header (head_slot image) (walked image)
  pub only : (end : Walked) → Walk image [] Header (head_slot image) end → end ≡ walked image
