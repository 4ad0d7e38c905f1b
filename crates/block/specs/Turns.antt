-- Document 01, "A list of scans": how the events of one block in a journal take turns, and how many there are of each kind.
use Rattle.std.specs.Prelude.{ℕ, ◌+◌, Bool, true, false, cond, not, ◌&&◌, ◌||◌, List, [], ◌∷◌, ◌≡◌, eqb}
use Rattle.std.proofs.Math.Option.{Option, none, some}
use Rattle.kind.specs.Kind.{is_edge, has_abort, has_time_out, is_continuous}
use Rattle.block.specs.Record.{TimedOut}
use Rattle.block.specs.Event.{DoneEvent, Failed, AbortedEvent, Withdrawn, is_start, is_finish}
use Rattle.block.specs.declared.event.Event.{Event}

-- the finishes that a kind has, and the codes of its events: "code (2; 0 unless failed)", and 1 only for To kinds
unfoldable pub admits : ℕ → Event → Bool
admits k v =
    cond (eqb v.kind Failed) (not (eqb v.code 0) && (not (eqb v.code TimedOut) || has_time_out k))
    (eqb v.code 0
    && (not (eqb v.kind DoneEvent) || not (is_continuous k))
    && (not (eqb v.kind AbortedEvent) || has_abort k)
    && (not (eqb v.kind Withdrawn) || not (is_edge k)))

-- whether an event is the next one of a block of kind k that has a job open, or none: "begin with a start and take turns", "a finish has the job of the start just before it"
unfoldable pub takes_turn : ℕ → Option ℕ → Event → Bool
takes_turn k none v = is_start v && admits k v
takes_turn k (some job) v = is_finish v && admits k v && eqb v.job job

-- the job open after it
abbrev pub open_after : Event → Option ℕ
open_after v = cond (is_start v) (some v.job) none

-- The events of a block of kind k that had the job p open before them, if any, and has q open after them.
-- "The entries, if any, begin with a start and take turns; the last may be a start."
pub data Turns (k : ℕ) : Option ℕ → List Event → Option ℕ → Type 0 where
  end : {p : Option ℕ} → Turns k p [] p
  turn : {p q : Option ℕ} {es : List Event} (v : Event) → takes_turn k p v ≡ true → Turns k (open_after v) es q → Turns k p (v ∷ es) q

-- "Starts, done, failed, aborted and withdrawn are how many entries of that kind the block has."
unfoldable pub count_of : ℕ → List Event → ℕ
count_of n [] = 0
count_of n (v ∷ vs) = cond (eqb v.kind n) 1 0 + count_of n vs

-- some event is a start
unfoldable pub has_start : List Event → Bool
has_start [] = false
has_start (v ∷ vs) = is_start v || has_start vs

-- each start among the events has this job
pub data StartsHave (job : ℕ) : List Event → Type 0 where
  nothing : StartsHave job []
  one : {vs : List Event} (v : Event) → (is_start v ≡ true → v.job ≡ job) → StartsHave job vs → StartsHave job (v ∷ vs)
