-- How many events there are of each kind: of two lists joined, no more than there are events, and of events in turns as many starts as finishes, with the job that is open.
-- For the invariant of one block, and for crates that count the events of a journal.
use Prim.Native.Nat.{ℕ, ◌+◌, ◌≤◌}
use native.Mathlib.Omega.{arith}
use mathlib.Core.Bool.{Bool, true, false, cond}
use mathlib.Core.List.{List, [], ◌∷◌, ◌++◌}
use mathlib.Core.Option.{Option, none, some}
use mathlib.Core.Path.{◌≡◌, refl}
use lib.Dec.{eqb, leb}
use lib.ListN.{length}
use borrow.Author.Tests.{eqb-true, leb-true, le-leb}
use Rattle.membership.specs.Membership.{within}
use Rattle.membership.proofs.Logic.{and_right}
use Rattle.block.specs.Event.{Start, DoneEvent, Failed, AbortedEvent, Withdrawn}
use Rattle.block.specs.Turns.{Turns, end, turn, count_of}
use Rattle.block.specs.declared.event.Event.{Event}
use Rattle.block.proofs.Tests.{to_six}
use Rattle.block.proofs.Tests.{none as no_case}
use Rattle.block.proofs.TurnLaws.{finish_not_start, start_turn, finish_turn}

pub count_append : (n : ℕ) (vs ws : List Event) → count_of n (vs ++ ws) ≡ count_of n vs + count_of n ws
unfolding count_of
count_append n [] ws = omega arith
count_append n (v ∷ vs) ws = let h = count_append n vs ws in omega arith

one_most : (b : Bool) → cond b 1 0 ≤ 1
one_most true = omega arith
one_most false = omega arith

pub count_most : (n : ℕ) (vs : List Event) → count_of n vs ≤ length vs
unfolding count_of
count_most n [] = omega arith
count_most n (v ∷ vs) = omega (arith, count_most n vs, one_most (eqb v.kind n))

-- starts and finishes in turns: as many, with the job that is open
unfoldable pub open_count : Option ℕ → ℕ
open_count none = 0
open_count (some j) = 1

pub open_most : (q : Option ℕ) → open_count q ≤ 1
unfolding open_count
open_most none = omega arith
open_most (some j) = omega arith

unfoldable pub finishes : List Event → ℕ
finishes es = count_of DoneEvent es + count_of Failed es + count_of AbortedEvent es + count_of Withdrawn es

abbrev one : ℕ → ℕ → ℕ
one n m = cond (eqb n m) 1 0

-- a finish is one event of one kind, and no start
finish_counts : (n : ℕ) → within DoneEvent Withdrawn n ≡ true → (one n Start ≡ 0) × (one n DoneEvent + one n Failed + one n AbortedEvent + one n Withdrawn ≡ 1)
finish_counts n h =
    to_six (λ (m : ℕ). within DoneEvent Withdrawn m ≡ true → (one m Start ≡ 0) × (one m DoneEvent + one m Failed + one m AbortedEvent + one m Withdrawn ≡ 1)) n
    (le-leb n 6 (omega (arith, leb-true n Withdrawn (and_right (leb DoneEvent n) (leb n Withdrawn) h))))
    no_case no_case (λ _. (refl, refl)) (λ _. (refl, refl)) (λ _. (refl, refl)) (λ _. (refl, refl)) no_case h

start_counts : (n : ℕ) → eqb n Start ≡ true → (one n Start ≡ 1) × (one n DoneEvent + one n Failed + one n AbortedEvent + one n Withdrawn ≡ 0)
start_counts n h = rw (eqb-true n Start h) (refl, refl)

pub turns_counts : {k : ℕ} {p q : Option ℕ} {es : List Event} → Turns k p es q → count_of Start es + open_count p ≡ finishes es + open_count q
unfolding count_of open_count finishes
turns_counts end = refl
turns_counts {k} {p = none} (turn v h x) =
    let a = (start_turn k v h).0 in
    let c = start_counts v.kind a in
    omega (arith, rw a at (turns_counts x))
turns_counts {k} {p = some job} (turn v h x) =
    let a = (finish_turn k job v h).0 in
    let c = finish_counts v.kind a in
    omega (arith, rw (finish_not_start v a) at (turns_counts x))
