-- What an event that takes its turn is, and back: a start where no job is open, a finish of the open one; and of what kind and code, by cases. For the events of calls, and for crates that
-- check or write journals.
use Prim.Native.Nat.{ℕ, ◌≤◌}
use native.Mathlib.Omega.{arith}
use mathlib.Core.Bool.{Bool, true, false, not, ◌&&◌, ◌||◌}
use mathlib.Core.List.{List, [], ◌∷◌}
use mathlib.Core.Option.{Option, none, some}
use mathlib.Core.Path.{◌≡◌, sym, subst}
use lib.Dec.{eqb}
use borrow.Author.Tests.{eqb-true, eqb-false, eq-eqb, ne_eqb, le-leb, not-true}
use Rattle.membership.proofs.MembershipLaws.{within_bounds}
use Rattle.membership.proofs.Logic.{by_test, and_left, and_right}
use Rattle.std.proofs.lemmas.Bool.{and_from}
use Rattle.kind.specs.Kind.{is_edge, has_abort, has_time_out, is_continuous}
use Rattle.block.specs.Record.{TimedOut}
use Rattle.block.specs.Event.{Start, DoneEvent, Failed, AbortedEvent, Withdrawn, is_start, is_finish}
use Rattle.block.specs.Turns.{admits, takes_turn, open_after, Turns, turn}
use Rattle.block.specs.declared.event.Event.{Event}
use Rattle.block.proofs.Tests.{to_six, each}
use Rattle.block.proofs.Tests.{none as no_case}

pub finish_not_start : (v : Event) → is_finish v ≡ true → is_start v ≡ false
finish_not_start v h = ne_eqb v.kind Start (λ e. omega (arith, within_bounds DoneEvent Withdrawn v.kind h))

-- what takes its turn
pub start_turn : (k : ℕ) (v : Event) → takes_turn k none v ≡ true → (is_start v ≡ true) × (admits k v ≡ true)
unfolding takes_turn
start_turn k v h = (and_left (is_start v) (admits k v) h, and_right (is_start v) (admits k v) h)

pub finish_turn : (k job : ℕ) (v : Event) → takes_turn k (some job) v ≡ true → (is_finish v ≡ true) × (admits k v ≡ true) × (v.job ≡ job)
unfolding takes_turn
finish_turn k job v h =
    let p = each (is_finish v) (admits k v ∷ eqb v.job job ∷ []) h in
    (p.0, p.1.0, eqb-true v.job job p.1.1)

-- and back, with the events after it
pub turn_start : {k : ℕ} {q : Option ℕ} {es : List Event} (v : Event) → is_start v ≡ true → admits k v ≡ true → Turns k (some v.job) es q → Turns k none (v ∷ es) q
unfolding takes_turn
turn_start {k} {q} {es} v s a t = turn {q = q} {es = es} v (and_from (is_start v) (admits k v) s a) (rw s t)

pub turn_finish : {k job : ℕ} {q : Option ℕ} {es : List Event} (v : Event) → is_finish v ≡ true → admits k v ≡ true → v.job ≡ job → Turns k none es q
    → Turns k (some job) (v ∷ es) q
unfolding takes_turn
turn_finish {k} {job} {q} {es} v f a e t =
    turn {q = q} {es = es} v (and_from (is_finish v && admits k v) (eqb v.job job) (and_from (is_finish v) (admits k v) f a) (eq-eqb v.job job e)) (rw (finish_not_start v f) t)

-- An event that takes its turn in a block of kind k, by cases, with the job open before it and after it
abbrev event : ℕ → ℕ → ℕ → Event
event kind code job = record { kind = kind; code = code; job = job }

pub data Turn (k : ℕ) : Option ℕ → Event → Option ℕ → Type 0 where
  starts : (job : ℕ) → Turn k none (event Start 0 job) (some job)
  completes : (job : ℕ) → is_continuous k ≡ false → Turn k (some job) (event DoneEvent 0 job) none
  fails : (job code : ℕ) → 2 ≤ code → Turn k (some job) (event Failed code job) none
  expires : (job : ℕ) → has_time_out k ≡ true → Turn k (some job) (event Failed TimedOut job) none
  aborts : (job : ℕ) → has_abort k ≡ true → Turn k (some job) (event AbortedEvent 0 job) none
  withdraws : (job : ℕ) → is_edge k ≡ false → Turn k (some job) (event Withdrawn 0 job) none

module _ (k job : ℕ) where
  -- the rule for codes and finishes, of an event that has not failed
  abbrev has : ℕ → List Bool
  has n = (not (eqb n DoneEvent) || not (is_continuous k)) ∷ (not (eqb n AbortedEvent) || has_abort k) ∷ (not (eqb n Withdrawn) || not (is_edge k)) ∷ []

  failed_turn : (c : ℕ) → admits k (event Failed c job) ≡ true → Turn k (some job) (event Failed c job) none
  unfolding admits
  failed_turn c h =
      let a = not (eqb c 0) in
      let b = not (eqb c TimedOut) || has_time_out k in
      let some_code : c ≡ 0 → ⊥ = eqb-false c 0 (not-true (eqb c 0) (and_left a b h)) in
      by_test (eqb c TimedOut)
      (λ e.
      let late : has_time_out k ≡ true = rw e at (and_right a b h) in
      subst (λ (x : ℕ). Turn k (some job) (event Failed x job) none) (sym (eqb-true c TimedOut e)) (expires job late))
      (λ e. let other : c ≡ TimedOut → ⊥ = eqb-false c TimedOut e in fails job c (omega arith))

  -- of the other kinds of event the code is 0
  no_code : (P : ℕ → Type 0) (c : ℕ) → eqb c 0 ≡ true → P 0 → P c
  no_code P c h p = subst P (sym (eqb-true c 0 h)) p

  done_turn : (c : ℕ) → admits k (event DoneEvent c job) ≡ true → Turn k (some job) (event DoneEvent c job) none
  unfolding admits
  done_turn c h =
      let p = each (eqb c 0) (has DoneEvent) h in
      no_code (λ (x : ℕ). Turn k (some job) (event DoneEvent x job) none) c p.0 (completes job (not-true (is_continuous k) p.1.0))

  aborted_turn : (c : ℕ) → admits k (event AbortedEvent c job) ≡ true → Turn k (some job) (event AbortedEvent c job) none
  unfolding admits
  aborted_turn c h =
      let p = each (eqb c 0) (has AbortedEvent) h in
      no_code (λ (x : ℕ). Turn k (some job) (event AbortedEvent x job) none) c p.0 (aborts job p.1.1.0)

  withdrawn_turn : (c : ℕ) → admits k (event Withdrawn c job) ≡ true → Turn k (some job) (event Withdrawn c job) none
  unfolding admits
  withdrawn_turn c h =
      let p = each (eqb c 0) (has Withdrawn) h in
      no_code (λ (x : ℕ). Turn k (some job) (event Withdrawn x job) none) c p.0 (withdraws job (not-true (is_edge k) p.1.1.1))

  start_code : (c : ℕ) → admits k (event Start c job) ≡ true → Turn k none (event Start c job) (some job)
  unfolding admits
  start_code c h =
      let p = each (eqb c 0) (has Start) h in
      no_code (λ (x : ℕ). Turn k none (event Start x job) (some job)) c p.0 (starts job)

  finish_cases : (n c : ℕ) → is_finish (event n c job) ≡ true → admits k (event n c job) ≡ true → Turn k (some job) (event n c job) none
  finish_cases n c f =
      to_six (λ (m : ℕ). is_finish (event m c job) ≡ true → admits k (event m c job) ≡ true → Turn k (some job) (event m c job) none) n
      (le-leb n 6 (omega (arith, within_bounds DoneEvent Withdrawn n f)))
      no_case no_case (λ _ a. done_turn c a) (λ _ a. failed_turn c a) (λ _ a. aborted_turn c a) (λ _ a. withdrawn_turn c a) no_case f

pub turn_cases : (k : ℕ) (q : Option ℕ) (v : Event) → takes_turn k q v ≡ true → Turn k q v (open_after v)
turn_cases k none v h =
    let t = start_turn k v h in
    let kind : v.kind ≡ Start = eqb-true v.kind Start t.0 in
    let same : event Start v.code v.job ≡ v = λ i. record { kind = sym kind i; code = v.code; job = v.job } in
    let s : Turn k none (event Start v.code v.job) (some v.job) = start_code k v.job v.code (rw (← same) at t.1) in
    rw t.0 (subst (λ (x : Event). Turn k none x (some v.job)) same s)
turn_cases k (some job) v h =
    let t = finish_turn k job v h in
    let f : Turn k (some v.job) v none = finish_cases k v.job v.kind v.code t.0 t.1 in
    rw (finish_not_start v t.0) (subst (λ (x : ℕ). Turn k (some x) v none) t.2 f)
