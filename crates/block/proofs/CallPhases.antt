-- A call as the phases of the code make it: an account to which one pass after the other is added, in descending rank. By the laws of one phase (PhaseLaws).
-- For the proofs of `call` and its phases.
use Prim.Native.Nat.{ℕ, suc, ◌+◌, ◌≤◌, ◌<◌}
use native.Mathlib.Omega.{arith}
use mathlib.Core.Bool.{Bool, true, false, cond, ◌||◌}
use Rattle.std.specs.Prelude.{Result, Ok, Err}
use mathlib.Core.Path.{◌≡◌, ◌∙◌, refl, ap, sym, subst}
use lib.Dec.{eqb}
use borrow.Author.Tests.{eqb-true}
use Rattle.block.specs.Sound.{sound}
use Rattle.block.specs.Record.{Dormant, Executing, Done, Error, Aborting, Aborted, Resetting}
use Rattle.block.specs.Entry.{Entry, most_pieces}
use Rattle.block.specs.Dormant.{dormant}
use Rattle.block.specs.Executing.{executing}
use Rattle.block.specs.Ended.{ended}
use Rattle.block.specs.Aborting.{aborting}
use Rattle.block.specs.Resetting.{resetting}
use Rattle.block.specs.Rules.{rule, pass}
use Rattle.block.specs.Call.{Outcome, call_of}
use Rattle.block.specs.CallResult.{outcome_of, no_pass, with_pass, after_pass, left_by}
use Rattle.block.specs.Ended.{is_end}
use Rattle.block.proofs.Phases.{rank, joined, Phase}
use Rattle.block.specs.declared.record.Record.{Record}
use Rattle.block.specs.declared.entry.Inputs.{Inputs}
use Rattle.block.specs.declared.pass.Pass.{Pass}
use Rattle.block.specs.declared.call.CallResult.{CallResult}
use Rattle.block.specs.declared.call.Stopped.{Stopped}
use Rattle.block.specs.declared.entry.Given.{Given}
use Rattle.block.specs.PackedEntry.{entry_of}
use Rattle.membership.proofs.Logic.{by_test}
use Rattle.block.proofs.Tests.{never, or_cases}
use Rattle.block.proofs.Passes.{rank_cases}
use Rattle.block.proofs.CallLaws.{falling_call, call_unique}
use Rattle.block.proofs.PhaseLaws.{Phase as Alone, Finished, Onward, call_skips, call_ends, phase_skips, phase_fits, phase_stops, phase_goes, last_stops}
use Rattle.block.proofs.PhaseLaws.{call_begins as first_phase}

-- the step of the rank n, from 2 to 5
abbrev pub step_of : ℕ → ℕ
step_of n = cond (eqb n 5) Resetting (cond (eqb n 4) Dormant (cond (eqb n 3) Executing Aborting))

rank_step : (r : Record) (n : ℕ) → 2 ≤ n → n ≤ 5 → rank r ≡ n → r.step ≡ step_of n
rank_step r n l m =
    rank_cases (λ (x : ℕ). x ≡ n → r.step ≡ step_of n) r (λ h e. h ∙ ap step_of e) (λ h e. h ∙ ap step_of e) (λ h e. h ∙ ap step_of e) (λ h e. h ∙ ap step_of e)
    (λ _ e. let z : ⊥ = omega arith in absurd z) (λ _ e. let z : ⊥ = omega arith in absurd z) (λ e. let z : ⊥ = omega arith in absurd z)

-- and a record of that rank at most, in another step, has a lower one
pub rank_other : (n : ℕ) (r : Record) → 1 ≤ n → n ≤ 4 → (r.step ≡ step_of (suc n) → ⊥) → rank r ≤ suc n → rank r ≤ n
rank_other n r l m f h = let d : rank r ≡ suc n → ⊥ = λ e. f (rank_step r (suc n) (omega arith) (omega arith) e) in omega arith

-- the step of the last pass: what is not shown is reset
pub rank_last : (r : Record) → is_end r.step ≡ false → rank r ≤ 1 → r.step ≡ Resetting
rank_last r f =
    rank_cases (λ (n : ℕ). n ≤ 1 → r.step ≡ Resetting) r (λ _ l. high l (omega arith)) (λ _ l. high l (omega arith)) (λ _ l. high l (omega arith)) (λ h _. h) (λ h _. h)
    (λ h. never (sym h ∙ f)) (λ l. high l (omega arith))
  where
    high : {A : Type 0} {n : ℕ} → n ≤ 1 → 1 < n → A
    high h g = let z : ⊥ = omega arith in absurd z

-- the pass by the rule of the step
rule_at : (k : ℕ) (i : Inputs) (e : Entry) (r : Record) (n : ℕ) → r.step ≡ n → rule n k i e r ≡ pass k i e r
rule_at k i e r n h = sym (ap (λ (m : ℕ). rule m k i e r) h)

-- what a call is given, as the passes read it
abbrev pub pass_by : Given → Record → Pass
pass_by g r = pass g.kind g.inputs (entry_of g.entry) r

abbrev pub whole_by : Given → Record → Outcome
whole_by g r = call_of g.kind g.inputs (entry_of g.entry) r

-- and so in each phase
module _ (g : Given) (r : Record) where
  pub pass_resetting : r.step ≡ Resetting → resetting (entry_of g.entry) r ≡ pass_by g r
  unfolding rule
  pass_resetting h = rule_at g.kind g.inputs (entry_of g.entry) r Resetting h

  pub pass_dormant : r.step ≡ Dormant → dormant g.kind g.inputs (entry_of g.entry) r ≡ pass_by g r
  unfolding rule
  pass_dormant h = rule_at g.kind g.inputs (entry_of g.entry) r Dormant h

  pub pass_executing : r.step ≡ Executing → executing g.kind g.inputs (entry_of g.entry) r ≡ pass_by g r
  unfolding rule
  pass_executing h = rule_at g.kind g.inputs (entry_of g.entry) r Executing h

  pub pass_aborting : r.step ≡ Aborting → aborting g.kind (entry_of g.entry) r ≡ pass_by g r
  unfolding rule
  pass_aborting h = rule_at g.kind g.inputs (entry_of g.entry) r Aborting h

  pub pass_ended : is_end r.step ≡ true → ended g.kind g.inputs r ≡ pass_by g r
  unfolding rule
  pass_ended h =
      or_cases (eqb r.step Done || eqb r.step Error) (eqb r.step Aborted) h
      (λ h. or_cases (eqb r.step Done) (eqb r.step Error) h
      (λ h. rule_at g.kind g.inputs (entry_of g.entry) r Done (eqb-true _ _ h))
      (λ h. rule_at g.kind g.inputs (entry_of g.entry) r Error (eqb-true _ _ h)))
      (λ h. rule_at g.kind g.inputs (entry_of g.entry) r Aborted (eqb-true _ _ h))

module _ {k : ℕ} {i : Inputs} {e : Entry} {all : Outcome} {n : ℕ} {a : CallResult} where
  -- a phase of a call that leaves `all`, by itself
  by_itself : Phase k i e all n a → Alone k i e n a
  by_itself l = record { rest = l.rest; left = l.left; below = l.below; pieces = l.pieces; passes = l.passes; events = l.events }

  -- what the call leaves that came to it is `all`
  leaves_all : Phase k i e all n a → (o : Outcome) → Finished k i e a o → o ≡ all
  leaves_all l o f = f.whole ∙ ap (joined (outcome_of a)) (call_unique k i e a.next f.rest l.rest f.called (falling_call l.left)) ∙ l.whole

  -- and a phase by itself of which that holds is one of the call
  of_call : Alone k i e n a → ((o : Outcome) → Finished k i e a o → o ≡ all) → Phase k i e all n a
  of_call l f =
      record {
        rest = l.rest;
        left = l.left;
        below = l.below;
        pieces = l.pieces;
        passes = l.passes;
        events = l.events;
        whole = f (joined (outcome_of a) l.rest) (record { rest = l.rest; called = falling_call l.left; whole = refl });
      }

-- the phase that begins next is one of the same call
begins_next : {k : ℕ} {i : Inputs} {e : Entry} {all : Outcome} {m n : ℕ} {a b : CallResult} → Phase k i e all m a → Onward k i e n a b → Phase k i e all n b
begins_next l on = of_call on.begins (λ o f. leaves_all l o (on.finish o f))

-- the phase of rank n, begun with the account a, of the call that is given g from the record r
abbrev pub At : Given → Record → ℕ → CallResult → Type 0
At g r n a = Phase g.kind g.inputs (entry_of g.entry) (call_of g.kind g.inputs (entry_of g.entry) r) n a

-- what a phase leaves: the next one begins, or the call has ended
pub data Left (g : Given) (r : Record) (n : ℕ) : Result CallResult Stopped → Type 0 where
  onward : {a : CallResult} → At g r n a → Left g r n (Ok a)
  ended_by : {s : Stopped} → outcome_of s.call ≡ whole_by g r → Left g r n (Err s)

pub goes_at : {g : Given} {r : Record} {n : ℕ} {x : Result CallResult Stopped} {a : CallResult} → Left g r n x → x ≡ Ok a → At g r n a
goes_at {g} {r} {n} l e = on (subst (Left g r n) e l)
  where
    on : {a : CallResult} → Left g r n (Ok a) → At g r n a
    on (onward p) = p

pub ends_at : (y : Result CallResult Stopped) {g : Given} {r : Record} {n : ℕ} {x : Result CallResult Stopped} {s : Stopped} → Left g r n x → x ≡ Err s → y ≡ Err s → outcome_of (left_by y) ≡ whole_by g r
ends_at y {g} {r} {n} l e same = ap (λ (z : Result CallResult Stopped). outcome_of (left_by z)) same ∙ end (subst (Left g r n) e l)
  where
    end : {s : Stopped} → Left g r n (Err s) → outcome_of s.call ≡ whole_by g r
    end (ended_by w) = w

module _ (g : Given) (r : Record) where
  -- a call from a sound record begins
  module _ (s : sound g.kind r ≡ true) {b : CallResult} (is : b ≡ no_pass r) where
    pub call_begins : At g r 6 b
    call_begins =
        of_call (first_phase g.kind g.inputs (entry_of g.entry) r s is)
        (λ o f. (call_ends g.kind g.inputs (entry_of g.entry) r s is o f).1)

    pub first_other : is_end b.next.step ≡ false → rank b.next ≤ 5
    first_other = call_skips g.kind g.inputs (entry_of g.entry) r s is

  -- the phase of rank suc n, due or not; M says which pass its rule makes
  module _ (n : ℕ) {a : CallResult} (on : At g r (suc n) a) (few : g.entry.count ≤ most_pieces) (due : Bool) (M : Pass → Type 0)
      (is : due ≡ true → (p : Pass) → M p → p ≡ pass_by g a.next) where
    pub phase_room : due ≡ true → (p : Pass) → M p → (a.used + p.used < 256) × (a.passes < 255)
    phase_room t p m = phase_fits n (by_itself on) (is t p m) few

    pub phase_left : (due ≡ false → rank a.next ≤ n) → {x : Result CallResult Stopped} → (due ≡ false → x ≡ Ok a) → (due ≡ true → (p : Pass) × M p × (x ≡ after_pass a p)) → Left g r n x
    phase_left other skipped made =
        by_test due
        (λ t. let p = made t in subst (Left g r n) (sym (p.2 ∙ ap (after_pass a) (is t p.0 p.1))) after)
        (λ f. subst (Left g r n) (sym (skipped f)) (onward (begins_next on (phase_skips n (by_itself on) (other f) refl))))
      where
        after : Left g r n (after_pass a (pass_by g a.next))
        after =
            by_test (pass_by g a.next).again
            (λ y. rw y (onward (begins_next on (phase_goes n (by_itself on) refl refl few y))))
            (λ y. rw y (ended_by (leaves_all on _ (phase_stops n (by_itself on) refl refl y))))

  -- it is not due where its step is another
  pub step_other : (n : ℕ) {a : CallResult} → 1 ≤ n → n ≤ 4 → At g r (suc n) a → (a.next.step ≡ step_of (suc n) → ⊥) → rank a.next ≤ n
  step_other n {a} l m on f = rank_other n a.next l m f on.below

  pub last_room : {a : CallResult} {p : Pass} → At g r 1 a → g.entry.count ≤ most_pieces → p ≡ pass_by g a.next → (a.used + p.used < 256) × (a.passes < 255)
  last_room l few is = phase_fits 0 (by_itself l) is few

  pub last_whole : {a b : CallResult} {p : Pass} → At g r 1 a → p ≡ pass_by g a.next → b ≡ with_pass a p → outcome_of b ≡ whole_by g r
  last_whole l is added = leaves_all l _ (phase_stops 0 (by_itself l) is added (last_stops (by_itself l) is))

-- what the last showing leaves: a withdrawn block, which is reset, or the call has ended
pub data LastLeft (g : Given) (r : Record) : Result CallResult Stopped → Type 0 where
  unshown : {a : CallResult} → is_end a.next.step ≡ false → At g r 1 a → LastLeft g r (Ok a)
  ended_last : {s : Stopped} → outcome_of s.call ≡ whole_by g r → LastLeft g r (Err s)

module _ (g : Given) (r : Record) where
  pub last_left : {a : CallResult} → At g r 1 a → (due : Bool) (M : Pass → Type 0) → due ≡ is_end a.next.step → (due ≡ true → (p : Pass) → M p → p ≡ pass_by g a.next)
      → {x : Result CallResult Stopped} → (due ≡ false → x ≡ Ok a) → (due ≡ true → (p : Pass) × M p × (x ≡ after_pass a p)) → LastLeft g r x
  last_left {a} on due M end is skipped made =
      by_test due
      (λ t. let p = made t in subst (LastLeft g r) (sym (p.2 ∙ ap (after_pass a) (is t p.0 p.1))) (let y = last_stops (by_itself on) refl in rw y (ended_last (last_whole g r on refl refl))))
      (λ f. subst (LastLeft g r) (sym (skipped f)) (unshown (sym end ∙ f) on))

pub reset_at : {g : Given} {r : Record} {x : Result CallResult Stopped} {a : CallResult} → LastLeft g r x → x ≡ Ok a → (a.next.step ≡ Resetting) × At g r 1 a
reset_at {g} {r} l e = on (subst (LastLeft g r) e l)
  where
    on : {a : CallResult} → LastLeft g r (Ok a) → (a.next.step ≡ Resetting) × At g r 1 a
    on {a} (unshown f p) = (rank_last a.next f p.below, p)

pub ends_last : (y : Result CallResult Stopped) {g : Given} {r : Record} {x : Result CallResult Stopped} {s : Stopped} → LastLeft g r x → x ≡ Err s → y ≡ Err s → outcome_of (left_by y) ≡ whole_by g r
ends_last y {g} {r} l e same = ap (λ (z : Result CallResult Stopped). outcome_of (left_by z)) same ∙ end (subst (LastLeft g r) e l)
  where
    end : {s : Stopped} → LastLeft g r (Err s) → outcome_of s.call ≡ whole_by g r
    end (ended_last w) = w
