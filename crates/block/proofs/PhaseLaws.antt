-- A call taken apart by its phases: how it begins, what each phase does to the account with which it begins, and what the whole leaves. Each law speaks of
-- one phase by itself, for any inputs and frame entry. CallPhases proves `phases` by them.
use Prim.Native.Nat.{ℕ, suc, ◌+◌, ◌*◌, ◌≤◌, ◌<◌}
use native.Mathlib.Omega.{arith}
use native.Mathlib.Nat.{zero-add}
use mathlib.Core.Bool.{true, false}
use mathlib.Core.List.{◌++◌}
use mathlib.Core.Path.{◌≡◌, ◌∙◌, ap, sym, subst}
use lib.ListN.{length, length-append}
use Rattle.block.specs.Sound.{sound}
use Rattle.block.specs.Event.{emitted}
use Rattle.block.specs.Entry.{Entry, most_pieces}
use Rattle.block.specs.Ended.{is_end}
use Rattle.block.specs.Rules.{pass}
use Rattle.block.specs.Call.{Outcome, Call, stops, goes, last_pass, pass_then, call_of}
use Rattle.block.specs.CallResult.{events_of, outcome_of, no_pass, with_pass}
use Rattle.block.proofs.Phases.{rank, Falling, joined}
use Rattle.block.specs.declared.record.Record.{Record}
use Rattle.block.specs.declared.entry.Inputs.{Inputs}
use Rattle.block.specs.declared.pass.Pass.{Pass}
use Rattle.block.specs.declared.call.CallResult.{CallResult}
use Rattle.membership.proofs.Logic.{by_test}
use Rattle.block.proofs.Tests.{never}
use Rattle.block.proofs.Shapes.{is_done, is_error, is_aborted, Settled, idle, runs, aborts, shows, resets, withdraws, settled_of}
use Rattle.block.proofs.Passes.{cond_most, rank_least, rank_most}
use Rattle.block.proofs.CallLaws.{call_falls, call_whole, call_unique}
use Rattle.block.proofs.Accounts.{pass_used, events_after, add_last, add_first, goes_on, positive, stops_at}

-- when the phase of rank n begins, with the account a: a call is left, of that rank at most, and the account has room for it
pub record Phase (k : ℕ) (i : Inputs) (e : Entry) (n : ℕ) (a : CallResult) : Type 0 where
  pub rest : Outcome
  pub left : Falling k i e a.next rest
  pub below : rank a.next ≤ n
  pub pieces : a.used ≤ most_pieces * a.passes
  pub passes : a.passes + rest.passes ≤ 6
  pub events : length (events_of a.first a.second) + length rest.events ≤ 2

-- what a call leaves that came to the account a: the rest of it is a call, joined to the account
pub record Finished (k : ℕ) (i : Inputs) (e : Entry) (a : CallResult) (o : Outcome) : Type 0 where
  pub rest : Outcome
  pub called : Call k i e a.next rest
  pub whole : o ≡ joined (outcome_of a) rest

-- the phase of rank n, begun with the account a by a call that came to the account `from`
pub record Onward (k : ℕ) (i : Inputs) (e : Entry) (n : ℕ) (from : CallResult) (a : CallResult) : Type 0 where
  pub begins : Phase k i e n a
  pub finish : (o : Outcome) → Finished k i e a o → Finished k i e from o

-- a sound record that is in no end step has a rank below that of the end steps
rank_sound : {k : ℕ} {F : Type 0} {r : Record} → Settled k F r → is_end r.step ≡ false → rank r ≤ 5
unfolding rank
rank_sound idle h = omega arith
rank_sound (runs x) h = omega arith
rank_sound (aborts a x) h = omega arith
rank_sound (shows is_done f x) h = never h
rank_sound (shows is_error f x) h = never h
rank_sound (shows is_aborted f x) h = never h
rank_sound (resets z {q} f x) h = cond_most 5 q _ _ (omega arith) (omega arith)
rank_sound (withdraws a x) h = omega arith

-- a call from a sound record begins, and what it leaves when it has finished
module _ (k : ℕ) (i : Inputs) (e : Entry) (r : Record) (s : sound k r ≡ true) {b : CallResult} (is : b ≡ no_pass r) where
  pub call_begins : Phase k i e 6 b
  call_begins =
      let w = call_whole k i e r s in
      subst (Phase k i e 6) (sym is)
      (record { rest = call_of k i e r; left = call_falls k i e r s; below = rank_most r; pieces = omega arith; passes = omega (arith, w.passes); events = omega (arith, w.events) })

  pub call_skips : is_end b.next.step ≡ false → rank b.next ≤ 5
  call_skips = subst (λ (x : CallResult). is_end x.next.step ≡ false → rank x.next ≤ 5) (sym is) (rank_sound (settled_of k ⊥ r s))

  pub call_ends : (o : Outcome) → Finished k i e b o → Call k i e r o × (o ≡ call_of k i e r)
  call_ends o f =
      let g : Finished k i e (no_pass r) o = subst (λ (x : CallResult). Finished k i e x o) is f in
      let same : o ≡ g.rest = g.whole ∙ λ j. record { next = g.rest.next; events = g.rest.events; used = zero-add g.rest.used j; passes = zero-add g.rest.passes j } in
      let c : Call k i e r o = subst (Call k i e r) (sym same) g.called in
      (c, call_unique k i e r o (call_of k i e r) c (call_whole k i e r s).called)

-- the phase of rank suc n begins with the account a
module _ {k : ℕ} {i : Inputs} {e : Entry} (n : ℕ) {a : CallResult} (l : Phase k i e (suc n) a) where
  -- no pass in this phase
  pub phase_skips : rank a.next ≤ n → {b : CallResult} → b ≡ a → Onward k i e n a b
  phase_skips h same =
      subst (Onward k i e n a) (sym same)
      (record { begins = record { rest = l.rest; left = l.left; below = h; pieces = l.pieces; passes = l.passes; events = l.events }; finish = λ o f. f })

  -- the pass p is made, and added to the account
  module _ {p : Pass} (is : p ≡ pass k i e a.next) where
    pub phase_fits : e.count ≤ most_pieces → (a.used + p.used < 256) × (a.passes < 255)
    phase_fits h =
        let u = pass_used k i e a.next h in
        let v = ap (λ (x : Pass). x.used) is in
        let c = positive k i e l.left in
        let m = l.passes in
        let w = l.pieces in
        (omega arith, omega arith)

    module _ {b : CallResult} (added : b ≡ with_pass a p) where
      here : b ≡ with_pass a (pass k i e a.next)
      here = added ∙ ap (with_pass a) is

      pub phase_stops : p.again ≡ false → Finished k i e a (outcome_of b)
      phase_stops g =
          let q : Pass = pass k i e a.next in
          let stop : q.again ≡ false = sym (ap (λ (x : Pass). x.again) is) ∙ g in
          let last = stops_at k i e l.left stop in
          let events : length l.rest.events ≡ length (emitted q.event) = ap (λ (x : Outcome). length x.events) last in
          record { rest = last_pass q; called = stops a.next stop; whole = ap outcome_of here ∙ add_last a q (omega (arith, l.events, events)) }

      pub phase_goes : e.count ≤ most_pieces → p.again ≡ true → Onward k i e n a b
      phase_goes h g =
          let q : Pass = pass k i e a.next in
          let again : q.again ≡ true = sym (ap (λ (x : Pass). x.again) is) ∙ g in
          let next = goes_on k i e l.left again in
          let o : Outcome = next.0 in
          let events : l.rest.events ≡ emitted q.event ++ o.events = ap (λ (x : Outcome). x.events) next.2 in
          let count : l.rest.passes ≡ suc o.passes = ap (λ (x : Outcome). x.passes) next.2 in
          let both : length l.rest.events ≡ length (emitted q.event) + length o.events = ap length events ∙ length-append (emitted q.event) o.events in
          let has : length (events_of a.first a.second) + length (emitted q.event) ≤ 2 = omega (arith, l.events) in
          let grown : length (events_of (with_pass a q).first (with_pass a q).second) ≡ length (events_of a.first a.second) + length (emitted q.event) =
          ap length (events_after a.first a.second q.event has) ∙ length-append (events_of a.first a.second) (emitted q.event) in
          subst (Onward k i e n a) (sym here)
          (record {
            begins = record {
              rest = o;
              left = next.1;
              below = omega (arith, next.3, l.below);
              pieces = omega (arith, l.pieces, pass_used k i e a.next h);
              passes = omega (arith, l.passes, count);
              events = omega (arith, grown, l.events, both);
            };
            finish = λ t f. record {
              rest = pass_then q f.rest;
              called = goes a.next f.rest again f.called;
              whole = f.whole ∙ add_first a q f.rest has;
            };
          })

-- the pass of the last phase stops
pub last_stops : {k : ℕ} {i : Inputs} {e : Entry} {a : CallResult} → Phase k i e 1 a → {p : Pass} → p ≡ pass k i e a.next → p.again ≡ false
last_stops {k} {i} {e} {a} l {p} is = by_test p.again (λ g. again (goes_on k i e l.left (sym (ap (λ (x : Pass). x.again) is) ∙ g)).3) (λ g. g)
  where
    again : {A : Type 0} → rank (pass k i e a.next).next < rank a.next → A
    again h = let z : ⊥ = omega (arith, l.below, rank_least (pass k i e a.next).next) in absurd z
