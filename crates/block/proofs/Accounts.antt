-- The account of a call: the pieces and the event that one pass adds to it, and what is left of a call after that pass. For the laws of its phases.
use Prim.Native.Nat.{ℕ, suc, ◌+◌, ◌≤◌, ◌<◌}
use native.Mathlib.Omega.{arith}
use native.Mathlib.Nat.{add_assoc}
use mathlib.Core.Bool.{Bool, true, false, not, ◌&&◌}
use mathlib.Core.List.{List, [], ◌∷◌, ◌++◌, append_assoc, append-nil}
use Rattle.std.specs.Prelude.{Option, None, Some}
use mathlib.Core.Path.{◌≡◌, ◌∙◌, refl, ap, sym}
use lib.Dec.{eqb}
use lib.ListN.{length, take, length-take}
use Rattle.kind.specs.Kind.{is_edge, has_time_limit, is_continuous}
use Rattle.clock.specs.Clock.{past_time_out}
use Rattle.block.specs.Record.{Dormant, Executing, Aborting, Resetting}
use Rattle.block.specs.Event.{emitted}
use Rattle.block.specs.Entry.{Entry, Complete, ErrorReply, most_pieces}
use Rattle.block.specs.Dormant.{dormant}
use Rattle.block.specs.Executing.{called_off, time_out_of, at_call, use_piece, ends_pieces, use_pieces, bounds_of, worked, judge, executing}
use Rattle.block.specs.Ended.{is_end, reset_due, ended}
use Rattle.block.specs.Aborting.{aborting}
use Rattle.block.specs.Resetting.{resetting}
use Rattle.block.specs.Rules.{rule, pass}
use Rattle.block.specs.Call.{Outcome, last_pass, pass_then}
use Rattle.block.specs.CallResult.{events_of, outcome_of, first_after, second_after, with_pass}
use Rattle.block.proofs.Phases.{rank, Falling, halts, falls, joined}
use Rattle.block.specs.declared.record.Record.{Record}
use Rattle.block.specs.declared.entry.Inputs.{Inputs}
use Rattle.block.specs.declared.entry.Piece.{Piece}
use Rattle.block.specs.declared.executing.Work.{Work}
use Rattle.block.specs.declared.executing.Bounds.{Bounds}
use Rattle.block.specs.declared.event.Event.{Event}
use Rattle.block.specs.declared.pass.Pass.{Pass}
use Rattle.block.specs.declared.call.CallResult.{CallResult}
use Rattle.std.proofs.lemmas.Bool.{cond_both}
use Rattle.block.proofs.Tests.{none}

pieces_used : (several : Bool) (b : Bounds) (w : Work) (ps : List Piece) → (use_pieces several b w ps).used ≤ w.used + length ps
unfolding use_pieces
pieces_used several b w [] = omega arith
pieces_used several b w (p ∷ ps) =
    cond_both (ends_pieces several b (use_piece w p) p) _ _ (λ (x : Work). x.used ≤ w.used + suc (length ps))
    (λ h. omega arith)
    (λ h. let i = pieces_used several b (use_piece w p) ps in omega arith)

-- a pass uses at most four pieces
abbrev pub Few : Pass → Type 0
Few p = p.used ≤ most_pieces

module _ (k : ℕ) (i : Inputs) (e : Entry) (r : Record) where
  judge_used : (worked k e r).used ≤ most_pieces → Few (judge (is_continuous k) (time_out_of k e r) (worked k e r) r)
  unfolding judge
  judge_used h =
      cond_both (eqb (worked k e r).reply ErrorReply) _ _ Few (λ t. h)
      (λ t. cond_both (past_time_out (time_out_of k e r) (worked k e r).timer) _ _ Few (λ t. h)
      (λ t. cond_both (eqb (worked k e r).reply Complete && not (is_continuous k)) _ _ Few (λ t. h) (λ t. h)))

  pub pass_used : e.count ≤ most_pieces → Few (pass k i e r)
  unfolding rule dormant executing ended aborting resetting
  pass_used h =
      cond_both (eqb r.step Dormant) _ _ Few (λ t. cond_both i.start _ _ Few (λ t. omega arith) (λ t. omega arith))
      (λ t. cond_both (eqb r.step Executing) _ _ Few
      (λ t. cond_both (called_off k i) _ _ Few (λ t. omega arith) (λ t. judge_used work))
      (λ t. cond_both (is_end r.step) _ _ Few
      (λ t. cond_both (reset_due i r) _ _ Few (λ t. omega arith) (λ t. omega arith))
      (λ t. cond_both (eqb r.step Aborting) _ _ Few
      (λ t. cond_both (eqb e.abort_reply ErrorReply) _ _ Few (λ t. omega arith)
      (λ t. cond_both (eqb e.abort_reply Complete) _ _ Few (λ t. cond_both (is_edge k) _ _ Few (λ t. omega arith) (λ t. omega arith)) (λ t. omega arith)))
      (λ t. cond_both (eqb r.step Resetting) _ _ Few
      (λ t. cond_both (eqb e.reset_reply Complete) _ _ Few (λ t. omega arith) (λ t. omega arith))
      (λ t. omega arith)))))
    where
      work : (worked k e r).used ≤ most_pieces
      work = omega (arith, pieces_used (has_time_limit k) (bounds_of k e r) (at_call e r) (take e.count e.pieces), length-take e.count e.pieces)

-- the event of a pass stands after those of the account
pub events_after : (f s v : Option Event) → length (events_of f s) + length (emitted v) ≤ 2 → events_of (first_after f v) (second_after f s v) ≡ events_of f s ++ emitted v
unfolding first_after second_after
events_after None s None h = refl
events_after (Some u) s None h = sym (append-nil (u ∷ emitted s))
events_after None s (Some w) h = refl
events_after (Some u) None (Some w) h = refl
events_after (Some u) (Some x) (Some w) h = let z : ⊥ = omega arith in absurd z

module _ (a : CallResult) (p : Pass) where
  -- the event of a pass has room
  abbrev pub Room : Type 0
  Room = length (events_of a.first a.second) + length (emitted p.event) ≤ 2

  -- a pass is added as the last
  pub add_last : Room → outcome_of (with_pass a p) ≡ joined (outcome_of a) (last_pass p)
  add_last h = λ j. record { next = p.next; events = events_after a.first a.second p.event h j; used = a.used + p.used; passes = a.passes + 1 }

  -- and with the rest of the call after it
  pub add_first : (o : Outcome) → Room → joined (outcome_of (with_pass a p)) o ≡ joined (outcome_of a) (pass_then p o)
  add_first o h =
      ap (λ (x : Outcome). joined x o) (add_last h)
      ∙ λ j. record {
        next = o.next;
        events = append_assoc (events_of a.first a.second) (emitted p.event) o.events j;
        used = add_assoc a.used p.used o.used j;
        passes = shift a.passes o.passes j;
      }
    where
      shift : (m n : ℕ) → m + 1 + n ≡ m + suc n
      shift m n = omega arith

module _ (k : ℕ) (i : Inputs) (e : Entry) where
  pub goes_on : {r : Record} {o : Outcome} → Falling k i e r o → (pass k i e r).again ≡ true
      → (q : Outcome) × Falling k i e (pass k i e r).next q × (o ≡ pass_then (pass k i e r) q) × (rank (pass k i e r).next < rank r)
  goes_on (halts r h) g = none (sym h ∙ g)
  goes_on (falls r q h l c) g = (q, c, refl, l)

  pub positive : {r : Record} {o : Outcome} → Falling k i e r o → 1 ≤ o.passes
  positive (halts r h) = omega arith
  positive (falls r o h l c) = omega arith

  pub stops_at : {r : Record} {o : Outcome} → Falling k i e r o → (pass k i e r).again ≡ false → o ≡ last_pass (pass k i e r)
  stops_at (halts r h) g = refl
  stops_at (falls r q h l c) g = none (sym g ∙ h)
