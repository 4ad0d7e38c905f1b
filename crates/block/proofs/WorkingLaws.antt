-- A call of one pass that leaves its block at Executing: the block was there before, nothing of its record changes but the timer, and there is no event.
-- For the engine, which writes of such a block only the timer.
use Prim.Native.Nat.{ℕ}
use native.Mathlib.Omega.{arith}
use mathlib.Core.Bool.{true}
use mathlib.Core.List.{[]}
use mathlib.Core.Path.{◌≡◌, sym, subst}
use Rattle.block.specs.Record.{Executing}
use Rattle.block.specs.Sound.{sound}
use Rattle.block.specs.Entry.{Entry, entry_fits}
use Rattle.block.specs.Call.{Outcome, Call, stops, goes, call_of}
use Rattle.block.specs.declared.record.Record.{Record}
use Rattle.block.specs.declared.entry.Inputs.{Inputs}
use Rattle.block.proofs.Shapes.{Settled, settled, settled_of}
use Rattle.block.proofs.Passes.{running, passed}
use Rattle.block.proofs.CallLaws.{call_whole}

-- what such a call keeps
pub record Working (r : Record) (o : Outcome) : Type 0 where
  pub before : r ≡ running r.job r.limit r.timeout r.timer
  pub after : o.next ≡ running r.job r.limit r.timeout o.next.timer
  pub quiet : o.events ≡ []

module _ (k : ℕ) (i : Inputs) (e : Entry) where
  one_pass : {r : Record} {o : Outcome} → Settled k (entry_fits e ≡ true) r → Call k i e r o → o.passes ≡ 1 → o.next.step ≡ Executing → Working r o
  one_pass s (stops r h) one x = let p = (passed k i e (settled s)).halts h x in record { before = p.before; after = p.after; quiet = p.quiet }
  one_pass s (goes r _ h (stops _ _)) one x = let z : ⊥ = omega (arith, one) in absurd z
  one_pass s (goes r _ h (goes _ _ _ _)) one x = let z : ⊥ = omega (arith, one) in absurd z

  pub working_call : (r : Record) (o : Outcome) → sound k r ≡ true → o ≡ call_of k i e r → o.passes ≡ 1 → o.next.step ≡ Executing → Working r o
  working_call r o h f =
      one_pass (settled_of k (entry_fits e ≡ true) r h) (subst (Call k i e r) (sym f) (call_whole k i e r h).called)
