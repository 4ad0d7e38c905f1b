-- What is answered, by the first check that fails or by the number of events: for the proofs of `check::check_events` and `check::check_journal`; and which journals are accepted over an accepted
-- table, for crates that rest on an accepted journal.
use Prim.Native.Nat.{ℕ, ◌*◌, ◌%◌}
use native.Mathlib.Omega.{arith}
use mathlib.Core.Bool.{Bool, true, false}
use mathlib.Core.List.{List}
use mathlib.Core.Option.{Option, none, some}
use mathlib.Core.Path.{◌≡◌, refl, sym, ◌∙◌}
use lib.Dec.{eqb}
use lib.ListN.{length}
use borrow.Author.Tests.{eqb-true, eq-eqb, ne_eqb}
use Rattle.table.specs.Check.{check_of}
use Rattle.table.specs.Blocks.{Block, blocks_of}
use Rattle.std.specs.Prelude.{Ok, Err}
use Rattle.refusal.specs.Refusal.{refused}
use Rattle.refusal.specs.declared.Refusal.{Refusal}
use Rattle.refusal.specs.declared.Place.TheVariants.{Header}
use Rattle.refusal.specs.declared.Check.TheVariants.{EventsLength}
use Rattle.layout.specs.Buffer.{event_length}
use Rattle.layout.specs.EventLayout.{decode_events}
use Rattle.journal.specs.Allowed.{Allowed}
use Rattle.journal.specs.Check.{none_open, first_bad, events_verdict, event_count, events_of, journal_verdict, check_journal_of}
use Rattle.journal.proofs.CheckIsExact.{check_is_exact}

-- the verdict, by what the code found
module _ (blocks : List Block) (journal : List ℕ) where
  abbrev first : Option ℕ
  first = first_bad blocks none_open 0 (events_of journal)

  pub verdict_70 : (length journal % event_length ≡ 0 → ⊥) → refused EventsLength Header ≡ journal_verdict blocks journal
  unfolding journal_verdict
  verdict_70 h = rw (ne_eqb (length journal % event_length) 0 h)

  pub verdict_of : length journal % event_length ≡ 0 → (found : Option ℕ) → found ≡ first → events_verdict found ≡ journal_verdict blocks journal
  unfolding journal_verdict
  verdict_of whole found is = rw (eq-eqb (length journal % event_length) 0 whole, is) refl

-- a journal of whole events, none of them bad
pub record Passes (image journal : List ℕ) : Type 0 where
  pub whole : length journal % event_length ≡ 0
  pub good : first_bad (blocks_of image) none_open 0 (events_of journal) ≡ none

module _ (image journal : List ℕ) (n : ℕ) (table : check_of image ≡ Ok n) where
  pub passes_accepted : Passes image journal → check_journal_of image journal ≡ Ok (event_count journal)
  unfolding check_journal_of journal_verdict
  passes_accepted p = rw (table, eq-eqb (length journal % event_length) 0 p.whole, p.good)

  pub accepted_passes : (m : ℕ) → check_journal_of image journal ≡ Ok m → Passes image journal
  unfolding check_journal_of journal_verdict
  accepted_passes m h = by (eqb (length journal % event_length) 0) refl (first_bad (blocks_of image) none_open 0 (events_of journal)) refl
    where
      by : (b : Bool) → eqb (length journal % event_length) 0 ≡ b → (x : Option ℕ) → first_bad (blocks_of image) none_open 0 (events_of journal) ≡ x → Passes image journal
      by true w none g = record { whole = eqb-true (length journal % event_length) 0 w; good = g }
      by true w (some i) g = let z = rw (table, w, g) at h in cc
      by false w x g = let z = rw (table, w) at h in cc

  -- its events, all of them: how many bytes, and that the rules allow them
  module _ (m : ℕ) (accepted : check_journal_of image journal ≡ Ok m) where
    passes : Passes image journal
    passes = accepted_passes m accepted

    count_is : event_count journal ≡ m
    count_is = let e = sym (passes_accepted passes) ∙ accepted in cc

    pub accepted_length : length journal ≡ event_length * m
    accepted_length = let whole = passes.whole in let count = count_is in omega arith

    pub accepted_allowed : Allowed (blocks_of image) (decode_events m journal)
    accepted_allowed = rw count_is at ((check_is_exact (blocks_of image) (events_of journal)).accepted passes.good)

-- no journal is accepted over a table that is refused
pub table_not_refused : {A : Type 0} (image journal : List ℕ) (m : ℕ) (refusal : Refusal) → check_journal_of image journal ≡ Ok m → check_of image ≡ Err refusal → A
unfolding check_journal_of
table_not_refused image journal m refusal accepted refused = let e = rw refused at accepted in cc
