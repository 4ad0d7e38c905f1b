-- The figures of an accepted journal count its events: the statement is in specs/SheetCounts.antt. For the reader, and for whoever rests on a sheet.
use Prim.Native.Nat.{ℕ, zero, suc, ◌+◌, ◌≤◌, ◌<◌}
use native.Mathlib.Decide.{ℕ_discrete, dec_lt}
use native.Mathlib.Omega.{arith}
use mathlib.Core.Bool.{cond}
use mathlib.Core.List.{List, [], ◌∷◌}
use mathlib.Core.Logic.{◌≢◌}
use mathlib.Core.Path.{◌≡◌, refl, ap, sym, ◌∙◌}
use lib.Dec.{eqb}
use lib.ListN.{length}
use Rattle.table.specs.Check.{check_of}
use Rattle.table.specs.Blocks.{Block, blocks_of}
use Rattle.std.specs.Prelude.{Result, Ok, Err}
use Rattle.refusal.specs.declared.Refusal.{Refusal}
use Rattle.layout.specs.EventLayout.{decode_events, events_at}
use Rattle.layout.specs.declared.event.Posted.{Posted}
use Rattle.layout.proofs.EventLaws.{at_here, at_elsewhere}
use Rattle.block.specs.Event.{Start, DoneEvent, Failed, AbortedEvent, Withdrawn}
use Rattle.block.specs.Turns.{count_of}
use Rattle.block.specs.declared.event.Event.{Event}
use Rattle.block.proofs.CountLaws.{finishes}
use Rattle.journal.specs.Allowed.{Allowed}
use Rattle.journal.proofs.AnswerLaws.{accepted_allowed, table_not_refused}
use Rattle.journal.proofs.CheckIsExact.{cons_not_nil}
use Rattle.figures.specs.Figures.{figures_by, figures_of, figures_at, no_figures, plus}
use Rattle.sheet.specs.Sheet.{sums_to}
use Rattle.sheet.specs.SheetCounts.{events_in, SheetCounts, AcceptedSheetCounts}
use Rattle.figures.specs.declared.figures.Figures.{Figures}
use Rattle.sheet.proofs.TotalsLaws.{allowed_balance}

-- how many events of a kind the first k positions have
unfoldable count_to : ℕ → List Posted → ℕ → ℕ
count_to kind events zero = 0
count_to kind events (suc k) = count_to kind events k + count_of kind (events_at (suc k) events)

-- an event more in front: one more where its kind is meant and its position is among them
module _ (kind : ℕ) (e : Posted) (es : List Posted) where
  abbrev one : ℕ
  one = cond (eqb e.event.kind kind) 1 0

  front_own : (p : ℕ) → e.position ≡ p → count_of kind (events_at p (e ∷ es)) ≡ one + count_of kind (events_at p es)
  unfolding count_of
  front_own p s = ap (count_of kind) (at_here p e es s)

  front_other : (p : ℕ) → (e.position ≡ p → ⊥) → count_of kind (events_at p (e ∷ es)) ≡ count_of kind (events_at p es)
  front_other p s = ap (count_of kind) (at_elsewhere p e es s)

  before_it : (k : ℕ) → k < e.position → count_to kind (e ∷ es) k ≡ count_to kind es k
  unfolding count_to
  before_it zero l = refl
  before_it (suc k) l = λ i. before_it k (omega arith) i + front_other (suc k) (λ z. omega arith) i

  from_it : (k : ℕ) → 0 < e.position → e.position ≤ k → count_to kind (e ∷ es) k ≡ one + count_to kind es k
  unfolding count_to
  from_it zero p l = absurd (omega arith)
  from_it (suc k) p l = by (ℕ_discrete e.position (suc k)) (λ m. from_it k p m)
    where
      by : Dec (e.position ≡ suc k) → (e.position ≤ k → count_to kind (e ∷ es) k ≡ one + count_to kind es k) → count_to kind (e ∷ es) (suc k) ≡ one + count_to kind es (suc k)
      by (yes s) ih = let a = before_it k (omega arith) in let b = front_own (suc k) s in omega arith
      by (no s) ih = let a = ih (omega arith) in let b = front_other (suc k) s in omega arith

-- where every event has one of these positions, each is counted once
data Placed (n : ℕ) : List Posted → Type 0 where
  no_event : Placed n []
  an_event : {es : List Posted} (e : Posted) → 0 < e.position → e.position ≤ n → Placed n es → Placed n (e ∷ es)

count_all : (kind n : ℕ) {events : List Posted} → Placed n events → count_to kind events n ≡ count_of kind (events_in events)
unfolding events_in count_of count_to events_at
count_all kind n no_event = none_to n
  where
    none_to : (k : ℕ) → count_to kind [] k ≡ 0
    none_to zero = refl
    none_to (suc k) = let h = none_to k in omega arith
count_all kind n (an_event {es} e p l placed) = from_it kind e es n p l ∙ ap (λ (m : ℕ). one kind e es + m) (count_all kind n placed)

-- the events of an accepted journal are so placed
module _ (blocks : List Block) where
  abbrev NoOthers : List Posted → Type 0
  NoOthers events = (p : ℕ) → ((k : ℕ) → k < length blocks → p ≢ suc k) → events_at p events ≡ []

  placed : (events : List Posted) → NoOthers events → Placed (length blocks) events
  placed [] h = no_event
  placed (e ∷ es) h = an_event e (by_zero (ℕ_discrete e.position 0)) (by_last (dec_lt (length blocks) e.position)) (placed es rest)
    where
      not_empty : (p : ℕ) → e.position ≡ p → events_at p (e ∷ es) ≡ [] → ⊥
      not_empty p own z = cons_not_nil (sym (at_here p e es own) ∙ z)

      by_zero : Dec (e.position ≡ 0) → 0 < e.position
      by_zero (yes z) = absurd (not_empty 0 z (h 0 (λ k l t. omega arith)))
      by_zero (no z) = omega arith

      by_last : Dec (length blocks < e.position) → e.position ≤ length blocks
      by_last (yes l) = absurd (not_empty e.position refl (h e.position (λ k m t. omega arith)))
      by_last (no l) = omega arith

      rest : NoOthers es
      rest p o = sym (at_elsewhere p e es (λ own. not_empty p own (h p o))) ∙ h p o

-- a column of the sums is the count of its kind at the first k positions
column_sum : (column : Figures → ℕ) (kind : ℕ) (events : List Posted) → column no_figures ≡ 0 → ((f g : Figures) → column (plus f g) ≡ column f + column g)
    → ((p : ℕ) → column (figures_at events p) ≡ count_of kind (events_at p events)) → (k : ℕ) → column (sums_to (figures_at events) k) ≡ count_to kind events k
unfolding sums_to count_to
column_sum column kind events none more own zero = none
column_sum column kind events none more own (suc k) =
    more (sums_to (figures_at events) k) (figures_at events (suc k)) ∙ (λ i. column_sum column kind events none more own k i + own (suc k) i)

-- starts are the finishes and what is open, in each line and so in the sums
abbrev Balanced : Figures → Type 0
Balanced f = f.left_open + (f.done + f.failed + f.aborted + f.withdrawn) ≡ f.starts

own_balance : (events : List Event) (remain : ℕ) → count_of Start events ≡ finishes events + remain → Balanced (figures_of events)
unfolding figures_by finishes
own_balance events remain balance = omega arith

own_open : (events : List Event) (remain : ℕ) → remain ≤ 1 → count_of Start events ≡ finishes events + remain → (figures_of events).left_open ≤ 1
unfolding figures_by finishes
own_open events remain few balance = omega arith

sums_balance : (figures : ℕ → Figures) (n : ℕ) → ((k : ℕ) → k < n → Balanced (figures (suc k))) → (k : ℕ) → k ≤ n → Balanced (sums_to figures k)
unfolding sums_to
sums_balance figures n each zero l = refl
sums_balance figures n each (suc k) l =
    let h = sums_balance figures n each k (omega arith) in
    let g = each k l in
    omega arith

module _ (blocks : List Block) (events : List Posted) (allowed : Allowed blocks events) where
  balanced : (k : ℕ) → k < length blocks → Balanced (figures_at events (suc k))
  balanced k l = let b = allowed_balance blocks events allowed k l in own_balance (events_at (suc k) events) b.0 b.2

  one_open : (k : ℕ) → k < length blocks → (figures_at events (suc k)).left_open ≤ 1
  one_open k l = let b = allowed_balance blocks events allowed k l in own_open (events_at (suc k) events) b.0 b.1 b.2

  all_counted : (column : Figures → ℕ) (kind : ℕ) → column no_figures ≡ 0 → ((f g : Figures) → column (plus f g) ≡ column f + column g)
      → ((p : ℕ) → column (figures_at events p) ≡ count_of kind (events_at p events)) → column (sums_to (figures_at events) (length blocks)) ≡ count_of kind (events_in events)
  all_counted column kind none more own = column_sum column kind events none more own (length blocks) ∙ count_all kind (length blocks) (placed blocks events allowed.positions)

  allowed_counts : SheetCounts blocks events
  unfolding figures_by
  allowed_counts =
      record {
        lines = λ k l. record { starts = refl; done = refl; failed = refl; aborted = refl; withdrawn = refl; left_open = balanced k l };
        one_open = one_open;
        sums =
            record {
              starts = all_counted (λ f. f.starts) Start refl (λ f g. refl) (λ p. refl);
              done = all_counted (λ f. f.done) DoneEvent refl (λ f g. refl) (λ p. refl);
              failed = all_counted (λ f. f.failed) Failed refl (λ f g. refl) (λ p. refl);
              aborted = all_counted (λ f. f.aborted) AbortedEvent refl (λ f g. refl) (λ p. refl);
              withdrawn = all_counted (λ f. f.withdrawn) Withdrawn refl (λ f g. refl) (λ p. refl);
              left_open = sums_balance (figures_at events) (length blocks) balanced (length blocks) (omega arith);
            };
      }

pub sheet_counts : AcceptedSheetCounts
sheet_counts image journal m accepted = by (check_of image) refl
  where
    by : (answer : Result ℕ Refusal) → check_of image ≡ answer → SheetCounts (blocks_of image) (decode_events m journal)
    by (Ok n) table = allowed_counts (blocks_of image) (decode_events m journal) (accepted_allowed image journal n table m accepted)
    by (Err r) refused = table_not_refused image journal m r accepted refused
