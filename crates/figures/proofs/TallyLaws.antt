-- The counts of a journal, one event more at a time, and that none exceeds the number of events: for the proofs of `Tally` and of the sheet.
use Prim.Native.Nat.{ℕ, zero, suc, ◌+◌, ◌*◌, ◌≤◌, ◌<◌}
use native.Mathlib.Decide.{ℕ_discrete}
use native.Mathlib.Numerals.{add-one}
use native.Mathlib.Nat.{add-zero, mul-suc}
use native.Mathlib.Omega.{arith}
use mathlib.Core.Bool.{Bool, true, false, cond, ◌&&◌}
use mathlib.Core.List.{List, [], ◌∷◌, ◌++◌}
use mathlib.Core.Path.{◌≡◌, refl, ap, sym, ◌∙◌}
use lib.Dec.{eqb, leb}
use lib.ListN.{length, take, drop, get_or, set, replicate}
use lib.Seq.{drop-drop, take_at, drop_at, get_or-set_same, get_or-set_other}
use borrow.Author.Tests.{leb-true, le-leb, eqb-true, eq-eqb, ne_eqb}
use Rattle.membership.proofs.Logic.{by_test, and_left, and_right}
use Rattle.image.specs.Image.{most_slots}
use Rattle.layout.specs.Buffer.{event_length, part}
use Rattle.layout.specs.EventLayout.{decode_event, decode_events, events_at}
use Rattle.layout.specs.declared.event.Posted.{Posted}
use Rattle.layout.proofs.EventLaws.{at_append, at_most}
use Rattle.block.specs.Event.{Withdrawn}
use Rattle.block.specs.Turns.{count_of}
use Rattle.block.specs.declared.event.Event.{Event}
use Rattle.block.proofs.CountLaws.{count_append, count_most}
use Rattle.figures.specs.Tally.{Counts, has_count, counted, CountFits, Tallied}

-- a position and a kind that are counted
module _ (position kind : ℕ) (h : has_count position kind ≡ true) where
  pub position_bound : position ≤ most_slots
  position_bound = leb-true position most_slots (and_left (leb position most_slots) (leb kind Withdrawn) h)

  pub kind_bound : kind ≤ Withdrawn
  kind_bound = leb-true kind Withdrawn (and_right (leb position most_slots) (leb kind Withdrawn) h)

-- how many events of a kind a position has: of one event more, and no more than there are events
one_event : (b c : Bool) (n : ℕ) (v : Event) → eqb v.kind n ≡ c → count_of n (cond b (v ∷ []) []) ≡ cond (b && c) 1 0
unfolding count_of
one_event true true n v e = rw e refl
one_event true false n v e = rw e refl
one_event false c n v e = refl

module _ (events : List Posted) (e : Posted) (position kind : ℕ) where
  count_next : count_of kind (events_at position (events ++ (e ∷ []))) ≡ count_of kind (events_at position events) + cond (eqb e.position position && eqb e.event.kind kind) 1 0
  unfolding events_at
  count_next =
      ap (count_of kind) (at_append position events (e ∷ []))
      ∙ count_append kind (events_at position events) (events_at position (e ∷ []))
      ∙ ap (λ (n : ℕ). count_of kind (events_at position events) + n) (one_event (eqb e.position position) (eqb e.event.kind kind) kind e.event refl)

  count_own : e.position ≡ position → e.event.kind ≡ kind → count_of kind (events_at position (events ++ (e ∷ []))) ≡ suc (count_of kind (events_at position events))
  count_own p k = count_next ∙ rw (eq-eqb e.position position p, eq-eqb e.event.kind kind k) (add-one (count_of kind (events_at position events)))

  count_other : (e.position ≡ position → e.event.kind ≡ kind → ⊥) → count_of kind (events_at position (events ++ (e ∷ []))) ≡ count_of kind (events_at position events)
  count_other h =
      count_next
      ∙ by_test (eqb e.position position)
      (λ p. by_test (eqb e.event.kind kind) (λ k. absurd (h (eqb-true e.position position p) (eqb-true e.event.kind kind k))) (λ k. rw (p, k) (add-zero (count_of kind (events_at position events)))))
      (λ p. rw p (add-zero (count_of kind (events_at position events))))

pub count_few : (kind position : ℕ) (ps : List Posted) → count_of kind (events_at position ps) ≤ length ps
count_few kind position ps = omega (arith, count_most kind (events_at position ps), at_most position ps)

-- the chunk at the front of what is left of a list, after i chunks of n elements
pub chunk_next : (n i : ℕ) (s rest x next : List ℕ) → rest ≡ drop (n * i) s → rest ≡ x ++ next → length x ≡ n → (x ≡ part n i s) × (next ≡ drop (n * (i + 1)) s)
chunk_next n i s rest x next e f l =
    let whole : x ++ next ≡ drop (n * i) s = sym f ∙ e in
    let step : n * i + n ≡ n * (i + 1) = sym (mul-suc n i) ∙ ap (λ (m : ℕ). n * m) (sym (add-one i)) in (
      sym (take_at x next n l) ∙ ap (take n) whole,
      sym (drop_at x next n l) ∙ ap (drop n) whole ∙ drop-drop n (n * i) s ∙ ap (λ (m : ℕ). drop m s) step,
    )

-- rows of zeros
zero_at : (n i : ℕ) → ◌≡◌ {A = ℕ} (get_or (replicate n 0) i 0) 0
zero_at zero i = refl
zero_at (suc n) zero = refl
zero_at (suc n) (suc i) = zero_at n i

row_at : (m n i k : ℕ) → ◌≡◌ {A = ℕ} (get_or (get_or (replicate m (replicate n 0)) i []) k 0) 0
row_at zero n i k = refl
row_at (suc m) n zero k = zero_at n k
row_at (suc m) n (suc i) k = row_at m n i k

pub no_counts : (position kind : ℕ) → ◌≡◌ {A = ℕ} (get_or (get_or (replicate (most_slots + 1) (replicate 6 0)) position []) kind 0) 0
no_counts position kind = row_at (most_slots + 1) 6 position kind

-- one count more, as the code writes it
pub written : (rows : List (List ℕ)) (position kind : ℕ) → has_count position kind ≡ true → position < length rows → kind < length (get_or rows position [])
    → (p k : ℕ) → get_or (get_or (set rows position (set (get_or rows position []) kind (get_or (get_or rows position []) kind 0 + 1))) p []) k 0
    ≡ counted (λ p k. get_or (get_or rows p []) k 0) position kind p k
unfolding counted
written rows position kind has inside within p k = rw has (by (ℕ_discrete p position) (ℕ_discrete k kind))
  where
    row : List ℕ
    row = get_or rows position []

    more : List ℕ
    more = set row kind (get_or row kind 0 + 1)

    by : Dec (p ≡ position) → Dec (k ≡ kind)
        → get_or (get_or (set rows position more) p []) k 0 ≡ cond (eqb p position && eqb k kind) (suc (get_or (get_or rows p []) k 0)) (get_or (get_or rows p []) k 0)
    by (yes s) (yes t) =
        rw (eq-eqb p position s, eq-eqb k kind t, s, t, get_or-set_same rows position more [] inside, get_or-set_same row kind (get_or row kind 0 + 1) 0 within) (add-one (get_or row kind 0))
    by (yes s) (no t) =
        rw (ne_eqb k kind t, eq-eqb p position s, s, get_or-set_same rows position more [] inside) (get_or-set_other row kind k (get_or row kind 0 + 1) 0 t)
    by (no s) d = rw (ne_eqb p position s, get_or-set_other rows position p more [] s) refl

pub not_written : (counts : Counts) (position kind : ℕ) → has_count position kind ≡ false → (p k : ℕ) → counts p k ≡ counted counts position kind p k
unfolding counted
not_written counts position kind not_counted p k = rw not_counted refl

-- no event yet
pub tallied_start : (s : List ℕ) (counts : Counts) → ((position kind : ℕ) → counts position kind ≡ 0) → Tallied (decode_events 0 s) counts
unfolding decode_events events_at count_of
tallied_start s counts none = record { each = λ position kind l m. none position kind }

module _ {events : List Posted} {counts : Counts} (h : Tallied events counts) where
  pub tallied_fits : length events < 4294967295 → (position kind : ℕ) → CountFits counts position kind
  tallied_fits l position kind has =
      rw (h.each position kind (position_bound position kind has) (kind_bound position kind has)) (omega (arith, count_few kind position events))

  -- one event more
  module _ (e : Posted) where
    pub tallied_more : Tallied (events ++ (e ∷ [])) (counted counts e.position e.event.kind)
    unfolding counted
    tallied_more = record { each = λ position kind l m. by position kind (ℕ_discrete e.position position) (ℕ_discrete e.event.kind kind) l m }
      where
        elsewhere : (position kind : ℕ) → (e.position ≡ position → e.event.kind ≡ kind → ⊥) → position ≤ most_slots → kind ≤ Withdrawn
            → (eqb position e.position && eqb kind e.event.kind) ≡ false
            → cond (has_count e.position e.event.kind && (eqb position e.position && eqb kind e.event.kind)) (suc (counts position kind)) (counts position kind)
            ≡ count_of kind (events_at position (events ++ (e ∷ [])))
        elsewhere position kind differ l m other =
            rw other (never (has_count e.position e.event.kind) (counts position kind) ∙ h.each position kind l m ∙ sym (count_other events e position kind differ))
          where
            never : (b : Bool) (n : ℕ) → cond (b && false) (suc n) n ≡ n
            never true n = refl
            never false n = refl

        by : (position kind : ℕ) → Dec (e.position ≡ position) → Dec (e.event.kind ≡ kind) → position ≤ most_slots → kind ≤ Withdrawn
            → cond (has_count e.position e.event.kind && (eqb position e.position && eqb kind e.event.kind)) (suc (counts position kind)) (counts position kind)
            ≡ count_of kind (events_at position (events ++ (e ∷ [])))
        by position kind (yes p) (yes k) l m =
            let one = le-leb e.position most_slots (omega arith) in
            let two = le-leb e.event.kind Withdrawn (omega arith) in
            rw (one, two, eq-eqb position e.position (sym p), eq-eqb kind e.event.kind (sym k)) (ap suc (h.each position kind l m) ∙ sym (count_own events e position kind p k))
        by position kind (yes p) (no k) l m = elsewhere position kind (λ _ z. k z) l m (rw (ne_eqb kind e.event.kind (λ z. k (sym z))) (right_false (eqb position e.position)))
          where
            right_false : (b : Bool) → (b && false) ≡ false
            right_false true = refl
            right_false false = refl
        by position kind (no p) d l m = elsewhere position kind (λ z _. p z) l m (rw (ne_eqb position e.position (λ z. p (sym z))) refl)

-- event i, as the code reads it
pub tallied_next : {counts : Counts} (i : ℕ) (s bytes : List ℕ) → Tallied (decode_events i s) counts → bytes ≡ part event_length i s → (e : Posted) → e ≡ decode_event bytes
    → (next : Counts) → next ≡ counted counts e.position e.event.kind → Tallied (decode_events (i + 1) s) next
unfolding decode_events
tallied_next {counts} i s bytes h part_is e read next more =
    let own : e ≡ decode_event (part event_length i s) = read ∙ ap decode_event part_is in
    rw (add-one i, ← own, more) (tallied_more h e)
