-- One event more: two scans, of which the first writes it and the second settles its block, while every other block is held at rest; and so all events of a journal. For the theorem that an
-- accepted journal is written.
use Rattle.std.proofs.Common.{◌≡◌, ℕ, zero, suc, ◌-◌, ◌<◌, ◌≢◌, Bool, true, false, cond, eqb, List, [], ◌∷◌, ◌++◌, length, Ok, refl, ap, sym, ◌∙◌, subst, arith, append-nil, append_assoc, eq-eqb, ne_eqb}
use Rattle.std.proofs.Math.Decide.{ℕ_discrete, dec_lt}
use Rattle.std.proofs.Math.Logic.{by_cases}
use Rattle.std.proofs.Math.Option.{Option, none, some, some-ne-none}
use Rattle.table.specs.Blocks.{blocks_of}
use Rattle.layout.specs.EventLayout.{events_at}
use Rattle.layout.specs.declared.event.Posted.{Posted}
use Rattle.layout.proofs.Fits.{All, nil, cons, EntryFits, EventFits}
use Rattle.layout.proofs.EventLaws.{at_here, at_elsewhere}
use Rattle.block.specs.Entry.{entry_fits}
use Rattle.block.specs.Turns.{open_after}
use Rattle.block.specs.Call.{Outcome}
use Rattle.block.specs.Entry.{Entry}
use Rattle.block.proofs.TurnLaws.{Turn, turn_cases}
use Rattle.engine.specs.Fresh.{fresh_of}
use Rattle.run.specs.Scans.{Scans, ◌and_then◌, FramesAreBytes, journal_of}
use Rattle.journal.specs.Check.{OpenJobs, opened_by, is_good, first_bad}
use Rattle.journal.proofs.CheckIsExact.{good_at, cons_not_nil}
use Rattle.replay.specs.Written.{NoWires, EachAccepted, and_scan}
use Rattle.replay.proofs.Moves.{at_rest, hold_entry, turn_entry, called_with, hold_call, Writes, turn_written, hold_form, turn_form, hold_fits, turn_fits}
use Rattle.replay.proofs.OneScan.{scan_with, kind_at, record_at, written, Scanned, one_scan}

-- lists of events by their positions: none at any position, and just one
none_at_all : (ps : List Posted) → ((n : ℕ) → events_at n ps ≡ []) → ps ≡ []
none_at_all [] h = refl
none_at_all (p ∷ ps) h = cons_not_nil (sym (at_here p.position p ps refl) ∙ h p.position)

only_one : (ps : List Posted) (e : Posted) → ((n : ℕ) → (e.position ≡ n → ⊥) → events_at n ps ≡ []) → events_at e.position ps ≡ e.event ∷ [] → ps ≡ e ∷ []
unfolding events_at
only_one [] e h s = cons_not_nil (sym s)
only_one (p ∷ ps) e h s = by (ℕ_discrete e.position p.position)
  where
    by : Dec (e.position ≡ p.position) → p ∷ ps ≡ e ∷ []
    by (yes own) =
        let first : p.event ∷ events_at e.position ps ≡ e.event ∷ [] = sym (at_here e.position p ps (sym own)) ∙ s in
        let event : p.event ≡ e.event = cc in
        let rest : events_at e.position ps ≡ [] = cc in
        let same : p ≡ e = λ i. record { position = sym own i; event = event i } in
        λ i. same i ∷ none_at_all ps (λ n. nowhere n (ℕ_discrete e.position n) rest) i
      where
        nowhere : (n : ℕ) → Dec (e.position ≡ n) → events_at e.position ps ≡ [] → events_at n ps ≡ []
        nowhere n (yes t) r = subst (λ (m : ℕ). events_at m ps ≡ []) t r
        nowhere n (no t) r = sym (at_elsewhere n p ps (λ z. t (own ∙ z))) ∙ h n t
    by (no other) = cons_not_nil (sym (at_here p.position p ps refl) ∙ h p.position other)

-- some accepted scans, after which each block is at rest with its open job
pub record Rests (image buffer : List ℕ) (h : Scans) (jobs : OpenJobs) : Type 0 where
  pub framed : FramesAreBytes h
  pub accepted : EachAccepted image buffer h
  pub rests : (k : ℕ) → k < length (blocks_of image) → record_at image buffer h k ≡ at_rest (kind_at image buffer k) (jobs (suc k))

module _ (image buffer : List ℕ) (n : ℕ) (fresh : (fresh_of image buffer).answer ≡ Ok n) (bare : NoWires (blocks_of image)) where
  abbrev count : ℕ
  count = length (blocks_of image)

  abbrev kind : ℕ → ℕ
  kind k = kind_at image buffer k

  -- a position is a block's or no block's
  by_position : (Q : ℕ → Type 0) → ((j : ℕ) → j < count → Q (suc j)) → ((p : ℕ) → ((j : ℕ) → j < count → p ≢ suc j) → Q p) → (p : ℕ) → Q p
  by_position Q f g zero = g 0 (λ j l e. omega arith)
  by_position Q f g (suc j) = by_cases (dec_lt j count) (f j) (λ a. g (suc j) (λ i b e. a (omega arith)))

  -- event e, of the block at index k, after scans that leave the blocks at rest
  module _ (h : Scans) (jobs : OpenJobs) (st : Rests image buffer h jobs) (e : Posted) (fits : EventFits e.event) (k : ℕ) (own : e.position ≡ suc k) (l : k < count)
      (t : Turn (kind k) (jobs (suc k)) e.event (open_after e.event)) where
    -- the entries of the two scans
    moving : ℕ → Entry
    moving j = cond (eqb j k) (turn_entry t) (hold_entry (jobs (suc j)))

    settling : ℕ → Entry
    settling j = hold_entry (opened_by e jobs (suc j))

    moving_own : moving k ≡ turn_entry t
    unfolding moving
    moving_own = rw (eq-eqb k k refl)

    moving_other : (j : ℕ) → (j ≡ k → ⊥) → moving j ≡ hold_entry (jobs (suc j))
    unfolding moving
    moving_other j o = rw (ne_eqb j k o)

    -- what holds of both entries holds of each
    of_moving : (Q : Entry → Type 0) → Q (turn_entry t) → ((j : ℕ) → Q (hold_entry (jobs (suc j)))) → (j : ℕ) → Q (moving j)
    of_moving Q a b j = by_cases (ℕ_discrete j k) (λ s. subst Q (sym (ap moving s ∙ moving_own)) a) (λ s. subst Q (sym (moving_other j s)) (b j))

    first : Scanned image buffer h moving
    first =
        one_scan image buffer n fresh bare h st.framed moving (of_moving EntryFits (turn_fits fits t) (λ j. hold_fits (jobs (suc j))))
        (of_moving (λ (x : Entry). entry_fits x ≡ true) (turn_form t) (λ j. hold_form (jobs (suc j))))

    abbrev one : Scans
    one = h and_then scan_with count moving

    second : Scanned image buffer one settling
    unfolding settling
    second = one_scan image buffer n fresh bare one first.framed settling (λ j. hold_fits (opened_by e jobs (suc j))) (λ j. hold_form (opened_by e jobs (suc j)))

    abbrev two : Scans
    two = one and_then scan_with count settling

    made : Writes (kind k) (jobs (suc k)) e.event (open_after e.event) (turn_entry t)
    made = turn_written t

    -- the block of the event
    own_call : called_with (kind k) (moving k) (record_at image buffer h k) ≡ called_with (kind k) (turn_entry t) (at_rest (kind k) (jobs (suc k)))
    own_call = λ i. called_with (kind k) (moving_own i) (st.rests k l i)

    own_open : opened_by e jobs (suc k) ≡ open_after e.event
    own_open = rw (eq-eqb (suc k) e.position (sym own))

    own_settled : called_with (kind k) (settling k) (record_at image buffer one k)
        ≡ called_with (kind k) (hold_entry (open_after e.event)) (called_with (kind k) (turn_entry t) (at_rest (kind k) (jobs (suc k)))).next
    unfolding settling
    own_settled =
        let after = first.records k l ∙ ap (λ (x : Outcome). x.next) own_call in
        λ i. called_with (kind k) (hold_entry (own_open i)) (after i)

    -- every other block
    module _ (j : ℕ) (inside : j < count) (o : j ≡ k → ⊥) where
      other_call : called_with (kind j) (moving j) (record_at image buffer h j) ≡ called_with (kind j) (hold_entry (jobs (suc j))) (at_rest (kind j) (jobs (suc j)))
      other_call = λ i. called_with (kind j) (moving_other j o i) (st.rests j inside i)

      other_open : opened_by e jobs (suc j) ≡ jobs (suc j)
      other_open = rw (ne_eqb (suc j) e.position (λ s. o (omega arith)))

      other_settled : called_with (kind j) (settling j) (record_at image buffer one j) ≡ called_with (kind j) (hold_entry (jobs (suc j))) (at_rest (kind j) (jobs (suc j)))
      unfolding settling
      other_settled =
          let after = first.records j inside ∙ ap (λ (x : Outcome). x.next) (other_call ∙ hold_call (kind j) (jobs (suc j))) in
          λ i. called_with (kind j) (hold_entry (other_open i)) (after i)

    -- the first scan writes the event alone, the second nothing
    writes : written image buffer h (scan_with count moving) first.count ≡ e ∷ []
    writes =
        only_one _ e
        (by_position (λ p. (e.position ≡ p → ⊥) → events_at p (written image buffer h (scan_with count moving) first.count) ≡ [])
        (λ j inside o. first.events j inside ∙ ap (λ (x : Outcome). x.events) (other_call j inside (λ s. o (omega arith)) ∙ hold_call (kind j) (jobs (suc j))))
        (λ p o _. first.others p o))
        (subst (λ (p : ℕ). events_at p (written image buffer h (scan_with count moving) first.count) ≡ e.event ∷ []) (sym own)
        (first.events k l ∙ ap (λ (x : Outcome). x.events) own_call ∙ made.writes))

    silent : written image buffer one (scan_with count settling) second.count ≡ []
    silent =
        none_at_all _
        (by_position (λ p. events_at p (written image buffer one (scan_with count settling) second.count) ≡ [])
        (λ j inside.
        second.events j inside
        ∙ by_cases (ℕ_discrete j k)
        (λ s. rw s (ap (λ (x : Outcome). x.events) own_settled ∙ made.silent))
        (λ o. ap (λ (x : Outcome). x.events) (other_settled j inside o ∙ hold_call (kind j) (jobs (suc j)))))
        second.others)

    journal_grows : journal_of image buffer two ≡ journal_of image buffer h ++ (e ∷ [])
    journal_grows = second.journal ∙ rw (silent, append-nil) (first.journal ∙ ap (λ (x : List Posted). journal_of image buffer h ++ x) writes)

    rests_on : Rests image buffer two (opened_by e jobs)
    rests_on =
        record {
          framed = second.framed;
          accepted = and_scan (and_scan st.accepted first.count first.accepted) second.count second.accepted;
          rests = λ j inside.
              second.records j inside
              ∙ by_cases (ℕ_discrete j k)
              (λ s. rw (s, own_open) (ap (λ (x : Outcome). x.next) own_settled ∙ made.settles))
              (λ o. rw (other_open j inside o) (ap (λ (x : Outcome). x.next) (other_settled j inside o ∙ hold_call (kind j) (jobs (suc j)))));
        }

  -- scans that write events after others
  pub record Grown (h : Scans) (es : List Posted) : Type 0 where
    pub scans : Scans
    pub framed : FramesAreBytes scans
    pub accepted : EachAccepted image buffer scans
    pub journal : journal_of image buffer scans ≡ journal_of image buffer h ++ es

  -- an event of which none is bad is good
  good_first : (b : Bool) (x : Option ℕ) (m : ℕ) → cond b x (some m) ≡ none → b ≡ true
  good_first true x m h = refl
  good_first false x m h = absurd (some-ne-none m h)

  pub all_events : (m : ℕ) {es : List Posted} → All (λ e. EventFits e.event) es → (h : Scans) (jobs : OpenJobs) → Rests image buffer h jobs
      → first_bad (blocks_of image) jobs m es ≡ none → Grown h es
  unfolding first_bad
  all_events m nil h jobs st good =
      record { scans = h; framed = st.framed; accepted = st.accepted; journal = sym (append-nil (journal_of image buffer h)) }
  all_events m (cons {x = e} {xs = es} f fs) h jobs st good =
      let ok : is_good (blocks_of image) jobs e ≡ true = good_first (is_good (blocks_of image) jobs e) _ _ good in
      let k : ℕ = e.position - 1 in
      let g = good_at (blocks_of image) jobs e ok in
      let t = turn_cases (kind k) (jobs (suc k)) e.event g.turn in
      let after = rests_on h jobs st e f k g.position g.within t in
      let rest = all_events (suc m) fs (two h jobs st e f k g.position g.within t) (opened_by e jobs) after (rw ok at good) in
      record {
        scans = rest.scans;
        framed = rest.framed;
        accepted = rest.accepted;
        journal =
            rest.journal ∙ ap (λ (x : List Posted). x ++ es) (journal_grows h jobs st e f k g.position g.within t)
            ∙ append_assoc (journal_of image buffer h) (e ∷ []) es;
      }
