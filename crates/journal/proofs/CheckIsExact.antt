-- Event by event, just the journals that the rules allow are accepted, and the first event by which a rule is broken is found: specs/CheckIsExact.antt. For the reader of request 6/14, and
-- for the theorem that accepted journals are those that scans write.
use Prim.Native.Nat.{ℕ, zero, suc, ◌+◌, ◌-◌, ◌≤◌, ◌<◌}
use native.Mathlib.Decide.{ℕ_discrete, dec_lt}
use native.Mathlib.Omega.{arith}
use mathlib.Core.Bool.{Bool, true, false, cond}
use mathlib.Core.List.{List, [], ◌∷◌}
use mathlib.Core.Logic.{◌≢◌}
use mathlib.Core.Option.{Option, none, some, some-ne-none}
use mathlib.Core.Path.{◌≡◌, refl, ap, sym, ◌∙◌, subst}
use lib.Dec.{leb}
use lib.ListN.{length, take}
use lib.Seq.{take-take}
use borrow.Author.Tests.{eq-eqb, ne_eqb, le-leb}
use Rattle.membership.specs.Membership.{within}
use Rattle.membership.proofs.MembershipLaws.{within_bounds}
use Rattle.membership.proofs.Logic.{not_both, and_left, and_right}
use Rattle.std.proofs.lemmas.Bool.{and_from}
use Rattle.table.specs.Blocks.{Block, block_at}
use Rattle.layout.specs.EventLayout.{events_at}
use Rattle.layout.specs.declared.event.Posted.{Posted}
use Rattle.layout.proofs.EventLaws.{at_here, at_elsewhere}
use Rattle.block.specs.Turns.{Turns, end, turn, takes_turn, open_after}
use Rattle.block.specs.declared.event.Event.{Event}
use Rattle.journal.specs.Allowed.{Allowed}
use Rattle.journal.specs.Check.{OpenJobs, none_open, opened_by, is_good, first_bad}
use Rattle.journal.specs.CheckIsExact.{CheckIsExact}

-- the rules from some open jobs on
record AllowedFrom (blocks : List Block) (jobs : OpenJobs) (es : List Posted) : Type 0 where
  pub turns : (k : ℕ) → k < length blocks → (q : Option ℕ) × Turns (block_at blocks k).kind (jobs (suc k)) (events_at (suc k) es) q
  pub positions : (p : ℕ) → ((k : ℕ) → k < length blocks → p ≢ suc k) → events_at p es ≡ []

-- the block at index k has the good event, and it takes its turn there
pub record GoodAt (blocks : List Block) (jobs : OpenJobs) (e : Posted) (k : ℕ) : Type 0 where
  pub position : e.position ≡ suc k
  pub within : k < length blocks
  pub turn : takes_turn (block_at blocks k).kind (jobs (suc k)) e.event ≡ true

module _ (blocks : List Block) (jobs : OpenJobs) (e : Posted) where
  abbrev in_table : Bool
  in_table = within 1 (length blocks) e.position

  abbrev takes : Bool
  takes = takes_turn (block_at blocks (e.position - 1)).kind (jobs e.position) e.event

  pub good_at : is_good blocks jobs e ≡ true → GoodAt blocks jobs e (e.position - 1)
  unfolding is_good
  good_at h =
      let inside = within_bounds 1 (length blocks) e.position (and_left in_table takes h) in
      let own : e.position ≡ suc (e.position - 1) = omega arith in
      record {
        position = own;
        within = omega arith;
        turn = subst (λ (p : ℕ). takes_turn (block_at blocks (e.position - 1)).kind (jobs p) e.event ≡ true) own (and_right in_table takes h);
      }

  at_good : (k : ℕ) → GoodAt blocks jobs e k → is_good blocks jobs e ≡ true
  unfolding is_good
  at_good k g =
      let own = g.position in
      let inside = g.within in
      let index : e.position - 1 ≡ k = omega arith in
      and_from in_table takes
      (and_from (leb 1 e.position) (leb e.position (length blocks)) (le-leb 1 e.position (omega arith)) (le-leb e.position (length blocks) (omega arith)))
      (rw (index, own) g.turn)

-- a list with an event is not empty
pub cons_not_nil : {A : Type 0} {v : Event} {vs : List Event} → v ∷ vs ≡ [] → A
cons_not_nil h = let z : ◌≡◌ {A = ℕ} 0 1 = cc in absurd (omega arith)

module _ (blocks : List Block) (jobs : OpenJobs) (e : Posted) (es : List Posted) where
  -- an event and those after it are allowed where it is good, and they are allowed with the jobs open after it
  allowed_on : is_good blocks jobs e ≡ true → AllowedFrom blocks (opened_by e jobs) es → AllowedFrom blocks jobs (e ∷ es)
  allowed_on h f = record { turns = turns; positions = positions }
    where
      g : GoodAt blocks jobs e (e.position - 1)
      g = good_at blocks jobs e h

      turns : (k : ℕ) → k < length blocks → (q : Option ℕ) × Turns (block_at blocks k).kind (jobs (suc k)) (events_at (suc k) (e ∷ es)) q
      turns k l = by (ℕ_discrete e.position (suc k)) (f.turns k l)
        where
          by : Dec (e.position ≡ suc k) → (q : Option ℕ) × Turns (block_at blocks k).kind (opened_by e jobs (suc k)) (events_at (suc k) es) q
              → (q : Option ℕ) × Turns (block_at blocks k).kind (jobs (suc k)) (events_at (suc k) (e ∷ es)) q
          by (yes own) t =
              let index : e.position - 1 ≡ k = omega arith in
              let rest : Turns (block_at blocks k).kind (open_after e.event) (events_at (suc k) es) t.0 = rw (eq-eqb (suc k) e.position (sym own)) at t.1 in
              (t.0, rw (at_here (suc k) e es own) (turn e.event (rw index at g.turn) rest))
          by (no other) t = (t.0, rw (at_elsewhere (suc k) e es other) (rw (ne_eqb (suc k) e.position (λ own. other (sym own))) at t.1))

      positions : (p : ℕ) → ((k : ℕ) → k < length blocks → p ≢ suc k) → events_at p (e ∷ es) ≡ []
      positions p o =
          let own = g.position in
          at_elsewhere p e es (λ i. o (e.position - 1) g.within (sym i ∙ own)) ∙ f.positions p o

  -- and back
  allowed_back : AllowedFrom blocks jobs (e ∷ es) → (is_good blocks jobs e ≡ true) × AllowedFrom blocks (opened_by e jobs) es
  allowed_back f = (at_good blocks jobs e (e.position - 1) (block e.position refl), record { turns = turns; positions = positions })
    where
      -- its position is a block's: at any other there is no event
      not_empty : (p : ℕ) → e.position ≡ p → events_at p (e ∷ es) ≡ [] → ⊥
      not_empty p own h = cons_not_nil (sym (at_here p e es own) ∙ h)

      -- the turns at its own position
      own_turn : (k : ℕ) → e.position ≡ suc k → (q : Option ℕ) × Turns (block_at blocks k).kind (jobs (suc k)) (events_at (suc k) (e ∷ es)) q
          → (takes_turn (block_at blocks k).kind (jobs (suc k)) e.event ≡ true) × ((q : Option ℕ) × Turns (block_at blocks k).kind (open_after e.event) (events_at (suc k) es) q)
      own_turn k own t = taken (rw (at_here (suc k) e es own) at t.1)
        where
          taken : Turns (block_at blocks k).kind (jobs (suc k)) (e.event ∷ events_at (suc k) es) t.0
              → (takes_turn (block_at blocks k).kind (jobs (suc k)) e.event ≡ true) × ((q : Option ℕ) × Turns (block_at blocks k).kind (open_after e.event) (events_at (suc k) es) q)
          taken (turn v h r) = (h, (t.0, r))

      block : (p : ℕ) → e.position ≡ p → GoodAt blocks jobs e (e.position - 1)
      block zero own = absurd (not_empty 0 own (f.positions 0 (λ k l z. omega arith)))
      block (suc k) own = by (dec_lt k (length blocks))
        where
          by : Dec (k < length blocks) → GoodAt blocks jobs e (e.position - 1)
          by (yes l) =
              let index : e.position - 1 ≡ k = omega arith in
              rw index (record { position = own; within = l; turn = (own_turn k own (f.turns k l)).0 })
          by (no n) = absurd (not_empty (suc k) own (f.positions (suc k) (λ j l z. n (omega arith))))

      turns : (k : ℕ) → k < length blocks → (q : Option ℕ) × Turns (block_at blocks k).kind (opened_by e jobs (suc k)) (events_at (suc k) es) q
      turns k l = by (ℕ_discrete e.position (suc k)) (f.turns k l)
        where
          by : Dec (e.position ≡ suc k) → (q : Option ℕ) × Turns (block_at blocks k).kind (jobs (suc k)) (events_at (suc k) (e ∷ es)) q
              → (q : Option ℕ) × Turns (block_at blocks k).kind (opened_by e jobs (suc k)) (events_at (suc k) es) q
          by (yes own) t = rw (eq-eqb (suc k) e.position (sym own)) (own_turn k own t).1
          by (no other) t = rw (ne_eqb (suc k) e.position (λ own. other (sym own))) (t.0, rw (at_elsewhere (suc k) e es other) at t.1)

      positions : (p : ℕ) → ((k : ℕ) → k < length blocks → p ≢ suc k) → events_at p es ≡ []
      positions p o = sym (at_elsewhere p e es (λ own. not_empty p own (f.positions p o))) ∙ f.positions p o

none_allowed : (blocks : List Block) (jobs : OpenJobs) → AllowedFrom blocks jobs []
unfolding events_at
none_allowed blocks jobs = record { turns = λ k l. (jobs (suc k), end); positions = λ p o. refl }

-- the first events of allowed ones are allowed
allowed_take : (blocks : List Block) (m : ℕ) (es : List Posted) (jobs : OpenJobs) → AllowedFrom blocks jobs es → AllowedFrom blocks jobs (take m es)
allowed_take blocks zero es jobs f = none_allowed blocks jobs
allowed_take blocks (suc m) [] jobs f = none_allowed blocks jobs
allowed_take blocks (suc m) (e ∷ es) jobs f =
    let b = allowed_back blocks jobs e es f in
    allowed_on blocks jobs e (take m es) b.0 (allowed_take blocks m es (opened_by e jobs) b.1)

-- What is found of events that come after n good ones: all are allowed, or the first m are, and with the next one they are not.
data Found (blocks : List Block) (jobs : OpenJobs) (n : ℕ) (es : List Posted) : Option ℕ → Type 0 where
  good : AllowedFrom blocks jobs es → Found blocks jobs n es none
  bad : (m number : ℕ) → number ≡ suc (n + m) → m < length es → AllowedFrom blocks jobs (take m es) → (AllowedFrom blocks jobs (take (suc m) es) → ⊥) → Found blocks jobs n es (some number)

found : (blocks : List Block) (es : List Posted) (jobs : OpenJobs) (n : ℕ) → Found blocks jobs n es (first_bad blocks jobs n es)
unfolding first_bad
found blocks [] jobs n = good (none_allowed blocks jobs)
found blocks (e ∷ es) jobs n = by (is_good blocks jobs e) refl (found blocks es (opened_by e jobs) (suc n))
  where
    further : (x : Option ℕ) → is_good blocks jobs e ≡ true → Found blocks (opened_by e jobs) (suc n) es x → Found blocks jobs n (e ∷ es) x
    further x h (good f) = good (allowed_on blocks jobs e es h f)
    further x h (bad m number i l f g) =
        bad (suc m) number (omega arith) (omega arith) (allowed_on blocks jobs e (take m es) h f) (λ a. g (allowed_back blocks jobs e (take (suc m) es) a).1)

    by : (b : Bool) → is_good blocks jobs e ≡ b → Found blocks (opened_by e jobs) (suc n) es (first_bad blocks (opened_by e jobs) (suc n) es)
        → Found blocks jobs n (e ∷ es) (cond b (first_bad blocks (opened_by e jobs) (suc n) es) (some (suc n)))
    by true h x = further (first_bad blocks (opened_by e jobs) (suc n) es) h x
    by false h x = bad 0 (suc n) (omega arith) (omega arith) (none_allowed blocks jobs) (λ a. not_both (is_good blocks jobs e) (allowed_back blocks jobs e [] a).0 h)

module _ (blocks : List Block) (es : List Posted) where
  abbrev Good : List Posted → Type 0
  Good l = AllowedFrom blocks none_open l

  to_allowed : (l : List Posted) → Good l → Allowed blocks l
  to_allowed l f = record { turns = f.turns; positions = f.positions }

  from_allowed : (l : List Posted) → Allowed blocks l → Good l
  from_allowed l f = record { turns = f.turns; positions = f.positions }

  accepted : (x : Option ℕ) → Found blocks none_open 0 es x → x ≡ none → Allowed blocks es
  accepted none (good f) h = to_allowed es f
  accepted (some n) (bad m number i l f g) h = absurd (some-ne-none n h)

  accepts : (x : Option ℕ) → Found blocks none_open 0 es x → Allowed blocks es → x ≡ none
  accepts none (good f) a = refl
  accepts (some n) (bad m number i l f g) a = absurd (g (allowed_take blocks (suc m) es none_open (from_allowed es a)))

  -- a shorter front of an allowed one is allowed
  front : (m n : ℕ) → m ≤ n → Good (take n es) → Good (take m es)
  front m n l f = rw (take-take m n es l) at (allowed_take blocks m (take n es) none_open f)

  refused : (x : Option ℕ) → Found blocks none_open 0 es x → (n : ℕ) → x ≡ some n
      → (1 ≤ n) × (n ≤ length es) × ((m : ℕ) → m < n → Allowed blocks (take m es)) × (Allowed blocks (take n es) → ⊥)
  refused none (good f) n h = absurd (some-ne-none n (sym h))
  refused (some k) (bad m number i l f g) n h =
      let same : number ≡ n = cc in
      let e : n ≡ suc m = omega arith in
      (omega arith, omega arith, λ j s. to_allowed (take j es) (front j m (omega arith) f), λ a. g (rw e at (from_allowed (take n es) a)))

  refuses : (x : Option ℕ) → Found blocks none_open 0 es x → (n : ℕ) → n < length es → Allowed blocks (take n es) → (Allowed blocks (take (suc n) es) → ⊥) → x ≡ some (suc n)
  refuses none (good f) n l a b = absurd (b (to_allowed (take (suc n) es) (allowed_take blocks (suc n) es none_open f)))
  refuses (some k) (bad m number i h f g) n l a b = ap some (by (dec_lt m n) (dec_lt n m))
    where
      by : Dec (m < n) → Dec (n < m) → number ≡ suc n
      by (yes s) d = absurd (g (front (suc m) n s (from_allowed (take n es) a)))
      by (no s) (yes t) = absurd (b (to_allowed (take (suc n) es) (front (suc n) m t f)))
      by (no s) (no t) = omega arith

pub check_is_exact : CheckIsExact
check_is_exact blocks es =
    let x = first_bad blocks none_open 0 es in
    let f = found blocks es none_open 0 in
    record {
      accepted = accepted blocks es x f;
      accepts = accepts blocks es x f;
      refused = refused blocks es x f;
      refuses = refuses blocks es x f;
    }
