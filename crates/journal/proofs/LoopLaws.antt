-- The loop over the events: what is left of them, with the jobs that are open now, gives the whole answer. For the proof of `check::first_bad`.
use Prim.Native.Nat.{ℕ, zero, suc, ◌+◌, ◌/◌, ◌≤◌, ◌<◌}
use native.Mathlib.Numerals.{add-one}
use mathlib.Core.Bool.{true, false, cond}
use mathlib.Core.List.{List, [], ◌∷◌, map}
use mathlib.Core.Option.{Option, none, some}
use mathlib.Core.Path.{◌≡◌, refl, ap, sym, ◌∙◌}
use lib.ListN.{length, take, drop, get_or, replicate}
use lib.Seq.{drop-cons}
use Rattle.std.proofs.lemmas.List.{drop_all}
use Rattle.std.specs.Simd.{first_chunks}
use Rattle.table.specs.Blocks.{Block}
use Rattle.layout.specs.Buffer.{event_length}
use Rattle.layout.specs.EventLayout.{decode_event, decode_events}
use Rattle.layout.specs.declared.event.Posted.{Posted}
use Rattle.layout.proofs.EventLaws.{decode_first}
use Rattle.journal.specs.Check.{OpenJobs, none_open, opened_by, is_good, first_bad, events_of}

-- no job is open at first; std's get_or-replicate asks that p < n, and here p is any number
none_at : (n p : ℕ) → get_or (replicate n false) p false ≡ false
none_at zero p = refl
none_at (suc n) zero = refl
none_at (suc n) (suc p) = none_at n p

pub nothing_open : (n p : ℕ) (jobs : List ℕ) → ◌≡◌ {A = Option ℕ} (cond (get_or (replicate n false) p false) (some (get_or jobs p 0)) none) none
nothing_open n p jobs = rw (none_at n p) refl

-- the events of a journal, by its chunks
chunks_decoded : (n : ℕ) (s : List ℕ) → decode_events n s ≡ map decode_event (first_chunks event_length n s)
unfolding decode_events
chunks_decoded zero s = refl
chunks_decoded (suc n) s = decode_first n s ∙ (λ t. decode_event (take event_length s) ∷ chunks_decoded n (drop event_length s) t)

-- the events that are left after i good ones, with the jobs open now, give the whole answer
pub record Checking (blocks : List Block) (journal : List ℕ) (jobs : OpenJobs) (i : ℕ) (chunks : List (List ℕ)) : Type 0 where
  pub left : first_bad blocks none_open 0 (events_of journal) ≡ first_bad blocks jobs i (map decode_event (drop i chunks))

pub checking_starts : (blocks : List Block) (journal : List ℕ) (jobs : OpenJobs) → ((p : ℕ) → jobs p ≡ none) → (chunks : List (List ℕ))
    → chunks ≡ first_chunks event_length (length journal / event_length) journal → Checking blocks journal jobs 0 chunks
checking_starts blocks journal jobs nothing chunks is =
    let same : none_open ≡ jobs = λ t p. sym (nothing p) t in
    let all : events_of journal ≡ map decode_event chunks = chunks_decoded (length journal / event_length) journal ∙ ap (map decode_event) (sym is) in
    record { left = λ t. first_bad blocks (same t) 0 (all t) }

module _ {blocks : List Block} {journal : List ℕ} {jobs : OpenJobs} {i : ℕ} {chunks : List (List ℕ)} (h : Checking blocks journal jobs i chunks) where
  pub checking_ends : length chunks ≤ i → none ≡ first_bad blocks none_open 0 (events_of journal)
  unfolding first_bad
  checking_ends l = sym (h.left ∙ ap (λ (r : List (List ℕ)). first_bad blocks jobs i (map decode_event r)) (drop_all i chunks l))

  -- the event at index i, as the code reads it
  module _ (l : i < length chunks) (e : Posted) (read : e ≡ decode_event (get_or chunks i [])) where
    step : first_bad blocks none_open 0 (events_of journal)
        ≡ cond (is_good blocks jobs e) (first_bad blocks (opened_by e jobs) (suc i) (map decode_event (drop (i + 1) chunks))) (some (suc i))
    unfolding first_bad
    step =
        let next : drop i chunks ≡ get_or chunks i [] ∷ drop (i + 1) chunks = rw (add-one i) (drop-cons chunks i [] l) in
        h.left
        ∙ ap (λ (r : List (List ℕ)). first_bad blocks jobs i (map decode_event r)) next
        ∙ (λ t. first_bad blocks jobs i (sym read t ∷ map decode_event (drop (i + 1) chunks)))

    pub found_bad : is_good blocks jobs e ≡ false → some (i + 1) ≡ first_bad blocks none_open 0 (events_of journal)
    found_bad f = ap some (add-one i) ∙ sym (rw f at step)

    pub checking_on : is_good blocks jobs e ≡ true → (after : OpenJobs) → after ≡ opened_by e jobs → Checking blocks journal after (i + 1) chunks
    checking_on t after changed = record { left = rw (add-one i, changed) (rw (add-one i, t) at step) }
