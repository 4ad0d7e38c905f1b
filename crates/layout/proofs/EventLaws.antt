-- Journal events: each read back and written back, a journal that begins with encoded events or is nothing else, and the events of one position.
-- For the engine's journal, for the journal of a list of scans, and for crates that read journals.
use Prim.Native.Nat.{ℕ, zero, suc, ◌+◌, ◌*◌, ◌≤◌}
use mathlib.Core.Path.{◌≡◌, refl, ap, sym, ◌∙◌}
use mathlib.Core.Bool.{Bool, true, false, cond}
use mathlib.Core.List.{List, [], ◌∷◌, ◌++◌, append_assoc, append-nil}
use native.Mathlib.Omega.{arith}
use native.Mathlib.Nat.{add-suc, add-zero}
use lib.Dec.{eqb}
use lib.ListN.{length, take, drop, length-append, length-drop, take-append-drop}
use lib.Seq.{drop-drop, take_at, drop_at, length-take-le}
use Rattle.std.proofs.lemmas.List.{take-append-le, drop-append-le}
use borrow.Author.Tests.{eq-eqb, ne_eqb}
use Rattle.membership.proofs.Logic.{by_test}
use Rattle.words.specs.Word.{Bytes, bytes}
use Rattle.words.proofs.WordLaws.{number_of_bytes}
use Rattle.block.specs.declared.event.Event.{Event}
use Rattle.layout.specs.Buffer.{event_length, job_width}
use Rattle.layout.specs.EventLayout.{event_offset, encode_event, decode_event, encode_events, decode_events, events_at}
use Rattle.layout.specs.declared.event.Posted.{Posted}
use Rattle.layout.proofs.Fits.{All, nil, cons, EventFits}
use Rattle.layout.proofs.BufferLaws.{bytes_take, bytes_drop}
use Rattle.layout.proofs.FieldLaws.{field_bound, field_back, field_last, byte_back}

pub event_length_lem : (k : ℕ) (v : Event) → length (encode_event k v) ≡ event_length
unfolding encode_event bytes
event_length_lem k v = refl

pub decode_encode : (k : ℕ) (v : Event) → EventFits v → decode_event (encode_event k v) ≡ record { position = k; event = v }
unfolding decode_event encode_event bytes
decode_encode k v h =
    λ i. record {
      position = k;
      event = record { kind = v.kind; code = number_of_bytes 2 v.code h.code i; job = number_of_bytes job_width v.job h.job i };
    }

pub encode_decode : (s : List ℕ) → length s ≡ event_length → Bytes s → encode_event (decode_event s).position (decode_event s).event ≡ s
unfolding encode_event decode_event
encode_decode s l b =
    byte_back event_offset.kind _ s _ (omega arith) refl
    (byte_back event_offset.position _ s _ (omega arith) refl
    (field_back 2 event_offset.code s _ b (omega arith)
    (field_last job_width event_offset.job s b l)))

-- what is read fits
pub decode_fits : (s : List ℕ) → Bytes s → EventFits (decode_event s).event
unfolding decode_event
decode_fits s b = record { code = field_bound 2 event_offset.code s b; job = field_bound job_width event_offset.job s b }

-- events of any positions, one after the other
unfoldable pub encode_posted : List Posted → List ℕ
encode_posted [] = []
encode_posted (p ∷ ps) = encode_event p.position p.event ++ encode_posted ps

-- the events of a block with its position
unfoldable pub posted : ℕ → List Event → List Posted
posted position [] = []
posted position (v ∷ vs) = record { position = position; event = v } ∷ posted position vs

-- lists of events: their lengths, and the events of a block as events of its position
pub posted_length : (k : ℕ) (vs : List Event) → length (posted k vs) ≡ length vs
unfolding posted
posted_length k [] = refl
posted_length k (v ∷ vs) = ap suc (posted_length k vs)

pub posted_events : (k : ℕ) (vs : List Event) → encode_events k vs ≡ encode_posted (posted k vs)
unfolding posted encode_events encode_posted
posted_events k [] = refl
posted_events k (v ∷ vs) = ap {B = List ℕ} (λ l. encode_event k v ++ l) (posted_events k vs)

pub posted_fits : (k : ℕ) {vs : List Event} → All EventFits vs → All (λ p. EventFits p.event) (posted k vs)
unfolding posted
posted_fits k nil = nil
posted_fits k (cons h a) = cons h (posted_fits k a)

pub encode_length : (ps : List Posted) → length (encode_posted ps) ≡ event_length * length ps
unfolding encode_posted
encode_length [] = refl
encode_length (p ∷ ps) = rw length-append (omega (arith, event_length_lem p.position p.event, encode_length ps))

pub events_length : (k : ℕ) (vs : List Event) → length (encode_events k vs) ≡ event_length * length vs
events_length k vs = rw posted_events (encode_length (posted k vs) ∙ ap (λ (n : ℕ). event_length * n) (posted_length k vs))

-- the first n events, and m more after them
pub decode_split : (n m : ℕ) (s : List ℕ) → decode_events (n + m) s ≡ decode_events n s ++ decode_events m (drop (event_length * n) s)
unfolding decode_events
decode_split n zero s = rw (add-zero, append-nil)
decode_split n (suc m) s =
    let e : n + suc m ≡ suc (n + m) = add-suc n m in
    let d : event_length * (n + m) ≡ event_length * n + event_length * m = omega arith in
    rw (e, decode_split n m s, d, ← drop-drop (event_length * m) (event_length * n) s, append_assoc)

-- the first events stand in front, and are those of the front alone
pub decode_front : (n : ℕ) (p x : List ℕ) → event_length * n ≤ length p → decode_events n (p ++ x) ≡ decode_events n p
unfolding decode_events
decode_front zero p x h = refl
decode_front (suc n) p x h =
    let a : event_length * n ≤ length p = omega arith in
    let b : event_length ≤ length (drop (event_length * n) p) = simp length-drop (omega arith) in
    rw (drop-append-le, take-append-le, decode_front n p x a)

pub decode_taken : (n : ℕ) (s : List ℕ) → event_length * n ≤ length s → decode_events n (take (event_length * n) s) ≡ decode_events n s
decode_taken n s h =
    let m : ℕ = event_length * n in
    sym (decode_front n (take m s) (drop m s) (omega (arith, length-take-le m s h))) ∙ ap (decode_events n) (take-append-drop m s)

-- the first event, and m more
one_event : (s : List ℕ) → decode_events 1 s ≡ decode_event (take event_length s) ∷ []
unfolding decode_events
one_event s = refl

pub decode_first : (m : ℕ) (s : List ℕ) → decode_events (suc m) s ≡ decode_event (take event_length s) ∷ decode_events m (drop event_length s)
decode_first m s =
    let e : suc m ≡ 1 + m = omega arith in
    rw (e, decode_split 1 m s, one_event s)

-- a journal that begins with encoded events
first_posted : (p : Posted) (ps : List Posted) (rest : List ℕ) → encode_posted (p ∷ ps) ++ rest ≡ encode_event p.position p.event ++ (encode_posted ps ++ rest)
unfolding encode_posted
first_posted p ps rest = append_assoc (encode_event p.position p.event) (encode_posted ps) rest

pub decode_posted : (rest : List ℕ) {ps : List Posted} → All (λ p. EventFits p.event) ps → decode_events (length ps) (encode_posted ps ++ rest) ≡ ps
unfolding decode_events
decode_posted rest nil = refl
decode_posted rest (cons {x = p} {xs = ps} h a) =
    let e : List ℕ = encode_event p.position p.event in
    let r : List ℕ = encode_posted ps ++ rest in
    let l : length e ≡ event_length = event_length_lem p.position p.event in
    ap (λ (s : List ℕ). decode_events (suc (length ps)) s) (first_posted p ps rest)
    ∙ decode_first (length ps) (e ++ r)
    ∙ rw (take_at e r event_length l, drop_at e r event_length l, decode_encode p.position p.event h, decode_posted rest a)

-- a journal that is n events: how many, each fits, and written back
pub decoded_length : (n : ℕ) (s : List ℕ) → length (decode_events n s) ≡ n
unfolding decode_events
decoded_length zero s = refl
decoded_length (suc n) s = rw length-append (omega (arith, decoded_length n s))

pub journal_fits : (n : ℕ) (s : List ℕ) → Bytes s → All (λ p. EventFits p.event) (decode_events n s)
unfolding decode_events
journal_fits zero s b = nil
journal_fits (suc n) s b =
    rw (decode_first n s)
    (cons (decode_fits (take event_length s) (bytes_take event_length s b)) (journal_fits n (drop event_length s) (bytes_drop event_length s b)))

pub journal_back : (n : ℕ) (s : List ℕ) → length s ≡ event_length * n → Bytes s → encode_posted (decode_events n s) ≡ s
unfolding encode_posted decode_events
journal_back zero s l b = sym (nothing s l)
  where
    nothing : (s : List ℕ) → length s ≡ 0 → s ≡ []
    nothing [] e = refl
    nothing (x ∷ s) e = absurd (omega arith)
journal_back (suc n) s l b =
    let first : List ℕ = take event_length s in
    let rest : List ℕ = drop event_length s in
    let fl : length first ≡ event_length = length-take-le event_length s (omega arith) in
    let rl : length rest ≡ event_length * n = length-drop event_length s ∙ omega arith in
    ap encode_posted (decode_first n s)
    ∙ (λ i. encode_decode first fl (bytes_take event_length s b) i ++ journal_back n rest rl (bytes_drop event_length s b) i)
    ∙ take-append-drop event_length s

pub encode_append : (ps qs : List Posted) → encode_posted (ps ++ qs) ≡ encode_posted ps ++ encode_posted qs
unfolding encode_posted
encode_append [] qs = refl
encode_append (p ∷ ps) qs =
    let e : List ℕ = encode_event p.position p.event in
    ap (λ (x : List ℕ). e ++ x) (encode_append ps qs) ∙ sym (append_assoc e (encode_posted ps) (encode_posted qs))

-- the events of one position: of an event and those after it
pub at_here : (k : ℕ) (p : Posted) (ps : List Posted) → p.position ≡ k → events_at k (p ∷ ps) ≡ p.event ∷ events_at k ps
unfolding events_at
at_here k p ps e = rw (eq-eqb p.position k e)

pub at_elsewhere : (k : ℕ) (p : Posted) (ps : List Posted) → (p.position ≡ k → ⊥) → events_at k (p ∷ ps) ≡ events_at k ps
unfolding events_at
at_elsewhere k p ps h = rw (ne_eqb p.position k h)

-- of two journals joined, no more than there are events, and of one block's events
keep : (b : Bool) (v : Event) (l m : List Event) → cond b (v ∷ (l ++ m)) (l ++ m) ≡ cond b (v ∷ l) l ++ m
keep true v l m = refl
keep false v l m = refl

pub at_append : (k : ℕ) (ps qs : List Posted) → events_at k (ps ++ qs) ≡ events_at k ps ++ events_at k qs
unfolding events_at
at_append k [] qs = refl
at_append k (p ∷ ps) qs = rw (at_append k ps qs) (keep (eqb p.position k) p.event (events_at k ps) (events_at k qs))

pub at_most : (k : ℕ) (ps : List Posted) → length (events_at k ps) ≤ length ps
unfolding events_at
at_most k [] = omega arith
at_most k (p ∷ ps) = let h = at_most k ps in by_test (eqb p.position k) (λ t. rw t (omega arith)) (λ t. rw t (omega arith))

pub at_own : (k : ℕ) (vs : List Event) → events_at k (posted k vs) ≡ vs
unfolding events_at posted
at_own k [] = refl
at_own k (v ∷ vs) = rw (eq-eqb k k refl, at_own k vs)

pub at_other : (j k : ℕ) (vs : List Event) → (k ≡ j → ⊥) → events_at j (posted k vs) ≡ []
unfolding events_at posted
at_other j k [] h = refl
at_other j k (v ∷ vs) h = rw (ne_eqb k j h, at_other j k vs h)
