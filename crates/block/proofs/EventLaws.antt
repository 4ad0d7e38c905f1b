-- The events of a call from a sound record, with a frame entry in form: none, a start, a finish, or a start and the finish of its job; they take
-- turns with the calls before and after, and a start has the job of the entry. For the journal of a list of scans.
use Prim.Native.Nat.{ℕ, ◌+◌, ◌≤◌}
use native.Mathlib.Omega.{arith}
use mathlib.Core.Bool.{Bool, true, false, ◌||◌}
use mathlib.Core.List.{List, [], ◌∷◌, ◌++◌}
use mathlib.Core.Option.{Option, some}
use mathlib.Core.Option.{none as nil}
use mathlib.Core.Path.{◌≡◌, ◌∙◌, refl, sym}
use lib.ListN.{length, length-append}
use Rattle.block.specs.Entry.{Entry, entry_fits}
use Rattle.block.specs.Event.{emitted, is_start, is_finish}
use Rattle.block.specs.Sound.{sound}
use Rattle.block.specs.Rules.{pass}
use Rattle.block.specs.Call.{Outcome, Call, stops, goes}
use Rattle.block.specs.Turns.{admits, has_start, Turns, end, turn, StartsHave, nothing, one}
use Rattle.block.specs.BlockInvariant.{open_job}
use Rattle.block.proofs.Phases.{rank}
use Rattle.block.specs.declared.record.Record.{Record}
use Rattle.block.specs.declared.event.Event.{Event}
use Rattle.block.specs.declared.entry.Inputs.{Inputs}
use Rattle.std.proofs.lemmas.Bool.{or_right}
use Rattle.block.proofs.Tests.{never}
use Rattle.block.proofs.Shapes.{is_done, is_error, is_aborted, Settled, idle, runs, aborts, shows, resets, withdraws, Shape, settled, settled_of}
use Rattle.block.proofs.Passes.{room, open_in, passed, room_most}
use Rattle.block.proofs.SoundLaws.{call_settled}
use Rattle.block.proofs.TurnLaws.{finish_not_start, start_turn, finish_turn}

-- the events of a call whose entry has this job, of a block of kind k
pub data CallEvents (k job : ℕ) : List Event → Type 0 where
  none : CallEvents k job []
  starts : (v : Event) → is_start v ≡ true → v.job ≡ job → admits k v ≡ true → CallEvents k job (v ∷ [])
  finishes : (v : Event) → is_finish v ≡ true → admits k v ≡ true → CallEvents k job (v ∷ [])
  both : (v w : Event) → is_start v ≡ true → v.job ≡ job → admits k v ≡ true → is_finish w ≡ true → w.job ≡ job → admits k w ≡ true → CallEvents k job (v ∷ w ∷ [])

pub turns_append : {k : ℕ} {p q s : Option ℕ} {a b : List Event} → Turns k p a q → Turns k q b s → Turns k p (a ++ b) s
turns_append end y = y
turns_append (turn v h x) y = turn v h (turns_append x y)

starts_append : {j : ℕ} (a b : List Event) → StartsHave j a → StartsHave j b → StartsHave j (a ++ b)
starts_append a b nothing y = y
starts_append a b (one {vs = vs} v h x) y = one v h (starts_append vs b x y)

pub has_start_append : (a b : List Event) → has_start (a ++ b) ≡ has_start a || has_start b
unfolding has_start
has_start_append [] b = refl
has_start_append (v ∷ vs) b = go (is_start v) (has_start_append vs b)
  where
    go : (y : Bool) → has_start (vs ++ b) ≡ has_start vs || has_start b → (y || has_start (vs ++ b)) ≡ ((y || has_start vs) || has_start b)
    go true h = refl
    go false h = h

-- from any shape: how the events of the rest of a call go
pub record Events (k : ℕ) (e : Entry) (r : Record) (o : Outcome) : Type 0 where
  pub turns : entry_fits e ≡ true → Turns k (open_in r) o.events (open_in o.next)
  pub jobs : StartsHave e.job o.events
  pub few : length o.events ≤ room r
  pub quiet : rank r ≤ 3 → has_start o.events ≡ false

pub events : {k : ℕ} {i : Inputs} {e : Entry} {r : Record} {o : Outcome} → Shape k (entry_fits e ≡ true) r → Call k i e r o → Events k e r o
events {k} {i} {e} s (stops r h) =
    let p = passed k i e s in
    let f : length (emitted (pass k i e r).event) + 0 ≤ room r = rw h at p.few in
    record { turns = p.turns; jobs = p.jobs; few = omega arith; quiet = p.quiet }
events {k} {i} {e} s (goes r o h c) =
    let p = passed k i e s in
    let l = p.lower h in
    let f : length (emitted (pass k i e r).event) + room (pass k i e r).next ≤ room r = rw h at p.few in
    let x = events p.after c in
    record {
      turns = λ g. turns_append (p.turns g) (x.turns g);
      jobs = starts_append _ _ p.jobs x.jobs;
      few = simp length-append (omega (arith, x.few));
      quiet = λ q. rw (has_start_append, p.quiet q) (x.quiet (omega arith));
    }

-- between calls a job is open in Executing and Aborting
pub settled_open : {k : ℕ} {F : Type 0} {r : Record} → Settled k F r → open_in r ≡ open_job r
unfolding open_in
settled_open idle = refl
settled_open (runs x) = refl
settled_open (aborts a x) = refl
settled_open (shows is_done f x) = refl
settled_open (shows is_error f x) = refl
settled_open (shows is_aborted f x) = refl
settled_open (resets z f x) = refl
settled_open (withdraws a x) = refl

pub call_turns : {k : ℕ} {i : Inputs} {e : Entry} {r : Record} {o : Outcome} → entry_fits e ≡ true → sound k r ≡ true → Call k i e r o
    → Turns k (open_job r) o.events (open_job o.next)
call_turns {k} {i} {e} {r} {o} fits h c =
    let s = settled_of k (entry_fits e ≡ true) r h in
    rw (settled_open (call_settled (settled s) c)) at (rw (settled_open s) at ((events (settled s) c).turns fits))

pub call_jobs : {k : ℕ} {i : Inputs} {e : Entry} {r : Record} {o : Outcome} → sound k r ≡ true → Call k i e r o → StartsHave e.job o.events
call_jobs {k} {i} {e} {r} {o} h c = (events (settled (settled_of k (entry_fits e ≡ true) r h)) c).jobs

-- turns that begin with no job open, of at most two events; and turns that begin with one open and have no start
events_of_none : {k : ℕ} {q : Option ℕ} (job : ℕ) {es : List Event} → Turns k nil es q → length es ≤ 2 → StartsHave job es → CallEvents k job es
events_of_none job {es = []} t l s = none
events_of_none {k} job {es = _ ∷ []} (turn v h t) l (one u j s) = let a = start_turn k v h in starts v a.0 (j a.0) a.1
events_of_none {k} job {es = _ ∷ _ ∷ []} (turn v h (turn w g t)) l (one u j s) =
    let a = start_turn k v h in
    let b = finish_turn k v.job w (rw a.0 at g) in
    both v w a.0 (j a.0) a.1 b.0 (b.2 ∙ j a.0) b.1
events_of_none job {es = v ∷ w ∷ x ∷ es} t l s = let z : ⊥ = omega arith in absurd z

events_of_some : {k j : ℕ} {q : Option ℕ} (job : ℕ) {es : List Event} → Turns k (some j) es q → has_start es ≡ false → CallEvents k job es
unfolding has_start
events_of_some job {es = []} t n = none
events_of_some {k} {j} job {es = _ ∷ []} (turn v h t) n = let a = finish_turn k j v h in finishes v a.0 a.1
events_of_some {k} {j} job {es = _ ∷ _ ∷ _} (turn v h (turn w g t)) n =
    let none_open = finish_not_start v (finish_turn k j v h).0 in
    let f = (start_turn k w (rw none_open at g)).0 in
    never (sym (rw f (or_right (is_start v) true refl)) ∙ n)

-- between calls no job is open, or no start comes before its finish
settled_cases : {k : ℕ} {F A : Type 0} {r : Record} → Settled k F r → (open_in r ≡ nil → A) → ((j : ℕ) → open_in r ≡ some j → rank r ≤ 3 → A) → A
unfolding open_in rank
settled_cases idle f g = f refl
settled_cases (runs x) f g = g _ refl (omega arith)
settled_cases (aborts a x) f g = g _ refl (omega arith)
settled_cases (shows is_done z x) f g = f refl
settled_cases (shows is_error z x) f g = f refl
settled_cases (shows is_aborted z x) f g = f refl
settled_cases (resets z y x) f g = f refl
settled_cases (withdraws a x) f g = f refl

pub call_events : {k : ℕ} {i : Inputs} {e : Entry} {r : Record} {o : Outcome} → entry_fits e ≡ true → sound k r ≡ true → Call k i e r o → CallEvents k e.job o.events
call_events {k} {i} {e} {r} {o} fits h c =
    let s = settled_of k (entry_fits e ≡ true) r h in
    let x = events (settled s) c in
    settled_cases s
    (λ n. events_of_none e.job (rw n at (x.turns fits)) (omega (arith, x.few, room_most r)) x.jobs)
    (λ j n l. events_of_some e.job (rw n at (x.turns fits)) (x.quiet l))
