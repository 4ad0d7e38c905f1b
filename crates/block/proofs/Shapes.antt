-- The shapes that a record takes between the passes of a call; between calls they are the sound records. For the laws of calls.
use Prim.Native.Nat.{ℕ, ◌≤◌}
use native.Mathlib.Omega.{arith}
use mathlib.Core.Bool.{Bool, true, false, not, ◌&&◌, ◌||◌, beq}
use mathlib.Core.List.{[], ◌∷◌}
use mathlib.Core.Path.{◌≡◌, refl, sym, subst}
use lib.Dec.{eqb, leb}
use borrow.Author.Tests.{not-true, not-false, eqb-true, leb-true, leb-false, le-leb}
use Rattle.kind.specs.Kind.{is_kind, is_edge, has_abort, can_abort, has_time_limit, has_time_out, is_continuous}
use Rattle.clock.specs.Clock.{most_elapsed}
use Rattle.clock.specs.declared.Timer.{Timer}
use Rattle.block.specs.Record.{Dormant, Executing, Done, Error, Aborting, Aborted, Resetting, TimedOut, fresh_record}
use Rattle.block.specs.Sound.{only, busy_only, done_only, error_only, aborted_only, implies, zeroed, flags_fit, code_sound, request_sound, step_sound, times_sound, sound}
use Rattle.block.specs.declared.record.Flags.{Flags}
use Rattle.block.specs.declared.record.Record.{Record}
use Rattle.membership.proofs.Logic.{by_test, and_left, and_right}
use Rattle.block.proofs.Tests.{none, beq_true, or_cases, Each, each, to_six}

-- the three end steps
pub data End : Type 0 where
  is_done is_error is_aborted : End

abbrev pub end_step : End → ℕ
end_step is_done = Done
end_step is_error = Error
end_step is_aborted = Aborted

abbrev pub flags_of : Bool → Bool → Bool → Bool → Flags
flags_of b d x a = record { busy = b; done = d; error = x; aborted = a }

abbrev pub busy : Flags
busy = flags_of true false false false

abbrev pub end_flags : End → Flags
end_flags is_done = flags_of false true false false
end_flags is_error = flags_of false false true false
end_flags is_aborted = flags_of false false false true

abbrev pub rec : ℕ → Flags → Bool → ℕ → ℕ → ℕ → ℕ → Timer → Record
rec n f q j c l t w = record { step = n; flags = f; request = q; job = j; code = c; limit = l; timeout = t; timer = w }

-- the times of a sound record, and the code of its error
abbrev pub times_fit : ℕ → ℕ → ℕ → Timer → Bool
times_fit k l t w = leb w.elapsed most_elapsed && (eqb l 0 || (is_edge k && has_time_limit k)) && (eqb t 0 || (is_edge k && has_time_out k))

abbrev pub error_code : ℕ → ℕ → Bool
error_code k c = not (eqb c 0) && implies (eqb c TimedOut) (has_time_out k)

-- what an end step says of the kind, the request and the code; of the code under F, that the frame's entry is in form
abbrev pub EndFits : ℕ → Type 0 → End → Bool → ℕ → Type 0
EndFits k F is_done q c = (c ≡ 0) × (is_continuous k ≡ false) × (is_edge k ≡ false → q ≡ false)
EndFits k F is_error q c = F → error_code k c ≡ true
EndFits k F is_aborted q c = (c ≡ 0) × (has_abort k ≡ true)

-- between calls
pub data Settled (k : ℕ) (F : Type 0) : Record → Type 0 where
  idle : Settled k F fresh_record
  runs : {j l t : ℕ} {w : Timer} → times_fit k l t w ≡ true → Settled k F (rec Executing busy false j 0 l t w)
  aborts : {j l t : ℕ} {w : Timer} → (is_edge k ≡ true → has_abort k ≡ true) → times_fit k l t w ≡ true → Settled k F (rec Aborting busy false j 0 l t w)
  shows : (z : End) {q : Bool} {j c l t : ℕ} {w : Timer} → EndFits k F z q c → times_fit k l t w ≡ true → Settled k F (rec (end_step z) (end_flags z) q j c l t w)
  resets : (z : End) {q : Bool} {j c l t : ℕ} {w : Timer} → EndFits k F z q c → times_fit k l t w ≡ true → Settled k F (rec Resetting (end_flags z) q j c l t w)
  withdraws : {j l t : ℕ} {w : Timer} → is_edge k ≡ false → times_fit k l t w ≡ true → Settled k F (rec Resetting busy false j 0 l t w)

-- between passes: also an end step that is not shown yet
pub data Shape (k : ℕ) (F : Type 0) : Record → Type 0 where
  settled : {r : Record} → Settled k F r → Shape k F r
  unshown : (z : End) {j c l t : ℕ} {w : Timer} → EndFits k F z false c → times_fit k l t w ≡ true → Shape k F (rec (end_step z) busy false j c l t w)

-- the sentences of soundness
record Parts (k : ℕ) (r : Record) : Type 0 where
  zero : implies (eqb r.step Dormant) (zeroed r) ≡ true
  flags : flags_fit k r.step r.flags ≡ true
  code : code_sound k r ≡ true
  request : request_sound k r ≡ true
  step : step_sound k r ≡ true
  times : times_sound k r ≡ true

parts : (k : ℕ) (r : Record) → sound k r ≡ true → Parts k r
unfolding sound
parts k r h =
    let p = each (implies (eqb r.step Dormant) (zeroed r)) (flags_fit k r.step r.flags ∷ code_sound k r ∷ request_sound k r ∷ step_sound k r ∷ times_sound k r ∷ []) h in
    record { zero = p.0; flags = p.1.0; code = p.1.1.0; request = p.1.1.1.0; step = p.1.1.1.1.0; times = p.1.1.1.1.1 }

-- "Elapsed is at most 4,294,967,296."
pub sound_held : (k : ℕ) (r : Record) → sound k r ≡ true → r.timer.elapsed ≤ most_elapsed
unfolding times_sound
sound_held k r h =
    let limit = eqb r.limit 0 || (is_edge k && has_time_limit k) in
    let time_out = eqb r.timeout 0 || (is_edge k && has_time_out k) in
    leb-true r.timer.elapsed most_elapsed (each (leb r.timer.elapsed most_elapsed) (limit ∷ time_out ∷ []) (parts k r h).times).0

-- flags of which just some are set
flags_are : (b d x a : Bool) (f : Flags) → only b d x a f ≡ true → f ≡ flags_of b d x a
flags_are b d x a f h =
    let p = each (beq f.busy b) (beq f.done d ∷ beq f.error x ∷ beq f.aborted a ∷ []) h in
    λ i. record { busy = beq_true f.busy b p.0 i; done = beq_true f.done d p.1.0 i; error = beq_true f.error x p.1.1.0 i; aborted = beq_true f.aborted a p.1.1.1 i }

pub fresh_is : (r : Record) → eqb r.step 0 ≡ true → zeroed r ≡ true → r ≡ fresh_record
unfolding zeroed
fresh_is r s h =
    let p = each (only false false false false r.flags)
    (not r.request ∷ eqb r.job 0 ∷ eqb r.code 0 ∷ eqb r.limit 0 ∷ eqb r.timeout 0 ∷ eqb r.timer.last 0 ∷ eqb r.timer.elapsed 0 ∷ []) h in
    λ i. record {
      step = eqb-true r.step 0 s i;
      flags = flags_are false false false false r.flags p.0 i;
      request = not-true r.request p.1.0 i;
      job = eqb-true r.job 0 p.1.1.0 i;
      code = eqb-true r.code 0 p.1.1.1.0 i;
      limit = eqb-true r.limit 0 p.1.1.1.1.0 i;
      timeout = eqb-true r.timeout 0 p.1.1.1.1.1.0 i;
      timer = record { last = eqb-true r.timer.last 0 p.1.1.1.1.1.1.0 i; elapsed = eqb-true r.timer.elapsed 0 p.1.1.1.1.1.1.1 i };
    }

code_zero : (c : ℕ) → beq (not (eqb c 0)) false ≡ true → c ≡ 0
code_zero c h = eqb-true c 0 (not-false (eqb c 0) (beq_true (not (eqb c 0)) false h))

pub beq_on : (b : Bool) → beq b true ≡ b
beq_on true = refl
beq_on false = refl

-- an edge kind that can abort has an abort input
edge_aborts : (k : ℕ) → can_abort k ≡ true → is_edge k ≡ true → has_abort k ≡ true
unfolding is_edge has_abort can_abort
edge_aborts k h g = rw (and_left (leb 5 k) (leb k 14) h) (and_right (leb 1 k) (leb k 8) g)

-- and of the fourteen kinds, one that is level or has an abort input can abort
kind_aborts : (k : ℕ) → is_kind k ≡ true → (is_edge k ≡ true → has_abort k ≡ true) → can_abort k ≡ true
unfolding is_kind is_edge has_abort can_abort
kind_aborts k h f =
    let least : leb 5 k ≡ true =
    by_test (leb k 8)
    (λ g. and_left (leb 5 k) (leb k 8) (f (rw (and_left (leb 1 k) (leb k 14) h) g)))
    (λ g. le-leb 5 k (omega (arith, leb-false k 8 g))) in
    rw least (and_right (leb 1 k) (leb k 14) h)

module _ (k : ℕ) (F : Type 0) where
  busy_case : (n : ℕ) (q : Bool) (j c l t : ℕ) (w : Timer) → Parts k (rec n busy q j c l t w)
      → (times_fit k l t w ≡ true → Settled k F (rec n busy false j 0 l t w)) → Settled k F (rec n busy q j c l t w)
  unfolding code_sound request_sound times_sound
  busy_case n true j c l t w p f = none p.request
  busy_case n false j c l t w p f =
      subst (λ (x : ℕ). Settled k F (rec n busy false j x l t w)) (sym (code_zero c (and_left (beq (not (eqb c 0)) false) _ p.code))) (f p.times)

  due : (a b : Bool) → implies (a || true) b ≡ true → b ≡ true
  due true b h = h
  due false b h = h

  end_fits : (z : End) (n : ℕ) (q : Bool) (j c l t : ℕ) (w : Timer) → Parts k (rec n (end_flags z) q j c l t w) → EndFits k F z q c
  unfolding code_sound request_sound step_sound
  end_fits is_done n q j c l t w p =
      let s =
      each (implies (eqb n Done || true) (not (is_continuous k)))
      (implies (eqb n Aborting) (can_abort k) ∷ implies (eqb n Aborted || false) (has_abort k) ∷ leb n Resetting ∷ []) p.step in (
        code_zero c (and_left (beq (not (eqb c 0)) false) (implies (eqb c TimedOut) (has_time_out k)) p.code),
        not-true (is_continuous k) (due (eqb n Done) (not (is_continuous k)) s.0),
        λ g. not-true q (rw g at p.request),
      )
  end_fits is_error n q j c l t w p = λ f. rw beq_on at p.code
  end_fits is_aborted n q j c l t w p =
      let s =
      each (implies (eqb n Done || false) (not (is_continuous k)))
      (implies (eqb n Aborting) (can_abort k) ∷ implies (eqb n Aborted || true) (has_abort k) ∷ leb n Resetting ∷ []) p.step in (
        code_zero c (and_left (beq (not (eqb c 0)) false) (implies (eqb c TimedOut) (has_time_out k)) p.code),
        due (eqb n Aborted) (has_abort k) s.1.1.0,
      )

  -- a record whose flags are known
  Reads : ℕ → Flags → Bool → ℕ → ℕ → ℕ → ℕ → Timer → Type 0
  Reads n f q j c l t w = Parts k (rec n f q j c l t w) → Settled k F (rec n f q j c l t w)

  flag_parts : (n : ℕ) (f : Flags) → flags_fit k n f ≡ true
      → Each (implies (eqb n Executing || eqb n Aborting) (busy_only f)) (implies (eqb n Done) (done_only f) ∷ implies (eqb n Error) (error_only f) ∷ implies (eqb n Aborted) (aborted_only f)
      ∷ implies (eqb n Resetting) (done_only f || error_only f || aborted_only f || (not (is_edge k) && busy_only f)) ∷ [])
  unfolding flags_fit
  flag_parts n f h =
      each (implies (eqb n Executing || eqb n Aborting) (busy_only f)) (implies (eqb n Done) (done_only f) ∷ implies (eqb n Error) (error_only f) ∷ implies (eqb n Aborted) (aborted_only f)
      ∷ implies (eqb n Resetting) (done_only f || error_only f || aborted_only f || (not (is_edge k) && busy_only f)) ∷ []) h

  module _ (q : Bool) (j c l t : ℕ) (w : Timer) where
    with_flags : (n : ℕ) (b d x a : Bool) (f : Flags) → only b d x a f ≡ true → Reads n (flags_of b d x a) q j c l t w → Reads n f q j c l t w
    with_flags n b d x a f h = subst (λ (g : Flags). Reads n g q j c l t w) (sym (flags_are b d x a f h))

    read_shown : (z : End) → Reads (end_step z) (end_flags z) q j c l t w
    unfolding Reads times_sound
    read_shown is_done p = shows is_done (end_fits is_done Done q j c l t w p) p.times
    read_shown is_error p = shows is_error (end_fits is_error Error q j c l t w p) p.times
    read_shown is_aborted p = shows is_aborted (end_fits is_aborted Aborted q j c l t w p) p.times

    read_resetting : (z : End) → Reads Resetting (end_flags z) q j c l t w
    unfolding Reads times_sound
    read_resetting is_done p = resets is_done (end_fits is_done Resetting q j c l t w p) p.times
    read_resetting is_error p = resets is_error (end_fits is_error Resetting q j c l t w p) p.times
    read_resetting is_aborted p = resets is_aborted (end_fits is_aborted Resetting q j c l t w p) p.times

    read_withdrawn : is_edge k ≡ false → Reads Resetting busy q j c l t w
    unfolding Reads
    read_withdrawn h p = busy_case Resetting q j c l t w p (withdraws h)

    read_executing : Reads Executing busy q j c l t w
    unfolding Reads
    read_executing p = busy_case Executing q j c l t w p runs

    read_aborting : Reads Aborting busy q j c l t w
    unfolding Reads step_sound
    read_aborting p = busy_case Aborting q j c l t w p (aborts (edge_aborts k (and_left (can_abort k) true (and_left (can_abort k && true) true p.step))))

    module _ (f : Flags) where
      at_dormant : Reads Dormant f q j c l t w
      unfolding Reads
      at_dormant p = subst (Settled k F) (sym (fresh_is (rec Dormant f q j c l t w) refl p.zero)) idle

      at_executing : Reads Executing f q j c l t w
      unfolding Reads
      at_executing p = with_flags Executing true false false false f (flag_parts Executing f p.flags).0 read_executing p

      at_aborting : Reads Aborting f q j c l t w
      unfolding Reads
      at_aborting p = with_flags Aborting true false false false f (flag_parts Aborting f p.flags).0 read_aborting p

      at_done : Reads Done f q j c l t w
      unfolding Reads
      at_done p = with_flags Done false true false false f (flag_parts Done f p.flags).1.0 (read_shown is_done) p

      at_error : Reads Error f q j c l t w
      unfolding Reads
      at_error p = with_flags Error false false true false f (flag_parts Error f p.flags).1.1.0 (read_shown is_error) p

      at_aborted : Reads Aborted f q j c l t w
      unfolding Reads
      at_aborted p = with_flags Aborted false false false true f (flag_parts Aborted f p.flags).1.1.1.0 (read_shown is_aborted) p

      at_resetting : Reads Resetting f q j c l t w
      unfolding Reads
      at_resetting p =
          or_cases (done_only f || error_only f || aborted_only f) (not (is_edge k) && busy_only f) (flag_parts Resetting f p.flags).1.1.1.1
          (λ h. or_cases (done_only f || error_only f) (aborted_only f) h
          (λ h. or_cases (done_only f) (error_only f) h
          (λ h. with_flags Resetting false true false false f h (read_resetting is_done) p)
          (λ h. with_flags Resetting false false true false f h (read_resetting is_error) p))
          (λ h. with_flags Resetting false false false true f h (read_resetting is_aborted) p))
          (λ h. with_flags Resetting true false false false f (and_right (not (is_edge k)) (busy_only f) h)
          (read_withdrawn (not-true (is_edge k) (and_left (not (is_edge k)) (busy_only f) h))) p)

  -- a sound record is settled
  pub settled_of : (r : Record) → sound k r ≡ true → Settled k F r
  unfolding Reads step_sound
  settled_of r h =
      let p = parts k r h in
      let n = r.step in
      let s =
      each (implies (eqb n Done || r.flags.done) (not (is_continuous k)))
      (implies (eqb n Aborting) (can_abort k) ∷ implies (eqb n Aborted || r.flags.aborted) (has_abort k) ∷ leb n Resetting ∷ []) p.step in
      to_six (λ n. Reads n r.flags r.request r.job r.code r.limit r.timeout r.timer) r.step s.1.1.1
      (at_dormant r.request r.job r.code r.limit r.timeout r.timer r.flags)
      (at_executing r.request r.job r.code r.limit r.timeout r.timer r.flags)
      (at_done r.request r.job r.code r.limit r.timeout r.timer r.flags)
      (at_error r.request r.job r.code r.limit r.timeout r.timer r.flags)
      (at_aborting r.request r.job r.code r.limit r.timeout r.timer r.flags)
      (at_aborted r.request r.job r.code r.limit r.timeout r.timer r.flags)
      (at_resetting r.request r.job r.code r.limit r.timeout r.timer r.flags)
      p

-- a settled record of one of the fourteen kinds is sound
pub sound_of : (k : ℕ) (F : Type 0) → is_kind k ≡ true → F → (r : Record) → Settled k F r → sound k r ≡ true
unfolding sound zeroed flags_fit code_sound request_sound step_sound times_sound
sound_of k F h f r idle = refl
sound_of k F h f r (runs x) = x
sound_of k F h f r (aborts a x) = rw (kind_aborts k h a) x
sound_of k F h f r (shows is_done e x) =
    by_test (is_edge k) (λ g. rw (e.0, e.1, g) (rw g at x)) (λ g. rw (e.0, e.1, e.2 g, g) (rw g at x))
sound_of k F h f r (shows is_error e x) = rw (beq_on, e f) x
sound_of k F h f r (shows is_aborted e x) = rw (e.0, e.1) x
sound_of k F h f r (resets is_done e x) =
    by_test (is_edge k) (λ g. rw (e.0, e.1, g) (rw g at x)) (λ g. rw (e.0, e.1, e.2 g, g) (rw g at x))
sound_of k F h f r (resets is_error e x) = rw (beq_on, e f) x
sound_of k F h f r (resets is_aborted e x) = rw (e.0, e.1) x
sound_of k F h f r (withdraws e x) = rw e (rw e at x)
