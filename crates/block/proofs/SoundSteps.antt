-- Soundness at each step, as the few tests that are left there. For the functions of `sound`.
use Prim.Native.Nat.{ℕ}
use mathlib.Core.Bool.{Bool, true, false, not, ◌&&◌, ◌||◌, beq}
use mathlib.Core.Logic.{◌≢◌}
use mathlib.Core.Path.{◌≡◌, refl, ap, sym, ◌∙◌}
use lib.Dec.{eqb, leb}
use borrow.Author.Tests.{eqb-true}
use Rattle.kind.specs.Kind.{is_edge, has_abort, can_abort, has_time_out, is_continuous}
use Rattle.clock.specs.declared.Timer.{Timer}
use Rattle.block.specs.Record.{Dormant, Executing, Done, Error, Aborting, Aborted, Resetting, TimedOut, at_step}
use Rattle.block.specs.Sound.{busy_only, done_only, error_only, aborted_only, implies, zeroed, flags_fit, code_sound, request_sound, step_sound, times_sound, sound}
use Rattle.block.specs.declared.record.Record.{Record}
use Rattle.membership.proofs.Logic.{by_test}
use Rattle.block.proofs.Tests.{none, never, to_six}
use Rattle.block.proofs.Shapes.{flags_of, rec, fresh_is, beq_on}

-- the code without the error flag
no_code : (c : ℕ) (time_out : Bool) → beq (not (eqb c 0)) false && implies (eqb c TimedOut) time_out ≡ eqb c 0
no_code c time_out = by_test (eqb c 0) (λ e. rw (eqb-true c 0 e)) (λ e. rw e)

-- the rest of a record, its flags given one by one
module _ (k : ℕ) (j l t : ℕ) (w : Timer) where
  executing_flags : (b d x a q : Bool) (c : ℕ)
      → sound k (rec Executing (flags_of b d x a) q j c l t w) ≡ busy_only (flags_of b d x a) && eqb c 0 && not q && times_sound k (rec Executing (flags_of b d x a) q j c l t w)
  unfolding sound flags_fit code_sound request_sound step_sound
  executing_flags false d x a q c = refl
  executing_flags true true x a q c = refl
  executing_flags true false true a q c = refl
  executing_flags true false false true q c = refl
  executing_flags true false false false q c =
      let times = times_sound k (rec Executing (flags_of true false false false) q j c l t w) in
      ap (λ (code : Bool). code && (not q && true) && true && times) (no_code c (has_time_out k)) ∙ plain (eqb c 0) q times
    where
      plain : (code q times : Bool) → code && (not q && true) && true && times ≡ code && not q && times
      plain false q times = refl
      plain true true times = refl
      plain true false times = refl

  done_flags : (b d x a q : Bool) (c : ℕ)
      → sound k (rec Done (flags_of b d x a) q j c l t w)
      ≡ done_only (flags_of b d x a) && eqb c 0 && (is_edge k || not q) && not (is_continuous k) && times_sound k (rec Done (flags_of b d x a) q j c l t w)
  unfolding sound flags_fit code_sound request_sound step_sound
  done_flags true d x a q c = refl
  done_flags false false x a q c = refl
  done_flags false true true a q c = refl
  done_flags false true false true q c = refl
  done_flags false true false false q c =
      let times = times_sound k (rec Done (flags_of false true false false) q j c l t w) in
      ap (λ (code : Bool). code && implies (not (is_edge k)) (not q) && (not (is_continuous k) && true && true && true) && times) (no_code c (has_time_out k))
      ∙ plain (eqb c 0) (is_edge k) q (not (is_continuous k)) times
    where
      plain : (code edge q ends times : Bool) → code && implies (not edge) (not q) && (ends && true && true && true) && times ≡ code && (edge || not q) && ends && times
      plain false edge q ends times = refl
      plain true true q true times = refl
      plain true true q false times = refl
      plain true false true ends times = refl
      plain true false false true times = refl
      plain true false false false times = refl

  error_flags : (b d x a q : Bool) (c : ℕ)
      → sound k (rec Error (flags_of b d x a) q j c l t w)
      ≡ error_only (flags_of b d x a) && not (eqb c 0) && (not (eqb c TimedOut) || has_time_out k) && times_sound k (rec Error (flags_of b d x a) q j c l t w)
  unfolding sound flags_fit code_sound request_sound step_sound
  error_flags true d x a q c = refl
  error_flags false true x a q c = refl
  error_flags false false false a q c = refl
  error_flags false false true true q c = refl
  error_flags false false true false q c =
      let times = times_sound k (rec Error (flags_of false false true false) q j c l t w) in
      ap (λ (code : Bool). code && implies (eqb c TimedOut) (has_time_out k) && true && true && times) (beq_on (not (eqb c 0)))
      ∙ plain (not (eqb c 0) && implies (eqb c TimedOut) (has_time_out k)) times
    where
      plain : (code times : Bool) → code && true && true && times ≡ code && times
      plain true times = refl
      plain false times = refl

  aborted_flags : (b d x a q : Bool) (c : ℕ)
      → sound k (rec Aborted (flags_of b d x a) q j c l t w)
      ≡ aborted_only (flags_of b d x a) && eqb c 0 && has_abort k && times_sound k (rec Aborted (flags_of b d x a) q j c l t w)
  unfolding sound flags_fit code_sound request_sound step_sound
  aborted_flags true d x a q c = refl
  aborted_flags false true x a q c = refl
  aborted_flags false false true a q c = refl
  aborted_flags false false false false q c = refl
  aborted_flags false false false true q c =
      let times = times_sound k (rec Aborted (flags_of false false false true) q j c l t w) in
      ap (λ (code : Bool). code && true && (has_abort k && true) && times) (no_code c (has_time_out k)) ∙ plain (eqb c 0) (has_abort k) times
    where
      plain : (code abort times : Bool) → code && true && (abort && true) && times ≡ code && abort && times
      plain false abort times = refl
      plain true true times = refl
      plain true false times = refl

  -- Resetting has one flag, with what the step of that flag asks
  module _ (q : Bool) (c : ℕ) where
    reset_busy : (b d x a : Bool) → b ≡ true
        → sound k (rec Resetting (flags_of b d x a) q j c l t w) ≡ not (is_edge k) && sound k (rec Executing (flags_of b d x a) q j c l t w)
    unfolding sound flags_fit code_sound request_sound step_sound times_sound
    reset_busy false d x a h = none h
    reset_busy true d x a h =
        let r = rec Executing (flags_of true d x a) q j c l t w in
        plain (is_edge k) (busy_only r.flags) (code_sound k r) (request_sound k r) (step_sound k r) (times_sound k r)
      where
        plain : (edge flags code request step times : Bool)
            → (not edge && flags) && code && request && step && times ≡ not edge && (flags && true && true && true && true && code && request && step && times)
        plain true flags code request step times = refl
        plain false true code request step times = refl
        plain false false code request step times = refl

    no_flag : (level code request step times : Bool) → level && false && code && request && step && times ≡ false
    no_flag true code request step times = refl
    no_flag false code request step times = refl

    reset_done : (b d x a : Bool) → b ≡ false → d ≡ true
        → sound k (rec Resetting (flags_of b d x a) q j c l t w) ≡ sound k (rec Done (flags_of b d x a) q j c l t w)
    unfolding sound flags_fit code_sound request_sound step_sound times_sound
    reset_done true d x a h g = never h
    reset_done false false x a h g = none g
    reset_done false true false false h g = refl
    reset_done false true true a h g =
        let r = rec Resetting (flags_of false true true a) q j c l t w in no_flag (not (is_edge k)) (code_sound k r) (request_sound k r) (step_sound k r) (times_sound k r)
    reset_done false true false true h g =
        let r = rec Resetting (flags_of false true false true) q j c l t w in no_flag (not (is_edge k)) (code_sound k r) (request_sound k r) (step_sound k r) (times_sound k r)

    reset_error : (b d x a : Bool) → b ≡ false → d ≡ false → x ≡ true
        → sound k (rec Resetting (flags_of b d x a) q j c l t w) ≡ sound k (rec Error (flags_of b d x a) q j c l t w)
    unfolding sound flags_fit code_sound request_sound step_sound times_sound
    reset_error true d x a h g f = never h
    reset_error false true x a h g f = never g
    reset_error false false false a h g f = none f
    reset_error false false true false h g f = refl
    reset_error false false true true h g f =
        let r = rec Resetting (flags_of false false true true) q j c l t w in no_flag (not (is_edge k)) (code_sound k r) (request_sound k r) (step_sound k r) (times_sound k r)

    reset_aborted : (b d x a : Bool) → b ≡ false → d ≡ false → x ≡ false
        → sound k (rec Resetting (flags_of b d x a) q j c l t w) ≡ sound k (rec Aborted (flags_of b d x a) q j c l t w)
    unfolding sound flags_fit code_sound request_sound step_sound times_sound
    reset_aborted true d x a h g f = never h
    reset_aborted false true x a h g f = never g
    reset_aborted false false true a h g f = never f
    reset_aborted false false false true h g f = refl
    reset_aborted false false false false h g f =
        let r = rec Resetting (flags_of false false false false) q j c l t w in no_flag (not (is_edge k)) (code_sound k r) (request_sound k r) (step_sound k r) (times_sound k r)

-- the laws of a record, step by step
module _ (k : ℕ) (r : Record) where
  pub at_step_lem : (n : ℕ) → r.step ≡ n → sound k r ≡ sound k (at_step n r)
  at_step_lem n h = ap (λ (m : ℕ). sound k (at_step m r)) h

  pub at_dormant : sound k (at_step Dormant r) ≡ zeroed r
  unfolding sound zeroed flags_fit code_sound request_sound step_sound times_sound
  at_dormant =
      by_test (zeroed r)
      (λ h. ap (sound k) (fresh_is (at_step Dormant r) refl h) ∙ sym h)
      (λ h. first (zeroed r) (flags_fit k Dormant r.flags) (code_sound k r) (request_sound k r) (step_sound k (at_step Dormant r)) (times_sound k r) h)
    where
      first : (zero flags code request step times : Bool) → zero ≡ false → zero && flags && code && request && step && times ≡ zero
      first true flags code request step times h = never h
      first false flags code request step times h = refl

  pub dormant_sound : r.step ≡ Dormant → sound k r ≡ zeroed r
  dormant_sound h = at_step_lem Dormant h ∙ at_dormant

  pub at_executing : sound k (at_step Executing r) ≡ busy_only r.flags && eqb r.code 0 && not r.request && times_sound k r
  unfolding times_sound
  at_executing = executing_flags k r.job r.limit r.timeout r.timer r.flags.busy r.flags.done r.flags.error r.flags.aborted r.request r.code

  pub at_done : sound k (at_step Done r) ≡ done_only r.flags && eqb r.code 0 && (is_edge k || not r.request) && not (is_continuous k) && times_sound k r
  unfolding times_sound
  at_done = done_flags k r.job r.limit r.timeout r.timer r.flags.busy r.flags.done r.flags.error r.flags.aborted r.request r.code

  pub at_error : sound k (at_step Error r) ≡ error_only r.flags && not (eqb r.code 0) && (not (eqb r.code TimedOut) || has_time_out k) && times_sound k r
  unfolding times_sound
  at_error = error_flags k r.job r.limit r.timeout r.timer r.flags.busy r.flags.done r.flags.error r.flags.aborted r.request r.code

  pub at_aborted : sound k (at_step Aborted r) ≡ aborted_only r.flags && eqb r.code 0 && has_abort k && times_sound k r
  unfolding times_sound
  at_aborted = aborted_flags k r.job r.limit r.timeout r.timer r.flags.busy r.flags.done r.flags.error r.flags.aborted r.request r.code

  pub at_aborting : sound k (at_step Aborting r) ≡ can_abort k && sound k (at_step Executing r)
  unfolding sound flags_fit code_sound request_sound step_sound times_sound
  at_aborting =
      plain (flags_fit k Executing r.flags && code_sound k r && request_sound k r)
      (implies r.flags.done (not (is_continuous k))) (can_abort k) (implies r.flags.aborted (has_abort k)) (times_sound k r)
    where
      plain : (front done can aborted times : Bool) → front && (done && can && aborted && true) && times ≡ can && (front && (done && true && aborted && true) && times)
      plain front done true aborted times = refl
      plain false done false aborted times = refl
      plain true true false aborted times = refl
      plain true false false aborted times = refl

  pub resetting_busy : r.flags.busy ≡ true → sound k (at_step Resetting r) ≡ not (is_edge k) && sound k (at_step Executing r)
  resetting_busy = reset_busy k r.job r.limit r.timeout r.timer r.request r.code r.flags.busy r.flags.done r.flags.error r.flags.aborted

  pub resetting_done : r.flags.busy ≡ false → r.flags.done ≡ true → sound k (at_step Resetting r) ≡ sound k (at_step Done r)
  resetting_done = reset_done k r.job r.limit r.timeout r.timer r.request r.code r.flags.busy r.flags.done r.flags.error r.flags.aborted

  pub resetting_error : r.flags.busy ≡ false → r.flags.done ≡ false → r.flags.error ≡ true → sound k (at_step Resetting r) ≡ sound k (at_step Error r)
  resetting_error = reset_error k r.job r.limit r.timeout r.timer r.request r.code r.flags.busy r.flags.done r.flags.error r.flags.aborted

  pub resetting_aborted : r.flags.busy ≡ false → r.flags.done ≡ false → r.flags.error ≡ false → sound k (at_step Resetting r) ≡ sound k (at_step Aborted r)
  resetting_aborted = reset_aborted k r.job r.limit r.timeout r.timer r.request r.code r.flags.busy r.flags.done r.flags.error r.flags.aborted

  -- "Step is at most 6"
  pub no_step : r.step ≢ Dormant → r.step ≢ Executing → r.step ≢ Done → r.step ≢ Error → r.step ≢ Aborting → r.step ≢ Aborted
      → r.step ≢ Resetting → sound k r ≡ false
  unfolding sound step_sound
  no_step dormant executing done error aborting aborted resetting =
      by_test (leb r.step Resetting)
      (λ h. to_six (λ (n : ℕ). r.step ≡ n → sound k r ≡ false) r.step h
      (λ e. absurd (dormant e)) (λ e. absurd (executing e)) (λ e. absurd (done e)) (λ e. absurd (error e)) (λ e. absurd (aborting e)) (λ e. absurd (aborted e)) (λ e. absurd (resetting e))
      refl)
      (λ h. last (implies (eqb r.step Dormant) (zeroed r) && flags_fit k r.step r.flags && code_sound k r && request_sound k r)
      (implies (eqb r.step Done || r.flags.done) (not (is_continuous k)) && implies (eqb r.step Aborting) (can_abort k) && implies (eqb r.step Aborted || r.flags.aborted) (has_abort k))
      (leb r.step Resetting) (times_sound k r) h)
    where
      last : (front step six times : Bool) → six ≡ false → front && (step && six) && times ≡ false
      last front step true times h = never h
      last false step false times h = refl
      last true true false times h = refl
      last true false false times h = refl
