-- What the counted time means, before and after the counter wraps and out of step, as specs/Clock.antt states it, and the laws of time that the block machine,
-- its history and the list of scans use.
use Rattle.std.proofs.Common.{◌≡◌, ℕ, ◌+◌, ◌-◌, ◌%◌, ◌<◌, ◌≤◌, min, Bool, true, false, cond, ◌≢◌, refl, arith, ltb-false, ne_eqb, le-leb}
use borrow.Author.Tests.{lt-leb}
use Rattle.clock.specs.Clock.{clock_modulus, most_elapsed, least_out_of_step, since, out_of_step, CountedBefore, CountedAfter, CountedBack, start, tick, TickOutOfStep, TickInStep, past, past_time_out}
use Rattle.clock.specs.declared.Timer.{Timer}

pub counted_before : CountedBefore
unfolding since
counted_before from to h l short =
    let e : since from to ≡ to - from = omega arith in
    rw (e, lt-leb least_out_of_step (to - from) short)

pub counted_after : CountedAfter
unfolding since
counted_after from to h l short =
    let e : since from to ≡ to + clock_modulus - from = omega arith in
    rw (e, lt-leb least_out_of_step (to + clock_modulus - from) short)

pub counted_back : CountedBack
unfolding since
counted_back to back h l m =
    let e : least_out_of_step ≤ since ((to + back) % clock_modulus) to = omega arith in
    rw (le-leb least_out_of_step (since ((to + back) % clock_modulus) to) e)

-- no time passes from a reading to itself
since_same : (reading : ℕ) → reading < clock_modulus → since reading reading ≡ 0
unfolding since
since_same reading h = omega arith

-- elapsed is held
pub tick_held : (t : Timer) (reading : ℕ) → (tick t reading).elapsed ≤ most_elapsed
unfolding tick
tick_held t reading = omega arith

-- what holds of the last reading and of the new one holds of the last reading after it
pub tick_last : (P : ℕ → Type 0) (t : Timer) (reading : ℕ) → P t.last → P reading → P (tick t reading).last
unfolding tick
tick_last P t reading stays moves = go (out_of_step t.last reading)
  where
    go : (b : Bool) → P (cond b t.last reading)
    go true = stays
    go false = moves

pub tick_out_of_step : TickOutOfStep
unfolding tick
tick_out_of_step t reading h o = rw o (let e : min (t.elapsed + 0) most_elapsed ≡ t.elapsed = omega arith in rw e)

pub tick_in_step : TickInStep
unfolding tick
tick_in_step t reading o = rw o

-- the call clock, read again in the call of the start, adds nothing
pub tick_start : (reading : ℕ) → reading < clock_modulus → tick (start reading) reading ≡ start reading
unfolding tick
tick_start reading h = rw (since_same reading h)

-- 0 is no bound, and no time-out
pub past_none : (time : ℕ) → past 0 time ≡ false
unfolding past
past_none time = refl

pub time_out_none : (t : Timer) → past_time_out 0 t ≡ false
unfolding past_time_out
time_out_none t = past_none t.elapsed

-- not past a time-out
pub in_time_lem : (timeout : ℕ) (t : Timer) → past_time_out timeout t ≡ false → timeout ≢ 0 → t.elapsed ≤ timeout
unfolding past_time_out past
in_time_lem timeout t h n = ltb-false timeout t.elapsed (rw (ne_eqb timeout 0 n) at h)
