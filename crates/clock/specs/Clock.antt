-- Document 01, "One call", and document 02, 1/14: how time is counted from clock readings.
use Rattle.std.specs.Prelude.{◌≡◌, ℕ, ◌+◌, ◌-◌, ◌%◌, ◌<◌, ◌≤◌, min, Bool, true, false, cond, not, ◌&&◌, ◌==◌, nat_le, nat_lt}
use Rattle.clock.specs.declared.Timer.{Timer}

-- a reading is below it, and wraps there
abbrev pub clock_modulus : ℕ
clock_modulus = 4294967296

-- "Elapsed is at most 4,294,967,296."
abbrev pub most_elapsed : ℕ
most_elapsed = 4294967296

-- "Time from one reading to the next is their difference modulo 4,294,967,296."
unfoldable pub since : ℕ → ℕ → ℕ
since from to = (to + clock_modulus - from) % clock_modulus

-- "A difference of 2,147,483,648 or more": the reading is out of step with the one before it
abbrev pub least_out_of_step : ℕ
least_out_of_step = 2147483648

abbrev pub out_of_step : ℕ → ℕ → Bool
out_of_step from to = nat_le least_out_of_step (since from to)

-- "shall count as 0, for the time limit and for elapsed": the time that is counted from one reading to the next
abbrev pub counted : ℕ → ℕ → ℕ
counted from to = cond (out_of_step from to) 0 (since from to)

-- "with its meaning proved before and after the counter's turn": before it, the plain difference; theorem counted_before, proofs/ClockLaws.antt
abbrev pub CountedBefore : Type 0
CountedBefore = (from to : ℕ) → from ≤ to → to < clock_modulus → to - from < least_out_of_step → counted from to ≡ to - from

-- after it, the difference and one whole count; theorem counted_after, there too
abbrev pub CountedAfter : Type 0
CountedAfter = (from to : ℕ) → to < from → from < clock_modulus → to + clock_modulus - from < least_out_of_step → counted from to ≡ to + clock_modulus - from

-- out of step: nothing, to a reading that is up to 2,147,483,648 before, whether or not the counter wraps in between; theorem counted-back, there too
abbrev pub CountedBack : Type 0
CountedBack = (to back : ℕ) → to < clock_modulus → 0 < back → back ≤ least_out_of_step → counted ((to + back) % clock_modulus) to ≡ 0

-- at a start: "Last reading = call clock, elapsed 0"
abbrev pub start : ℕ → Timer
start reading = record { last = reading; elapsed = 0 }

-- "Elapsed adds these and is held at 4,294,967,296; each reading added becomes the last reading."; of a reading out of step, "the last reading then stays"
unfoldable pub tick : Timer → ℕ → Timer
tick t reading =
    record {
      last = cond (out_of_step t.last reading) t.last reading;
      elapsed = min (t.elapsed + counted t.last reading) most_elapsed;
    }

-- a reading out of step changes neither elapsed nor the last reading; theorem tick_out_of_step, there too
abbrev pub TickOutOfStep : Type 0
TickOutOfStep = (t : Timer) (reading : ℕ) → t.elapsed ≤ most_elapsed → out_of_step t.last reading ≡ true → tick t reading ≡ t

-- one in step becomes the last reading; theorem tick_in_step, there too
abbrev pub TickInStep : Type 0
TickInStep = (t : Timer) (reading : ℕ) → out_of_step t.last reading ≡ false → (tick t reading).last ≡ reading

-- more than a bound; "limit or time-out 0 is none"
unfoldable pub past : ℕ → ℕ → Bool
past bound time = not (bound == 0) && nat_lt bound time

-- "past the time limit (piece clock after call clock by more than the limit)"
unfoldable pub past_limit : ℕ → ℕ → ℕ → Bool
past_limit limit call reading = past limit (counted call reading)

-- "elapsed greater than the time-out"
unfoldable pub past_time_out : ℕ → Timer → Bool
past_time_out timeout t = past timeout t.elapsed
