-- Flags and inputs as the bits of a byte, and back: for the writers of records, report entries and frame entries, and for the laws that read them back.
use Prim.Native.Nat.{ℕ, zero, suc, ◌+◌, ◌*◌, ◌/◌, ◌%◌, ◌≤◌, ◌<◌}
use mathlib.Core.Path.{◌≡◌, refl, sym}
use mathlib.Core.Bool.{Bool, true, false}
use native.Mathlib.Omega.{arith}
use native.Mathlib.Nat.{div-div-eq-div-mul, mod-eq_of_lt}
use lib.Dec.{eqb}
use Rattle.block.specs.declared.record.Flags.{Flags}
use Rattle.block.specs.declared.entry.Inputs.{Inputs}
use Rattle.block.specs.Record.{bit}
use Rattle.layout.specs.RecordLayout.{flags_byte, decode_flags}
use Rattle.layout.specs.EntryLayout.{inputs_byte, decode_inputs}

pub bit_le : (b : Bool) → bit b ≤ 1
bit_le true = omega arith
bit_le false = omega arith

-- a bit read back, and written back
pub bit_trip : (b : Bool) → eqb (bit b) 1 ≡ b
bit_trip true = refl
bit_trip false = refl

pub bit_back : (n : ℕ) → n ≤ 1 → bit (eqb n 1) ≡ n
bit_back zero h = refl
bit_back (suc zero) h = refl
bit_back (suc (suc n)) h = absurd (omega arith)

pub flags_bound : (f : Flags) → flags_byte f < 16
flags_bound f = omega (arith, bit_le f.busy, bit_le f.done, bit_le f.error, bit_le f.aborted)

-- the four flags of their byte, and the byte of its flags
four_bits : (a b c d : Bool) → decode_flags (flags_byte (record { busy = a; done = b; error = c; aborted = d })) ≡ record { busy = a; done = b; error = c; aborted = d }
four_bits true true true true = refl
four_bits true true true false = refl
four_bits true true false true = refl
four_bits true true false false = refl
four_bits true false true true = refl
four_bits true false true false = refl
four_bits true false false true = refl
four_bits true false false false = refl
four_bits false true true true = refl
four_bits false true true false = refl
four_bits false true false true = refl
four_bits false true false false = refl
four_bits false false true true = refl
four_bits false false true false = refl
four_bits false false false true = refl
four_bits false false false false = refl

pub flags_trip : (f : Flags) → decode_flags (flags_byte f) ≡ f
flags_trip f = four_bits f.busy f.done f.error f.aborted

digits : (n : ℕ) → n < 16 → n / 1 % 2 + 2 * (n / 2 % 2) + 4 * (n / 4 % 2) + 8 * (n / 8 % 2) ≡ n
digits n h =
    let u : n / 4 ≡ n / 2 / 2 = sym (div-div-eq-div-mul n 2 2) in
    let v : n / 8 ≡ n / 4 / 2 = sym (div-div-eq-div-mul n 4 2) in
    let w : n / 8 % 2 ≡ n / 8 = mod-eq_of_lt (omega arith) in
    omega arith

pub flags_back : (n : ℕ) → n < 16 → flags_byte (decode_flags n) ≡ n
flags_back n h =
    rw (
      bit_back (n / 1 % 2) (omega arith),
      bit_back (n / 2 % 2) (omega arith),
      bit_back (n / 4 % 2) (omega arith),
      bit_back (n / 8 % 2) (omega arith),
    )
    (digits n h)

-- the two inputs likewise
pub inputs_bound : (i : Inputs) → inputs_byte i < 4
inputs_bound i = omega (arith, bit_le i.start, bit_le i.abort)

two_bits : (a b : Bool) → decode_inputs (inputs_byte (record { start = a; abort = b })) ≡ record { start = a; abort = b }
two_bits true true = refl
two_bits true false = refl
two_bits false true = refl
two_bits false false = refl

pub inputs_trip : (i : Inputs) → decode_inputs (inputs_byte i) ≡ i
inputs_trip i = two_bits i.start i.abort

pub inputs_back : (n : ℕ) → n < 4 → inputs_byte (decode_inputs n) ≡ n
inputs_back n h = omega (arith, bit_back (n / 1 % 2) (omega arith), bit_back (n / 2 % 2) (omega arith))
