-- The two bytes of a wire: what an accepted table has there is the wire's position and code again, for the code that copies them; and a wire written in
-- a table whose blocks stand in slots 1, 2, 3 and on is read back, for EncodedTable.
use Prim.Native.Nat.{ℕ, ◌+◌, ◌<◌, ◌%◌}
use mathlib.Core.Path.{◌≡◌, refl, sym}
use mathlib.Core.List.{List}
use mathlib.Core.Bool.{true, false}
use native.Mathlib.Omega.{arith}
use borrow.Author.Tests.{eqb-true, eqb-false, ne_eqb, lt-ltb, ltb-true, le-leb, lt-leb, leb-true, leb-false}
use lib.Dec.{eqb, leb}
use Rattle.std.specs.List.{range_with_len}
use Rattle.std.specs.Prelude.{Option, None, Some}
use Rattle.membership.specs.Membership.{among}
use Rattle.membership.proofs.Logic.{by_test, and_right}
use Rattle.table.specs.Chain.{position_of}
use Rattle.table.specs.Record.{wire_ok}
use Rattle.table.specs.Blocks.{flag_named, wire_of}
use Rattle.table.specs.Table.{WireFits}
use Rattle.table.specs.declared.blocks.Flag.{Flag}
use Rattle.table.specs.declared.blocks.Flag.TheVariants.{Busy, Done, Error, Aborted}
use Rattle.table.specs.declared.blocks.Wire.{Wire}
use Rattle.table.proofs.PositionLaws.{position_zero}
use Rattle.tidy.specs.Encode.{flag_number, encode_position, encode_code}
use Rattle.tidy.proofs.CountUp.{count_among, count_position}

-- a flag has two bits
flag_few : (f : Flag) → flag_number f < 4
flag_few Busy = omega arith
flag_few Done = omega arith
flag_few Error = omega arith
flag_few Aborted = omega arith

-- the flag that a code names has the code's two bits,
flag_kept : (code : ℕ) → flag_number (flag_named code) ≡ code % 4
flag_kept code =
    by_test (eqb (code % 4) 0) (λ a. simp a (sym (eqb-true (code % 4) 0 a)))
    (λ a. by_test (eqb (code % 4) 1) (λ b. simp (a, b) (sym (eqb-true (code % 4) 1 b)))
    (λ b. by_test (eqb (code % 4) 2) (λ c. simp (a, b, c) (sym (eqb-true (code % 4) 2 c)))
    (λ c. simp (a, b, c) (omega (arith, eqb-false (code % 4) 0 a, eqb-false (code % 4) 1 b, eqb-false (code % 4) 2 c)))))

-- and a code with a flag's two bits names it
flag_back : (f : Flag) (code : ℕ) → code % 4 ≡ flag_number f → flag_named code ≡ f
flag_back Busy code e = rw e refl
flag_back Done code e = rw e refl
flag_back Error code e = rw e refl
flag_back Aborted code e = rw e refl

-- a wire's slot has the wire's position, 0 where it is no slot
pub position_kept : (chain : List ℕ) (slot code : ℕ) → among 0 chain ≡ false → position_of slot chain ≡ encode_position (wire_of chain slot code)
position_kept chain slot code none =
    by_test (eqb slot 0)
    (λ z. simp z (rw (eqb-true slot 0 z) (position_zero 1 0 chain none)))
    (λ z. simp z)

-- a code in form is the code of its wire
pub code_kept : (chain : List ℕ) (slot code : ℕ) → code < 256 → wire_ok chain slot code ≡ true → code ≡ encode_code (wire_of chain slot code)
code_kept chain slot code byte ok =
    by_test (eqb slot 0)
    (λ z. simp z (eqb-true code 0 (simp z at ok)))
    (λ z. let low : code % 128 < 4 = ltb-true (code % 128) 4 (and_right (among slot chain) _ (simp z at ok)) in
    by_test (leb 128 code)
    (λ h. simp (z, h) (rw (flag_kept code) (omega (arith, low, leb-true 128 code h))))
    (λ h. simp (z, h) (rw (flag_kept code) (omega (arith, low, leb-false 128 code h)))))

-- a wire written and read back
module _ (n : ℕ) (w : Wire) (fits : WireFits n (Some w)) where
  abbrev number : ℕ
  number = flag_number w.flag

  there : eqb w.position 0 ≡ false
  there = ne_eqb w.position 0 (λ z. omega (arith, fits.0))

  low : encode_code (Some w) % 128 ≡ number
  low = by_test w.inverted (λ i. simp i (omega (arith, flag_few w.flag))) (λ i. simp i (omega (arith, flag_few w.flag)))

  some_passes : wire_ok (range_with_len 1 n) w.position (encode_code (Some w)) ≡ true
  some_passes = simp (there, count_among 1 n w.position (omega (arith, fits.0)) (omega (arith, fits.1)), lt-ltb (encode_code (Some w) % 128) 4 (omega (arith, low, flag_few w.flag)))

  some_back : wire_of (range_with_len 1 n) w.position (encode_code (Some w)) ≡ Some w
  some_back =
      let position : position_of w.position (range_with_len 1 n) ≡ w.position = count_position 1 n w.position (omega (arith, fits.0)) (omega (arith, fits.1)) in
      let flag : flag_named (encode_code (Some w)) ≡ w.flag = flag_back w.flag (encode_code (Some w)) (omega (arith, low, flag_few w.flag)) in
      let inverted : leb 128 (encode_code (Some w)) ≡ w.inverted =
      by_test w.inverted (λ i. simp i (le-leb 128 (128 + number) (omega arith))) (λ i. simp i (lt-leb 128 number (omega (arith, flag_few w.flag)))) in
      simp there (λ j. Some (record { position = position j; flag = flag j; inverted = inverted j }))

-- and where there is none, no wire is
pub wire_passes : (n : ℕ) (w : Option Wire) → WireFits n w → wire_ok (range_with_len 1 n) (encode_position w) (encode_code w) ≡ true
wire_passes n None fits = refl
wire_passes n (Some w) fits = some_passes n w fits

pub wire_back : (n : ℕ) (w : Option Wire) → WireFits n w → wire_of (range_with_len 1 n) (encode_position w) (encode_code w) ≡ w
wire_back n None fits = refl
wire_back n (Some w) fits = some_back n w fits
