-- Check 21 on the bytes of a record, with several bytes tested as one number. For `sound_bytes` and the functions that it calls, and for the engine: a sound
-- Dormant record is all zero.
use Prim.Native.Nat.{ℕ, ◌+◌, ◌≤◌, ◌<◌}
use mathlib.Core.Path.{◌≡◌, refl, ap, sym, ◌∙◌}
use mathlib.Core.Bool.{Bool, true, false, not, ◌&&◌}
use mathlib.Core.List.{List, [], ◌∷◌}
use native.Mathlib.Omega.{arith}
use lib.Dec.{eqb, ltb, leb}
use lib.ListN.{length, take, replicate}
use lib.Seq.{take_all}
use borrow.Author.Tests.{eqb-true, eqb-false, eq-eqb}
use Rattle.words.specs.Word.{Bytes, number_at, all_zero, zero_at}
use Rattle.words.proofs.WordLaws.{number_one, number_split}
use Rattle.words.proofs.ZeroLaws.{zero_at_lem, zero_is, is_zero, zero_byte, zero_split, zero_last, zero_bytes}
use Rattle.membership.proofs.Logic.{same, not_both}
use Rattle.std.proofs.lemmas.Bool.{and_from}
use Rattle.block.specs.Record.{Dormant, Executing, fresh_record}
use Rattle.block.specs.Sound.{busy_only, zeroed, flags_fit, code_sound, request_sound, step_sound, times_sound, sound}
use Rattle.block.specs.declared.record.Record.{Record}
use Rattle.block.proofs.Tests.{ands, each}
use Rattle.block.proofs.Shapes.{fresh_is}
use Rattle.block.proofs.SoundSteps.{at_step_lem, at_dormant, at_executing}
use Rattle.layout.specs.Buffer.{record_length, job_width, byte_at}
use Rattle.layout.specs.RecordLayout.{flags_byte, decode_flags, record_offset, decode_record, record_form, sound_bytes}
use Rattle.layout.proofs.BitLaws.{flags_back}
use Rattle.layout.proofs.FieldLaws.{pair_low}
use Rattle.layout.proofs.RecordLaws.{form_bytes, sound_form, sound_record}

-- the form of a record: the request and the byte after it as one number
pub form_tests : (s : List ℕ) → record_length ≤ length s
    → ltb (byte_at s record_offset.flags) 16 && leb (number_at 2 s record_offset.request) 1 && eqb (number_at 4 s record_offset.unnamed_quad) 0
    && eqb (number_at 2 s record_offset.unnamed_pair) 0
    ≡ record_form s
unfolding record_form
form_tests s h =
    rw (
      pair_low s record_offset.request (omega arith) 1 (omega arith),
      zero_at_lem 4 record_offset.unnamed_quad s,
      zero_at_lem 2 record_offset.unnamed_pair s,
    )
    (flat (ltb (byte_at s record_offset.flags) 16) (leb (byte_at s record_offset.request) 1) (eqb (byte_at s record_offset.unnamed) 0)
    (eqb (number_at 4 s record_offset.unnamed_quad) 0) (eqb (number_at 2 s record_offset.unnamed_pair) 0))
  where
    flat : (a b c d e : Bool) → a && (b && c) && d && e ≡ a && b && c && d && e
    flat false b c d e = refl
    flat true false c d e = refl
    flat true true c d e = refl

-- "Dormant is all zero": all bytes of a record, as five numbers of eight bytes, and as its fields
module _ (s : List ℕ) (l : record_length ≤ length s) where
  abbrev wide : ℕ → Bool
  wide i = eqb (number_at 8 s i) 0

  pub words_zero : wide record_offset.step && wide record_offset.code && wide record_offset.timeout && wide record_offset.elapsed && wide record_offset.job
      ≡ zero_at record_length s 0
  words_zero =
      sym (zero_last record_offset.job job_width 0 s
      ∙ rw (
        zero_last record_offset.elapsed 8 0 s,
        zero_last record_offset.timeout 8 0 s,
        zero_last record_offset.code 8 0 s,
        zero_at_lem 8 record_offset.step s,
      ))

  -- the fields after the step, with the unnamed bytes
  abbrev fields : List Bool
  fields =
      zero_at 1 s record_offset.flags
      ∷ zero_at 1 s record_offset.request
      ∷ zero_at 1 s record_offset.unnamed
      ∷ zero_at 4 s record_offset.unnamed_quad
      ∷ zero_at 2 s record_offset.code
      ∷ zero_at 2 s record_offset.unnamed_pair
      ∷ zero_at 4 s record_offset.limit
      ∷ zero_at 4 s record_offset.timeout
      ∷ zero_at 4 s record_offset.last
      ∷ zero_at 8 s record_offset.elapsed
      ∷ zero_at job_width s record_offset.job
      ∷ []

  fields_zero : zero_at record_length s 0 ≡ ands (zero_at 1 s record_offset.step) fields
  fields_zero =
      zero_split record_offset.job job_width 0 s
      ∙ rw (
        zero_split record_offset.elapsed 8 0 s,
        zero_split record_offset.last 4 0 s,
        zero_split record_offset.timeout 4 0 s,
        zero_split record_offset.limit 4 0 s,
        zero_split record_offset.unnamed_pair 2 0 s,
        zero_split record_offset.code 2 0 s,
        zero_split record_offset.unnamed_quad 4 0 s,
        zero_split record_offset.unnamed 1 0 s,
        zero_split record_offset.request 1 0 s,
        zero_split record_offset.flags 1 0 s,
      )

  byte_is : (i : ℕ) → i < length s → zero_at 1 s i ≡ true → byte_at s i ≡ 0
  byte_is i h z = eqb-true (byte_at s i) 0 (sym (zero_byte i s h) ∙ z)

  is_byte : (i : ℕ) → i < length s → byte_at s i ≡ 0 → zero_at 1 s i ≡ true
  is_byte i h z = zero_byte i s h ∙ eq-eqb (byte_at s i) 0 z

  module _ (k : ℕ) (d : byte_at s record_offset.step ≡ 0) where
    zero_sound : zero_at record_length s 0 ≡ true → sound_bytes k s ≡ true
    unfolding sound_bytes record_form decode_record sound zeroed flags_fit code_sound request_sound step_sound times_sound
    zero_sound h =
        let p = each (zero_at 1 s record_offset.step) fields (sym fields_zero ∙ h) in
        let flags_is : byte_at s record_offset.flags ≡ 0 = byte_is record_offset.flags (omega arith) p.1.0 in
        let request_is : byte_at s record_offset.request ≡ 0 = byte_is record_offset.request (omega arith) p.1.1.0 in
        let unnamed_is : byte_at s record_offset.unnamed ≡ 0 = byte_is record_offset.unnamed (omega arith) p.1.1.1.0 in
        let form : record_form s ≡ true = rw (flags_is, request_is, unnamed_is, p.1.1.1.1.0, p.1.1.1.1.1.1.0) in
        let fresh : decode_record s ≡ fresh_record =
        λ i. record {
          step = d i;
          flags = decode_flags (flags_is i);
          request = eqb (request_is i) 1;
          job = zero_is job_width record_offset.job s p.1.1.1.1.1.1.1.1.1.1.1 i;
          code = zero_is 2 record_offset.code s p.1.1.1.1.1.0 i;
          limit = zero_is 4 record_offset.limit s p.1.1.1.1.1.1.1.0 i;
          timeout = zero_is 4 record_offset.timeout s p.1.1.1.1.1.1.1.1.0 i;
          timer =
              record {
                last = zero_is 4 record_offset.last s p.1.1.1.1.1.1.1.1.1.0 i;
                elapsed = zero_is 8 record_offset.elapsed s p.1.1.1.1.1.1.1.1.1.1.0 i;
              };
        } in
        and_from (record_form s) (sound k (decode_record s)) form (ap (sound k) fresh)

    sound_zero : sound_bytes k s ≡ true → zero_at record_length s 0 ≡ true
    unfolding decode_record
    sound_zero h =
        let f = form_bytes s (sound_form k s h) in
        let r = decode_record s in
        let zero : zeroed r ≡ true = sym (at_step_lem k r Dormant d ∙ at_dormant k r) ∙ sound_record k s h in
        let fresh : r ≡ fresh_record = fresh_is r (eq-eqb (byte_at s record_offset.step) 0 d) zero in
        let flags_is : byte_at s record_offset.flags ≡ 0 = sym (flags_back (byte_at s record_offset.flags) f.flags) ∙ ap (λ (x : Record). flags_byte x.flags) fresh in
        let unasked : byte_at s record_offset.request ≡ 1 → ⊥ = eqb-false (byte_at s record_offset.request) 1 (ap (λ (x : Record). x.request) fresh) in
        fields_zero
        ∙ rw (
          is_byte record_offset.step (omega arith) d,
          is_byte record_offset.flags (omega arith) flags_is,
          is_byte record_offset.request (omega arith) (omega (arith, f.request, unasked)),
          is_byte record_offset.unnamed (omega arith) f.unnamed,
          f.quad,
          is_zero 2 record_offset.code s (ap (λ (x : Record). x.code) fresh),
          f.pair,
          is_zero 4 record_offset.limit s (ap (λ (x : Record). x.limit) fresh),
          is_zero 4 record_offset.timeout s (ap (λ (x : Record). x.timeout) fresh),
          is_zero 4 record_offset.last s (ap (λ (x : Record). x.timer.last) fresh),
          is_zero 8 record_offset.elapsed s (ap (λ (x : Record). x.timer.elapsed) fresh),
          is_zero job_width record_offset.job s (ap (λ (x : Record). x.job) fresh),
        )

    pub dormant_tests : zero_at record_length s 0 ≡ sound_bytes k s
    dormant_tests = same (zero_at record_length s 0) (sound_bytes k s) zero_sound sound_zero

    -- so a sound Dormant record is zero bytes
    pub dormant_zeros : length s ≡ record_length → sound_bytes k s ≡ true → s ≡ replicate record_length 0
    dormant_zeros full h =
        let all : take record_length s ≡ s = take_all record_length s (omega arith) in
        zero_bytes s (ap all_zero (sym all) ∙ sound_zero h) ∙ ap (λ (n : ℕ). replicate n 0) full

-- "Executing ... busy only": the first eight bytes as one number, then the code with the unnamed pair after it, and the times
module _ (s : List ℕ) (l : record_length ≤ length s) (b : Bytes s) (k : ℕ) (head : number_at 8 s record_offset.step ≡ Executing + 256) where
  -- the bytes that have this number
  record Head : Type 0 where
    step : byte_at s record_offset.step ≡ Executing
    flags : byte_at s record_offset.flags ≡ 1
    request : byte_at s record_offset.request ≡ 0
    unnamed : byte_at s record_offset.unnamed ≡ 0
    quad : number_at 4 s record_offset.unnamed_quad ≡ 0

  head_bytes : Head
  head_bytes =
      let one = number_one s record_offset.step (omega arith) in
      let two = number_one s record_offset.flags (omega arith) in
      let three = number_one s record_offset.request (omega arith) in
      let four = number_one s record_offset.unnamed (omega arith) in
      let first = number_split 1 7 s record_offset.step (omega arith) in
      let second = number_split 1 6 s record_offset.flags (omega arith) in
      let third = number_split 1 5 s record_offset.request (omega arith) in
      let fourth = number_split 1 4 s record_offset.unnamed (omega arith) in
      let after_first : number_at 7 s record_offset.flags ≡ 1 = omega (arith, head, first, one, b record_offset.step) in
      let after_second : number_at 6 s record_offset.request ≡ 0 = omega (arith, after_first, second, two, b record_offset.flags) in
      let after_third : number_at 5 s record_offset.unnamed ≡ 0 = omega (arith, after_second, third) in
      record {
        step = omega (arith, head, first, one, after_first);
        flags = omega (arith, after_first, second, two, after_second);
        request = omega (arith, after_second, third, three);
        unnamed = omega (arith, after_third, fourth, four);
        quad = omega (arith, after_third, fourth);
      }

  -- what of soundness is left
  fields_left : sound k (decode_record s) ≡ eqb (number_at 2 s record_offset.code) 0 && times_sound k (decode_record s)
  unfolding decode_record
  fields_left =
      let r = decode_record s in
      let busy : busy_only r.flags ≡ true = ap (λ (x : ℕ). busy_only (decode_flags x)) head_bytes.flags in
      let unasked : r.request ≡ false = ap (λ (x : ℕ). eqb x 1) head_bytes.request in
      at_step_lem k r Executing head_bytes.step ∙ at_executing k r ∙ left (busy_only r.flags) (eqb r.code 0) r.request (times_sound k r) busy unasked
    where
      left : (busy code request times : Bool) → busy ≡ true → request ≡ false → busy && code && not request && times ≡ code && times
      left true true request times p q = rw q
      left true false request times p q = refl
      left false code request times p q = not_both false p refl

  form_left : record_form s ≡ zero_at 2 s record_offset.unnamed_pair
  unfolding record_form
  form_left = rw (head_bytes.flags, head_bytes.request, head_bytes.unnamed, is_zero 4 record_offset.unnamed_quad s head_bytes.quad)

  pub executing_tests : eqb (number_at 4 s record_offset.code) 0 && times_sound k (decode_record s) ≡ sound_bytes k s
  unfolding sound_bytes
  executing_tests =
      let code = zero_at 2 s record_offset.code in
      let both : eqb (number_at 4 s record_offset.code) 0 ≡ code && zero_at 2 s record_offset.unnamed_pair =
      sym (zero_at_lem 4 record_offset.code s) ∙ zero_split 2 2 record_offset.code s in
      rw (form_left, fields_left, both, ← zero_at_lem 2 record_offset.code s) (turned code (zero_at 2 s record_offset.unnamed_pair) (times_sound k (decode_record s)))
    where
      turned : (code pair times : Bool) → code && pair && times ≡ pair && (code && times)
      turned true true times = refl
      turned true false times = refl
      turned false true times = refl
      turned false false times = refl
