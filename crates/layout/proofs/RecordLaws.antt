-- State records as bytes, and back: each undoes the other, what another timer changes, and which bytes pass check 21. For the engine, which keeps
-- records in the state buffer.
use Prim.Native.Nat.{ℕ, ◌+◌, ◌<◌, ◌≤◌}
use mathlib.Core.Path.{◌≡◌, refl, ap, sym, ◌∙◌}
use mathlib.Core.Bool.{true}
use mathlib.Core.List.{List, [], ◌∷◌}
use native.Mathlib.Omega.{arith}
use lib.Dec.{eqb, ltb, leb}
use lib.ListN.{length, take, drop, replicate}
use borrow.Author.Tests.{ltb-true, leb-true, eqb-true, lt-ltb, le-leb}
use Rattle.words.specs.Word.{Bytes, number, bytes, all_zero, zero_at}
use Rattle.words.proofs.WordLaws.{number_of_bytes}
use Rattle.block.specs.Record.{bit, fresh_record}
use Rattle.block.specs.Sound.{sound}
use Rattle.block.specs.declared.record.Record.{Record}
use Rattle.clock.specs.declared.Timer.{Timer}
use Rattle.layout.specs.Buffer.{record_length, byte_at, job_width, put}
use Rattle.layout.specs.RecordLayout.{flags_byte, record_offset, encode_record, decode_record, encode_timer, record_form, sound_bytes}
use Rattle.layout.proofs.Fits.{RecordFits}
use Rattle.layout.proofs.BitLaws.{bit_le, bit_trip, bit_back, flags_bound, flags_trip, flags_back}
use Rattle.membership.proofs.Logic.{and_left, and_right}
use Rattle.std.proofs.lemmas.Bool.{and_from}
use Rattle.block.proofs.Tests.{each}
use Rattle.layout.proofs.BufferLaws.{put_middle}
use Rattle.layout.proofs.FieldLaws.{field_back, field_last, zero_back, byte_back}

pub encode_length : (r : Record) → length (encode_record r) ≡ record_length
unfolding encode_record bytes
encode_length r = refl

pub decode_encode : (r : Record) → RecordFits r → decode_record (encode_record r) ≡ r
unfolding encode_record decode_record bytes
decode_encode r h =
    λ i. record {
      step = r.step;
      flags = flags_trip r.flags i;
      request = bit_trip r.request i;
      job = number_of_bytes job_width r.job h.job i;
      code = number_of_bytes 2 r.code h.code i;
      limit = number_of_bytes 4 r.limit h.limit i;
      timeout = number_of_bytes 4 r.timeout h.timeout i;
      timer = record { last = number_of_bytes 4 r.timer.last h.last i; elapsed = number_of_bytes 8 r.timer.elapsed h.elapsed i };
    }

-- what the form of the bytes says
pub record FormBytes (s : List ℕ) : Type 0 where
  pub flags : byte_at s record_offset.flags < 16
  pub request : byte_at s record_offset.request ≤ 1
  pub unnamed : byte_at s record_offset.unnamed ≡ 0
  pub quad : zero_at 4 s record_offset.unnamed_quad ≡ true
  pub pair : zero_at 2 s record_offset.unnamed_pair ≡ true

pub form_bytes : (s : List ℕ) → record_form s ≡ true → FormBytes s
unfolding record_form
form_bytes s h =
    let flags = byte_at s record_offset.flags in
    let request = byte_at s record_offset.request in
    let unnamed = byte_at s record_offset.unnamed in
    let quad = zero_at 4 s record_offset.unnamed_quad in
    let pair = zero_at 2 s record_offset.unnamed_pair in
    let p = each (ltb flags 16) (leb request 1 ∷ eqb unnamed 0 ∷ quad ∷ pair ∷ []) h in
    record {
      flags = ltb-true flags 16 p.0;
      request = leb-true request 1 p.1.0;
      unnamed = eqb-true unnamed 0 p.1.1.0;
      quad = p.1.1.1.0;
      pair = p.1.1.1.1;
    }

pub encode_decode : (s : List ℕ) → length s ≡ record_length → Bytes s → record_form s ≡ true → encode_record (decode_record s) ≡ s
unfolding encode_record decode_record
encode_decode s l b h =
    let f = form_bytes s h in
    byte_back record_offset.step _ s _ (omega arith) refl
    (byte_back record_offset.flags _ s _ (omega arith) (flags_back (byte_at s record_offset.flags) f.flags)
    (byte_back record_offset.request _ s _ (omega arith) (bit_back (byte_at s record_offset.request) f.request)
    (byte_back record_offset.unnamed _ s _ (omega arith) (sym f.unnamed)
    (zero_back 4 record_offset.unnamed_quad s _ f.quad (omega arith)
    (field_back 2 record_offset.code s _ b (omega arith)
    (zero_back 2 record_offset.unnamed_pair s _ f.pair (omega arith)
    (field_back 4 record_offset.limit s _ b (omega arith)
    (field_back 4 record_offset.timeout s _ b (omega arith)
    (field_back 4 record_offset.last s _ b (omega arith)
    (field_back 8 record_offset.elapsed s _ b (omega arith)
    (field_last job_width record_offset.job s b l)))))))))))

-- every record is written in form
pub encode_form : (r : Record) → record_form (encode_record r) ≡ true
unfolding record_form encode_record bytes all_zero
encode_form r = rw (lt-ltb (flags_byte r.flags) 16 (flags_bound r.flags), le-leb (bit r.request) 1 (bit_le r.request))

-- a record with another timer, put where the record itself stands: the twelve bytes of the timer put in their place
pub put_timer : (at : ℕ) (r : Record) (w : Timer) (s : List ℕ) → take record_length (drop at s) ≡ encode_record r → at + record_length ≤ length s
    → put (at + record_offset.last) (encode_timer w) s
    ≡ put at
    (encode_record (record { step = r.step; flags = r.flags; request = r.request; job = r.job; code = r.code; limit = r.limit; timeout = r.timeout; timer = w })) s
unfolding encode_record bytes
put_timer at r w s stands fits =
    let n : ℕ = record_offset.last in
    put_middle at n (take n (encode_record r)) (encode_timer r.timer) (encode_timer w) (bytes job_width r.job) s refl refl stands fits

-- "Fresh is all zero."
pub encode_fresh : encode_record fresh_record ≡ replicate record_length 0
unfolding encode_record bytes
encode_fresh = refl

pub fresh_form : record_form (replicate record_length 0) ≡ true
fresh_form = ap record_form (sym encode_fresh) ∙ encode_form fresh_record

pub decode_fresh : decode_record (replicate record_length 0) ≡ fresh_record
unfolding decode_record number
decode_fresh = refl

-- check 21 taken apart, and what passes it: a sound record that fits its bytes
pub sound_form : (k : ℕ) (s : List ℕ) → sound_bytes k s ≡ true → record_form s ≡ true
unfolding sound_bytes
sound_form k s h = and_left (record_form s) (sound k (decode_record s)) h

pub sound_record : (k : ℕ) (s : List ℕ) → sound_bytes k s ≡ true → sound k (decode_record s) ≡ true
unfolding sound_bytes
sound_record k s h = and_right (record_form s) (sound k (decode_record s)) h

pub sound_encode : (k : ℕ) (r : Record) → RecordFits r → sound k r ≡ true → sound_bytes k (encode_record r) ≡ true
unfolding sound_bytes
sound_encode k r f h = and_from (record_form (encode_record r)) (sound k (decode_record (encode_record r))) (encode_form r) (ap (sound k) (decode_encode r f) ∙ h)
