-- Document 01, "State record", with the job as document 02, 3/14 places it: a record as bytes, and back.
use Rattle.std.specs.Prelude.{ℕ, ◌+◌, ◌*◌, ◌/◌, ◌%◌, Bool, ◌&&◌, List, [], ◌∷◌, ◌++◌, ◌==◌, nat_lt, nat_le, replicate}
use Rattle.words.specs.Word.{bytes, number_at, zero_at}
use Rattle.clock.specs.declared.Timer.{Timer}
use Rattle.block.specs.Record.{bit}
use Rattle.block.specs.Sound.{sound}
use Rattle.layout.specs.Buffer.{byte_at, job_width}
use Rattle.block.specs.declared.record.Flags.{Flags}
use Rattle.block.specs.declared.record.Record.{Record}

-- the bit of a byte that has this weight
abbrev pub bit_of : ℕ → ℕ → Bool
bit_of b weight = b / weight % 2 == 1

-- "1 flags (bits 0-3 busy, done, error, aborted)"
abbrev pub flags_byte : Flags → ℕ
flags_byte f = bit f.busy + 2 * bit f.done + 4 * bit f.error + 8 * bit f.aborted

abbrev pub decode_flags : ℕ → Flags
decode_flags b = record { busy = bit_of b 1; done = bit_of b 2; error = bit_of b 4; aborted = bit_of b 8 }

-- where each field begins, and the unnamed bytes: one after the request and four more, two after the code
pub record RecordOffsets : Type 0 where
  pub step : ℕ
  pub flags : ℕ
  pub request : ℕ
  pub unnamed : ℕ
  pub unnamed_quad : ℕ
  pub code : ℕ
  pub unnamed_pair : ℕ
  pub limit : ℕ
  pub timeout : ℕ
  pub last : ℕ
  pub elapsed : ℕ
  pub job : ℕ

-- "0 step ...; 1 flags ...; 2 reset request, 0 or 1; ... 8-9 error code; 12-15 time limit and 16-19 time-out taken at the start; 20-23 last clock reading; 24-31 elapsed." "job in 32-39, bytes 4-7 zero"
abbrev pub record_offset : RecordOffsets
record_offset =
    record { step = 0; flags = 1; request = 2; unnamed = 3; unnamed_quad = 4; code = 8; unnamed_pair = 10; limit = 12; timeout = 16; last = 20; elapsed = 24; job = 32 }

unfoldable pub encode_record : Record → List ℕ
encode_record r =
    (r.step ∷ flags_byte r.flags ∷ bit r.request ∷ 0 ∷ [])
    ++ (replicate 4 0
    ++ (bytes 2 r.code
    ++ (replicate 2 0
    ++ (bytes 4 r.limit
    ++ (bytes 4 r.timeout
    ++ (bytes 4 r.timer.last
    ++ (bytes 8 r.timer.elapsed
    ++ bytes job_width r.job)))))))

unfoldable pub decode_record : List ℕ → Record
decode_record s =
    record {
      step = byte_at s record_offset.step;
      flags = decode_flags (byte_at s record_offset.flags);
      request = byte_at s record_offset.request == 1;
      job = number_at job_width s record_offset.job;
      code = number_at 2 s record_offset.code;
      limit = number_at 4 s record_offset.limit;
      timeout = number_at 4 s record_offset.timeout;
      timer = record { last = number_at 4 s record_offset.last; elapsed = number_at 8 s record_offset.elapsed };
    }

-- the timer within it: "20-23 last clock reading; 24-31 elapsed", for the contract of `write_timer`
abbrev pub encode_timer : Timer → List ℕ
encode_timer t = bytes 4 t.last ++ bytes 8 t.elapsed

-- "request at most 1, unnamed bytes and bits zero"
unfoldable pub record_form : List ℕ → Bool
record_form s =
    nat_lt (byte_at s record_offset.flags) 16
    && nat_le (byte_at s record_offset.request) 1
    && byte_at s record_offset.unnamed == 0
    && zero_at 4 s record_offset.unnamed_quad
    && zero_at 2 s record_offset.unnamed_pair

-- check 21 of one record of a kind
unfoldable pub sound_bytes : ℕ → List ℕ → Bool
sound_bytes k s = record_form s && sound k (decode_record s)
