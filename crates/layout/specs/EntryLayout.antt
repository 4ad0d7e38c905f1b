-- Document 01, "Frame entry", with the job as document 02, 3/14 places it: an entry as bytes, and back.
use Rattle.std.specs.Prelude.{ℕ, ◌+◌, ◌*◌, Bool, ◌&&◌, List, [], ◌∷◌, ◌++◌, ◌==◌, nat_lt, replicate}
use Rattle.words.specs.Word.{bytes, number_at, zero_at}
use Rattle.block.specs.Record.{bit}
use Rattle.block.specs.Entry.{entry_fits}
use Rattle.layout.specs.Buffer.{byte_at, job_width}
use Rattle.layout.specs.RecordLayout.{bit_of}
use Rattle.block.specs.declared.entry.Inputs.{Inputs}
use Rattle.block.specs.declared.entry.Piece.{Piece}
use Rattle.block.specs.Entry.{Entry}

-- "pieces of 8: reply, zero, code (2 bytes), clock after the piece (4 bytes)"
abbrev pub piece_length : ℕ
piece_length = 8

-- where each of them begins in the piece; the reply is first
pub record PieceOffsets : Type 0 where
  pub unnamed : ℕ
  pub code : ℕ
  pub clock : ℕ

abbrev pub piece_field : PieceOffsets
piece_field = record { unnamed = 1; code = 2; clock = 4 }

abbrev pub encode_piece : Piece → List ℕ
encode_piece p = p.reply ∷ 0 ∷ [] ++ (bytes 2 p.code ++ bytes 4 p.clock)

abbrev pub decode_piece : List ℕ → ℕ → Piece
decode_piece s at = record { reply = byte_at s at; code = number_at 2 s (at + piece_field.code); clock = number_at 4 s (at + piece_field.clock) }

-- whether its zero byte is zero
abbrev pub piece_zero : List ℕ → ℕ → Bool
piece_zero s at = byte_at s (at + piece_field.unnamed) == 0

unfoldable pub encode_pieces : List Piece → List ℕ
encode_pieces [] = []
encode_pieces (p ∷ ps) = encode_piece p ++ encode_pieces ps

-- "0 inputs (bit 0 start ...; bit 1 abort; others zero)"
abbrev pub inputs_byte : Inputs → ℕ
inputs_byte i = bit i.start + 2 * bit i.abort

abbrev pub decode_inputs : ℕ → Inputs
decode_inputs b = record { start = bit_of b 1; abort = bit_of b 2 }

-- where each field begins, and the unnamed bytes: two after the abort code, and four more
pub record EntryOffsets : Type 0 where
  pub inputs : ℕ
  pub count : ℕ
  pub abort_reply : ℕ
  pub reset_reply : ℕ
  pub abort_code : ℕ
  pub unnamed_pair : ℕ
  pub unnamed_quad : ℕ
  pub limit : ℕ
  pub timeout : ℕ
  pub clock : ℕ
  pub pieces : ℕ
  pub job : ℕ

-- "1 piece count n, 0 to 4; 2 abort reply; 3 reset reply; 4-5 abort error code; ... 12-15 time limit; 16-19 time-out; 20-23 clock at the call; from 24, four pieces of 8" "job in 56-63, bytes 8-11 zero"
abbrev pub entry_offset : EntryOffsets
entry_offset =
    record { inputs = 0; count = 1; abort_reply = 2; reset_reply = 3; abort_code = 4; unnamed_pair = 6; unnamed_quad = 8; limit = 12; timeout = 16; clock = 20; pieces = 24; job = 56 }

-- the bytes before the pieces; piece i, from 0
abbrev pub head_length : ℕ
head_length = entry_offset.pieces

abbrev pub piece_offset : ℕ → ℕ
piece_offset i = head_length + piece_length * i

unfoldable pub encode_entry : Entry → List ℕ
encode_entry e =
    (inputs_byte e.inputs ∷ e.count ∷ e.abort_reply ∷ e.reset_reply ∷ [])
    ++ (bytes 2 e.abort_code
    ++ (replicate 2 0
    ++ (replicate 4 0
    ++ (bytes 4 e.limit
    ++ (bytes 4 e.timeout
    ++ (bytes 4 e.clock
    ++ (encode_pieces e.pieces
    ++ bytes job_width e.job)))))))

unfoldable pub decode_entry : List ℕ → Entry
decode_entry s =
    record {
      inputs = decode_inputs (byte_at s entry_offset.inputs);
      count = byte_at s entry_offset.count;
      abort_reply = byte_at s entry_offset.abort_reply;
      reset_reply = byte_at s entry_offset.reset_reply;
      abort_code = number_at 2 s entry_offset.abort_code;
      job = number_at job_width s entry_offset.job;
      limit = number_at 4 s entry_offset.limit;
      timeout = number_at 4 s entry_offset.timeout;
      clock = number_at 4 s entry_offset.clock;
      pieces = decode_piece s (piece_offset 0) ∷ decode_piece s (piece_offset 1) ∷ decode_piece s (piece_offset 2) ∷ decode_piece s (piece_offset 3) ∷ [];
    }

-- "others zero"; the unnamed bytes are zero, before the pieces
abbrev pub head_form : List ℕ → Bool
head_form s =
    nat_lt (byte_at s entry_offset.inputs) 4 && zero_at 2 s entry_offset.unnamed_pair && zero_at 4 s entry_offset.unnamed_quad

-- and in each piece
unfoldable pub entry_form : List ℕ → Bool
entry_form s = head_form s && piece_zero s (piece_offset 0) && piece_zero s (piece_offset 1) && piece_zero s (piece_offset 2) && piece_zero s (piece_offset 3)

-- check 31 of one entry
unfoldable pub entry_bytes : List ℕ → Bool
entry_bytes s = entry_form s && entry_fits (decode_entry s)
