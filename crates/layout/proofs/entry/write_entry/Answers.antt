-- `entry::write_entry` meets its contract: a line a field.
use Rattle.std.proofs.Common.{ℕ, ◌≡◌, arith, length, slice_index_or, refl}
use Rattle.words.specs.Word.{bytes}
use Rattle.block.specs.Entry.{most_pieces}
use Rattle.block.specs.declared.entry.Piece.{Piece}
use Rattle.layout.specs.EntryLayout.{piece_length, piece_offset, encode_piece, encode_entry}
use Rattle.layout.proofs.BufferLaws.{put_front}
use Rattle.layout.proofs.Fields.{none, value, field, byte}
use Rattle.layout.proofs.EntryLaws.{pieces_parts}
use Rattle.layout.proofs.entry.write_entry.Goals as goal

-- what stands past an array's end
abbrev no_piece : Piece
no_piece = record { reply = 0; code = 0; clock = 0 }

pub returns : goal.returns
unfolding encode_entry bytes
returns c =
    let e = c.args.e in
    let four : length e.pieces ≡ most_pieces = omega arith in
    let p : ℕ → Piece = λ i. slice_index_or e.pieces i no_piece in
    let inputs = byte c.inputs_byte.result _ (omega arith) (none c.args.out.now) c.put_at.ensures in
    let count = byte e.count _ (omega arith) inputs c.put_at-2.ensures in
    let abort_reply = byte e.abort_reply _ (omega arith) count c.put_at-3.ensures in
    let reset_reply = byte e.reset_reply _ (omega arith) abort_reply c.put_at-4.ensures in
    let abort_code = field 2 e.abort_code _ reset_reply c.put_at-5.ensures in
    let pair = field 2 0 _ abort_code c.put_at-6.ensures in
    let quad = field 4 0 _ pair c.put_at-7.ensures in
    let limit = field 4 e.limit _ quad c.put_at-8.ensures in
    let timeout = field 4 e.timeout _ limit c.put_at-9.ensures in
    let clock = field 4 e.clock _ timeout c.put_at-10.ensures in
    let first = value piece_length (encode_piece (p 0)) _ refl clock (put_front (piece_offset 0) piece_length _ (encode_piece (p 0)) _ refl c.write_piece.ensures) in
    let second = value piece_length (encode_piece (p 1)) _ refl first (put_front (piece_offset 1) piece_length _ (encode_piece (p 1)) _ refl c.write_piece-2.ensures) in
    let third = value piece_length (encode_piece (p 2)) _ refl second (put_front (piece_offset 2) piece_length _ (encode_piece (p 2)) _ refl c.write_piece-3.ensures) in
    let fourth = value piece_length (encode_piece (p 3)) _ refl third (put_front (piece_offset 3) piece_length _ (encode_piece (p 3)) _ refl c.write_piece-4.ensures) in
    let job = field 8 e.job _ fourth c.put_at-11.ensures in
    rw (← c.inputs_byte.ensures, ← pieces_parts no_piece e.pieces four) job.shown
