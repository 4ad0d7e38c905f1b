-- `entry::decode_entry` meets its contract, field by field; each piece is the one in its number.
use Rattle.std.proofs.Common.{ℕ, ◌≡◌, ◌+◌, ◌≤◌, ◌∙◌, [], ◌∷◌, ap, arith, length}
use Rattle.words.specs.Word.{number_at}
use Rattle.block.specs.PackedEntry.{piece_of}
use Rattle.layout.specs.Buffer.{byte_at}
use Rattle.layout.specs.EntryLayout.{piece_length, entry_offset, piece_offset, decode_piece, decode_entry}
use Rattle.layout.proofs.EntryLaws.{packed_piece}
use Rattle.layout.proofs.entry.decode_entry.Goals as goal

pub returns : goal.returns
unfolding decode_entry
returns c =
    let s = c.args.s.now in
    let piece : (word i : ℕ) → word ≡ number_at piece_length s (piece_offset i) → piece_offset i + piece_length ≤ length s → piece_of word ≡ decode_piece s (piece_offset i) =
    λ word i e l. ap piece_of e ∙ packed_piece s (piece_offset i) (λ j. (c.type_inv.s j).fits) l in
    λ i. record {
      inputs = c.decode_inputs.ensures i;
      count = byte_at s entry_offset.count;
      abort_reply = byte_at s entry_offset.abort_reply;
      reset_reply = byte_at s entry_offset.reset_reply;
      abort_code = c.read_at-5.ensures i;
      job = c.read_at-6.ensures i;
      limit = c.read_at-7.ensures i;
      timeout = c.read_at-8.ensures i;
      clock = c.read_at-9.ensures i;
      pieces =
          piece _ 0 c.read_at.ensures (omega (arith, c.requires)) i
          ∷ piece _ 1 c.read_at-2.ensures (omega (arith, c.requires)) i
          ∷ piece _ 2 c.read_at-3.ensures (omega (arith, c.requires)) i
          ∷ piece _ 3 c.read_at-4.ensures (omega (arith, c.requires)) i
          ∷ [];
    }
