-- A frame entry whose pieces are numbers of eight bytes, and the entry that it stands for. For the contracts of the rules, of `call`
-- and of `decode_entry`; the entry of document 01 is the one that it stands for.
use Rattle.std.specs.Prelude.{ℕ, ◌/◌, ◌%◌, List, map}
use Rattle.block.specs.declared.entry.Piece.{Piece}
use Rattle.block.specs.declared.entry.EntryOf.{EntryOf}
use Rattle.block.specs.Entry.{Entry}

-- the same with its pieces as numbers
abbrev pub PackedEntry : Type 0
PackedEntry = EntryOf (List ℕ)

-- the piece in a number: its reply in the lowest byte, an unnamed byte, its code in two, its clock in four
abbrev pub piece_of : ℕ → Piece
piece_of word = record { reply = word % 256; code = word / 65536 % 65536; clock = word / 4294967296 }

-- the entry that a packed one stands for
abbrev pub entry_of : PackedEntry → Entry
entry_of e =
    record {
      inputs = e.inputs;
      count = e.count;
      abort_reply = e.abort_reply;
      reset_reply = e.reset_reply;
      abort_code = e.abort_code;
      job = e.job;
      limit = e.limit;
      timeout = e.timeout;
      clock = e.clock;
      pieces = map piece_of e.pieces;
    }
