-- Document 01, "Frame entry": which entries are as the paper says, by their fields (check 31).
use Rattle.std.specs.Prelude.{ℕ, suc, Bool, true, not, ◌&&◌, ◌||◌, List, [], ◌∷◌, eqb, leb, ltb}
use Rattle.block.specs.declared.entry.Piece.{Piece}
use Rattle.block.specs.declared.entry.EntryOf.{EntryOf}

-- "A frame entry has": its fields, the pieces one by one
abbrev pub Entry : Type 0
Entry = EntryOf (List Piece)

-- "Replies: 0 working, 1 complete, 2 error"
abbrev pub Working : ℕ
Working = 0

abbrev pub Complete : ℕ
Complete = 1

abbrev pub ErrorReply : ℕ
ErrorReply = 2

-- "piece count n, 0 to 4"
abbrev pub most_pieces : ℕ
most_pieces = 4

-- "A code is 2 to 65,535 with reply 2, else 0."
abbrev pub least_error_code : ℕ
least_error_code = 2

abbrev pub code_fits : ℕ → ℕ → Bool
code_fits reply code = (eqb reply ErrorReply && leb least_error_code code) || (not (eqb reply ErrorReply) && eqb code 0)

-- a piece as the paper says
abbrev pub piece_form : Piece → Bool
piece_form p = leb p.reply ErrorReply && code_fits p.reply p.code

-- "Pieces past n are zero."
abbrev pub zero_piece : Piece → Bool
zero_piece p = eqb p.reply 0 && eqb p.code 0 && eqb p.clock 0

-- piece i, from 0, of an entry that has n of them
abbrev pub piece_fits : ℕ → ℕ → Piece → Bool
piece_fits n i p = (ltb i n && piece_form p) || (not (ltb i n) && zero_piece p)

-- the pieces from the i-th on
unfoldable pub pieces_fit : ℕ → ℕ → List Piece → Bool
pieces_fit n i [] = true
pieces_fit n i (p ∷ ps) = piece_fits n i p && pieces_fit n (suc i) ps

-- what stands before the pieces; "reset never 2"
abbrev pub head_fits : Entry → Bool
head_fits e =
    leb e.count most_pieces
    && leb e.abort_reply ErrorReply
    && leb e.reset_reply Complete
    && code_fits e.abort_reply e.abort_code

unfoldable pub entry_fits : Entry → Bool
entry_fits e = head_fits e && pieces_fit e.count 0 e.pieces
