-- Check 31 on the bytes of a frame entry, with several bytes tested as one number. For `entry_bytes` and the functions that it calls.
use Prim.Native.Nat.{ℕ, ◌+◌, ◌*◌, ◌≤◌}
use mathlib.Core.Path.{◌≡◌, refl, sym, ◌∙◌}
use mathlib.Core.Bool.{Bool, true, false, ◌&&◌, and-false}
use mathlib.Core.List.{List}
use native.Mathlib.Omega.{arith}
use lib.Dec.{eqb, leb}
use lib.ListN.{length}
use borrow.Author.Tests.{ne_eqb, le-ltb}
use Rattle.words.specs.Word.{number_at, zero_at}
use Rattle.words.proofs.ZeroLaws.{zero_at_lem, zero_byte, zero_split, zero_last}
use Rattle.block.specs.Entry.{ErrorReply, most_pieces, code_fits, head_fits, piece_form, zero_piece, piece_fits, pieces_fit, entry_fits}
use Rattle.block.specs.declared.entry.Piece.{Piece}
use Rattle.layout.specs.Buffer.{entry_length, byte_at}
use Rattle.layout.specs.EntryLayout.{piece_length, head_length, piece_field, decode_piece, piece_zero, entry_offset, piece_offset, decode_entry, head_form, entry_form, entry_bytes}
use Rattle.layout.proofs.FieldLaws.{pair_low}

-- one piece: its zero byte, and its fields
module _ (s : List ℕ) (at : ℕ) (l : at + piece_length ≤ length s) where
  pub piece_within : leb (number_at 2 s at) ErrorReply && code_fits (byte_at s at) (number_at 2 s (at + piece_field.code)) ≡ piece_zero s at && piece_form (decode_piece s at)
  piece_within =
      rw (pair_low s at (omega arith) ErrorReply (omega arith))
      (swapped (leb (byte_at s at) ErrorReply) (piece_zero s at) (code_fits (byte_at s at) (number_at 2 s (at + piece_field.code))))
    where
      swapped : (reply zero code : Bool) → reply && zero && code ≡ zero && (reply && code)
      swapped true true code = refl
      swapped true false code = refl
      swapped false true code = refl
      swapped false false code = refl

  pub piece_past : eqb (number_at piece_length s at) 0 ≡ piece_zero s at && zero_piece (decode_piece s at)
  piece_past =
      sym (zero_at_lem piece_length at s)
      ∙ zero_last piece_field.clock 4 at s
      ∙ rw (
        zero_last piece_field.code 2 at s,
        zero_split piece_field.unnamed 1 at s,
        zero_byte at s (omega arith),
        zero_byte (at + piece_field.unnamed) s (omega arith),
      )
      (first (eqb (byte_at s at) 0) (piece_zero s at) (eqb (number_at 2 s (at + piece_field.code)) 0) (eqb (number_at 4 s (at + piece_field.clock)) 0))
    where
      first : (reply zero code clock : Bool) → reply && zero && code && clock ≡ zero && (reply && code && clock)
      first true true code clock = refl
      first true false code clock = refl
      first false true code clock = refl
      first false false code clock = refl

-- past the count
pub piece_uncounted : (n i : ℕ) (p : Piece) (zero : Bool) → n ≤ i → zero && zero_piece p ≡ zero && piece_fits n i p
piece_uncounted n i p zero h = rw (le-ltb i n h)

-- check 31 of an entry: its head, then each piece
abbrev pub head_test : List ℕ → Bool
head_test s = head_form s && head_fits (decode_entry s)

abbrev pub piece_test : List ℕ → ℕ → Bool
piece_test s i = piece_zero s (piece_offset i) && piece_fits (byte_at s entry_offset.count) i (decode_piece s (piece_offset i))

abbrev pub pieces_test : List ℕ → Bool
pieces_test s = piece_test s 0 && piece_test s 1 && piece_test s 2 && piece_test s 3

-- the head: the fields of one byte, then the abort code and the unnamed bytes after it, which without an error reply are one number
module _ (s : List ℕ) where
  abbrev abort_reply : ℕ
  abort_reply = byte_at s entry_offset.abort_reply

  abbrev abort_code : ℕ
  abort_code = number_at 2 s entry_offset.abort_code

  abbrev pub code_test : Bool
  code_test = code_fits abort_reply abort_code && zero_at 2 s entry_offset.unnamed_pair && zero_at 4 s entry_offset.unnamed_quad

  pub code_zero : (abort_reply ≡ ErrorReply → ⊥) → eqb (number_at 8 s entry_offset.abort_code) 0 ≡ code_test
  code_zero n =
      sym (zero_at_lem 8 entry_offset.abort_code s)
      ∙ zero_split 4 4 entry_offset.abort_code s
      ∙ rw (zero_split 2 2 entry_offset.abort_code s, zero_at_lem 2 entry_offset.abort_code s, ne_eqb abort_reply ErrorReply n)

  pub code_error : abort_reply ≡ ErrorReply
      → code_fits ErrorReply abort_code && eqb (number_at 2 s entry_offset.unnamed_pair) 0 && eqb (number_at 4 s entry_offset.unnamed_quad) 0 ≡ code_test
  code_error e =
      λ i. code_fits (sym e i) abort_code && sym (zero_at_lem 2 entry_offset.unnamed_pair s) i && sym (zero_at_lem 4 entry_offset.unnamed_quad s) i

-- no pieces: four numbers of eight bytes
abbrev zero_place : List ℕ → ℕ → Bool
zero_place s i = eqb (number_at piece_length s (piece_offset i)) 0

pub pieces_zero : (s : List ℕ)
    → zero_place s 0 && zero_place s 1 && zero_place s 2 && zero_place s 3 ≡ zero_at (piece_length * most_pieces) s head_length
pieces_zero s =
    sym (zero_last (piece_length * 3) piece_length head_length s
    ∙ rw (
      zero_last (piece_length * 2) piece_length head_length s,
      zero_last piece_length piece_length head_length s,
      zero_at_lem piece_length head_length s,
    ))

pub no_pieces : (s : List ℕ) → entry_length ≤ length s → byte_at s entry_offset.count ≡ 0 → zero_at (piece_length * most_pieces) s head_length ≡ pieces_test s
no_pieces s l none =
    sym (pieces_zero s) ∙ (λ j. past 0 (omega arith) j && past 1 (omega arith) j && past 2 (omega arith) j && past 3 (omega arith) j)
  where
    past : (i : ℕ) → piece_offset i + piece_length ≤ length s → zero_place s i ≡ piece_test s i
    past i h =
        piece_past s (piece_offset i) h
        ∙ piece_uncounted (byte_at s entry_offset.count) i (decode_piece s (piece_offset i)) (piece_zero s (piece_offset i)) (omega arith)

-- the same tests, piece by piece
by_piece : (form fits a p b q c r d t : Bool)
    → form && a && b && c && d && (fits && (p && (q && (r && (t && true))))) ≡ form && fits && (a && p && (b && q) && (c && r) && (d && t))
by_piece false fits a p b q c r d t = refl
by_piece true false a p b q c r d t = and-false (a && b && c && d)
by_piece true true false p b q c r d t = refl
by_piece true true true false b q c r d t = and-false (b && c && d)
by_piece true true true true false q c r d t = refl
by_piece true true true true true false c r d t = and-false (c && d)
by_piece true true true true true true false r d t = refl
by_piece true true true true true true true false d t = and-false d
by_piece true true true true true true true true false t = refl
by_piece true true true true true true true true true true = refl
by_piece true true true true true true true true true false = refl

pub entry_tests : (s : List ℕ) → entry_bytes s ≡ head_test s && pieces_test s
unfolding entry_bytes entry_form entry_fits decode_entry pieces_fit
entry_tests s =
    let zero : ℕ → Bool = λ i. piece_zero s (piece_offset i) in
    let fits : ℕ → Bool = λ i. piece_fits (byte_at s entry_offset.count) i (decode_piece s (piece_offset i)) in
    by_piece (head_form s) (head_fits (decode_entry s)) (zero 0) (fits 0) (zero 1) (fits 1) (zero 2) (fits 2) (zero 3) (fits 3)
