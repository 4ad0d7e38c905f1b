-- Frame entries as bytes, and back: each undoes the other, and what is read fits its bytes. For the engine, which reads entries from the frame,
-- and for programs that build frames.
use Prim.Native.Nat.{ℕ, suc, ◌+◌, ◌*◌, ◌/◌, ◌%◌, ◌<◌, ◌≤◌}
use mathlib.Core.Path.{◌≡◌, refl, ap, sym, ◌∙◌}
use mathlib.Core.Bool.{Bool, true}
use mathlib.Core.List.{List, [], ◌∷◌, ◌++◌, append_assoc, append-nil}
use native.Mathlib.Omega.{arith}
use lib.Dec.{ltb}
use lib.ListN.{length, get_or, take, drop, length-drop, replicate}
use lib.Seq.{take_all, drop_at, drop-drop}
use borrow.Author.Tests.{ltb-true, eqb-true, lt-ltb}
use Rattle.words.specs.Word.{Bytes, number, bytes, number_at, all_zero, zero_at}
use Rattle.words.proofs.WordLaws.{number_one, number_split, length_bytes, bytes_bytes, number_of_bytes}
use Rattle.block.specs.Entry.{most_pieces, entry_fits}
use Rattle.block.specs.PackedEntry.{piece_of}
use Rattle.block.specs.declared.entry.Piece.{Piece}
use Rattle.block.specs.Entry.{Entry}
use Rattle.layout.specs.Buffer.{entry_length, byte_at, job_width}
use Rattle.layout.specs.EntryLayout.{piece_length, piece_field, entry_offset, head_length, piece_offset, piece_zero, entry_form, entry_bytes}
use Rattle.layout.specs.EntryLayout.{encode_piece, decode_piece, encode_pieces, inputs_byte, encode_entry, decode_entry}
use Rattle.layout.proofs.Fits.{All, nil, cons, PieceFits, EntryFits}
use Rattle.layout.proofs.BitLaws.{inputs_bound, inputs_trip, inputs_back}
use Rattle.layout.proofs.BufferLaws.{bytes_append, bytes_cons, bytes_zeros}
use Rattle.membership.proofs.Logic.{and_right}
use Rattle.std.proofs.lemmas.Bool.{and_from}
use Rattle.block.proofs.Tests.{each}
use Rattle.layout.proofs.FieldLaws.{field_bound, field_back, field_last, zero_back, byte_back}

-- four pieces read back
piece_trip : (p : Piece) → PieceFits p → ◌≡◌ {A = Piece} (record { reply = p.reply; code = number (bytes 2 p.code); clock = number (bytes 4 p.clock) }) p
piece_trip p h =
    λ i. record { reply = p.reply; code = number_of_bytes 2 p.code h.code i; clock = number_of_bytes 4 p.clock h.clock i }

-- whatever stands after them
module _ (rest : List ℕ) where
  abbrev piece_of_lem : List Piece → ℕ → Piece
  piece_of_lem ps i = decode_piece (encode_pieces ps ++ rest) (piece_length * i)

  pieces_trip : (ps : List Piece) → length ps ≡ most_pieces → All PieceFits ps
      → piece_of_lem ps 0 ∷ piece_of_lem ps 1 ∷ piece_of_lem ps 2 ∷ piece_of_lem ps 3 ∷ [] ≡ ps
  unfolding encode_pieces bytes
  pieces_trip ps l nil = absurd (omega arith)
  pieces_trip ps l (cons h nil) = absurd (omega arith)
  pieces_trip ps l (cons h (cons i nil)) = absurd (omega arith)
  pieces_trip ps l (cons h (cons i (cons j nil))) = absurd (omega arith)
  pieces_trip ps l (cons {x = p} h (cons {x = q} i (cons {x = r} j (cons {x = s} k nil)))) =
      λ t. piece_trip p h t ∷ piece_trip q i t ∷ piece_trip r j t ∷ piece_trip s k t ∷ []
  pieces_trip ps l (cons h (cons i (cons j (cons k (cons m a))))) = absurd (omega arith)

-- how long they are
pieces_length : (ps : List Piece) → length ps ≡ most_pieces → length (encode_pieces ps) ≡ piece_length * most_pieces
unfolding encode_pieces bytes
pieces_length [] l = absurd (omega arith)
pieces_length (p ∷ []) l = absurd (omega arith)
pieces_length (p ∷ q ∷ []) l = absurd (omega arith)
pieces_length (p ∷ q ∷ r ∷ []) l = absurd (omega arith)
pieces_length (p ∷ q ∷ r ∷ s ∷ []) l = refl
pieces_length (p ∷ q ∷ r ∷ s ∷ t ∷ ps) l = absurd (omega arith)

-- the job read back after them
after_head : (e : Entry) → drop head_length (encode_entry e) ≡ encode_pieces e.pieces ++ bytes job_width e.job
unfolding encode_entry bytes
after_head e = refl

after_pieces : (e : Entry) → length e.pieces ≡ most_pieces → drop entry_offset.job (encode_entry e) ≡ bytes job_width e.job
after_pieces e l =
    sym (drop-drop (piece_length * most_pieces) head_length (encode_entry e))
    ∙ ap (drop (piece_length * most_pieces)) (after_head e)
    ∙ drop_at (encode_pieces e.pieces) (bytes job_width e.job) (piece_length * most_pieces) (pieces_length e.pieces l)

job_trip : (e : Entry) → EntryFits e → number_at job_width (encode_entry e) entry_offset.job ≡ e.job
job_trip e h =
    ap (λ (x : List ℕ). number (take job_width x)) (after_pieces e h.four)
    ∙ ap number (take_all job_width (bytes job_width e.job) (omega (arith, length_bytes job_width e.job)))
    ∙ number_of_bytes job_width e.job h.job

pub decode_encode : (e : Entry) → EntryFits e → decode_entry (encode_entry e) ≡ e
unfolding encode_entry decode_entry bytes
decode_encode e h =
    λ i. record {
      inputs = inputs_trip e.inputs i;
      count = e.count;
      abort_reply = e.abort_reply;
      reset_reply = e.reset_reply;
      abort_code = number_of_bytes 2 e.abort_code h.abort_code i;
      job = job_trip e h i;
      limit = number_of_bytes 4 e.limit h.limit i;
      timeout = number_of_bytes 4 e.timeout h.timeout i;
      clock = number_of_bytes 4 e.clock h.clock i;
      pieces = pieces_trip (bytes job_width e.job) e.pieces h.four h.pieces i;
    }

-- what the form of the bytes says
pub record FormBytes (s : List ℕ) : Type 0 where
  pub inputs : byte_at s entry_offset.inputs < 4
  pub pair : zero_at 2 s entry_offset.unnamed_pair ≡ true
  pub quad : zero_at 4 s entry_offset.unnamed_quad ≡ true
  pub first : byte_at s (piece_offset 0 + piece_field.unnamed) ≡ 0
  pub second : byte_at s (piece_offset 1 + piece_field.unnamed) ≡ 0
  pub third : byte_at s (piece_offset 2 + piece_field.unnamed) ≡ 0
  pub fourth : byte_at s (piece_offset 3 + piece_field.unnamed) ≡ 0

pub form_bytes : (s : List ℕ) → entry_form s ≡ true → FormBytes s
unfolding entry_form
form_bytes s h =
    let inputs = byte_at s entry_offset.inputs in
    let pair = zero_at 2 s entry_offset.unnamed_pair in
    let quad = zero_at 4 s entry_offset.unnamed_quad in
    let z : ℕ → Bool = λ i. piece_zero s (piece_offset i) in
    let at : ℕ → ℕ = λ i. byte_at s (piece_offset i + piece_field.unnamed) in
    let p = each (ltb inputs 4) (pair ∷ quad ∷ z 0 ∷ z 1 ∷ z 2 ∷ z 3 ∷ []) h in
    record {
      inputs = ltb-true inputs 4 p.0;
      pair = p.1.0;
      quad = p.1.1.0;
      first = eqb-true (at 0) 0 p.1.1.1.0;
      second = eqb-true (at 1) 0 p.1.1.1.1.0;
      third = eqb-true (at 2) 0 p.1.1.1.1.1.0;
      fourth = eqb-true (at 3) 0 p.1.1.1.1.1.1;
    }

-- a piece written back, and the rest
piece_back : (i : ℕ) (s rest : List ℕ) → Bytes s → i + piece_length ≤ length s → byte_at s (i + piece_field.unnamed) ≡ 0 → rest ≡ drop (i + piece_length) s
    → encode_piece (decode_piece s i) ++ rest ≡ drop i s
piece_back i s rest b h z e =
    let e₁ : i + 1 ≡ suc i = omega arith in
    let e₂ : suc (suc i) ≡ i + 2 = omega arith in
    let e₄ : i + 2 + 2 ≡ i + 4 = omega arith in
    let e₈ : i + 4 + 4 ≡ i + 8 = omega arith in
    let code : List ℕ = bytes 2 (number_at 2 s (i + piece_field.code)) in
    let clock : List ℕ = bytes 4 (number_at 4 s (i + piece_field.clock)) in
    let two : clock ++ rest ≡ drop (i + piece_field.clock) s = field_back 4 (i + piece_field.clock) s rest b (omega arith) (rw e₈ e) in
    let three : code ++ clock ++ rest ≡ drop (i + piece_field.code) s =
    append_assoc code clock rest ∙ field_back 2 (i + piece_field.code) s (clock ++ rest) b (omega arith) (rw e₄ two) in
    byte_back i (byte_at s i) s _ (omega arith) refl (byte_back (suc i) 0 s _ (omega arith) (sym (rw e₁ at z)) (rw e₂ three))

-- four pieces, and the rest
regroup : (a b c d x : List ℕ) → a ++ (b ++ (c ++ (d ++ []))) ++ x ≡ a ++ (b ++ (c ++ (d ++ x)))
regroup a b c d x = simp (append_assoc, append-nil)

pub encode_decode : (s : List ℕ) → length s ≡ entry_length → Bytes s → entry_form s ≡ true → encode_entry (decode_entry s) ≡ s
unfolding encode_entry decode_entry encode_pieces
encode_decode s l b h =
    let f = form_bytes s h in
    let p : ℕ → List ℕ = λ i. encode_piece (decode_piece s (piece_offset i)) in
    let job : List ℕ = bytes job_width (number_at job_width s entry_offset.job) in
    byte_back entry_offset.inputs _ s _ (omega arith) (inputs_back (byte_at s entry_offset.inputs) f.inputs)
    (byte_back entry_offset.count _ s _ (omega arith) refl
    (byte_back entry_offset.abort_reply _ s _ (omega arith) refl
    (byte_back entry_offset.reset_reply _ s _ (omega arith) refl
    (field_back 2 entry_offset.abort_code s _ b (omega arith)
    (zero_back 2 entry_offset.unnamed_pair s _ f.pair (omega arith)
    (zero_back 4 entry_offset.unnamed_quad s _ f.quad (omega arith)
    (field_back 4 entry_offset.limit s _ b (omega arith)
    (field_back 4 entry_offset.timeout s _ b (omega arith)
    (field_back 4 entry_offset.clock s _ b (omega arith)
    (regroup (p 0) (p 1) (p 2) (p 3) job
    ∙ piece_back (piece_offset 0) s _ b (omega arith) f.first
    (piece_back (piece_offset 1) s _ b (omega arith) f.second
    (piece_back (piece_offset 2) s _ b (omega arith) f.third
    (piece_back (piece_offset 3) s _ b (omega arith) f.fourth
    (field_last job_width entry_offset.job s b l))))))))))))))

-- what is read fits
piece_fits : (i : ℕ) (s : List ℕ) → Bytes s → PieceFits (decode_piece s i)
piece_fits i s b = record { reply = b i; code = field_bound 2 (i + piece_field.code) s b; clock = field_bound 4 (i + piece_field.clock) s b }

pub decode_fits : (s : List ℕ) → Bytes s → EntryFits (decode_entry s)
unfolding decode_entry
decode_fits s b =
    record {
      count = b entry_offset.count;
      abort_reply = b entry_offset.abort_reply;
      reset_reply = b entry_offset.reset_reply;
      abort_code = field_bound 2 entry_offset.abort_code s b;
      job = field_bound job_width entry_offset.job s b;
      limit = field_bound 4 entry_offset.limit s b;
      timeout = field_bound 4 entry_offset.timeout s b;
      clock = field_bound 4 entry_offset.clock s b;
      four = refl;
      pieces =
          cons (piece_fits (piece_offset 0) s b)
          (cons (piece_fits (piece_offset 1) s b) (cons (piece_fits (piece_offset 2) s b) (cons (piece_fits (piece_offset 3) s b) nil)));
    }

-- what is written: its length, in form
pub encode_length : (e : Entry) → length e.pieces ≡ most_pieces → length (encode_entry e) ≡ entry_length
encode_length e l =
    let n : length (drop entry_offset.job (encode_entry e)) ≡ job_width = ap length (after_pieces e l) ∙ length_bytes job_width e.job in
    omega (arith, n, length-drop entry_offset.job (encode_entry e))

-- it is bytes
pieces_bytes : {ps : List Piece} → All PieceFits ps → Bytes (encode_pieces ps)
unfolding encode_pieces
pieces_bytes nil = bytes_zeros 0
pieces_bytes (cons {x = p} {xs = ps} h a) =
    let code : List ℕ = bytes 2 p.code ++ bytes 4 p.clock in
    bytes_append (encode_piece p) (encode_pieces ps)
    (bytes_cons p.reply (0 ∷ code) h.reply
    (bytes_cons 0 code (omega arith) (bytes_append (bytes 2 p.code) (bytes 4 p.clock) (bytes_bytes 2 p.code) (bytes_bytes 4 p.clock))))
    (pieces_bytes a)

-- a field and what stands after it
field_then : (w x : ℕ) (l : List ℕ) → Bytes l → Bytes (bytes w x ++ l)
field_then w x l b = bytes_append (bytes w x) l (bytes_bytes w x) b

pub encode_bytes : (e : Entry) → EntryFits e → Bytes (encode_entry e)
unfolding encode_entry
encode_bytes e f =
    let bound : inputs_byte e.inputs < 4 = inputs_bound e.inputs in
    let pieces : List ℕ = encode_pieces e.pieces ++ bytes job_width e.job in
    let clock : List ℕ = bytes 4 e.clock ++ pieces in
    let timeout : List ℕ = bytes 4 e.timeout ++ clock in
    let limit : List ℕ = bytes 4 e.limit ++ timeout in
    let quad : List ℕ = replicate 4 0 ++ limit in
    let pair : List ℕ = replicate 2 0 ++ quad in
    let code : List ℕ = bytes 2 e.abort_code ++ pair in
    bytes_cons (inputs_byte e.inputs) (e.count ∷ e.abort_reply ∷ e.reset_reply ∷ code) (omega arith)
    (bytes_cons e.count (e.abort_reply ∷ e.reset_reply ∷ code) f.count
    (bytes_cons e.abort_reply (e.reset_reply ∷ code) f.abort_reply
    (bytes_cons e.reset_reply code f.reset_reply
    (field_then 2 e.abort_code pair
    (bytes_append (replicate 2 0) quad (bytes_zeros 2)
    (bytes_append (replicate 4 0) limit (bytes_zeros 4)
    (field_then 4 e.limit timeout
    (field_then 4 e.timeout clock
    (field_then 4 e.clock pieces
    (bytes_append (encode_pieces e.pieces) (bytes job_width e.job) (pieces_bytes f.pieces) (bytes_bytes job_width e.job)))))))))))

-- the zero byte of each of four pieces
module _ (rest : List ℕ) where
  abbrev zero_of : List Piece → ℕ → ℕ
  zero_of ps i = byte_at (encode_pieces ps ++ rest) (piece_length * i + piece_field.unnamed)

  pieces_form : (ps : List Piece) → length ps ≡ most_pieces
      → (zero_of ps 0 ≡ 0) × (zero_of ps 1 ≡ 0) × (zero_of ps 2 ≡ 0) × (zero_of ps 3 ≡ 0)
  unfolding encode_pieces bytes
  pieces_form [] l = absurd (omega arith)
  pieces_form (p ∷ []) l = absurd (omega arith)
  pieces_form (p ∷ q ∷ []) l = absurd (omega arith)
  pieces_form (p ∷ q ∷ r ∷ []) l = absurd (omega arith)
  pieces_form (p ∷ q ∷ r ∷ s ∷ []) l = (refl, refl, refl, refl)
  pieces_form (p ∷ q ∷ r ∷ s ∷ t ∷ ps) l = absurd (omega arith)

pub encode_form : (e : Entry) → length e.pieces ≡ most_pieces → entry_form (encode_entry e) ≡ true
unfolding entry_form encode_entry bytes all_zero
encode_form e l =
    let z = pieces_form (bytes job_width e.job) e.pieces l in
    rw (lt-ltb (inputs_byte e.inputs) 4 (inputs_bound e.inputs), z.0, z.1, z.2, z.3)

-- four pieces put one by one
pub pieces_parts : (d : Piece) (ps : List Piece) → length ps ≡ most_pieces
    → encode_piece (get_or ps 0 d) ++ (encode_piece (get_or ps 1 d) ++ (encode_piece (get_or ps 2 d) ++ (encode_piece (get_or ps 3 d) ++ []))) ≡ encode_pieces ps
unfolding encode_pieces
pieces_parts d [] l = absurd (omega arith)
pieces_parts d (p ∷ []) l = absurd (omega arith)
pieces_parts d (p ∷ q ∷ []) l = absurd (omega arith)
pieces_parts d (p ∷ q ∷ r ∷ []) l = absurd (omega arith)
pieces_parts d (p ∷ q ∷ r ∷ s ∷ []) l = refl
pieces_parts d (p ∷ q ∷ r ∷ s ∷ t ∷ ps) l = absurd (omega arith)

-- what passes check 31: an entry as the paper says that fits its bytes
pub entry_fits_lem : (s : List ℕ) → entry_bytes s ≡ true → entry_fits (decode_entry s) ≡ true
unfolding entry_bytes
entry_fits_lem s h = and_right (entry_form s) (entry_fits (decode_entry s)) h

pub entry_encode : (e : Entry) → EntryFits e → entry_fits e ≡ true → entry_bytes (encode_entry e) ≡ true
unfolding entry_bytes
entry_encode e f h =
    and_from (entry_form (encode_entry e)) (entry_fits (decode_entry (encode_entry e))) (encode_form e f.four) (ap entry_fits (decode_encode e f) ∙ h)

-- a piece in the number of its eight bytes, for `decode_entry`
pub packed_piece : (s : List ℕ) (at : ℕ) → Bytes s → at + piece_length ≤ length s → piece_of (number_at piece_length s at) ≡ decode_piece s at
packed_piece s at b h =
    λ i. record { reply = reply i; code = code i; clock = clock i }
  where
    reply : number_at piece_length s at % 256 ≡ byte_at s at
    reply =
        omega (arith, number_split 1 7 s at (omega arith), number_one s at (omega arith), b at)

    clock : number_at piece_length s at / 4294967296 ≡ number_at 4 s (at + piece_field.clock)
    clock = omega (arith, number_split 4 4 s at (omega arith), field_bound 4 at s b)

    code : number_at piece_length s at / 65536 % 65536 ≡ number_at 2 s (at + piece_field.code)
    code =
        omega (arith, number_split 2 6 s at (omega arith), number_split 2 4 s (at + 2) (omega arith), field_bound 2 at s b, field_bound 2 (at + 2) s b)
