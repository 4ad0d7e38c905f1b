-- A frame made of an entry for each block: each is read back, and the frame passes its checks. For the scans that write a journal.
use Rattle.std.proofs.Common.{◌≡◌, ℕ, zero, suc, ◌*◌, ◌<◌, true, List, [], ◌++◌, length, refl, ap, ◌∙◌, arith, length-append, take_all, drop_at}
use Rattle.std.proofs.Math.Decide.{ℕ_discrete}
use Rattle.std.proofs.Math.Logic.{by_cases}
use Rattle.words.specs.Word.{Bytes}
use Rattle.layout.specs.Buffer.{entry_length, part}
use Rattle.layout.specs.EntryLayout.{encode_entry, decode_entry, entry_bytes}
use Rattle.layout.proofs.Fits.{EntryFits}
use Rattle.layout.proofs.BufferLaws.{bytes_append, bytes_zeros, part_left}
use Rattle.layout.proofs.EntryLaws.{decode_encode, encode_length, encode_bytes, entry_encode}
use Rattle.block.specs.Entry.{entry_fits}
use Rattle.block.specs.Entry.{Entry}
use Rattle.engine.specs.Serve.{entry_in}

-- the entries f 0 to f (n - 1)
unfoldable pub frame_of : (ℕ → Entry) → ℕ → List ℕ
frame_of f zero = []
frame_of f (suc n) = frame_of f n ++ encode_entry (f n)

module _ (f : ℕ → Entry) (fits : (i : ℕ) → EntryFits (f i)) where
  entry_length_lem : (i : ℕ) → length (encode_entry (f i)) ≡ entry_length
  entry_length_lem i = encode_length (f i) (fits i).four

  pub frame_length : (n : ℕ) → length (frame_of f n) ≡ entry_length * n
  unfolding frame_of
  frame_length zero = refl
  frame_length (suc n) = rw length-append (omega (arith, frame_length n, entry_length_lem n))

  pub frame_bytes : (n : ℕ) → Bytes (frame_of f n)
  unfolding frame_of
  frame_bytes zero = bytes_zeros 0
  frame_bytes (suc n) = bytes_append (frame_of f n) (encode_entry (f n)) (frame_bytes n) (encode_bytes (f n) (fits n))

  frame_part : (n i : ℕ) → i < n → part entry_length i (frame_of f n) ≡ encode_entry (f i)
  unfolding frame_of
  frame_part zero i l = absurd (omega arith)
  frame_part (suc n) i l =
      by_cases (ℕ_discrete i n)
      (λ e. rw (e, drop_at (frame_of f n) (encode_entry (f n)) (entry_length * n) (frame_length n)) (take_all entry_length (encode_entry (f n)) (omega (arith, entry_length_lem n))))
      (λ m. part_left entry_length i (frame_of f n) (encode_entry (f n)) (omega (arith, frame_length n)) ∙ frame_part n i (omega arith))

  pub frame_entry : (n i : ℕ) → i < n → entry_in (frame_of f n) i ≡ f i
  frame_entry n i l = ap decode_entry (frame_part n i l) ∙ decode_encode (f i) (fits i)

  pub frame_form : (n i : ℕ) → i < n → entry_fits (f i) ≡ true → entry_bytes (part entry_length i (frame_of f n)) ≡ true
  frame_form n i l h = ap entry_bytes (frame_part n i l) ∙ entry_encode (f i) (fits i) h
