-- Fields written one right after the other: for each writer of this crate.
use Rattle.std.proofs.Common.{ℕ, ◌≡◌, ◌+◌, ◌/◌, ◌%◌, ◌<◌, ◌∙◌, List, [], ◌∷◌, ◌++◌, length, drop, arith, refl, ap, sym, length-append}
use native.Mathlib.Nat.{mod-eq_of_lt}
use Rattle.words.specs.Word.{bytes}
use Rattle.words.proofs.WordLaws.{length_bytes}
use Rattle.layout.specs.Buffer.{put}
use Rattle.layout.proofs.BufferLaws.{fill_whole}

-- the first `size` bytes of s have become v
pub record Fields (s t v : List ℕ) (size : ℕ) : Type 0 where
  pub shown : t ≡ v ++ drop size s
  pub sized : length v ≡ size

-- no field yet
pub none : (s : List ℕ) → Fields s s [] 0
none s = record { shown = refl; sized = refl }

-- a value right after them; a number in its bytes; a single byte
pub value : {s t v : List ℕ} {size : ℕ} (width : ℕ) (w new : List ℕ) → length w ≡ width → Fields s t v size → new ≡ put size w t
    → Fields s new (v ++ w) (size + width)
value {s = s} {t = t} {v = v} {size = size} width w new full f e =
    record {
      shown = fill_whole size width v w s t new f.sized full f.shown e;
      sized = rw (length-append, full, f.sized) refl;
    }

pub field : {s t v : List ℕ} {size : ℕ} (width x : ℕ) (new : List ℕ) → Fields s t v size → new ≡ put size (bytes width x) t
    → Fields s new (v ++ bytes width x) (size + width)
field width x new f e = value width (bytes width x) new (length_bytes width x) f e

pub byte : {s t v : List ℕ} {size : ℕ} (x : ℕ) (new : List ℕ) → x < 256 → Fields s t v size → new ≡ put size (bytes 1 x) t
    → Fields s new (v ++ (x ∷ [])) (size + 1)
unfolding bytes
byte {t = t} {size = size} x new h f e = value 1 (x ∷ []) new refl f (rw (mod-eq_of_lt h) at e)

-- a number of two bytes with two zero bytes after it, as one number of four
padded_lem : (x : ℕ) → x < 65536 → bytes 4 x ≡ bytes 2 x ++ (0 ∷ 0 ∷ [])
unfolding bytes
padded_lem x h =
    let third : x / 256 / 256 % 256 ≡ 0 = omega arith in
    let fourth : x / 256 / 256 / 256 % 256 ≡ 0 = omega arith in
    λ i. x % 256 ∷ x / 256 % 256 ∷ third i ∷ fourth i ∷ []

pub padded : {s t v : List ℕ} {size : ℕ} (x : ℕ) (new : List ℕ) → x < 65536 → Fields s t v size → new ≡ put size (bytes 4 x) t
    → Fields s new (v ++ (bytes 2 x ++ (0 ∷ 0 ∷ []))) (size + 4)
padded {t = t} {size = size} x new h f e =
    let full : length (bytes 2 x ++ (0 ∷ 0 ∷ [])) ≡ 4 = ap length (sym (padded_lem x h)) ∙ length_bytes 4 x in
    value 4 (bytes 2 x ++ (0 ∷ 0 ∷ [])) new full f (e ∙ ap (λ (w : List ℕ). put size w t) (padded_lem x h))
