-- One value written in a buffer: its length, the value read back, every other window and byte unchanged, values put one after another, a
-- value that differs only in its middle, two buffers joined, and a part lent from a place on. Each law is stated once, over the place and the size: for the
-- writers of this crate, for the engine's loop over state, report and journal, and for every crate that writes a buffer.
use Prim.Native.Nat.{ℕ, zero, suc, ◌+◌, ◌-◌, ◌*◌, ◌/◌, ◌≤◌, ◌<◌}
use mathlib.Core.Path.{◌≡◌, refl, ap, sym, ◌∙◌}
use mathlib.Core.List.{List, [], ◌∷◌, ◌++◌, append_assoc, append-nil}
use mathlib.Core.Bool.{Bool, true, false}
use native.Mathlib.Omega.{arith}
use native.Mathlib.Nat.{add-zero, add_assoc, mul_comm, mul-suc, mul-add, mul-le-mul_left}
use native.Mathlib.Numerals.{add-one}
use lib.Dec.{ltb}
use Rattle.std.specs.Simd.{first_chunks}
use Rattle.std.proofs.lemmas.Nat.{le-div}
use lib.ListN.{length, get_or, set, take, drop, length-drop, length-append, drop_of_length-le, take-append-drop, replicate, length-replicate, replicate-append-replicate}
use lib.Seq.{take_all, drop-drop, take-append-le, take-append-add, drop-append-le, drop-append-add, length-take-le, take_at, drop_at, get_or-take, get_or-drop, set_split}
use borrow.Author.Tests.{ltb-true, ltb-false}
use borrow.Rule.Slice.PartMut.{mid_of, put_mid}
use Rattle.membership.proofs.Logic.{by_test}
use Rattle.words.specs.Word.{Bytes}
use Rattle.layout.specs.Buffer.{byte_at, part, put}

-- a byte as a window of one
byte_window : (l : List ℕ) (i : ℕ) → byte_at l i ≡ byte_at (take 1 (drop i l)) 0
byte_window l i = sym (get_or-take 1 (drop i l) 0 0 (omega arith) ∙ get_or-drop i l 0 0 ∙ ap (byte_at l) (add-zero i))

-- a value that fits at its place
module _ (at : ℕ) (v s : List ℕ) (fits : at + length v ≤ length s) where
  front_length : length (take at s) ≡ at
  front_length = length-take-le at s (omega arith)

  pub put_length : length (put at v s) ≡ length s
  put_length = simp (length-append, length-drop) (omega (arith, front_length))

  -- what stands from it on, and after it
  pub drop_put_same : drop at (put at v s) ≡ v ++ drop (at + length v) s
  drop_put_same = drop_at (take at s) (v ++ drop (at + length v) s) at front_length

  pub drop_put : (b : ℕ) → at + length v ≤ b → drop b (put at v s) ≡ drop b s
  drop_put b h =
      let l : length (take at s ++ v) ≡ at + length v = length-append (take at s) v ∙ omega (arith, front_length) in
      let e : at + length v + (b - (at + length v)) ≡ b = omega arith in
      let d : b ≡ length (take at s ++ v) + (b - (at + length v)) = rw l (sym e) in
      ap (drop b) (sym (append_assoc (take at s) v (drop (at + length v) s)))
      ∙ ap (λ (i : ℕ). drop i ((take at s ++ v) ++ drop (at + length v) s)) d
      ∙ drop-append-add (take at s ++ v) (drop (at + length v) s) (b - (at + length v))
      ∙ drop-drop (b - (at + length v)) (at + length v) s
      ∙ ap (λ (i : ℕ). drop i s) e

  -- windows of m bytes: the value's own, one that ends before it, one that begins after it
  pub window_same : take (length v) (drop at (put at v s)) ≡ v
  window_same = ap (take (length v)) drop_put_same ∙ take_at v (drop (at + length v) s) (length v) refl

  window_front : (b m : ℕ) (x : List ℕ) → b + m ≤ at → take m (drop b (take at s ++ x)) ≡ take m (drop b (take at s))
  window_front b m x h =
      ap (take m) (drop-append-le b (take at s) x (omega (arith, front_length)))
      ∙ take-append-le m (drop b (take at s)) x (simp length-drop (omega (arith, front_length)))

  pub window_before : (b m : ℕ) → b + m ≤ at → take m (drop b (put at v s)) ≡ take m (drop b s)
  window_before b m h =
      window_front b m (v ++ drop (at + length v) s) h
      ∙ sym (ap (λ (l : List ℕ). take m (drop b l)) (sym (take-append-drop at s)) ∙ window_front b m (drop at s) h)

  pub window_after : (b m : ℕ) → at + length v ≤ b → take m (drop b (put at v s)) ≡ take m (drop b s)
  window_after b m h = ap (take m) (drop_put b h)

  -- bytes: the value's own, and any other
  pub byte_own : (k : ℕ) → k < length v → byte_at (put at v s) (at + k) ≡ byte_at v k
  byte_own k l =
      sym (get_or-drop at (put at v s) k 0)
      ∙ sym (get_or-take (length v) (drop at (put at v s)) k 0 l)
      ∙ ap (λ (x : List ℕ). byte_at x k) window_same

  pub byte_other : (i : ℕ) → (at ≤ i → at + length v ≤ i) → byte_at (put at v s) i ≡ byte_at s i
  byte_other i h =
      byte_window (put at v s) i
      ∙ ap (λ (l : List ℕ). byte_at l 0)
      (by_test (ltb i at) (λ t. window_before i 1 (omega (arith, ltb-true i at t))) (λ t. window_after i 1 (h (ltb-false i at t))))
      ∙ sym (byte_window s i)

-- the value's own bytes put back
pub put_own : (at n : ℕ) (s : List ℕ) → at + n ≤ length s → put at (take n (drop at s)) s ≡ s
put_own at n s h =
    let l : length (take n (drop at s)) ≡ n = length-take-le n (drop at s) (simp length-drop (omega arith)) in
    rw (l, ← drop-drop n at s, take-append-drop n (drop at s), take-append-drop at s)

-- a part ends where a later one begins, or before
pub size_up : (size j i : ℕ) → j < i → size * j + size ≤ size * i
size_up size j i h = rw mul-suc at (mul-le-mul_left size h)

-- parts of a size: the one that was written, and any other
module _ (size i : ℕ) (v s : List ℕ) (full : length v ≡ size) (fits : size * i + size ≤ length s) where
  pub part_same : part size i (put (size * i) v s) ≡ v
  part_same =
      ap (λ (m : ℕ). take m (drop (size * i) (put (size * i) v s))) (sym full) ∙ window_same (size * i) v s (omega arith)

  pub part_before : (j : ℕ) → j < i → part size j (put (size * i) v s) ≡ part size j s
  part_before j h = window_before (size * i) v s (omega arith) (size * j) size (size_up size j i h)

  pub part_after : (j : ℕ) → i < j → part size j (put (size * i) v s) ≡ part size j s
  part_after j h = window_after (size * i) v s (omega arith) (size * j) size (rw full (size_up size i j h))

  pub part_other : (j : ℕ) → (j ≡ i → ⊥) → part size j (put (size * i) v s) ≡ part size j s
  part_other j h = by (ltb j i) refl
    where
      by : (b : Bool) → ltb j i ≡ b → part size j (put (size * i) v s) ≡ part size j s
      by true e = part_before j (ltb-true j i e)
      by false e = part_after j (omega (arith, ltb-false j i e))

-- a byte of a part, by its offset there
pub part_byte : (size i at : ℕ) (s : List ℕ) → at < size → byte_at s (size * i + at) ≡ byte_at (part size i s) at
part_byte size i at s l = sym (get_or-take size (drop (size * i) s) at 0 l ∙ get_or-drop (size * i) s at 0)

-- std's length-take-le and length-drop in one, of a part, which is a definition of this crate
pub part_length : (size i : ℕ) (s : List ℕ) → size * i + size ≤ length s → length (part size i s) ≡ size
part_length size i s h = length-take-le size (drop (size * i) s) (simp length-drop (omega arith))

-- the parts that fit, as `as_chunks` gives them
chunk_at : (rest : List ℕ) (size k i : ℕ) (s : List ℕ) → i < k → get_or (first_chunks size k s) i rest ≡ part size i s
chunk_at rest size zero i s h = absurd (omega arith)
chunk_at rest size (suc k) zero s h = let none : 0 ≡ size * 0 = omega arith in ap (λ (at : ℕ). take size (drop at s)) none
chunk_at rest size (suc k) (suc i) s h =
    let next : size + size * i ≡ size * suc i = omega (arith, mul-suc size i) in
    chunk_at rest size k i (drop size s) (omega arith) ∙ ap (take size) (drop-drop (size * i) size s ∙ ap (λ (at : ℕ). drop at s) next)

pub part_of_chunks : (size i : ℕ) (s : List ℕ) (chunks : List (List ℕ)) (v : List ℕ) → 0 < size → size * i + size ≤ length s
    → chunks ≡ first_chunks size (length s / size) s → v ≡ get_or chunks i v → v ≡ part size i s
part_of_chunks size i s chunks v h fits e is =
    let within : suc i ≤ length s / size = le-div (suc i) (length s) size h (rw (mul_comm (suc i) size, mul-suc) (omega arith)) in
    is ∙ ap (λ (l : List (List ℕ)). get_or l i v) e ∙ chunk_at v size (length s / size) i s within

-- a part of a buffer of zeros
pub part_zeros : (size i n : ℕ) → size * i + size ≤ n → part size i (replicate n 0) ≡ replicate size 0
part_zeros size i n h =
    let m : ℕ = n - (size * i + size) in
    let before : List ℕ = replicate (size * i) 0 in
    let own : List ℕ = replicate size 0 in
    let after : List ℕ = replicate m 0 in
    let e : n ≡ size * i + (size + m) = omega arith in
    let split : replicate n 0 ≡ before ++ (own ++ after) =
    ap (λ (k : ℕ). replicate k 0) e
    ∙ sym (replicate-append-replicate (size * i) (size + m) 0)
    ∙ ap (λ (l : List ℕ). before ++ l) (sym (replicate-append-replicate size m 0)) in
    ap (λ (l : List ℕ). take size (drop (size * i) l)) split
    ∙ ap (take size) (drop_at before (own ++ after) (size * i) (length-replicate (size * i) 0))
    ∙ take_at own after size (length-replicate size 0)

-- n bytes put at a, by what stood from a on
pub put_from : (a n : ℕ) (v xs : List ℕ) → length v ≡ n → put a v xs ≡ take a xs ++ (v ++ drop n (drop a xs))
put_from a n v xs full = rw (drop-drop, full)

-- `&mut xs[a..]`: what is lent, what is left where it became ys, and where its first n bytes were written
-- std's take-put_mid and drop-put_mid are of a take or a drop of what is left; these two are of what is lent, and of all that is left
pub lent_part : (a : ℕ) (xs : List ℕ) → mid_of a (length xs - a) xs ≡ drop a xs
lent_part a xs = take_all (length xs - a) (drop a xs) (simp length-drop (omega arith))

pub lent_back : (a : ℕ) (xs ys : List ℕ) → put_mid a (length xs - a) xs ys ≡ take a xs ++ ys
lent_back a xs ys = rw (drop_of_length-le (drop a xs) {i = length xs - a} (simp length-drop (omega arith)), append-nil)

pub put_front : (a n : ℕ) (xs v ys : List ℕ) → length v ≡ n → ys ≡ v ++ drop n (take (length xs - a) (drop a xs))
    → put_mid a (length xs - a) xs ys ≡ put a v xs
put_front a n xs v ys full e = lent_back a xs ys ∙ rw (e, lent_part a xs) (sym (put_from a n v xs full))

-- a buffer filled from the front to place p, and n bytes more put there
pub fill_whole : (p n : ℕ) (done chunk buf₀ buf ys : List ℕ) → length done ≡ p → length chunk ≡ n → buf ≡ done ++ drop p buf₀
    → ys ≡ put p chunk buf → ys ≡ (done ++ chunk) ++ drop (p + n) buf₀
fill_whole p n done chunk buf₀ buf ys l full e h =
    let front : take p buf ≡ done = ap (take p) e ∙ take_at done (drop p buf₀) p l in
    let back : drop (p + n) buf ≡ drop (p + n) buf₀ =
    sym (drop-drop n p buf) ∙ ap (drop n) (ap (drop p) e ∙ drop_at done (drop p buf₀) p l) ∙ drop-drop n p buf₀ in
    h ∙ rw (full, front, back) (sym (append_assoc done chunk (drop (p + n) buf₀)))

-- nothing put is no change
pub put_nothing : (a : ℕ) (xs : List ℕ) → put a [] xs ≡ xs
put_nothing a xs = rw add-zero (take-append-drop a xs)

-- a value that fills the buffer, and a single byte
pub put_whole : (v s : List ℕ) → length s ≡ length v → put 0 v s ≡ v
put_whole v s e = rw (drop_of_length-le s {i = 0 + length v} (omega arith)) (append-nil v)

pub put_byte : (at b : ℕ) (s : List ℕ) → at < length s → set s at b ≡ put at (b ∷ []) s
put_byte at b s h = set_split s at b h ∙ ap (λ (n : ℕ). take at s ++ (b ∷ drop n s)) (sym (add-one at))

-- a value put right after another; `n` is the first one's length
pub put_put : (at : ℕ) (v w s : List ℕ) → at + length v + length w ≤ length s → put (at + length v) w (put at v s) ≡ put at (v ++ w) s
put_put at v w s fits =
    let n : ℕ = at + length v in
    let after : List ℕ = drop (n + length w) s in
    let l : length (take at s ++ v) ≡ n = length-append (take at s) v ∙ ap (λ (m : ℕ). m + length v) (length-take-le at s (omega arith)) in
    let front : take n (put at v s) ≡ take at s ++ v =
    ap (take n) (sym (append_assoc (take at s) v (drop n s))) ∙ take_at (take at s ++ v) (drop n s) n l in
    let back : drop (n + length w) (put at v s) ≡ after = drop_put at v s (omega arith) (n + length w) (omega arith) in
    rw (front, back, length-append, ← add_assoc at (length v) (length w))
    (append_assoc (take at s) v (w ++ after) ∙ ap {B = List ℕ} (λ l. take at s ++ l) (sym (append_assoc v w after)))

pub put_next : (at n : ℕ) (v w s : List ℕ) → length v ≡ n → at + n + length w ≤ length s → put (at + n) w (put at v s) ≡ put at (v ++ w) s
put_next at n v w s full fits = ap (λ (m : ℕ). put (at + m) w (put at v s)) (sym full) ∙ put_put at v w s (omega arith)

pub put_both : (at n : ℕ) (v w s s₁ s₂ : List ℕ) → length v ≡ n → at + n + length w ≤ length s → s₁ ≡ put at v s → s₂ ≡ put (at + n) w s₁
    → s₂ ≡ put at (v ++ w) s
put_both at n v w s s₁ s₂ full fits e₁ e₂ = e₂ ∙ ap (put (at + n) w) e₁ ∙ put_next at n v w s full fits

-- a value put where another stands that differs from it only in the middle: the middle put in its place
pub put_middle : (at n : ℕ) (before old new after s : List ℕ) → length before ≡ n → length new ≡ length old
    → take (length (before ++ (old ++ after))) (drop at s) ≡ before ++ (old ++ after) → at + length (before ++ (old ++ after)) ≤ length s
    → put (at + n) new s ≡ put at (before ++ (new ++ after)) s
put_middle at n before old new after s full same stands fits =
    let size : ℕ = length (before ++ (old ++ after)) in
    let ahead : List ℕ = take at s in
    let rest : List ℕ = drop (at + size) s in
    let split : s ≡ (ahead ++ before) ++ (old ++ (after ++ rest)) =
    sym (take-append-drop at s)
    ∙ ap (λ (l : List ℕ). ahead ++ l) (sym (take-append-drop size (drop at s)) ∙ (λ j. stands j ++ drop-drop size at s j))
    ∙ rw (append_assoc before (old ++ after) rest, append_assoc old after rest) (sym (append_assoc ahead before (old ++ (after ++ rest)))) in
    let l : length (ahead ++ before) ≡ at + n = length-append ahead before ∙ (λ j. length-take-le at s (omega arith) j + full j) in
    let front : take (at + n) s ≡ ahead ++ before = ap (take (at + n)) split ∙ take_at (ahead ++ before) (old ++ (after ++ rest)) (at + n) l in
    let back : drop (at + n + length new) s ≡ after ++ rest =
    sym (drop-drop (length new) (at + n) s)
    ∙ ap (drop (length new)) (ap (drop (at + n)) split ∙ drop_at (ahead ++ before) (old ++ (after ++ rest)) (at + n) l)
    ∙ drop_at old (after ++ rest) (length new) (sym same) in
    let sizes : length (before ++ (new ++ after)) ≡ size = simp (length-append, same) refl in
    rw (front, back, sizes, append_assoc before (new ++ after) rest, append_assoc new after rest) (append_assoc ahead before (new ++ (after ++ rest)))

-- two buffers, one after the other: a part of each, and a value put in each
pub part_left : (size i : ℕ) (x y : List ℕ) → size * i + size ≤ length x → part size i (x ++ y) ≡ part size i x
part_left size i x y h =
    ap (take size) (drop-append-le (size * i) x y (omega arith)) ∙ take-append-le size (drop (size * i) x) y (simp length-drop (omega arith))

pub part_right : (size by k : ℕ) (x y : List ℕ) → length x ≡ size * by → part size (by + k) (x ++ y) ≡ part size k y
part_right size by k x y e =
    let m : size * (by + k) ≡ length x + size * k = mul-add size by k ∙ ap (λ (a : ℕ). a + size * k) (sym e) in
    ap (take size) (ap (λ (a : ℕ). drop a (x ++ y)) m ∙ drop-append-add x y (size * k))

pub put_left : (at : ℕ) (v x y : List ℕ) → at + length v ≤ length x → put at v (x ++ y) ≡ put at v x ++ y
put_left at v x y h =
    let after : List ℕ = drop (at + length v) x in
    rw (take-append-le at x y (omega arith), drop-append-le (at + length v) x y h)
    (sym (append_assoc (take at x) (v ++ after) y ∙ ap (λ (l : List ℕ). take at x ++ l) (append_assoc v after y)))

pub put_right : (at : ℕ) (v x y : List ℕ) → put (length x + at) v (x ++ y) ≡ x ++ put at v y
put_right at v x y =
    rw (take-append-add x y at, add_assoc (length x) at (length v), drop-append-add x y (at + length v))
    (append_assoc x (take at y) (v ++ drop (at + length v) y))

-- and where a value was put at place n of what is lent
pub put_lent : (a n : ℕ) (v xs ys : List ℕ) → a ≤ length xs → ys ≡ put n v (take (length xs - a) (drop a xs))
    → put_mid a (length xs - a) xs ys ≡ put (a + n) v xs
put_lent a n v xs ys h e =
    let l : length (take a xs) ≡ a = length-take-le a xs h in
    lent_back a xs ys
    ∙ rw (e, lent_part a xs) (sym (put_right n v (take a xs) (drop a xs)) ∙ (λ j. put (l j + n) v (take-append-drop a xs j)))

-- bytes stay bytes
-- std's All-take, All-drop, All-append and All-replicate are of All, which is of the places of a list; Bytes is of every place, and past the end it reads 0
pub bytes_take : (n : ℕ) (l : List ℕ) → Bytes l → Bytes (take n l)
bytes_take zero l b i = omega arith
bytes_take (suc n) [] b i = omega arith
bytes_take (suc n) (x ∷ l) b zero = b 0
bytes_take (suc n) (x ∷ l) b (suc i) = bytes_take n l (λ j. b (suc j)) i

pub bytes_drop : (n : ℕ) (l : List ℕ) → Bytes l → Bytes (drop n l)
bytes_drop n l b i = rw get_or-drop (b (n + i))

pub bytes_append : (l m : List ℕ) → Bytes l → Bytes m → Bytes (l ++ m)
bytes_append [] m a b i = b i
bytes_append (x ∷ l) m a b zero = a 0
bytes_append (x ∷ l) m a b (suc i) = bytes_append l m (λ j. a (suc j)) b i

pub bytes_cons : (x : ℕ) (l : List ℕ) → x < 256 → Bytes l → Bytes (x ∷ l)
bytes_cons x l h b zero = h
bytes_cons x l h b (suc i) = b i

pub bytes_zeros : (n : ℕ) → Bytes (replicate n 0)
bytes_zeros zero i = omega arith
bytes_zeros (suc n) zero = omega arith
bytes_zeros (suc n) (suc i) = bytes_zeros n i

pub part_bytes : (size i : ℕ) (s : List ℕ) → Bytes s → Bytes (part size i s)
part_bytes size i s b = bytes_take size (drop (size * i) s) (bytes_drop (size * i) s b)
