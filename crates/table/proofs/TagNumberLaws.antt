-- The form of a tag tested on its number, all eight bytes at once: for tag::number_form, and for tag::tag_form and tag::slot_tag_form, which hand
-- it the number. Where no byte reaches 128, adding 128 - k to each carries nothing into the next one and sets bit 7 of a byte exactly where it is at
-- least k. So the sums, like `and`, `or` and `xor`, go byte by byte, and bit 7 of each is told by a table of 128 bytes that is computed.
use Prim.Native.Nat.{ℕ, zero, suc, ◌+◌, ◌-◌, ◌*◌, ◌/◌, ◌%◌, ◌^◌, ◌<◌, ◌≤◌}
use mathlib.Core.Path.{◌≡◌, refl, ap, sym, ◌∙◌}
use mathlib.Core.List.{List, [], ◌∷◌}
use mathlib.Core.Bool.{Bool, true, false, cond, not, ◌&&◌, ◌||◌, or-false, and_assoc}
use native.Mathlib.Omega.{arith}
use native.Mathlib.Nat.{mul-add, mul_left_comm, mul-le-mul_left}
use borrow.Author.Tests.{eqb-true, eq-eqb, ne_eqb, ltb-true, ltb-false, lt-ltb, le-leb, lt-leb}
use lib.Dec.{eqb, ltb}
use lib.ListN.{length}
use lib.Bits.{bit_and, bit_or, bit_xor, and_block, or_block, xor_block, and_lt, or_lt, xor_lt, and_shr, or_shr, and_high}
use Rattle.words.specs.Word.{Bytes, number, bytes}
use Rattle.words.proofs.WordLaws.{length_bytes, bytes_bytes, number_of_bytes, bytes_number}
use Rattle.membership.proofs.Logic.{by_test, not_both, same, and_left, and_right}
use Rattle.std.proofs.lemmas.Bool.{and_from, agree_below, agree_below_at}
use Rattle.image.specs.Image.{tag_length}
use Rattle.table.specs.Tag.{tag_char, spaces, padded, tag_form}
use Rattle.table.proofs.TagLaws.{form_first, form_eight}
use Rattle.table.proofs.TagFormLaws.{space_is_none}

-- two numbers by their lowest bytes: bit by bit, and whether they are equal
by_byte : (op : ℕ → ℕ → ℕ) → ((a b r s : ℕ) → r < 256 → s < 256 → op (a * 256 + r) (b * 256 + s) ≡ op a b * 256 + op r s)
    → (x a y b : ℕ) → x < 256 → y < 256 → op (x + 256 * a) (y + 256 * b) ≡ op x y + 256 * op a b
by_byte op block x a y b h k =
    let p : x + 256 * a ≡ a * 256 + x = omega arith in
    let q : y + 256 * b ≡ b * 256 + y = omega arith in
    let s : op a b * 256 + op x y ≡ op x y + 256 * op a b = omega arith in
    rw (p, q) (block a b x y h k ∙ s)

and_cons : (x a y b : ℕ) → x < 256 → y < 256 → bit_and (x + 256 * a) (y + 256 * b) ≡ bit_and x y + 256 * bit_and a b
and_cons = by_byte bit_and (and_block 8)

or_cons : (x a y b : ℕ) → x < 256 → y < 256 → bit_or (x + 256 * a) (y + 256 * b) ≡ bit_or x y + 256 * bit_or a b
or_cons = by_byte bit_or (or_block 8)

xor_cons : (x a y b : ℕ) → x < 256 → y < 256 → bit_xor (x + 256 * a) (y + 256 * b) ≡ bit_xor x y + 256 * bit_xor a b
xor_cons = by_byte bit_xor (xor_block 8)

eqb_cons : (x a y b : ℕ) → x < 256 → y < 256 → eqb (x + 256 * a) (y + 256 * b) ≡ (eqb x y && eqb a b)
eqb_cons x a y b h k =
    same _ _
    (λ e. let f : x + 256 * a ≡ y + 256 * b = eqb-true _ _ e in and_from _ _ (eq-eqb x y (omega (arith, f))) (eq-eqb a b (omega (arith, f))))
    (λ e. let p : x ≡ y = eqb-true x y (and_left _ _ e) in
    let q : a ≡ b = eqb-true a b (and_right (eqb x y) _ e) in
    eq-eqb (x + 256 * a) (y + 256 * b) (omega (arith, p, q)))

-- the same byte in each of n places
unfoldable pub repeated : ℕ → ℕ → ℕ
repeated k zero = 0
repeated k (suc n) = k + 256 * repeated k n

-- what tag::range_marks computes
unfoldable pub range_marks : ℕ → ℕ → ℕ → ℕ → ℕ
range_marks least most x bytes = bit_xor (x + (128 - least) * bytes) (x + (127 - most) * bytes)

sum_cons : (a x n k m : ℕ) → (x + 256 * n) + a * (k + 256 * m) ≡ (x + a * k) + 256 * (n + a * m)
sum_cons a x n k m =
    let p : a * (k + 256 * m) ≡ a * k + a * (256 * m) = mul-add a k (256 * m) in
    let q : a * (256 * m) ≡ 256 * (a * m) = mul_left_comm a 256 m in
    omega (arith, p, q)

sum_lt : (a x k : ℕ) → a ≤ 128 → x < 128 → k ≤ 1 → x + a * k < 256
sum_lt a x k h l m = let p : a * k ≤ a * 1 = mul-le-mul_left a m in omega (arith, p)

module _ (least most x k : ℕ) (h : x < 128) (l : k ≤ 1) where
  low_sum : x + (128 - least) * k < 256
  low_sum = sum_lt (128 - least) x k (omega arith) h l

  high_sum : x + (127 - most) * k < 256
  high_sum = sum_lt (127 - most) x k (omega arith) h l

  range_lt : range_marks least most x k < 256
  unfolding range_marks
  range_lt = xor_lt 8 (x + (128 - least) * k) (x + (127 - most) * k) low_sum high_sum

  range_cons : (n m : ℕ) → range_marks least most (x + 256 * n) (k + 256 * m) ≡ range_marks least most x k + 256 * range_marks least most n m
  unfolding range_marks
  range_cons n m =
      rw (sum_cons (128 - least) x n k m, sum_cons (127 - most) x n k m)
      (xor_cons (x + (128 - least) * k) (n + (128 - least) * m) (x + (127 - most) * k) (n + (127 - most) * m) low_sum high_sum)

-- the marks of the characters: letters and digits where `every` has a one, underscores where `later` has
unfoldable pub characters : ℕ → ℕ → ℕ → ℕ
characters x every later = bit_or (bit_or (range_marks 65 90 x every) (range_marks 48 57 x every)) (range_marks 95 95 x later)

module _ (x e k : ℕ) (h : x < 128) (i : e ≤ 1) (l : k ≤ 1) where
  some_lt : bit_or (range_marks 65 90 x e) (range_marks 48 57 x e) < 256
  some_lt = or_lt 8 (range_marks 65 90 x e) (range_marks 48 57 x e) (range_lt 65 90 x e h i) (range_lt 48 57 x e h i)

  characters_lt : characters x e k < 256
  unfolding characters
  characters_lt = or_lt 8 (bit_or (range_marks 65 90 x e) (range_marks 48 57 x e)) (range_marks 95 95 x k) some_lt (range_lt 95 95 x k h l)

  characters_cons : (n m o : ℕ) → characters (x + 256 * n) (e + 256 * m) (k + 256 * o) ≡ characters x e k + 256 * characters n m o
  unfolding characters
  characters_cons n m o =
      rw (
        range_cons 65 90 x e h i n m,
        range_cons 48 57 x e h i n m,
        range_cons 95 95 x k h l n o,
        or_cons (range_marks 65 90 x e) (range_marks 65 90 n m) (range_marks 48 57 x e) (range_marks 48 57 n m) (range_lt 65 90 x e h i) (range_lt 48 57 x e h i),
      )
      (or_cons (bit_or (range_marks 65 90 x e) (range_marks 48 57 x e)) (bit_or (range_marks 65 90 n m) (range_marks 48 57 n m)) (range_marks 95 95 x k) (range_marks 95 95 n o)
      some_lt (range_lt 95 95 x k h l))

-- two functions that are computed to agree on the numbers below n
same_below : (n : ℕ) (f g : ℕ → ℕ) → agree_below (λ b. eqb (f b) (g b)) (λ b. true) n ≡ true → (b : ℕ) → b < n → f b ≡ g b
same_below n f g t b h = eqb-true (f b) (g b) (agree_below_at (λ b. eqb (f b) (g b)) (λ b. true) n b t h)

abbrev bit : Bool → ℕ
bit b = cond b 1 0

-- bit 7 of the marks of one byte, the first one and a later one
first_character : (b : ℕ) → b < 128 → characters b 1 0 / 128 ≡ bit (tag_char 0 b)
unfolding characters range_marks tag_char
first_character = same_below 128 (λ b. characters b 1 0 / 128) (λ b. bit (tag_char 0 b)) refl

later_character : (b : ℕ) → b < 128 → characters b 1 1 / 128 ≡ bit (tag_char 1 b)
unfolding characters range_marks tag_char
later_character = same_below 128 (λ b. characters b 1 1 / 128) (λ b. bit (tag_char 1 b)) refl

first_space : (b : ℕ) → b < 128 → range_marks 32 32 b 0 / 128 ≡ bit false
unfolding range_marks
first_space = same_below 128 (λ b. range_marks 32 32 b 0 / 128) (λ b. bit false) refl

later_space : (b : ℕ) → b < 128 → range_marks 32 32 b 1 / 128 ≡ bit (eqb b 0x20)
unfolding range_marks
later_space = same_below 128 (λ b. range_marks 32 32 b 1 / 128) (λ b. bit (eqb b 0x20)) refl

-- bit 7 alone
high_bit : (n : ℕ) → n < 256 → bit_and n 128 ≡ n / 128 * 128
high_bit n h = let e : bit_and n 128 ≡ (n / 128 % 2) * 128 = and_high n 1 7 in omega (arith, e)

high_is : (k n : ℕ) → n < 256 → eqb (bit_and n 128) (k * 128) ≡ eqb (n / 128) k
high_is k n h =
    rw (high_bit n h)
    (same (eqb (n / 128 * 128) (k * 128)) (eqb (n / 128) k)
    (λ e. eq-eqb (n / 128) k (omega (arith, eqb-true (n / 128 * 128) (k * 128) e)))
    (λ e. eq-eqb (n / 128 * 128) (k * 128) (omega (arith, eqb-true (n / 128) k e))))

either : (p q : Bool) → eqb (bit_or (bit p) (bit q)) 1 ≡ (p || q)
either true true = refl
either true false = refl
either false true = refl
either false false = refl

both : (p q : Bool) → eqb (bit_and (bit p) (bit q)) 0 ≡ not (q && p)
both true true = refl
both true false = refl
both false true = refl
both false false = refl

-- the two tests by the lowest bytes c and s, whose bits 7 are p and q
module _ (p q : Bool) (c s : ℕ) (h : c < 256) (l : s < 256) (e : c / 128 ≡ bit p) (f : s / 128 ≡ bit q) (m n high : ℕ) where
  marked_cons : eqb (bit_and (bit_or (c + 256 * m) (s + 256 * n)) (128 + 256 * high)) (128 + 256 * high) ≡ ((p || q) && eqb (bit_and (bit_or m n) high) high)
  marked_cons =
      let o : bit_or c s < 256 = or_lt 8 c s h l in
      let d : bit_or c s / 128 ≡ bit_or (bit p) (bit q) = or_shr c s 7 ∙ rw (e, f) in
      let g : eqb (bit_and (bit_or c s) 128) 128 ≡ (p || q) = high_is 1 (bit_or c s) o ∙ rw d (either p q) in
      rw (
        or_cons c m s n h l,
        and_cons (bit_or c s) (bit_or m n) 128 high o (omega arith),
        eqb_cons (bit_and (bit_or c s) 128) (bit_and (bit_or m n) high) 128 high (and_lt 8 (bit_or c s) 128 o (omega arith)) (omega arith),
        g,
      )

  unmarked_cons : eqb (bit_and (bit_and (c + 256 * m) (s + 256 * n)) (128 + 256 * high)) 0 ≡ (not (q && p) && eqb (bit_and (bit_and m n) high) 0)
  unmarked_cons =
      let o : bit_and c s < 256 = and_lt 8 c s h l in
      let d : bit_and c s / 128 ≡ bit_and (bit p) (bit q) = and_shr c s 7 ∙ rw (e, f) in
      let g : eqb (bit_and (bit_and c s) 128) 0 ≡ not (q && p) = high_is 0 (bit_and c s) o ∙ rw d (both p q) in
      rw (and_cons c m s n h l, and_cons (bit_and c s) (bit_and m n) 128 high o (omega arith))
      (eqb_cons (bit_and (bit_and c s) 128) (bit_and (bit_and m n) high) 0 0 (and_lt 8 (bit_and c s) 128 o (omega arith)) (omega arith) ∙ rw g)

-- the tests said of bytes: all below 128; each after the first a character or a space; no character right after a space (`after`: one stands before)
unfoldable low : List ℕ → Bool
low [] = true
low (b ∷ t) = ltb b 128 && low t

unfoldable legal : List ℕ → Bool
legal [] = true
legal (b ∷ t) = (tag_char 1 b || eqb b 0x20) && legal t

unfoldable ordered : Bool → List ℕ → Bool
ordered after [] = true
ordered after (b ∷ t) = not (after && tag_char 1 b) && ordered (eqb b 0x20) t

-- a one, and bit 7, in each place of the bytes; the marks of the characters and of the spaces among bytes after the first
abbrev ones : List ℕ → ℕ
ones t = repeated 1 (length t)

abbrev highs : List ℕ → ℕ
highs t = repeated 128 (length t)

abbrev characters_of : List ℕ → ℕ
characters_of t = characters (number t) (ones t) (ones t)

abbrev spaces_of : List ℕ → ℕ
spaces_of t = range_marks 32 32 (number t) (ones t)

low_first : (b : ℕ) (t : List ℕ) → low (b ∷ t) ≡ true → b < 128
unfolding low
low_first b t l = ltb-true b 128 (and_left _ _ l)

low_join : (b : ℕ) (t : List ℕ) → b < 128 → low t ≡ true → low (b ∷ t) ≡ true
unfolding low
low_join b t h l = and_from (ltb b 128) (low t) (lt-ltb b 128 h) l

low_rest : (b : ℕ) (t : List ℕ) → low (b ∷ t) ≡ true → low t ≡ true
unfolding low
low_rest b t l = and_right (ltb b 128) (low t) l

low_is : (t : List ℕ) → Bytes t → eqb (bit_and (number t) (highs t)) 0 ≡ low t
unfolding number repeated low
low_is [] y = refl
low_is (b ∷ t) y =
    let f : eqb (b / 128) 0 ≡ ltb b 128 =
    same (eqb (b / 128) 0) (ltb b 128)
    (λ e. lt-ltb b 128 (omega (arith, eqb-true (b / 128) 0 e, y 0)))
    (λ e. eq-eqb (b / 128) 0 (omega (arith, ltb-true b 128 e))) in
    let g : eqb (bit_and b 128) 0 ≡ ltb b 128 = high_is 0 b (y 0) ∙ f in
    rw (and_cons b (number t) 128 (highs t) (y 0) (omega arith))
    (eqb_cons (bit_and b 128) (bit_and (number t) (highs t)) 0 0 (and_lt 8 b 128 (y 0) (omega arith)) (omega arith) ∙ rw (g, low_is t (λ i. y (suc i))))

low_most : (t : List ℕ) → low t ≡ true → number t ≤ repeated 127 (length t)
unfolding number repeated
low_most [] l = omega arith
low_most (b ∷ t) l = omega (arith, low_first b t l, low_most t (low_rest b t l))

legal_is : (t : List ℕ) → low t ≡ true → eqb (bit_and (bit_or (characters_of t) (spaces_of t)) (highs t)) (highs t) ≡ legal t
unfolding number repeated legal characters range_marks
legal_is [] l = refl
legal_is (b ∷ t) l =
    let h : b < 128 = low_first b t l in
    rw (characters_cons b 1 1 h (omega arith) (omega arith) (number t) (ones t) (ones t), range_cons 32 32 b 1 h (omega arith) (number t) (ones t))
    (marked_cons (tag_char 1 b) (eqb b 0x20) (characters b 1 1) (range_marks 32 32 b 1)
    (characters_lt b 1 1 h (omega arith) (omega arith)) (range_lt 32 32 b 1 h (omega arith)) (later_character b h) (later_space b h)
    (characters_of t) (spaces_of t) (highs t)
    ∙ rw (legal_is t (low_rest b t l)))

-- s: the mark of a space on the byte before
ordered_is : (t : List ℕ) (after : Bool) (s : ℕ) → low t ≡ true → s < 256 → s / 128 ≡ bit after
    → eqb (bit_and (bit_and (characters_of t) (s + 256 * spaces_of t)) (repeated 128 (suc (length t)))) 0 ≡ ordered after t
unfolding number repeated ordered characters range_marks
ordered_is [] after s l k e = refl
ordered_is (b ∷ t) after s l k e =
    let h : b < 128 = low_first b t l in
    let i : range_marks 32 32 b 1 < 256 = range_lt 32 32 b 1 h (omega arith) in
    rw (characters_cons b 1 1 h (omega arith) (omega arith) (number t) (ones t) (ones t), range_cons 32 32 b 1 h (omega arith) (number t) (ones t))
    (unmarked_cons (tag_char 1 b) after (characters b 1 1) s
    (characters_lt b 1 1 h (omega arith) (omega arith)) k (later_character b h) e
    (characters_of t) (range_marks 32 32 b 1 + 256 * spaces_of t) (repeated 128 (suc (length t)))
    ∙ rw (ordered_is t (eqb b 0x20) (range_marks 32 32 b 1) (low_rest b t l) i (later_space b h)))

-- what tag::number_form computes once no byte reaches 128
abbrev pub in_form : ℕ → ℕ → ℕ → ℕ → Bool
in_form x every later high =
    eqb (bit_and (bit_or (characters x every later) (range_marks 32 32 x later)) high) high
    && eqb (bit_and (bit_and (characters x every later / 256) (range_marks 32 32 x later)) high) 0

in_form_is : (b : ℕ) (t : List ℕ) → low (b ∷ t) ≡ true
    → in_form (b + 256 * number t) (1 + 256 * ones t) (0 + 256 * ones t) (128 + 256 * highs t) ≡ ((tag_char 0 b && legal t) && ordered false t)
unfolding repeated
in_form_is b t l =
    let h : b < 128 = low_first b t l in
    let c : characters b 1 0 < 256 = characters_lt b 1 0 h (omega arith) (omega arith) in
    let k : range_marks 32 32 b 0 < 256 = range_lt 32 32 b 0 h (omega arith) in
    let q : (characters b 1 0 + 256 * characters_of t) / 256 ≡ characters_of t = omega (arith, c) in
    let m = marked_cons (tag_char 0 b) false (characters b 1 0) (range_marks 32 32 b 0) c k (first_character b h) (first_space b h) (characters_of t) (spaces_of t) (highs t) in
    let o = ordered_is t false (range_marks 32 32 b 0) (low_rest b t l) k (first_space b h) in
    rw (characters_cons b 1 0 h (omega arith) (omega arith) (number t) (ones t) (ones t), range_cons 32 32 b 0 h (omega arith) (number t) (ones t), q, m, o, or-false, legal_is t (low_rest b t l))

-- the tests said of bytes are the form
after_first : (place b : ℕ) → tag_char (suc place) b ≡ tag_char 1 b
unfolding tag_char
after_first place b = simp (lt-ltb 0 (suc place) (omega arith))

no_character : (b : ℕ) → eqb b 0x20 ≡ true → tag_char 1 b ≡ false
no_character b e = ap (tag_char 1) (eqb-true b 0x20 e) ∙ space_is_none 1

spaces_is : (t : List ℕ) → (legal t && ordered true t) ≡ spaces t
unfolding legal ordered spaces
spaces_is [] = refl
spaces_is (b ∷ t) =
    by_test (eqb b 0x20)
    (λ e. simp (e, no_character b e) (spaces_is t))
    (λ e. by_test (tag_char 1 b) (λ c. by_test (legal t) (λ l. simp (e, c, l)) (λ l. simp (e, c, l))) (λ c. simp (e, c)))

padded_is : (place : ℕ) (t : List ℕ) → (legal t && ordered false t) ≡ padded (suc place) t
unfolding legal ordered spaces padded
padded_is place [] = refl
padded_is place (b ∷ t) =
    rw (after_first place b)
    (by_test (eqb b 0x20)
    (λ e. simp (e, no_character b e) (spaces_is t))
    (λ e. by_test (tag_char 1 b)
    (λ c. simp (e, c) (padded_is (suc place) t))
    (λ c. simp (e, c))))

-- only bytes below 128 are in form
character_low : (place b : ℕ) → tag_char place b ≡ true → b < 128
unfolding tag_char
character_low place b e =
    by_test (ltb b 128) (ltb-true b 128)
    (λ g. let h : 128 ≤ b = ltb-false b 128 g in
    not_both _ e (simp (le-leb 65 b (omega arith), lt-leb b 90 (omega arith), le-leb 48 b (omega arith), lt-leb b 57 (omega arith), ne_eqb b 0x5F (λ z. absurd (omega arith)))))

spaces_low : (t : List ℕ) → spaces t ≡ true → low t ≡ true
unfolding spaces low
spaces_low [] e = refl
spaces_low (b ∷ t) e =
    let z : b ≡ 0x20 = eqb-true b 0x20 (and_left _ _ e) in
    and_from _ _ (lt-ltb b 128 (omega arith)) (spaces_low t (and_right (eqb b 0x20) (spaces t) e))

padded_low : (place : ℕ) (t : List ℕ) → padded place t ≡ true → low t ≡ true
unfolding padded low
padded_low place [] e = refl
padded_low place (b ∷ t) e =
    by_test (tag_char place b)
    (λ c. and_from _ _ (lt-ltb b 128 (character_low place b c)) (padded_low (suc place) t (simp c at e)))
    (λ c. spaces_low (b ∷ t) (simp c at e))

form_low : (t : List ℕ) → tag_form t ≡ true → low t ≡ true
form_low [] e = absurd (omega (arith, form_eight [] e))
form_low (b ∷ t) e =
    let f : (tag_char 0 b && padded 1 t) ≡ true = sym (form_first (b ∷ t) (form_eight (b ∷ t) e)) ∙ e in
    low_join b t (character_low 0 b (and_left _ _ f)) (padded_low 1 t (and_right (tag_char 0 b) _ f))

-- the constants of the code
abbrev pub high_bits : ℕ
high_bits = 0x8080808080808080

abbrev pub every_byte : ℕ
every_byte = 0x0101010101010101

abbrev pub later_bytes : ℕ
later_bytes = 0x0101010101010100

form_of : (t : List ℕ) → length t ≡ tag_length → low t ≡ true → in_form (number t) every_byte later_bytes high_bits ≡ tag_form t
unfolding number repeated
form_of [] e l = absurd (omega arith)
form_of (b ∷ t) e l =
    let f : length t ≡ 7 = omega arith in
    (rw f at (in_form_is b t l))
    ∙ and_assoc (tag_char 0 b) (legal t) (ordered false t)
    ∙ ap (λ (q : Bool). tag_char 0 b && q) (padded_is 0 t)
    ∙ sym (form_first (b ∷ t) e)

-- the number x, and the tag that its bytes are
module _ (x : ℕ) (h : x < 2 ^ 64) where
  low_by : eqb (bit_and x high_bits) 0 ≡ low (bytes tag_length x)
  unfolding repeated
  low_by = rw (length_bytes tag_length x, number_of_bytes tag_length x h) at (low_is (bytes tag_length x) (bytes_bytes tag_length x))

  -- where a byte reaches 128
  pub no_form : (bit_and x high_bits ≡ 0 → ⊥) → false ≡ tag_form (bytes tag_length x)
  no_form n =
      let l : low (bytes tag_length x) ≡ false = sym low_by ∙ ne_eqb (bit_and x high_bits) 0 n in
      by_test (tag_form (bytes tag_length x)) (λ e. not_both _ (form_low (bytes tag_length x) e) l) (λ e. sym e)

  -- where none does
  module _ (e : bit_and x high_bits ≡ 0) where
    low_bytes : low (bytes tag_length x) ≡ true
    low_bytes = sym low_by ∙ eq-eqb (bit_and x high_bits) 0 e

    pub low_number : x ≤ 0x7F7F7F7F7F7F7F7F
    unfolding repeated
    low_number = rw (length_bytes tag_length x, number_of_bytes tag_length x h) at (low_most (bytes tag_length x) low_bytes)

    pub form_test : in_form x every_byte later_bytes high_bits ≡ tag_form (bytes tag_length x)
    form_test = rw (number_of_bytes tag_length x h) at (form_of (bytes tag_length x) (length_bytes tag_length x) low_bytes)

-- a tag handed over as its number
pub form_number : (t : List ℕ) → length t ≡ tag_length → Bytes t → (r : Bool) (n : ℕ) → r ≡ tag_form (bytes tag_length n) → n ≡ number t → r ≡ tag_form t
form_number t e y r n f g = f ∙ ap (λ (m : ℕ). tag_form (bytes tag_length m)) g ∙ ap tag_form (bytes_number tag_length t e y)
