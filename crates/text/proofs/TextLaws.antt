-- Text written after text, numbers in decimal, and names without spaces: for every writer of the sheet.
use Prim.Native.Nat.{ℕ, zero, suc, ◌+◌, ◌-◌, ◌*◌, ◌/◌, ◌%◌, ◌≤◌, ◌<◌}
use native.Mathlib.Numerals.{add-one}
use native.Mathlib.Nat.{add-zero}
use native.Mathlib.Omega.{arith}
use mathlib.Core.Bool.{Bool, true, false, cond}
use mathlib.Core.List.{List, [], ◌∷◌, ◌++◌}
use mathlib.Core.Path.{◌≡◌, refl, ap, sym, ◌∙◌}
use lib.Dec.{ltb, eqb}
use lib.ListN.{length, take, get_or, length-append}
use lib.Seq.{take-suc, length-take-le}
use borrow.Author.Tests.{ltb-true, ltb-false, lt-ltb, le-ltb}
use Rattle.membership.proofs.Logic.{by_test}
use Rattle.layout.specs.Buffer.{put}
use Rattle.layout.proofs.BufferLaws.{put_put, put_length, put_nothing}
use Rattle.text.specs.Text.{space, digit, decimal_in, decimal, DecimalRule, read_on, DecimalReads, without_spaces, Wrote}

-- nothing, and a text after a text
pub wrote_nothing : (at : ℕ) (s : List ℕ) → at ≤ length s → Wrote at [] s at s
wrote_nothing at s h = record { ends = sym (add-zero at); within = h; holds = sym (put_nothing at s) }

pub wrote_same_length : {at end : ℕ} {a s t : List ℕ} → Wrote at a s end t → length t ≡ length s
wrote_same_length {at} {end} {a} {s} w = ap length w.holds ∙ put_length at a s (omega (arith, w.ends, w.within))

pub wrote_then : {at mid end : ℕ} {a b s t u : List ℕ} → Wrote at a s mid t → Wrote mid b t end u → Wrote at (a ++ b) s end u
wrote_then {at} {mid} {end} {a} {b} {s} {t} {u} w v =
    let l : length t ≡ length s = wrote_same_length w in
    let fits : at + length a + length b ≤ length s = omega (arith, w.ends, v.ends, v.within) in
    record {
      ends = rw length-append (omega (arith, w.ends, v.ends));
      within = omega (arith, v.within);
      holds = v.holds ∙ (λ i. put (w.ends i) b (w.holds i)) ∙ put_put at a b s fits;
    }

-- text at the front of a buffer, as a caller lends it on
pub wrote_front : {end : ℕ} {x s t : List ℕ} (y : List ℕ) → x ≡ y → Wrote 0 x s end t → (end ≡ length y) × ((t ≡ put 0 y s) × ((end ≤ length t) × (end ≡ length (take end t))))
wrote_front {end} {x} {s} {t} y e w =
    let l : end ≤ length t = omega (arith, w.within, wrote_same_length w) in
    let n : end ≡ length x = omega (arith, w.ends) in
    (n ∙ ap length e, (w.holds ∙ ap (λ (z : List ℕ). put 0 z s) e, (l, sym (length-take-le end t l))))

-- numbers: any bound above the number will do
enough : (f g n : ℕ) → n < f → n < g → decimal_in f n ≡ decimal_in g n
unfolding decimal_in
enough zero g n l m = absurd (omega arith)
enough (suc f) zero n l m = absurd (omega arith)
enough (suc f) (suc g) n l m =
    by_test (ltb n 10) (λ t. simp t)
    (λ t. let k = ltb-false n 10 t in
    simp t (ap (λ (x : List ℕ). x ++ (digit (n % 10) ∷ [])) (enough f g (n / 10) (omega arith) (omega arith))))

pub decimal_one : (n : ℕ) → n < 10 → decimal n ≡ digit n ∷ []
unfolding decimal decimal_in
decimal_one n l = rw (lt-ltb n 10 l)

pub decimal_more : (n : ℕ) → 10 ≤ n → decimal n ≡ decimal (n / 10) ++ (digit (n % 10) ∷ [])
unfolding decimal decimal_in
decimal_more n l = rw (le-ltb n 10 l) (ap (λ (x : List ℕ). x ++ (digit (n % 10) ∷ [])) (enough n (suc (n / 10)) (n / 10) (omega arith) (omega arith)))

pub decimal_rule : DecimalRule
decimal_rule n = by_test (ltb n 10) (λ t. rw t (decimal_one n (ltb-true n 10 t))) (λ t. rw t (decimal_more n (ltb-false n 10 t)))

pub decimal_length : (n : ℕ) → 10 ≤ n → length (decimal n) ≡ length (decimal (n / 10)) + 1
decimal_length n l = rw (decimal_more n l) (length-append (decimal (n / 10)) (digit (n % 10) ∷ []))

-- a number below 10^(m+1) has at most m+1 digits, if one below 10^m has m
one_more : (m n : ℕ) → length (decimal (n / 10)) ≤ m → length (decimal n) ≤ suc m
one_more m n h =
    by_test (ltb n 10) (λ t. rw (decimal_one n (ltb-true n 10 t)) (omega arith))
    (λ t. rw (decimal_more n (ltb-false n 10 t), length-append) (omega arith))

one_digit : (n : ℕ) → n < 10 → length (decimal n) ≤ 1
one_digit n l = rw (decimal_one n l) (omega arith)

-- ten digits hold every number of four bytes
pub decimal_short : (n : ℕ) → n < 4294967296 → length (decimal n) ≤ 10
decimal_short n h = one_more 9 n (eight (n / 10) (omega arith))
  where
    four : (m : ℕ) → m < 43000 → length (decimal m) ≤ 5
    four m l =
        let a = m / 10 in
        let b = a / 10 in
        let c = b / 10 in
        one_more 4 m (one_more 3 a (one_more 2 b (one_more 1 c (one_digit (c / 10) (omega arith)))))

    eight : (m : ℕ) → m < 429496730 → length (decimal m) ≤ 9
    eight m l =
        let a = m / 10 in
        let b = a / 10 in
        let c = b / 10 in
        one_more 8 m (one_more 7 a (one_more 6 b (one_more 5 c (four (c / 10) (omega arith)))))

-- read back
read_last : (v : ℕ) (xs : List ℕ) (b : ℕ) → read_on v (xs ++ (b ∷ [])) ≡ 10 * read_on v xs + (b - digit 0)
unfolding read_on
read_last v [] b = refl
read_last v (x ∷ xs) b = read_last (10 * v + (x - digit 0)) xs b

read_value : (f n : ℕ) → n < f → read_on 0 (decimal_in f n) ≡ n
unfolding decimal_in read_on
read_value zero n l = omega arith
read_value (suc f) n l =
    by_test (ltb n 10) (λ t. rw t (omega arith))
    (λ t.
    let k = ltb-false n 10 t in
    rw (t, read_last 0 (decimal_in f (n / 10)) (digit (n % 10)), read_value f (n / 10) (omega arith)) (omega arith))

some_digits : (f n : ℕ) → n < f → 0 < length (decimal_in f n)
unfolding decimal_in
some_digits zero n l = omega arith
some_digits (suc f) n l = by_test (ltb n 10) (λ t. rw t (omega arith)) (λ t. rw (t, length-append) (omega arith))

first_stays : (xs ys : List ℕ) → 0 < length xs → get_or (xs ++ ys) 0 0 ≡ get_or xs 0 0
first_stays [] ys l = absurd (omega arith)
first_stays (x ∷ xs) ys l = refl

first_digit : (f n : ℕ) → n < f → 0 < n → get_or (decimal_in f n) 0 0 ≡ digit 0 → ⊥
unfolding decimal_in
first_digit zero n l p = absurd (omega arith)
first_digit (suc f) n l p =
    by_test (ltb n 10) (λ t e. let z : digit n ≡ digit 0 = rw t at e in omega arith)
    (λ t e.
    let k = ltb-false n 10 t in
    let z : get_or (decimal_in f (n / 10) ++ (digit (n % 10) ∷ [])) 0 0 ≡ digit 0 = rw t at e in
    first_digit f (n / 10) (omega arith) (omega arith) (sym (first_stays (decimal_in f (n / 10)) (digit (n % 10) ∷ []) (some_digits f (n / 10) (omega arith))) ∙ z))

-- nothing but digits
abbrev IsDigit : ℕ → Type 0
IsDigit b = (digit 0 ≤ b) × (b ≤ digit 9)

last_holds : (xs : List ℕ) (b : ℕ) → ((i : ℕ) → i < length xs → IsDigit (get_or xs i 0)) → IsDigit b → (i : ℕ) → i < length (xs ++ (b ∷ [])) → IsDigit (get_or (xs ++ (b ∷ [])) i 0)
last_holds [] b h d zero l = d
last_holds [] b h d (suc i) l = absurd (omega arith)
last_holds (x ∷ xs) b h d zero l = h 0 (omega arith)
last_holds (x ∷ xs) b h d (suc i) l = last_holds xs b (λ j m. h (suc j) (omega arith)) d i (omega arith)

all_digits : (f n i : ℕ) → i < length (decimal_in f n) → IsDigit (get_or (decimal_in f n) i 0)
unfolding decimal_in
all_digits zero n i = λ l. absurd (omega arith)
all_digits (suc f) n i =
    by_test (ltb n 10) (λ t. rw t (λ l. last_holds [] (digit n) (λ j m. absurd (omega arith)) (omega arith, omega (arith, ltb-true n 10 t)) i l))
    (λ t. rw t (λ l. last_holds (decimal_in f (n / 10)) (digit (n % 10)) (all_digits f (n / 10)) (omega arith, omega arith) i l))

pub decimal_reads : DecimalReads
unfolding decimal
decimal_reads n =
    record {
      digits = all_digits (suc n) n;
      value = read_value (suc n) n (omega arith);
      first = first_digit (suc n) n (omega arith);
      zero = λ z. decimal_one n (omega arith) ∙ ap (λ (m : ℕ). digit m ∷ []) z;
    }

-- names
pub without_short : (xs : List ℕ) → length (without_spaces xs) ≤ length xs
unfolding without_spaces
without_short [] = omega arith
without_short (x ∷ xs) =
    let h = without_short xs in
    by_test (eqb x space) (λ t. rw t (omega arith)) (λ t. rw t (omega arith))

keep : (b : Bool) (x : ℕ) (l m : List ℕ) → cond b (l ++ m) (x ∷ (l ++ m)) ≡ cond b l (x ∷ l) ++ m
keep true x l m = refl
keep false x l m = refl

without_append : (xs ys : List ℕ) → without_spaces (xs ++ ys) ≡ without_spaces xs ++ without_spaces ys
unfolding without_spaces
without_append [] ys = refl
without_append (x ∷ xs) ys = rw (without_append xs ys) (keep (eqb x space) x (without_spaces xs) (without_spaces ys))

-- the name up to byte i
pub without_next : (name : List ℕ) (i : ℕ) → i < length name → without_spaces (take (i + 1) name) ≡ without_spaces (take i name) ++ without_spaces (get_or name i 0 ∷ [])
without_next name i l =
    ap (λ (m : ℕ). without_spaces (take m name)) (add-one i) ∙ ap without_spaces (take-suc name i 0 l) ∙ without_append (take i name) (get_or name i 0 ∷ [])

pub no_letters : (name : List ℕ) → without_spaces (take 0 name) ≡ []
unfolding without_spaces
no_letters name = refl
