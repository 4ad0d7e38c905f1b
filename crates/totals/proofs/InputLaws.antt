-- What came is the front of a buffer, and all that it is printed of: for the proofs of `read_input` and `print_totals`.
use Rattle.std.proofs.Common.{◌≡◌, ℕ, ◌+◌, ◌≤◌, ◌<◌, ◌⊎◌, inl, inr, List, ◌++◌, None, Some, IfSome, Result, Ok, Err, IfOk, is_ok, true, false, length, take, drop, sym, ap, subst, ◌∙◌, append-nil, length-append, arith, drop_at, length-take-le}
use Rattle.std.specs.Prelude.{MatchResult}
use Rattle.std.specs.Io.KnownBytes.{Appends, Consumes, IsAtEnd}
use Rattle.std.proofs.lemmas.Bool.{cases_lt}
use Rattle.std.proofs.lemmas.Slice.{take-put_mid_below}
use Rattle.std.proofs.KnownBytes.{Consumes-trans}
use Rattle.std.specs.declared.option.Option.{Option}
use Rattle.sheet.specs.Totals.{most_input, totals_of}
use Rattle.sheet.proofs.TotalsLaws.{prints_75}
use Rattle.totals.specs.declared.Cut.{Cut}
use Rattle.totals.specs.Failure.{came_count}
use borrow.Rule.Slice.PartMut.{put_mid, post_of}
use lib.Seq.{take-add, take-append-le, take-append_seam}

-- n more bytes were read into the buffer behind the first `at`
pub read_more : (a b c : Option (List ℕ)) (at k n : ℕ) (xs ys : List ℕ) → at ≤ length xs → n ≤ length ys → Consumes a b (take at xs) → Consumes b c (take n ys)
    → Consumes a c (take (at + n) (put_mid at k xs ys))
read_more a b c at k n xs ys within fits before read =
    let rest = ap (take n) (drop_at (take at xs) (ys ++ post_of at k xs) at (length-take-le at xs within)) ∙ take-append-le n ys (post_of at k xs) fits in
    let front = take-put_mid_below at k xs ys at (omega arith) within in
    let all = take-add at n (put_mid at k xs ys) ∙ ap (λ z. z ++ take n (drop at (put_mid at k xs ys))) front ∙ ap (λ z. take at xs ++ z) rest in
    subst (Consumes a c) (sym all) (Consumes-trans a b c _ _ before read)

-- an input that is longer than any may be is printed as its front is, if that is longer too
front_printed : (front rest : List ℕ) → most_input < length front → totals_of front ≡ totals_of (front ++ rest)
front_printed front rest long = sym (prints_75 front long) ∙ prints_75 (front ++ rest) (simp length-append (omega arith))

-- all that came is printed, where the reader ended before the buffer was full or the buffer is longer than any input
pub came_printed : (a b u v : Option (List ℕ)) (came : List ℕ) → Consumes a b came → IsAtEnd b ⊎ (most_input < length came) → Appends u v (totals_of came)
    → IfSome a (λ input. Appends u v (totals_of input))
came_printed None b u v came read end wrote = tt
came_printed (Some input) None u v came read end wrote = absurd read
came_printed (Some input) (Some rest) u v came read (inl end) wrote = subst (λ z. Appends u v (totals_of z)) (sym (read ∙ ap (λ z. came ++ z) end ∙ append-nil came)) wrote
came_printed (Some input) (Some rest) u v came read (inr long) wrote = subst (Appends u v) (front_printed came rest long ∙ ap totals_of (sym read)) wrote

-- where the reader did not end, the buffer is full
pub ended_or_full : {P : Type 0} (count : ℕ) (buffer : List ℕ) → count ≤ length buffer → most_input < length buffer → (count < length buffer → P)
    → P ⊎ (most_input < length (take count buffer))
ended_or_full {P = P} count buffer within room ends = by_room (cases_lt count (length buffer))
  where
    by_room : (count < length buffer) ⊎ (length buffer ≤ count) → P ⊎ (most_input < length (take count buffer))
    by_room (inl less) = inl (ends less)
    by_room (inr full) = inr (omega (arith, length-take-le count buffer within))

-- the text that stands at the front of a buffer
pub text_front : (text rest after : List ℕ) (end : ℕ) → end ≡ length text → after ≡ text ++ rest → take end after ≡ text
text_front text rest after end ends holds = ap (λ z. take z after) ends ∙ ap (take (length text)) holds ∙ take-append_seam text rest

-- a value whose error was only renamed was there before
pub renamed_is : {A E D : Type 0} (Q : E → Type 0) (before : Result A E) (after : Result A D) (x : A)
    → MatchResult before (λ y. after ≡ Ok y) Q → is_ok after ≡ is_ok before → after ≡ Ok x → before ≡ Ok x
renamed_is Q (Ok y) after x holds same is = cc
renamed_is Q (Err f) after x holds same is = let e : false ≡ true = sym same ∙ ap is_ok is in cc

-- what the contract of `read_input` says, where no read failed: all that came is printed
pub read_printed : (a b u v : Option (List ℕ)) (read : Result ℕ Cut) (count : ℕ) (buffer : List ℕ) → read ≡ Ok count → came_count read ≤ length buffer → most_input < length buffer
    → Consumes a b (take (came_count read) buffer) → IfOk read (λ n. n < length buffer → IsAtEnd b) → Appends u v (totals_of (take count buffer))
    → IfSome a (λ input. Appends u v (totals_of input))
read_printed a b u v (Ok n) count buffer is within room came all wrote =
    let same : count ≡ n = cc in
    came_printed a b u v (take n buffer) came (ended_or_full n buffer within room all) (subst (λ z. Appends u v (totals_of (take z buffer))) same wrote)
read_printed a b u v (Err cut) count buffer is within room came all wrote = cc
