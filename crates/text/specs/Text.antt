-- Document 02, 7/14: what the lines of a sheet are made of, in ASCII, and how a text comes to stand in a buffer.
use Rattle.std.specs.Prelude.{ℕ, zero, suc, ◌+◌, ◌-◌, ◌*◌, ◌/◌, ◌%◌, ◌<◌, ◌≤◌, cond, List, [], ◌∷◌, ◌++◌, ◌≢◌, ◌≡◌, ltb, eqb, length, get_or}
use Rattle.layout.specs.Buffer.{put}

abbrev pub space : ℕ
space = 0x20

abbrev pub line_feed : ℕ
line_feed = 0x0A

-- a digit, 0 to 9
abbrev pub digit : ℕ → ℕ
digit d = 0x30 + d

-- a number in decimal, of at most so many digits
unfoldable pub decimal_in : ℕ → ℕ → List ℕ
decimal_in zero n = []
decimal_in (suc most) n = cond (ltb n 10) (digit n ∷ []) (decimal_in most (n / 10) ++ (digit (n % 10) ∷ []))

-- a number in decimal; n has at most n + 1 digits
unfoldable pub decimal : ℕ → List ℕ
decimal n = decimal_in (suc n) n

-- theorem decimal_rule, proofs/TextLaws.antt: that bound never binds
abbrev pub DecimalRule : Type 0
DecimalRule = (n : ℕ) → decimal n ≡ cond (ltb n 10) (digit n ∷ []) (decimal (n / 10) ++ (digit (n % 10) ∷ []))

-- digits read as a number, after those that gave v
unfoldable pub read_on : ℕ → List ℕ → ℕ
read_on v [] = v
read_on v (b ∷ bs) = read_on (10 * v + (b - digit 0)) bs

-- theorem decimal_reads, proofs/TextLaws.antt: the text of a number has digits only and reads as that number; its first digit is no zero, but for the number 0, which is that digit alone
pub record Reads (n : ℕ) : Type 0 where
  pub digits : (i : ℕ) → i < length (decimal n) → (digit 0 ≤ get_or (decimal n) i 0) × (get_or (decimal n) i 0 ≤ digit 9)
  pub value : read_on 0 (decimal n) ≡ n
  pub first : 0 < n → get_or (decimal n) 0 0 ≢ digit 0
  pub zero : n ≡ 0 → decimal n ≡ digit 0 ∷ []

abbrev pub DecimalReads : Type 0
DecimalReads = (n : ℕ) → Reads n

-- "the tag without spaces"
unfoldable pub without_spaces : List ℕ → List ℕ
without_spaces [] = []
without_spaces (b ∷ bs) = cond (eqb b space) (without_spaces bs) (b ∷ without_spaces bs)

-- A text was written into a buffer from the place `at` on. For contracts.
pub record Wrote (at : ℕ) (text before : List ℕ) (end : ℕ) (after : List ℕ) : Type 0 where
  -- where it ends
  pub ends : end ≡ at + length text
  -- it is within the buffer
  pub within : end ≤ length before
  -- what the buffer holds then, all of it
  pub holds : after ≡ put at text before
