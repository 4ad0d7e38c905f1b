-- Document 01: "Values are little-endian". Numbers in bytes, for every width, and bytes that are all zero.
use Rattle.std.specs.Prelude.{ℕ, zero, suc, ◌+◌, ◌*◌, ◌/◌, ◌%◌, ◌<◌, Bool, true, ◌&&◌, List, [], ◌∷◌, ◌==◌, slice_index, take, drop, length, ◌++◌}

-- every element is a byte
abbrev pub Bytes : List ℕ → Type 0
Bytes l = (i : ℕ) → slice_index l i < 256

-- the number that bytes stand for, the lowest byte first
unfoldable pub number : List ℕ → ℕ
number [] = 0
number (b ∷ bs) = b + 256 * number bs

-- the `width` lowest bytes of a number, the lowest first
unfoldable pub bytes : ℕ → ℕ → List ℕ
bytes zero x = []
bytes (suc width) x = x % 256 ∷ bytes width (x / 256)

-- the number in the `width` bytes of s from place i on
abbrev pub number_at : ℕ → List ℕ → ℕ → ℕ
number_at width s i = number (take width (drop i s))

-- whether bytes are all zero, and the `width` bytes of s from place i on
unfoldable pub all_zero : List ℕ → Bool
all_zero [] = true
all_zero (b ∷ bs) = b == 0 && all_zero bs

abbrev pub zero_at : ℕ → List ℕ → ℕ → Bool
zero_at width s i = all_zero (take width (drop i s))

-- bytes over those of s from place i on; the rest stays
abbrev pub put : ℕ → List ℕ → List ℕ → List ℕ
put i v s = take i s ++ (v ++ drop (i + length v) s)
