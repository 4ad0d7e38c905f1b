-- Where the record checks mark a tag that they have met. Check 9 is the same for every such function; this one scatters tags that differ in one character.
use Rattle.std.specs.Prelude.{ℕ, ◌+◌, ◌*◌, ◌/◌, ◌%◌}

-- how many places for marks there are: one for each value of seven bits
abbrev pub mark_count : ℕ
mark_count = 128

-- 2^32: numbers of 32 bits are below it
abbrev pub word_modulus : ℕ
word_modulus = 4294967296

-- the number of a tag folded to 32 bits: its two halves added
abbrev pub folded_tag : ℕ → ℕ
folded_tag tag = (tag % word_modulus + tag / word_modulus) % word_modulus

-- 2^32 divided by the golden ratio: the usual factor of a multiplicative hash of 32 bits
abbrev pub hash_factor : ℕ
hash_factor = 2654435769

-- 2^25: of 32 bits, it divides off all but the top seven
abbrev pub low_bits : ℕ
low_bits = 33554432

-- a multiplicative hash of the folded tag, of which the top seven of 32 bits are taken
abbrev pub mark_index : ℕ → ℕ
mark_index tag = folded_tag tag * hash_factor / low_bits % mark_count
