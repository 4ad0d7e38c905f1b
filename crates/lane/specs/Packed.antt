-- Document 01: "each answer packed in one number". A value stands for itself; a refusal is its number × 2^32 + its place. A value or place above 2^32 - 1, which only a
-- journal of 2^32 events or more has, is given as 2^32 - 1.
use Rattle.std.specs.Prelude.{ℕ, ◌+◌, ◌-◌, ◌*◌, ◌/◌, ◌%◌, ◌≤◌, ◌<◌, min, cond, List, ◌≡◌, nat_lt, length}
use Rattle.words.specs.Word.{Bytes}
use Rattle.refusal.specs.Refusal.{Answer, value, refusal, answer_of}
use Rattle.table.specs.Check.{check_of}
use Rattle.table.specs.Lookup.{find_of}
use Rattle.engine.specs.Told.{Told}
use Rattle.engine.specs.Fresh.{fresh_of}
use Rattle.engine.specs.Scan.{scan_of}
use Rattle.layout.specs.Buffer.{event_length}
use Rattle.journal.specs.Check.{check_journal_of}
use Rattle.tidy.specs.Tidy.{tidy_into}

-- what a refusal's number weighs
abbrev pub number_weight : ℕ
number_weight = 4294967296

unfoldable pub packed : Answer → ℕ
packed (value v) = v
packed (refusal number place) = number * number_weight + place

-- taken apart as a host does it: the upper half is 0 and the lower a value, or they are a refusal's number and its place
unfoldable pub unpacked : ℕ → Answer
unpacked n = cond (nat_lt n number_weight) (value n) (refusal (n / number_weight) (n % number_weight))

-- a number for the lower half: the greatest there stands for every greater one
abbrev pub saturated : ℕ → ℕ
saturated n = min n (number_weight - 1)

-- the answer that is packed: its value or its place saturated
unfoldable pub fitted : Answer → Answer
fitted (value v) = value (saturated v)
fitted (refusal number place) = refusal number (saturated place)

-- the answers that the packing keeps
abbrev pub Packable : Answer → Type 0
Packable (value v) = v < number_weight
Packable (refusal number place) = (1 ≤ number) × (number < 256) × (place < number_weight)

-- theorem unpacked_packed, proofs/PackedLaws.antt: taking the number apart gives the answer back, so that no two answers have one number
abbrev pub UnpackedIsPacked : Type 0
UnpackedIsPacked = (a : Answer) → Packable a → unpacked (packed a) ≡ a

-- theorem packable_fitted, there too: they are packed as they are
abbrev pub PackableIsFitted : Type 0
PackableIsFitted = (a : Answer) → Packable a → fitted a ≡ a

-- theorem saturated_exact, there too: a number that comes as less than 2^32 - 1 is exact
abbrev pub SaturatedIsExact : Type 0
SaturatedIsExact = (n : ℕ) → saturated n < number_weight - 1 → saturated n ≡ n

-- theorems check_packable, find_packable, fresh_packable, scan_packable and tidy_packable, there too: all that the entry points answer is such
abbrev pub CheckIsPackable : Type 0
CheckIsPackable = (image : List ℕ) → Bytes image → Packable (answer_of (check_of image))

abbrev pub FindIsPackable : Type 0
FindIsPackable = (image tag : List ℕ) → Bytes image → Packable (answer_of (find_of image tag))

abbrev pub FreshIsPackable : Type 0
FreshIsPackable = (image state : List ℕ) → Bytes image → Packable (answer_of (fresh_of image state).answer)

abbrev pub ScanIsPackable : Type 0
ScanIsPackable = (image state : List ℕ) (told : Told) (report journal : List ℕ) → Bytes image → Packable (answer_of (scan_of image state told report journal).answer)

abbrev pub TidyIsPackable : Type 0
TidyIsPackable = (image out : List ℕ) → Bytes image → Packable (answer_of (tidy_into image out).answer)

-- theorem journal_packable, there too: so is what is answered of a journal of fewer than 2^32 events, 48 GiB
abbrev pub JournalIsPackable : Type 0
JournalIsPackable =
    (image journal : List ℕ) → Bytes image → length journal < event_length * number_weight → Packable (answer_of (check_journal_of image journal))

-- theorem fitted_journal_packable, there too: of any journal what is packed is kept, so that the number tells whether it was accepted, or which check failed
abbrev pub FittedJournalIsPackable : Type 0
FittedJournalIsPackable = (image journal : List ℕ) → Bytes image → Packable (fitted (answer_of (check_journal_of image journal)))
