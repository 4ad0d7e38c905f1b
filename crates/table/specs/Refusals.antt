-- Every refusal of check and find, computed from bytes: a row for each way to be turned back, with its number and place, beside the nearest bytes that
-- pass. Rows and what is said of them are for any entry point, so that the layers above can state theirs the same way. Proved in proofs/Refusals.antt.
use Rattle.std.specs.Prelude.{ℕ, ◌≡◌, List, [], ◌∷◌, ◌++◌, map, set, take, drop, replicate}
use Rattle.refusal.specs.Refusal.{Answer, value, refusal, answer_of}
use Rattle.table.specs.Check.{check_of}
use Rattle.table.specs.Lookup.{find_of}

-- what an entry point is given, and the answer that is due
infix 70 ◌gives◌
pub data Row (A : Type 0) : Type 0 where
  ◌gives◌ : A → Answer → Row A

unfoldable pub answers_due : {A : Type 0} → List (Row A) → List Answer
answers_due [] = []
answers_due ((given gives answer) ∷ rows) = answer ∷ answers_due rows

unfoldable pub answers_made : {A : Type 0} → (A → Answer) → List (Row A) → List Answer
answers_made run [] = []
answers_made run ((given gives answer) ∷ rows) = run given ∷ answers_made run rows

-- an entry point answers every row as is due
abbrev pub AnswersAll : {A : Type 0} → (A → Answer) → List (Row A) → Type 0
AnswersAll run rows = answers_made run rows ≡ answers_due rows

-- "PUMP1", "FAN"
abbrev pump1 : List ℕ
pump1 = 0x50 ∷ 0x55 ∷ 0x4D ∷ 0x50 ∷ 0x31 ∷ 0x20 ∷ 0x20 ∷ 0x20 ∷ []

abbrev fan : List ℕ
fan = 0x46 ∷ 0x41 ∷ 0x4E ∷ 0x20 ∷ 0x20 ∷ 0x20 ∷ 0x20 ∷ 0x20 ∷ []

-- "IN_1", "IN1", "IN_2", "IN__1"
abbrev in_underscore_one : List ℕ
in_underscore_one = 0x49 ∷ 0x4E ∷ 0x5F ∷ 0x31 ∷ 0x20 ∷ 0x20 ∷ 0x20 ∷ 0x20 ∷ []

abbrev in_one : List ℕ
in_one = 0x49 ∷ 0x4E ∷ 0x31 ∷ 0x20 ∷ 0x20 ∷ 0x20 ∷ 0x20 ∷ 0x20 ∷ []

abbrev in_underscore_two : List ℕ
in_underscore_two = 0x49 ∷ 0x4E ∷ 0x5F ∷ 0x32 ∷ 0x20 ∷ 0x20 ∷ 0x20 ∷ 0x20 ∷ []

abbrev in_two_underscores_one : List ℕ
in_two_underscores_one = 0x49 ∷ 0x4E ∷ 0x5F ∷ 0x5F ∷ 0x31 ∷ 0x20 ∷ 0x20 ∷ 0x20 ∷ []

-- "Z_______"
abbrev seven_underscores : List ℕ
seven_underscores = 0x5A ∷ replicate 7 0x5F

-- tags of one character, of eight, and with a digit first: "Z", "VALVE025", "2PUMP"
abbrev one_character : List ℕ
one_character = 0x5A ∷ 0x20 ∷ 0x20 ∷ 0x20 ∷ 0x20 ∷ 0x20 ∷ 0x20 ∷ 0x20 ∷ []

abbrev eight_characters : List ℕ
eight_characters = 0x56 ∷ 0x41 ∷ 0x4C ∷ 0x56 ∷ 0x45 ∷ 0x30 ∷ 0x32 ∷ 0x35 ∷ []

abbrev digit_first : List ℕ
digit_first = 0x32 ∷ 0x50 ∷ 0x55 ∷ 0x4D ∷ 0x50 ∷ 0x20 ∷ 0x20 ∷ 0x20 ∷ []

-- Two blocks in three slots, which begin at bytes 4, 20 and 36. Position 1 is slot 2: kind 7, tag PUMP1, abort wired to the aborted flag of slot 1.
-- Position 2 is slot 1: kind 9, tag FAN, start wired to the done flag of slot 2, inverted. Slot 3 is spare.
unfoldable pub image : List ℕ
image =
    1 ∷ 3 ∷ 2 ∷ 0
    ∷ 9 ∷ 0 ∷ 2 ∷ 129 ∷ 0 ∷ 0 ∷ 0 ∷ 0 ∷ 0x46 ∷ 0x41 ∷ 0x4E ∷ 0x20 ∷ 0x20 ∷ 0x20 ∷ 0x20 ∷ 0x20
    ∷ 7 ∷ 1 ∷ 0 ∷ 0 ∷ 1 ∷ 3 ∷ 0 ∷ 0 ∷ 0x50 ∷ 0x55 ∷ 0x4D ∷ 0x50 ∷ 0x31 ∷ 0x20 ∷ 0x20 ∷ 0x20
    ∷ 0 ∷ 0 ∷ 0 ∷ 0 ∷ 0 ∷ 0 ∷ 0 ∷ 0 ∷ 0 ∷ 0 ∷ 0 ∷ 0 ∷ 0 ∷ 0 ∷ 0 ∷ 0
    ∷ []

-- a slot of kind 1 with no wires
abbrev unwired : ℕ → List ℕ → List ℕ
unwired next tag = 1 ∷ next ∷ (replicate 6 0 ++ tag)

-- 02, 2/14: "IN_1 and IN1 are two tags." Three blocks in three slots, which hold these tags; the chain is slot 3, slot 1, slot 2.
abbrev three_lanes : List ℕ → List ℕ → List ℕ → List ℕ
three_lanes first second third = 1 ∷ 3 ∷ 3 ∷ 0 ∷ (unwired 2 first ++ (unwired 0 second ++ unwired 1 third))

-- IN_1 at position 1, IN1 at position 2, IN_2 at position 3
abbrev lanes : List ℕ
lanes = three_lanes in_one in_underscore_two in_underscore_one

-- the image with this tag in slot 1
abbrev tagged : List ℕ → List ℕ
tagged tag = take 12 image ++ (tag ++ drop 20 image)

-- a header of N slots with head 0
abbrev header : ℕ → List ℕ
header n = 1 ∷ n ∷ 0 ∷ 0 ∷ []

-- each byte of the spare slot, not zero
abbrev spare_bytes : List (Row (List ℕ))
spare_bytes =
    map (λ (i : ℕ). set image i 1 gives refusal 11 3)
    (36 ∷ 37 ∷ 38 ∷ 39 ∷ 40 ∷ 41 ∷ 42 ∷ 43 ∷ 44 ∷ 45 ∷ 46 ∷ 47 ∷ 48 ∷ 49 ∷ 50 ∷ 51 ∷ [])

-- check's rows: an image. `set image i b` is the image with b for its byte i.
unfoldable pub check_rows : List (Row (List ℕ))
check_rows =
    image gives value 2
    ∷ (header 1 ++ replicate 16 0) gives value 0
    -- 1: under 4 bytes
    ∷ [] gives refusal 1 0
    ∷ take 3 image gives refusal 1 0
    -- 2: version or byte 3
    ∷ set image 0 0 gives refusal 2 0
    ∷ set image 0 2 gives refusal 2 0
    ∷ set image 3 1 gives refusal 2 0
    -- 3: N, 1 to 64
    ∷ header 0 gives refusal 3 0
    ∷ set image 1 65 gives refusal 3 0
    -- 4: length not 4 + 16 × N
    ∷ header 64 gives refusal 4 0
    ∷ take 51 image gives refusal 4 0
    ∷ (image ++ (0 ∷ [])) gives refusal 4 0
    -- 5: head, or a next, above N; slot holding it, 0 for head
    ∷ set image 2 4 gives refusal 5 0
    ∷ set image 5 4 gives refusal 5 1
    ∷ set image 21 255 gives refusal 5 2
    -- 6: next names a slot already met; slot holding it
    ∷ set image 5 2 gives refusal 6 1
    ∷ set image 5 1 gives refusal 6 1
    ∷ set image 21 2 gives refusal 6 2
    -- 7: kind, or bytes 6-7; slot. A kind of 0 and 15, each of the two bytes, and a chain that leads to the spare slot
    ∷ set image 20 0 gives refusal 7 2
    ∷ set image 4 15 gives refusal 7 1
    ∷ set image 10 1 gives refusal 7 1
    ∷ set image 27 1 gives refusal 7 2
    ∷ set image 5 3 gives refusal 7 3
    -- each of the kinds 1 to 14, without an abort wire
    ∷ set image 4 1 gives value 2
    ∷ set image 4 2 gives value 2
    ∷ set image 4 3 gives value 2
    ∷ set image 4 4 gives value 2
    ∷ set image 4 5 gives value 2
    ∷ set image 4 6 gives value 2
    ∷ set image 4 7 gives value 2
    ∷ set image 4 8 gives value 2
    ∷ set image 4 9 gives value 2
    ∷ set image 4 10 gives value 2
    ∷ set image 4 11 gives value 2
    ∷ set image 4 12 gives value 2
    ∷ set image 4 13 gives value 2
    ∷ set image 4 14 gives value 2
    -- 8: tag form; slot. No character, one beside A, Z, 0, 9 or the underscore, a lower case a, a zero for a space, a space inside
    ∷ set image 28 0x20 gives refusal 8 2
    ∷ set image 12 0x40 gives refusal 8 1
    ∷ set image 12 0x5B gives refusal 8 1
    ∷ set image 13 0x2F gives refusal 8 1
    ∷ set image 13 0x3A gives refusal 8 1
    ∷ set image 13 0x5E gives refusal 8 1
    ∷ set image 13 0x60 gives refusal 8 1
    ∷ set image 14 0x61 gives refusal 8 1
    ∷ set image 19 0 gives refusal 8 1
    ∷ set image 19 0x41 gives refusal 8 1
    -- an underscore first, alone, and after a space
    ∷ set image 12 0x5F gives refusal 8 1
    ∷ tagged (set one_character 0 0x5F) gives refusal 8 1
    ∷ set image 19 0x5F gives refusal 8 1
    -- A, Z, 0, 9 and the underscore at those bytes, a character more, one alone, all eight, and a digit first are in form
    ∷ set image 12 0x41 gives value 2
    ∷ set image 12 0x5A gives value 2
    ∷ set image 13 0x30 gives value 2
    ∷ set image 13 0x39 gives value 2
    ∷ set image 13 0x5F gives value 2
    ∷ set image 15 0x41 gives value 2
    ∷ tagged one_character gives value 2
    ∷ tagged eight_characters gives value 2
    ∷ tagged digit_first gives value 2
    -- an underscore last, before spaces and as the eighth, after a digit, and in every place but the first
    ∷ set image 15 0x5F gives value 2
    ∷ tagged (set eight_characters 7 0x5F) gives value 2
    ∷ tagged (set digit_first 1 0x5F) gives value 2
    ∷ tagged seven_underscores gives value 2
    -- tags told apart by an underscore alone, in either order
    ∷ lanes gives value 3
    ∷ three_lanes in_underscore_one in_underscore_two in_one gives value 3
    -- 9: tag of an earlier block; later slot
    ∷ tagged pump1 gives refusal 9 1
    ∷ three_lanes in_underscore_one in_underscore_two in_underscore_one gives refusal 9 1
    ∷ three_lanes in_one in_underscore_one in_underscore_one gives refusal 9 2
    -- 10: a wire's slot, off the chain or above N; a code beside slot 0; bits 2 to 6 of a code; an abort wire on kind 9, its slot and its code, and on kind 4
    ∷ set image 6 3 gives refusal 10 1
    ∷ set image 24 4 gives refusal 10 2
    ∷ set image 23 1 gives refusal 10 2
    ∷ set image 7 4 gives refusal 10 1
    ∷ set image 7 8 gives refusal 10 1
    ∷ set image 7 16 gives refusal 10 1
    ∷ set image 7 32 gives refusal 10 1
    ∷ set image 25 64 gives refusal 10 2
    ∷ set image 8 2 gives refusal 10 1
    ∷ set image 9 1 gives refusal 10 1
    ∷ set image 20 4 gives refusal 10 2
    -- an abort wire on kinds 5 to 8; flags 0 to 3, as they are and inverted; a start wire and an abort wire to the own slot
    ∷ set image 20 5 gives value 2
    ∷ set image 20 6 gives value 2
    ∷ set image 20 7 gives value 2
    ∷ set image 20 8 gives value 2
    ∷ set image 7 0 gives value 2
    ∷ set image 7 1 gives value 2
    ∷ set image 7 2 gives value 2
    ∷ set image 7 3 gives value 2
    ∷ set image 7 128 gives value 2
    ∷ set image 7 129 gives value 2
    ∷ set image 7 130 gives value 2
    ∷ set image 7 131 gives value 2
    ∷ set image 6 1 gives value 2
    ∷ set image 24 2 gives value 2
    -- 11: not zero; lowest slot. The bytes of the spare slot one by one come last
    ∷ set image 2 0 gives refusal 11 1
    -- the first that fails is given: header, chain, then each record through 7 to 10 before the next, then the spare slots
    ∷ set (set image 0 2) 1 0 gives refusal 2 0
    ∷ set (set image 5 2) 20 0 gives refusal 6 1
    ∷ set (set image 28 0x20) 4 15 gives refusal 8 2
    ∷ set (set image 7 4) 12 0x20 gives refusal 8 1
    ∷ set (set image 9 1) 36 1 gives refusal 10 1
    ∷ spare_bytes

-- find's rows: an image and a tag
unfoldable pub find_rows : List (Row (List ℕ × List ℕ))
find_rows =
    (image, pump1) gives value 1
    ∷ (image, fan) gives value 2
    ∷ (lanes, in_underscore_one) gives value 1
    ∷ (lanes, in_one) gives value 2
    ∷ (lanes, in_underscore_two) gives value 3
    -- the table's checks come first
    ∷ (set image 0 2, []) gives refusal 2 0
    ∷ (set image 36 1, pump1) gives refusal 11 3
    -- 50: not eight bytes in tag form. None, seven, nine; as in 8
    ∷ (image, []) gives refusal 50 0
    ∷ (image, take 7 fan) gives refusal 50 0
    ∷ (image, fan ++ (0x20 ∷ [])) gives refusal 50 0
    ∷ (image, replicate 8 0x20) gives refusal 50 0
    ∷ (image, set fan 0 0x40) gives refusal 50 0
    ∷ (image, set fan 0 0x5B) gives refusal 50 0
    ∷ (image, set fan 1 0x2F) gives refusal 50 0
    ∷ (image, set fan 1 0x3A) gives refusal 50 0
    ∷ (image, set fan 1 0x5E) gives refusal 50 0
    ∷ (image, set fan 1 0x60) gives refusal 50 0
    ∷ (image, set fan 0 0x5F) gives refusal 50 0
    ∷ (image, set fan 7 0x5F) gives refusal 50 0
    ∷ (image, set fan 2 0x6E) gives refusal 50 0
    ∷ (image, set fan 3 0) gives refusal 50 0
    ∷ (image, set fan 1 0x20) gives refusal 50 0
    -- 51: no such tag. A character more, one less, I for 1; an underscore more, one less, IN_ and IN__1 beside IN_1, seven underscores
    ∷ (image, set fan 3 0x41) gives refusal 51 0
    ∷ (image, set pump1 4 0x20) gives refusal 51 0
    ∷ (image, set pump1 4 0x49) gives refusal 51 0
    ∷ (image, set fan 3 0x5F) gives refusal 51 0
    ∷ (set image 15 0x5F, fan) gives refusal 51 0
    ∷ (lanes, set in_underscore_one 3 0x20) gives refusal 51 0
    ∷ (lanes, in_two_underscores_one) gives refusal 51 0
    ∷ (lanes, seven_underscores) gives refusal 51 0
    ∷ (header 1 ++ replicate 16 0, fan) gives refusal 51 0
    ∷ []

-- theorem table_refusals: check and find answer these rows so
pub record TableRefusals : Type 0 where
  pub check : AnswersAll (λ image. answer_of (check_of image)) check_rows
  pub find : AnswersAll (λ given. answer_of (find_of given.0 given.1)) find_rows
