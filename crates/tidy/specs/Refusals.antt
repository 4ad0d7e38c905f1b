-- Every refusal of tidying below the table's, computed from bytes, beside the nearest lengths that pass. What a row is stands in crate table under the same
-- name. Proved in proofs/Refusals.antt.
use Rattle.std.specs.Prelude.{ℕ, List, [], ◌∷◌, set, replicate}
use Rattle.refusal.specs.Refusal.{value, refusal, answer_of}
use Rattle.table.specs.Refusals.{Row, ◌gives◌, AnswersAll, image}
use Rattle.tidy.specs.Tidy.{tidy_into}
use Rattle.tidy.specs.TidyExample.{no_blocks}

-- an image, and how many bytes are lent
unfoldable pub tidy_rows : List (Row (List ℕ × ℕ))
tidy_rows =
    -- two blocks in three slots
    (image, 36) gives value 2
    ∷ (image, 0) gives refusal 60 0
    ∷ (image, 20) gives refusal 60 0
    ∷ (image, 35) gives refusal 60 0
    ∷ (image, 37) gives refusal 60 0
    -- the length of the table as it is given
    ∷ (image, 52) gives refusal 60 0
    -- no blocks in three slots: one slot, not none
    ∷ (no_blocks, 20) gives value 0
    ∷ (no_blocks, 4) gives refusal 60 0
    ∷ (no_blocks, 19) gives refusal 60 0
    ∷ (no_blocks, 21) gives refusal 60 0
    ∷ (no_blocks, 52) gives refusal 60 0
    -- the table's checks come first
    ∷ (set image 0 2, 0) gives refusal 2 0
    ∷ (set image 7 4, 37) gives refusal 10 1
    ∷ (set image 36 1, 52) gives refusal 11 3
    ∷ []

-- theorem tidy_refusals: tidying answers these rows so
abbrev pub TidyRefusals : Type 0
TidyRefusals = AnswersAll (λ given. answer_of (tidy_into given.0 (replicate given.1 255)).answer) tidy_rows
