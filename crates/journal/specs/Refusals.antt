-- Every refusal of a journal below the table's, computed from bytes, beside the nearest journals that pass. What a row is stands in crate table under the same
-- name. Proved in proofs/Refusals.antt.
use Rattle.std.specs.Prelude.{ℕ, List, [], ◌∷◌, ◌++◌, set, take, replicate}
use Rattle.refusal.specs.Refusal.{value, refusal, answer_of}
use Rattle.table.specs.Refusals.{Row, ◌gives◌, AnswersAll}
use Rattle.journal.specs.Check.{check_journal_of}

-- a slot with its kind, its next, no wires, and a tag of one letter
abbrev slot : ℕ → ℕ → ℕ → List ℕ
slot kind next letter = kind ∷ next ∷ 0 ∷ 0 ∷ 0 ∷ 0 ∷ 0 ∷ 0 ∷ letter ∷ 0x20 ∷ 0x20 ∷ 0x20 ∷ 0x20 ∷ 0x20 ∷ 0x20 ∷ 0x20 ∷ []

-- Four blocks. Position 1 is slot 2: kind 7, with abort and time-out. Position 2 is slot 1: kind 9, a level block. Position 3 is slot 4: kind 13, continuous. Position 4 is slot 3: kind 1.
unfoldable pub image : List ℕ
image = (1 ∷ 4 ∷ 2 ∷ 0 ∷ []) ++ (slot 9 4 0x41 ++ (slot 7 1 0x42 ++ (slot 1 0 0x43 ++ slot 13 3 0x44)))

-- an event whose code is below 256 and whose job has four low and four high bytes, of which the first of each is given
unfoldable pub event : ℕ → ℕ → ℕ → ℕ → ℕ → List ℕ
event kind position code low high = kind ∷ position ∷ code ∷ 0 ∷ low ∷ 0 ∷ 0 ∷ 0 ∷ high ∷ 0 ∷ 0 ∷ 0 ∷ []

-- of job 7
abbrev of7 : ℕ → ℕ → ℕ → List ℕ
of7 kind position code = event kind position code 7 0

-- a start of job 7 at a position, and what comes next
abbrev after : ℕ → List ℕ → List ℕ
after position next = of7 1 position 0 ++ next

unfoldable pub journal_rows : List (Row (List ℕ × List ℕ))
journal_rows =
    -- no events; one start; two blocks, the first of them with three jobs, the last left open
    (image, []) gives value 0
    ∷ (image, of7 1 1 0) gives value 1
    ∷ (image, of7 1 1 0 ++ (of7 1 2 0 ++ (of7 3 1 1 ++ (event 1 1 0 8 0 ++ (of7 5 2 0 ++ (event 4 1 0 8 0 ++ of7 1 1 0)))))) gives value 7
    -- a length that is no multiple of the event: no whole event, a good one cut short, a bad one and a byte more
    ∷ (image, 9 ∷ []) gives refusal 70 0
    ∷ (image, take 11 (of7 1 1 0)) gives refusal 70 0
    ∷ (image, of7 9 1 0 ++ (1 ∷ [])) gives refusal 70 0
    -- a kind that is none: 0, 6
    ∷ (image, of7 0 1 0) gives refusal 71 1
    ∷ (image, after 1 (of7 0 1 0)) gives refusal 71 2
    ∷ (image, after 1 (of7 6 1 0)) gives refusal 71 2
    -- positions: none, past the table, the last
    ∷ (image, of7 1 0 0) gives refusal 71 1
    ∷ (image, of7 1 5 0) gives refusal 71 1
    ∷ (image, of7 1 4 0) gives value 1
    -- a finish without a start, two starts, two finishes; the first of two bad events is named
    ∷ (image, of7 2 1 0) gives refusal 71 1
    ∷ (image, after 1 (of7 1 1 0)) gives refusal 71 2
    ∷ (image, after 1 (of7 2 1 0 ++ of7 2 1 0)) gives refusal 71 3
    ∷ (image, after 1 (of7 1 1 0 ++ of7 0 0 0)) gives refusal 71 2
    -- a finish with the job of another block, and with one that differs in its high half alone
    ∷ (image, after 1 (event 1 2 0 8 0 ++ event 2 1 0 8 0)) gives refusal 71 3
    ∷ (image, event 1 1 0 7 1 ++ event 2 1 0 7 1) gives value 2
    ∷ (image, event 1 1 0 7 1 ++ event 2 1 0 7 0) gives refusal 71 2
    -- done: not on kind 13
    ∷ (image, after 2 (of7 2 2 0)) gives value 2
    ∷ (image, after 3 (of7 2 3 0)) gives refusal 71 2
    -- aborted: on kind 7, not on 9 and 1
    ∷ (image, after 1 (of7 4 1 0)) gives value 2
    ∷ (image, after 2 (of7 4 2 0)) gives refusal 71 2
    ∷ (image, after 4 (of7 4 4 0)) gives refusal 71 2
    -- withdrawn: on 9 and 13, not on 7 and 1
    ∷ (image, after 2 (of7 5 2 0)) gives value 2
    ∷ (image, after 3 (of7 5 3 0)) gives value 2
    ∷ (image, after 1 (of7 5 1 0)) gives refusal 71 2
    ∷ (image, after 4 (of7 5 4 0)) gives refusal 71 2
    -- codes: failed with none, with 1 on a kind with time-out and on those without, with 2 on any
    ∷ (image, after 1 (of7 3 1 0)) gives refusal 71 2
    ∷ (image, after 1 (of7 3 1 1)) gives value 2
    ∷ (image, after 2 (of7 3 2 1)) gives refusal 71 2
    ∷ (image, after 3 (of7 3 3 1)) gives refusal 71 2
    ∷ (image, after 3 (of7 3 3 2)) gives value 2
    -- a code on a start, on done, aborted and withdrawn
    ∷ (image, of7 1 1 2) gives refusal 71 1
    ∷ (image, after 1 (of7 2 1 2)) gives refusal 71 2
    ∷ (image, after 1 (of7 4 1 2)) gives refusal 71 2
    ∷ (image, after 2 (of7 5 2 2)) gives refusal 71 2
    -- the table's checks come first
    ∷ (set image 0 2, 1 ∷ []) gives refusal 2 0
    ∷ (set image 4 15, of7 9 9 9) gives refusal 7 1
    -- a table of no blocks
    ∷ (1 ∷ 1 ∷ 0 ∷ 0 ∷ replicate 16 0, []) gives value 0
    ∷ (1 ∷ 1 ∷ 0 ∷ 0 ∷ replicate 16 0, of7 1 1 0) gives refusal 71 1
    ∷ []

-- theorem journal_refusals: checking a journal answers these rows so
abbrev pub JournalRefusals : Type 0
JournalRefusals = AnswersAll (λ given. answer_of (check_journal_of given.0 given.1)) journal_rows
