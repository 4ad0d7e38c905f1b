-- Inputs and what is printed of them, computed from bytes: for the reader. Proved in proofs/SheetExamples.antt.
use Rattle.std.specs.Prelude.{ℕ, zero, suc, List, [], ◌∷◌, ◌++◌, ◌≡◌, take, replicate}
use Prim.Native.String.{String}
use Rattle.text.specs.Ascii.{ascii}
use Rattle.sheet.specs.Totals.{totals_of}

-- a slot with its kind, its next, no wires, and a tag
unfoldable pub slot : ℕ → ℕ → String → List ℕ
slot kind next tag = (kind ∷ next ∷ 0 ∷ 0 ∷ 0 ∷ 0 ∷ 0 ∷ 0 ∷ []) ++ ascii tag

-- an event with a code and a job below 256
unfoldable pub event : ℕ → ℕ → ℕ → ℕ → List ℕ
event kind position code job = kind ∷ position ∷ code ∷ 0 ∷ job ∷ 0 ∷ 0 ∷ 0 ∷ 0 ∷ 0 ∷ 0 ∷ 0 ∷ []

-- "A single block LANE0": of kind 1
unfoldable pub one_lane : List ℕ
one_lane = (1 ∷ 1 ∷ 1 ∷ 0 ∷ []) ++ slot 1 0 "LANE0   "

-- Two blocks: position 1 is slot 2, of kind 7 and tagged TOTAL, position 2 is slot 1, of kind 9.
unfoldable pub two_lanes : List ℕ
two_lanes = (1 ∷ 2 ∷ 2 ∷ 0 ∷ []) ++ slot 9 0 "OUT_LANE" ++ slot 7 1 "TOTAL   "

-- start and done of job 7, so many times
unfoldable pub jobs : ℕ → List ℕ
jobs zero = []
jobs (suc n) = event 1 1 0 7 ++ event 2 1 0 7 ++ jobs n

-- theorem sheet_examples
pub record SheetExamples : Type 0 where
  -- "with start 7 and done 7 prints "LANE0 1 1 0 0 0 0" and "TOTAL 1 1 0 0 0 0""
  pub one_job : totals_of (one_lane ++ jobs 1) ≡ ascii "LANE0 1 1 0 0 0 0\nTOTAL 1 1 0 0 0 0\n"
  pub no_job : totals_of one_lane ≡ ascii "LANE0 0 0 0 0 0 0\nTOTAL 0 0 0 0 0 0\n"
  pub ten_jobs : totals_of (one_lane ++ jobs 10 ++ event 1 1 0 8) ≡ ascii "LANE0 11 10 0 0 0 1\nTOTAL 11 10 0 0 0 1\n"
  -- every kind of finish, chain order, a block tagged TOTAL, a tag of eight characters
  pub two_blocks : totals_of (two_lanes ++ event 1 1 0 7 ++ event 1 2 0 7 ++ event 4 1 0 7 ++ event 5 2 0 7 ++ event 1 1 0 8 ++ event 3 1 1 8 ++ event 1 2 0 9 ++ event 2 2 0 9 ++ event 1 1 0 9)
      ≡ ascii "TOTAL 3 0 1 1 0 1\nOUT_LANE 2 1 0 0 1 0\nTOTAL 5 1 1 1 1 1\n"
  -- no blocks
  pub no_blocks : totals_of ((1 ∷ 1 ∷ 0 ∷ 0 ∷ []) ++ replicate 16 0) ≡ ascii "TOTAL 0 0 0 0 0 0\n"
  -- no bytes, and one; byte 1 says that there are no slots; a table cut short; a wrong version, with a journal that is no better
  pub nothing : totals_of [] ≡ ascii "refused 1\n"
  pub one_byte : totals_of (1 ∷ []) ≡ ascii "refused 1\n"
  pub no_slots : totals_of ((1 ∷ 0 ∷ 0 ∷ 0 ∷ []) ++ jobs 1) ≡ ascii "refused 3\n"
  pub cut_short : totals_of (take 19 one_lane) ≡ ascii "refused 4\n"
  pub version : totals_of ((2 ∷ 1 ∷ 1 ∷ 0 ∷ []) ++ slot 1 0 "LANE0   " ++ (1 ∷ [])) ≡ ascii "refused 2\n"
  -- a byte too many, and a finish without its start
  pub odd : totals_of (one_lane ++ jobs 1 ++ (1 ∷ [])) ≡ ascii "refused 70\n"
  pub no_start : totals_of (one_lane ++ event 2 1 0 7) ≡ ascii "refused 71\n"
