-- Document 01, "Table image" and "Sound means": the kinds and their properties.
use Rattle.std.specs.Prelude.{Bool, ◌||◌, List, [], ◌∷◌, ℕ}
use Rattle.membership.specs.Membership.{within, among}

-- 1 ETrig, 2 ETrigTI, 3 ETrigTo, 4 ETrigTITo, 5 ETrigA, 6 ETrigATI, 7 ETrigATo, 8 ETrigATITo, 9 LCon, 10 LConTI, 11 LConTo, 12 LConTITo, 13 LConC, 14 LConTIC
unfoldable pub is_kind : ℕ → Bool
is_kind k = within 1 14 k

-- "Kinds 1 to 8 are edge blocks, 9 to 14 level blocks"
unfoldable pub is_edge : ℕ → Bool
is_edge k = within 1 8 k

-- "A abort input"
unfoldable pub has_abort : ℕ → Bool
has_abort k = within 5 8 k

-- "Aborting: kinds 5-14": those with an abort input, and level kinds
unfoldable pub can_abort : ℕ → Bool
can_abort k = within 5 14 k

-- the kinds with TI in their names
abbrev pub time_limit_kinds : List ℕ
time_limit_kinds = 2 ∷ 4 ∷ 6 ∷ 8 ∷ 10 ∷ 12 ∷ 14 ∷ []

-- "TI time limit"
unfoldable pub has_time_limit : ℕ → Bool
has_time_limit k = among k time_limit_kinds

-- "To time-out"
unfoldable pub has_time_out : ℕ → Bool
has_time_out k = within 3 4 k || within 7 8 k || within 11 12 k

-- "C continuous"
unfoldable pub is_continuous : ℕ → Bool
is_continuous k = within 13 14 k
