-- What the code holds of a journal: how many events each position has of each kind. For contracts.
use Rattle.std.specs.Prelude.{ℕ, suc, ◌≤◌, ◌<◌, Bool, true, cond, ◌&&◌, List, [], ◌≡◌, eqb, leb, get_or}
use Rattle.image.specs.Image.{most_slots}
use Rattle.layout.specs.EventLayout.{events_at}
use Rattle.layout.specs.declared.event.Posted.{Posted}
use Rattle.block.specs.Event.{Start, Withdrawn}
use Rattle.block.specs.Turns.{count_of}
use Rattle.figures.specs.Figures.{finishes_by, figures_by}
use Rattle.figures.specs.declared.figures.Figures.{Figures}
use Rattle.figures.specs.declared.tally.Tally.{Tally}

-- by position and kind
abbrev pub Counts : Type 0
Counts = ℕ → ℕ → ℕ

-- a row for each position up to the last, and in it one count for each kind of event; position 0 and kind 0 are not used
abbrev pub counts_of : Tally → Counts
counts_of tally position kind = get_or (get_or tally.rows position []) kind 0

-- whether there is a count of them
abbrev pub has_count : ℕ → ℕ → Bool
has_count position kind = leb position most_slots && leb kind Withdrawn

-- one event more
unfoldable pub counted : Counts → ℕ → ℕ → Counts
counted counts position kind p k = cond (has_count position kind && (eqb p position && eqb k kind)) (suc (counts p k)) (counts p k)

-- the count can still be added to
abbrev pub CountFits : Counts → ℕ → ℕ → Type 0
CountFits counts position kind = has_count position kind ≡ true → counts position kind < 4294967295

-- the counts are those of the events
pub record Tallied (events : List Posted) (counts : Counts) : Type 0 where
  pub each : (position kind : ℕ) → position ≤ most_slots → kind ≤ Withdrawn → counts position kind ≡ count_of kind (events_at position events)

-- the figures of the block at a position, by the counts
abbrev pub figures_in : Counts → ℕ → Figures
figures_in counts position = figures_by (counts position)

-- the finishes at a position are no more than its starts, and these no more than an input has bytes, so that all rows can be added up
abbrev pub RowFits : Counts → ℕ → Type 0
RowFits counts position = (finishes_by (counts position) ≤ counts position Start) × (counts position Start ≤ 65536)

-- at each of the first n positions
abbrev pub RowsFit : Counts → ℕ → Type 0
RowsFit counts n = (k : ℕ) → k < n → RowFits counts (suc k)
