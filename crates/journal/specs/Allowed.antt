-- Document 02, 6/14: "Check a foreign journal.": the rules, of a whole journal.
use Rattle.std.specs.Prelude.{ℕ, suc, ◌<◌, List, [], ◌≢◌, ◌≡◌, length}
use Rattle.std.proofs.Math.Option.{Option, none}
use Rattle.table.specs.Blocks.{Block, block_at}
use Rattle.layout.specs.EventLayout.{events_at}
use Rattle.layout.specs.declared.event.Posted.{Posted}
use Rattle.block.specs.Turns.{Turns}

-- The events of a journal, by the blocks of a table. The turns are those of the run promise, and with them which events a kind admits (block, specs/Turns.antt).
pub record Allowed (blocks : List Block) (events : List Posted) : Type 0 where
  -- "each event has kind 1 to 5": a start or a finish; "each block's events alternate beginning with a start, each finish has its start's job, aborted stands only on kinds 5-8, withdrawn only on 9-14, done not on 13 and 14,
  -- a failed code is nonzero, and is 1 only on To kinds, and other codes are 0"; the last may be a start
  pub turns : (k : ℕ) → k < length blocks → (q : Option ℕ) × Turns (block_at blocks k).kind none (events_at (suc k) events) q
  -- "and a position in the table": none has a position p that is no block's
  pub positions : (p : ℕ) → ((k : ℕ) → k < length blocks → p ≢ suc k) → events_at p events ≡ []
