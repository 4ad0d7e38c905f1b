-- The lines of the blocks one after the other, with their sums, and the last line: for the proofs of `sheet`.
use Prim.Native.Nat.{ℕ, zero, suc, ◌+◌, ◌*◌, ◌≤◌, ◌<◌}
use native.Mathlib.Numerals.{add-one}
use native.Mathlib.Nat.{mul-suc}
use native.Mathlib.Omega.{arith}
use mathlib.Core.List.{List, ◌++◌}
use mathlib.Core.Path.{◌≡◌, refl, ap, ◌∙◌}
use lib.ListN.{length}
use Rattle.table.specs.Blocks.{Block, block_at}
use Rattle.text.specs.Ascii.{ascii}
use Rattle.text.specs.Page.{Writes}
use Rattle.text.specs.declared.page.Page.{Page}
use Rattle.figures.specs.Figures.{no_figures, plus, AtMost}
use Rattle.sheet.specs.Line.{line, line_room}
use Rattle.sheet.specs.Sheet.{lines_to, sums_to, sheet_of}
use Rattle.figures.specs.declared.figures.Figures.{Figures}
use Rattle.text.proofs.PageLaws.{writes_nothing, writes_then}

-- sums of figures that are not too large
pub sums_most : (n count : ℕ) (figures : ℕ → Figures) → ((k : ℕ) → k < count → AtMost n (figures (suc k))) → (k : ℕ) → k ≤ count → AtMost (n * k) (sums_to figures k)
unfolding sums_to
sums_most n count figures each zero l =
    record { starts = omega arith; done = omega arith; failed = omega arith; aborted = omega arith; withdrawn = omega arith; left_open = omega arith }
sums_most n count figures each (suc k) l =
    let h = sums_most n count figures each k (omega arith) in
    let g = each k (omega arith) in
    let e : n * suc k ≡ n * k + n = mul-suc n k in
    rw e (record {
      starts = omega (arith, h.starts, g.starts);
      done = omega (arith, h.done, g.done);
      failed = omega (arith, h.failed, g.failed);
      aborted = omega (arith, h.aborted, g.aborted);
      withdrawn = omega (arith, h.withdrawn, g.withdrawn);
      left_open = omega (arith, h.left_open, g.left_open);
    })

-- the lines of the blocks before i, behind the text of the first page
pub record Listing (blocks : List Block) (figures : ℕ → Figures) (first page : Page) (sums : Figures) (i : ℕ) : Type 0 where
  pub wrote : Writes (lines_to blocks figures i) first page
  pub few : page.end ≤ first.end + line_room * i
  pub summed : sums ≡ sums_to figures i

pub listing_start : (blocks : List Block) (figures : ℕ → Figures) (page : Page) → page.end ≤ length page.out.now → Listing blocks figures page page no_figures 0
unfolding lines_to sums_to
listing_start blocks figures page within = record { wrote = writes_nothing page within; few = omega arith; summed = refl }

module _ {blocks : List Block} {figures : ℕ → Figures} {first page : Page} {sums : Figures} {i : ℕ} (h : Listing blocks figures first page sums i) where
  pub listing_on : {f more : Figures} {next : Page} → f ≡ figures (i + 1) → Writes (line (block_at blocks i).tag f) page next → next.end ≤ page.end + line_room
      → more ≡ plus sums f → Listing blocks figures first next more (i + 1)
  unfolding lines_to sums_to
  listing_on {f} {more} {next} e w short s =
      let n : i + 1 ≡ suc i = add-one i in
      let g : f ≡ figures (suc i) = e ∙ ap figures n in
      let own : Writes (line (block_at blocks i).tag (figures (suc i))) page next = rw g at w in
      rw n (record {
        wrote = writes_then h.wrote own;
        few = omega (arith, h.few);
        summed = s ∙ (λ t. plus (h.summed t) (g t));
      })

-- the last line after them
pub last_line : (blocks : List Block) (figures : ℕ → Figures) {first page next : Page} {sums : Figures} → Writes (lines_to blocks figures (length blocks)) first page
    → sums ≡ sums_to figures (length blocks) → Writes (line (ascii "TOTAL") sums) page next → Writes (sheet_of blocks figures) first next
unfolding sheet_of
last_line blocks figures w s v = writes_then w (rw s at v)

-- figures that are equal at each block's position give the same sheet
module _ (blocks : List Block) (f g : ℕ → Figures) (same : (k : ℕ) → k < length blocks → f (suc k) ≡ g (suc k)) where
  same_lines : (k : ℕ) → k ≤ length blocks → lines_to blocks f k ≡ lines_to blocks g k
  unfolding lines_to
  same_lines zero l = refl
  same_lines (suc k) l = λ i. same_lines k (omega arith) i ++ line (block_at blocks k).tag (same k l i)

  same_sums : (k : ℕ) → k ≤ length blocks → sums_to f k ≡ sums_to g k
  unfolding sums_to
  same_sums zero l = refl
  same_sums (suc k) l = λ i. plus (same_sums k (omega arith) i) (same k l i)

  pub same_sheet : sheet_of blocks f ≡ sheet_of blocks g
  unfolding sheet_of
  same_sheet = λ i. same_lines (length blocks) (omega arith) i ++ line (ascii "TOTAL") (same_sums (length blocks) (omega arith) i)
