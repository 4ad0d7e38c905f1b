-- `Tally::add` meets its contract: one count more, or none.
use Rattle.std.proofs.Common.{◌<◌, ◌∙◌, [], sym, arith, length, get_or}
use Rattle.figures.proofs.TallyLaws.{written, not_written, position_bound, kind_bound}
use Rattle.figures.proofs.tally.Tally.add.Goals as goal

pub returns-then-not-has_count : goal.returns-then-not-has_count
returns-then-not-has_count c =
    let a = c.args in
    λ t p k. not_written (λ p k. get_or (get_or a.self.now.rows p []) k 0) a.position a.kind (sym c.has_count.ensures ∙ c.if-not-has_count.true) p k t

pub returns : goal.returns
returns c =
    let a = c.args in
    let has = sym c.has_count.ensures ∙ c.if-not-has_count.false in
    let p = position_bound a.position a.kind has in
    let k = kind_bound a.position a.kind has in
    let outer : a.position < length a.self.now.rows = omega (arith, c.well_formed) in
    let inner : a.kind < length (get_or a.self.now.rows a.position []) = omega arith in
    λ t x y. written a.self.now.rows a.position a.kind has outer inner x y t
