-- `line::put_figures` meets its contract: one figure after the other, and the line feed.
use Rattle.sheet.specs.Line.{figures_text}
use Rattle.text.proofs.PageLaws.{writes_then}
use Rattle.sheet.proofs.line.put_figures.Goals as goal

pub returns-clause-text : goal.returns-clause-text
unfolding figures_text
returns-clause-text c =
    writes_then
    (writes_then
    (writes_then
    (writes_then
    (writes_then
    (writes_then c.put_figure.ensures.text c.put_figure-2.ensures.text)
    c.put_figure-3.ensures.text)
    c.put_figure-4.ensures.text)
    c.put_figure-5.ensures.text)
    c.put_figure-6.ensures.text)
    c.put_byte.ensures
