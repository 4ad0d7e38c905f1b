-- `line::put_line` meets its contract: the name, and the figures after it.
use native.Mathlib.Omega.{arith}
use Rattle.text.proofs.TextLaws.{without_short}
use Rattle.text.proofs.PageLaws.{writes_then, room_after}
use Rattle.sheet.specs.Line.{figures_room}
use Rattle.sheet.proofs.line.put_line.Goals as goal

pub put_figures-requires : goal.put_figures-requires
put_figures-requires c =
    room_after figures_room c.put_name.ensures (omega (arith, c.requires.line_room_in_bounds, c.requires.name_len_bound, without_short c.args.name.now))

pub returns-clause-text : goal.returns-clause-text
returns-clause-text c = writes_then c.put_name.ensures c.put_figures.ensures.text

pub returns-clause-few : goal.returns-clause-few
returns-clause-few c =
    omega (arith, c.requires.name_len_bound, c.put_name.ensures.wrote.ends, c.put_figures.ensures.few, without_short c.args.name.now)
