-- `line::put_refused` meets its contract: the word, its number and the line feed.
use Prim.Native.Nat.{◌+◌}
use native.Mathlib.Omega.{arith}
use Rattle.text.specs.Ascii.{ascii}
use Rattle.text.proofs.TextLaws.{without_short}
use Rattle.text.proofs.PageLaws.{writes_then, room_after}
use Rattle.sheet.specs.Line.{figure_room}
use Rattle.sheet.proofs.LineLaws.{figure_short, refused_is}
use Rattle.sheet.proofs.line.put_refused.Goals as goal

pub put_figure-requires : goal.put_figure-requires
unfolding ascii
put_figure-requires c = room_after figure_room c.put_name.ensures (omega (arith, c.requires, without_short (ascii "refused")))

pub put_byte-requires : goal.put_byte-requires
unfolding ascii
put_byte-requires c =
    let named = room_after (figure_room + 1) c.put_name.ensures (omega (arith, c.requires, without_short (ascii "refused"))) in
    room_after 1 c.put_figure.ensures.text (omega (arith, named, figure_short c.args.number (omega arith)))

pub returns : goal.returns
unfolding ascii
returns c = rw (← refused_is c.args.number) (writes_then (writes_then c.put_name.ensures c.put_figure.ensures.text) c.put_byte.ensures)
