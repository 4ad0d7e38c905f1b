-- The loop of `put_name` keeps what is written of the name's bytes before its index.
use lib.ListN.{take}
use Rattle.text.specs.Text.{without_spaces}
use Rattle.text.specs.Page.{Writes}
use Rattle.text.proofs.page.Page.put_name.Given as goal

abbrev pub invariant-loop-b : goal.invariant-loop-b
invariant-loop-b l = Writes (without_spaces (take l.b-index l.name)) l.initial.self l.self
