-- `entry::pieces_zero` meets its contract: one number is four of eight bytes each.
use Rattle.layout.proofs.EntryCheckLaws.{pieces_zero}
use Rattle.layout.proofs.entry.pieces_zero.Goals as goal

pub returns : goal.returns
returns c =
    rw (c.read_at.ensures, c.read_at-2.ensures, c.read_at-3.ensures, c.read_at-4.ensures) (pieces_zero c.args.s.now)
