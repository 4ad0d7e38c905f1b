-- `buffer::part_at` meets its contract: a part is a chunk.
use Rattle.layout.proofs.BufferLaws.{part_of_chunks}
use Rattle.layout.proofs.buffer.part_at.Goals as goal

pub returns : goal.returns
returns g c =
    let a = c.args in
    part_of_chunks g.row.N a.i a.s.now _ _ c.requires.positive c.requires.in_bounds c.as_chunks.ensures.front c.index-parts-i.is
