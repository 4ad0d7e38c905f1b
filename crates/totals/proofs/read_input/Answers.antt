use Rattle.std.proofs.Common.{◌-◌, length, arith, rules}
use Rattle.totals.proofs.InputLaws.{read_more}
use Rattle.totals.proofs.read_input.Goals as goal

pub loop-count-preserved : goal.loop-count-preserved
loop-count-preserved g c =
    let l = c.loop-count in
    let read = c.in-Ok.ensures in
    record {
      size = search rules;
      within = omega (arith, read.bound.0);
      came = read_more _ _ _ l.count (length l.input - l.count) c.in-Ok.more l.input c.read.new.buf l.invariant.within read.bound.0 l.invariant.came read.bytes.0;
    }
