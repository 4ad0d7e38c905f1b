-- `lent::Lent::serve_all` meets its contract. The loop keeps `Serving`: the buffers are those of the first i blocks, called.
use Rattle.std.proofs.Common.{rules, ◌≡◌, refl, arith, length}
use Rattle.table.specs.Blocks.{blocks_of}
use Rattle.engine.proofs.ServingLaws.{serving_start, serving_on, serving_callable}
use Rattle.engine.proofs.lent.Lent.serve_all.Goals as goal

pub serve-requires : goal.serve-requires
serve-requires c =
    let a = c.args in
    let L = c.loop-i in
    let p =
    serving_callable (blocks_of a.table.now) a.told.now a.self.now.state.now a.self.now.report.now a.self.now.journal.now
    L.i L.self.state.now L.self.report.now L.self.journal.now L.self.events L.invariant.serving
    a.table.now _ c.len-count.ensures.accepted refl c.requires.state_fits c.requires.given_fits c.loop-i-test.true in
    record { i_lt_count = omega (arith, c.len-count.ensures.count); callable = p.0.0; reached = p.0.1; has_room = p.1 }

pub loop-i-init : goal.loop-i-init
loop-i-init c = rw c.requires.none (record { serving = serving_start _ _ _ _ _; same_loans = search rules })

pub loop-i-preserved : goal.loop-i-preserved
loop-i-preserved c =
    let a = c.args in
    let L = c.loop-i in
    record {
      serving = serving_on (blocks_of a.table.now) a.told.now a.self.now.state.now a.self.now.report.now a.self.now.journal.now
          L.i L.self.state.now L.self.report.now L.self.journal.now L.self.events L.invariant.serving
          _ _ _ _ (omega (arith, c.len-count.ensures.count)) c.serve.ensures.served;
      same_loans = search rules;
    }

pub returns-clause-served : goal.returns-clause-served
returns-clause-served c =
    let L = c.loop-i in
    let last : L.i ≡ length (blocks_of c.args.table.now) = omega (arith, c.len-count.ensures.count, L.invariant.serving.within) in
    rw c.requires.none (rw last at L.invariant.serving.whole)
