use Rattle.std.proofs.Common.{arith}
use Rattle.oftp_store.proofs.PageLemmas.{units_with}
use Rattle.oftp_store.proofs.queries.units.add_units.Goals as goal

pub returns-then-len-sum-clause-beyond : goal.returns-then-len-sum-clause-beyond
returns-then-len-sum-clause-beyond c =
    let more = units_with c.args.rows.now c.rows.row-index c.row-item.result c.rows-test.true c.row-item.is in
    omega (arith, more, c.rows.invariant.sum, c.if-len-sum.true, c.len.ensures)
