use Rattle.oftp_session.proofs.Shipping.{some_rows}
use Rattle.oftp_session.proofs.payloads.fill.Goals as goal

pub fill-requires-clause-some : goal.fill-requires-clause-some
fill-requires-clause-some c = some_rows c.args.outgoing.now c.at_hand-rows.result.now (c.may_lend.ensures.0 c.if-not-may_lend.false) c.at_hand-rows.ensures
