use Rattle.std.proofs.Common.{◌-◌, length}
use Rattle.oftp_session.specs.Standings.{at_hand}
use Rattle.oftp_session.proofs.Shipping.{IsAsking}
use Rattle.oftp_session.proofs.payloads.set_payload.Given as goal

abbrev pub invariant-loop-outgoing : goal.invariant-loop-outgoing
invariant-loop-outgoing g l = IsAsking (g.O.Office.view l.fn.office) (g.O.Office.view l.office) l.fn.outgoing l.outgoing

abbrev pub decreases-loop-outgoing : goal.decreases-loop-outgoing
decreases-loop-outgoing g l = l.size - length (at_hand l.outgoing.page)
