use Rattle.std.proofs.Common.{length}
use Rattle.oftp_conformance.proofs.hearing.+add_orders.Given as goal

-- fewer rules are left
abbrev pub decreases-add_orders : goal.decreases-add_orders
decreases-add_orders l = length l.rules.now
