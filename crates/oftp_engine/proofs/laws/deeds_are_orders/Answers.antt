use Rattle.oftp_engine.proofs.Orders.{deeds_are_orders}
use Rattle.oftp_engine.proofs.laws.deeds_are_orders.Goals as goal

pub returns : goal.returns
returns c = deeds_are_orders
