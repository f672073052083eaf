use Rattle.oftp_listing.proofs.HostLemmas.{address_spelled, no_address}
use Rattle.oftp_listing.proofs.hosts.is_address.Goals as goal

pub returns-in-Ok : goal.returns-in-Ok
returns-in-Ok c = rw c.in-Some.is (address_spelled c.args.host.now c.in-Ok.asked c.in-Some.address c.is_same.result c.in-Ok.ensures.value c.is_same.ensures)

pub returns-in-Err : goal.returns-in-Err
returns-in-Err c = (λ yes. absurd cc, λ is. absurd (no_address c.args.host.now c.args.address c.in-Err.ensures.value is))
