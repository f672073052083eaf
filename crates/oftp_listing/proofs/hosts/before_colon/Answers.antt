use Rattle.std.proofs.Common.{arith}
use Rattle.oftp_listing.proofs.HostLemmas.{no_colon}
use Rattle.oftp_listing.proofs.hosts.before_colon.Goals as goal

pub returns-in-Some : goal.returns-in-Some
returns-in-Some c = (c.in-Some.ensures.byte (omega arith) (λ w o f. f)).0

pub returns-in-None : goal.returns-in-None
returns-in-None c = no_colon _ (c.in-None.ensures.byte (omega arith) (λ w o f. f))
