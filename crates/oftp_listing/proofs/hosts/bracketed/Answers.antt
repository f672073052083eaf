use Rattle.std.proofs.Common.{arith}
use Rattle.oftp_listing.proofs.HostLemmas.{bracket_closes, bracket_open}
use Rattle.oftp_listing.proofs.hosts.bracketed.Goals as goal

pub returns-in-Some : goal.returns-in-Some
returns-in-Some c =
    let split = c.in-Some.ensures.byte (omega arith) (λ w o f. f) in
    bracket_closes _ _ _ split.0 split.2

pub returns-in-None : goal.returns-in-None
returns-in-None c = bracket_open _ _ (c.in-None.ensures.byte (omega arith) (λ w o f. f))
