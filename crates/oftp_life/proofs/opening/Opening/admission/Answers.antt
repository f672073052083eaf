use Rattle.std.proofs.Common.{subst}
use Rattle.oftp_life.specs.Openings.{IsOpening, OpeningData}
use Rattle.oftp_life.proofs.opening.Opening.admission.Goals as goal

pub returns-clause-holds : goal.returns-clause-holds
returns-clause-holds c =
    subst (λ (t : OpeningData). IsOpening t.book t.heard t.out t.dialogue t.stage) c.self.view_is c.self.invariant
