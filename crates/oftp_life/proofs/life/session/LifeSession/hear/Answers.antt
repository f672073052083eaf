use Rattle.std.proofs.Common.{subst}
use Rattle.oftp_life.specs.Lives.{HasLeft, LifeSessionData, is_over_at}
use Rattle.oftp_life.proofs.Lives.{session_left}
use Rattle.oftp_life.proofs.life.session.LifeSession.hear.Goals as goal

pub returns-then-has_ceased-clause-leaves : goal.returns-then-has_ceased-clause-leaves
returns-then-has_ceased-clause-leaves g c =
    subst (λ (t : LifeSessionData _). HasLeft g.O.Office.view t.began t.acts (is_over_at t.stage) t.office) c.self.view_is
    (session_left g.O.Office.view _ _ _ _ _ _ _ c.self.invariant)
