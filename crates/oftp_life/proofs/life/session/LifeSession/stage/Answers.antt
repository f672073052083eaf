use Rattle.std.proofs.Common.{subst}
use Rattle.oftp_life.specs.Lives.{HasLeft, IsSession, LifeSessionData, is_over_at}
use Rattle.oftp_life.proofs.Lives.{session_left}
use Rattle.oftp_life.proofs.life.session.LifeSession.stage.Goals as goal

pub returns-clause-leaves : goal.returns-clause-leaves
returns-clause-leaves g c =
    subst (λ (t : LifeSessionData _). HasLeft g.O.Office.view t.began t.acts (is_over_at t.stage) t.office) c.self.view_is
    (session_left g.O.Office.view _ _ _ _ _ _ _ c.self.invariant)

pub returns-clause-holds : goal.returns-clause-holds
returns-clause-holds g c =
    subst (λ (t : LifeSessionData _). IsSession g.O.Office.view t.began t.acts t.before t.office t.out t.dialogue t.stage) c.self.view_is c.self.invariant
