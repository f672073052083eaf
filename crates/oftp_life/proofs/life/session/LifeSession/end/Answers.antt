use Rattle.std.proofs.Common.{refl, subst}
use Rattle.oftp_life.specs.Lives.{HasLeft, LifeSessionData, is_over_at}
use Rattle.oftp_life.proofs.Lives.{lives_as, session_left, session_lives}
use Rattle.oftp_life.proofs.life.session.LifeSession.end.Goals as goal

pub invariant_of-result : goal.invariant_of-result
invariant_of-result g c = λ clean stood.
    let view = g.O.Office.view in
    let i = c.self.inside in
    let first = (view i.began.value).register in
    lives_as (is_over_at i.stage) c.is_over.result first i.history.acts i.history.acts (view i.office) c.is_over.ensures refl
    (session_lives view first i.before.value i.office i.out i.stage i.history.acts i.conversation (c.self.invariant.holds clean stood))

pub returns-clause-leaves : goal.returns-clause-leaves
returns-clause-leaves g c =
    subst (λ (t : LifeSessionData _). HasLeft g.O.Office.view t.began t.acts (is_over_at t.stage) t.office) c.self.view_is
    (session_left g.O.Office.view _ _ _ _ _ _ _ c.self.invariant)
