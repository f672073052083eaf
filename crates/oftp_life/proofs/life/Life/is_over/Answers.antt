use Rattle.std.proofs.Common.{subst}
use Rattle.oftp_life.specs.Lives.{HasLeft, LifeData}
use Rattle.oftp_life.proofs.Lives.{lives_leave}
use Rattle.oftp_life.proofs.life.Life.is_over.Goals as goal

pub returns-clause-leaves : goal.returns-clause-leaves
returns-clause-leaves g c =
    let i = c.self.inside in
    subst (λ (l : LifeData _). HasLeft g.O.Office.view l.began l.acts l.over l.office) c.self.view_is
    (λ clean stood. lives_leave i.is_over (g.O.Office.view i.began.value) i.history.acts (g.O.Office.view i.office) (c.self.invariant clean stood))
