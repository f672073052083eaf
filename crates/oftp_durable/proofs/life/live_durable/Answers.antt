use Rattle.std.proofs.Common.{subst, sym}
use Rattle.oftp_store.specs.Opens.{Has}
use Rattle.oftp_store.specs.Shown.{database_of, limits_of}
use Rattle.oftp_life.specs.Lives.{LifeData}
use Rattle.sqlite.specs.State.{HasCleanDisk}
use Rattle.oftp_durable.proofs.life.live_durable.Goals as goal

pub returns-clause-leaves : goal.returns-clause-leaves
returns-clause-leaves g c = λ clean r has.
    let is = sym c.new-life.ensures in
    let begun = subst (λ (l : LifeData _). Has (limits_of l.began) r (database_of g.S.Store l.began)) is has in
    record {
      has = begun;
      leaves = c.is_over_durable.ensures.leaves (subst (λ (l : LifeData _). HasCleanDisk (database_of g.S.Store l.office)) is clean) r begun;
    }
