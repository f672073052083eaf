use Rattle.oftp_life.specs.Lives.{is_over_at}
use Rattle.oftp_durable.proofs.LifeTables.{session_lasts}
use Rattle.oftp_durable.proofs.life.stage_durable.Goals as goal

pub returns-clause-leaves : goal.returns-clause-leaves
returns-clause-leaves g c = let t = c.args.session.now in c.lives_leave_tables.ensures t.began t.office t.acts (is_over_at t.stage) c.stage.ensures.leaves

pub returns-clause-session : goal.returns-clause-session
returns-clause-session g c = let t = c.args.session.now in session_lasts g.S.Store t.began t.before t.office t.acts t.out t.dialogue t.stage c.stage.ensures.holds
