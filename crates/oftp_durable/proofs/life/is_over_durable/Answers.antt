use Rattle.oftp_durable.proofs.life.is_over_durable.Goals as goal

pub returns-clause-leaves : goal.returns-clause-leaves
returns-clause-leaves g c = let l = c.args.life.now in c.lives_leave_tables.ensures l.began l.office l.acts l.over c.is_over.ensures.leaves
