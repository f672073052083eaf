use Rattle.oftp_store.specs.Shown.{database_of, faults_of, limits_of, shown}
use Rattle.oftp_durable.proofs.Lists.{list_ends}
use Rattle.oftp_durable.proofs.jobs.run_durable.Goals as goal

pub returns-clause-leaves : goal.returns-clause-leaves
returns-clause-leaves g c = λ clean r has.
    let new = c.run.new.office in
    (list_ends g.R.Read.remaining g.W.Write.contents c.args.book.now (shown g.S.Store c.args.office.now) r (limits_of new) (faults_of new) (database_of g.S.Store new) c.args.jobs.now
    c.run.new.jobs c.run.result has.1 has.0.holds.sound (c.run.ensures.runs clean has.0)).0

pub returns-clause-alone : goal.returns-clause-alone
returns-clause-alone g c = λ clean r has.
    let new = c.run.new.office in
    (list_ends g.R.Read.remaining g.W.Write.contents c.args.book.now (shown g.S.Store c.args.office.now) r (limits_of new) (faults_of new) (database_of g.S.Store new) c.args.jobs.now
    c.run.new.jobs c.run.result has.1 has.0.holds.sound (c.run.ensures.runs clean has.0)).1
