use Rattle.std.proofs.Common.{subst}
use Rattle.oftp_register.specs.Register.{Register}
use Rattle.oftp_store.specs.Shown.{database_of, faults_of, limits_of, shown}
use Rattle.oftp_engine.specs.Served.{setting_of}
use Rattle.oftp_durable.specs.Headline.{SessionLeaves}
use Rattle.oftp_durable.proofs.Leaving.{session_alone, session_leaves}
use Rattle.oftp_durable.proofs.serving.serve_durable.Goals as goal

pub returns-clause-serves : goal.returns-clause-serves
returns-clause-serves g c =
    let contents = g.W.Write.contents in
    let old = shown g.S.Store c.args.office.now in
    let new = c.serve.new.office in
    let database = database_of g.S.Store new in
    let out = c.serve.new.writer in
    let setting = setting_of c.args.book.now c.args.role in
    let served = c.serve.ensures.serves in (
      served.0,
      served.1,
      λ clean r has.
          let does = served.2 clean has.0 in
          let leaves = session_leaves contents old c.args.writer.now out (limits_of new) (faults_of new) database setting served.0 has.0.holds.sound c.serve.result does in
          (does, subst (λ (x : Register). SessionLeaves contents setting served.0 x c.args.writer.now out (limits_of new) database c.serve.result) has.1 leaves),
    )

pub returns-clause-alone : goal.returns-clause-alone
returns-clause-alone g c = λ clean r has.
    let old = shown g.S.Store c.args.office.now in
    let new = c.serve.new.office in
    let served = c.serve.ensures.serves in
    session_alone g.W.Write.contents old c.args.writer.now c.serve.new.writer (limits_of new) (faults_of new) (database_of g.S.Store new)
    (setting_of c.args.book.now c.args.role) served.0 c.serve.result (served.2 clean has.0)
