use Rattle.std.proofs.Common.{subst}
use Rattle.oftp_register.specs.Register.{Register}
use Rattle.oftp_store.specs.Shown.{database_of, faults_of, limits_of, shown}
use Rattle.oftp_durable.specs.Headline.{CallLeaves}
use Rattle.oftp_durable.proofs.Leaving.{call_alone, call_leaves}
use Rattle.oftp_durable.proofs.calling.operate_durable.Goals as goal

pub returns-clause-leaves : goal.returns-clause-leaves
returns-clause-leaves g c = λ clean r has.
    let contents = g.W.Write.contents in
    let book = c.args.book.now in
    let call = c.args.call.now in
    let old = shown g.S.Store c.args.office.now in
    let new = c.operate.new.office in
    let database = database_of g.S.Store new in
    let out = c.operate.new.writer in
    let does = c.operate.ensures.operates clean has.0 in
    let leaves = call_leaves contents old c.args.writer.now out (limits_of new) (faults_of new) database book call has.0.holds.sound c.operate.result does in
    subst (λ (x : Register). CallLeaves contents book call x c.args.writer.now out (limits_of new) database c.operate.result) has.1 leaves

pub returns-clause-alone : goal.returns-clause-alone
returns-clause-alone g c = λ clean r has.
    let old = shown g.S.Store c.args.office.now in
    let new = c.operate.new.office in
    call_alone g.W.Write.contents old c.args.writer.now c.operate.new.writer (limits_of new) (faults_of new) (database_of g.S.Store new)
    c.args.book.now c.args.call.now c.operate.result (c.operate.ensures.operates clean has.0)
