use Rattle.std.proofs.Common.{arith}
use Rattle.oftp_session.proofs.Shipping.{end_takes, sent_takes}
use Rattle.oftp_session.proofs.sending.send_next.Goals as goal

pub returns-then-branch-clause-takes : goal.returns-then-branch-clause-takes
returns-then-branch-clause-takes g c = λ clean stands t holds at.
    let view = g.O.Office.view in
    let says = c.in_ok-set_payload.ensures.says clean stands c.args.contact t holds at c.payload_size-size.ensures.value in
    let said = rw c.if-branch.true at says in
    sent_takes c.args.contact t c.args.outgoing c.set_payload.new.outgoing (view c.args.office.now) (view c.set_payload.new.office) c.set_payload.new.frame at c.requires
    (omega (arith, c.payload_size-size.ensures.least, c.payload_size-size.ensures.value)) c.in_ok-set_payload.ensures.same said.0 said.1

pub returns-clause-takes : goal.returns-clause-takes
returns-clause-takes g c = λ clean stands t holds at.
    let view = g.O.Office.view in
    let before = c.send_end.ensures.clean clean in
    let says = c.in_ok-set_payload.ensures.says before stands c.args.contact t holds at c.payload_size-size.ensures.value in
    let said = rw c.if-branch.false at says in
    end_takes c.args.contact t c.set_payload.new.outgoing (view c.args.office.now) (view c.set_payload.new.office) (view c.send_end.new.office) c.send_end.new.frame c.send_end.result
    holds said.0.0 said.0.1 said.1 (c.send_end.ensures.takes clean said.1.stands)
