use Rattle.std.proofs.Common.{arith}
use Rattle.oftp_session.specs.Sending.{credited, new_mark}
use Rattle.oftp_session.proofs.Crediting.{credit_err, credit_ok}
use Rattle.oftp_session.proofs.Saying.{passed_on}
use Rattle.oftp_session.proofs.sending.take_credit.Goals as goal

pub returns-in_err-cover-clause-takes : goal.returns-in_err-cover-clause-takes
returns-in_err-cover-clause-takes g c = λ clean stands t holds at.
    let sound = g.met.O.Office.sound c.args.office.now (c.cover.ensures.clean clean) stands in
    passed_on (credited c.args.contact t (new_mark c.args.contact t)) _ _ _ c.in_err-cover.field-0.0 _ c.from_residual.ensures.1
    (credit_err c.args.contact t c.args.outgoing _ _ _ sound holds at c.requires (λ k. c.in_err-cover.ensures.does clean stands t k.0 k.1 k.2 k.3))

pub returns-clause-takes : goal.returns-clause-takes
returns-clause-takes g c = λ clean stands t holds at.
    let sound = g.met.O.Office.sound c.args.office.now (c.cover.ensures.clean clean) stands in
    credit_ok c.args.contact t c.args.outgoing c.cover.new.outgoing c.window.result _ _ _ sound holds at c.requires c.in_ok-cover.ensures.covered
    (omega (arith, c.window.ensures.value, c.window.ensures.some)) c.clear.ensures (λ k. c.in_ok-cover.ensures.does clean stands t k.0 k.1 k.2 k.3)
