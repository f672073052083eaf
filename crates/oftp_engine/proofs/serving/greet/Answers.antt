use Rattle.oftp_session.specs.Callers.{greeting}
use Rattle.oftp_session.specs.Calls.{said}
use Rattle.oftp_engine.proofs.Openings.{sent_alone}
use Rattle.oftp_engine.proofs.serving.greet.Goals as goal

pub returns-clause-answers : goal.returns-clause-answers
returns-clause-answers g c =
    sent_alone g.W.Write.contents c.args.writer.now c.write_out.new.port greeting c.args.session.now c.greet-out.follows.lender-at-none
    (said c.greet-out.result) c.write_out.result c.greet-out.ensures.said c.greet-out.follows.holds-at-none c.write_out.ensures.sent
