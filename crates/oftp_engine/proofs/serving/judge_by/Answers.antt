use Rattle.oftp_session.specs.Calls.{said}
use Rattle.oftp_session.specs.Opening.{came_awaiting_ssid}
use Rattle.oftp_engine.proofs.Openings.{sent_alone}
use Rattle.oftp_engine.proofs.serving.judge_by.Goals as goal

pub returns-clause-answers : goal.returns-clause-answers
returns-clause-answers g c =
    let old = c.args.session.now in
    sent_alone g.W.Write.contents c.args.writer.now c.write_out.new.port (came_awaiting_ssid old.setting c.args.command.now) old c.judge-out.follows.lender-at-none
    (said c.judge-out.result) c.write_out.result c.judge-out.ensures.said c.judge-out.follows.holds-at-none c.write_out.ensures.sent
