use Rattle.oftp_wire.specs.declared.reason.SessionReason.TheVariants.{ProtocolViolation}
use Rattle.oftp_engine.proofs.Behaving.{writes_err, writes_nothing, writes_ok}
use Rattle.oftp_engine.proofs.Openings.{decided, made_ok, no_frame, sent_refusal, undecided}
use Rattle.oftp_engine.proofs.Telling.{handed_on}
use Rattle.oftp_engine.proofs.serving.judge.Goals as goal

pub returns-in-Ok-None-clause-judges : goal.returns-in-Ok-None-clause-judges
returns-in-Ok-None-clause-judges g c = λ book octets before greeted.
    undecided g.W.Write.contents book octets c.args.session.now c.args.stream.now c.next.follows.lender-at-none before c.args.writer.now greeted c.next.follows.holds-at-none
    _ c.in-Ok-None.ensures.value c.in-Ok-None.field-0-is

pub returns-in_ok-judge_octets-in-Ok-Some-clause-judges : goal.returns-in_ok-judge_octets-in-Ok-Some-clause-judges
returns-in_ok-judge_octets-in-Ok-Some-clause-judges g c = λ book octets before greeted.
    decided g.W.Write.contents book octets c.args.session.now c.args.stream.now c.next.follows.lender-at-none before c.args.writer.now greeted c.next.follows.holds-at-none
    _ _ c.in-Ok-Some.ensures.value c.in-Ok-Some.field-0-is c.judge_octets.new.session c.judge_octets.new.writer c.admission_by.result c.admission_by.ensures
    c.in_ok-judge_octets-in-Ok-Some.ensures.answers

pub returns-in_ok-end_with-in-Err-clause-judges : goal.returns-in_ok-end_with-in-Err-clause-judges
returns-in_ok-end_with-in-Err-clause-judges g c = λ book octets before greeted.
    let old = c.args.session.now in
    let done = c.end_with in
    no_frame g.W.Write.contents book octets old c.args.stream.now c.next.follows.lender-at-none before c.args.writer.now greeted c.next.follows.holds-at-none
    _ c.in-Err.ensures.value done.new.session done.new.port
    (made_ok done.result _ c.in_ok-end_with-in-Err.was
    (sent_refusal g.W.Write.contents c.args.writer.now done.new.port ProtocolViolation old done.new.session done.result done.ensures.setting done.ensures.over done.ensures.sent))

pub returns-in-Ok-None-clause-writes : goal.returns-in-Ok-None-clause-writes
returns-in-Ok-None-clause-writes g c = writes_nothing

pub returns-in_ok-judge_octets-in-Ok-Some-clause-writes : goal.returns-in_ok-judge_octets-in-Ok-Some-clause-writes
returns-in_ok-judge_octets-in-Ok-Some-clause-writes g c = writes_ok c.in_ok-judge_octets-in-Ok-Some.ensures.writes

pub returns-in_err-judge_octets-in-Ok-Some-clause-writes : goal.returns-in_err-judge_octets-in-Ok-Some-clause-writes
returns-in_err-judge_octets-in-Ok-Some-clause-writes g c =
    writes_err c.in_err-judge_octets-in-Ok-Some.ensures.writes (handed_on _ _ c.from_residual.ensures.1)

pub returns-in_ok-end_with-in-Err-clause-writes : goal.returns-in_ok-end_with-in-Err-clause-writes
returns-in_ok-end_with-in-Err-clause-writes g c = writes_ok c.in_ok-end_with-in-Err.ensures.writes

pub returns-in_err-end_with-in-Err-clause-writes : goal.returns-in_err-end_with-in-Err-clause-writes
returns-in_err-end_with-in-Err-clause-writes g c =
    writes_err c.in_err-end_with-in-Err.ensures.writes (handed_on _ _ c.from_residual-in_err-end_with-in-Err.ensures.1)
