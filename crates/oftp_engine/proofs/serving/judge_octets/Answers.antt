use Rattle.std.proofs.Common.{subst, sym, ◌∙◌, Result, Option, Some}
use Rattle.std.specs.Result.{OnOk}
use Rattle.oftp_wire.specs.declared.command.Command.{Command}
use Rattle.oftp_wire.specs.declared.fault.WireFault.{WireFault}
use Rattle.oftp_wire.specs.declared.reason.SessionReason.{SessionReason}
use Rattle.oftp_session.specs.Phases.{Step}
use Rattle.oftp_engine.specs.Openings.{Answered, answer_to}
use Rattle.oftp_engine.specs.Runs.{refusal}
use Rattle.oftp_engine.proofs.Openings.{sent_refusal}
use Rattle.oftp_engine.proofs.serving.judge_octets.Goals as goal

pub returns-in-Some-clause-answers : goal.returns-in-Some-clause-answers
returns-in-Some-clause-answers g c =
    let old = c.args.session.now in
    let done = c.end_with in
    let answers : Step → Type 0 = λ step. OnOk done.result (Answered g.W.Write.contents step old done.new.session c.args.writer.now done.new.port) in
    subst (λ (p : Result Command WireFault). answers (answer_to old.setting p)) c.in-Err.ensures.value
    (subst (λ (o : Option SessionReason). answers (refusal o)) {x = Some c.in-Some.reason} (sym c.in-Some.is ∙ c.reason.ensures)
    (sent_refusal g.W.Write.contents c.args.writer.now done.new.port c.in-Some.reason old done.new.session done.result done.ensures.setting done.ensures.over done.ensures.sent))
