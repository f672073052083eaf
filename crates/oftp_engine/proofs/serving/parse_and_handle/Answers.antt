use Rattle.std.proofs.Common.{subst, sym, ◌∙◌, Result, Option, Some}
use Rattle.oftp_wire.specs.declared.command.Command.{Command}
use Rattle.oftp_wire.specs.declared.fault.WireFault.{WireFault}
use Rattle.oftp_wire.specs.declared.reason.SessionReason.{SessionReason}
use Rattle.oftp_session.specs.Phases.{Step}
use Rattle.oftp_engine.specs.Runs.{refusal, step_on}
use Rattle.oftp_engine.specs.Serving.{scene}
use Rattle.oftp_engine.specs.InsideServing.{Stepped}
use Rattle.oftp_engine.proofs.Behaving.{ended_unbroken, written_own}
use Rattle.oftp_engine.proofs.Stepping.{stepped_refuse}
use Rattle.oftp_engine.proofs.serving.parse_and_handle.Goals as goal

pub returns-in-Some-clause-steps : goal.returns-in-Some-clause-steps
returns-in-Some-clause-steps g c = λ clean stood k live at.
    let before = g.O.Office.view c.args.office.now in
    let old = scene g.W.Write.contents (g.O.Office.view c.args.office.now) c.args.writer.now in
    let new = scene g.W.Write.contents (g.O.Office.view c.args.office.now) c.end_with.new.port in
    let steps : Step → Type 0 = λ step. Stepped k step c.end_with.new.session old new c.end_with.result in
    subst (λ (p : Result Command WireFault). steps (step_on k.setting k.phase k.register p)) c.in-Err.ensures.value
    (subst (λ (o : Option SessionReason). steps (refusal o)) {x = Some c.in-Some.reason} (sym c.in-Some.is ∙ c.reason.ensures)
    (stepped_refuse g.W.Write.contents c.args.writer.now c.end_with.new.port before c.args.session.now c.end_with.new.session c.in-Some.reason c.end_with.result
    c.end_with.ensures.setting c.end_with.ensures.over c.end_with.ensures.sent c.end_with.ensures.writes.err k at))

pub returns-in-Some-clause-behaves : goal.returns-in-Some-clause-behaves
returns-in-Some-clause-behaves g c = record {
  clean = λ h. h;
  own = written_own c.end_with.result c.end_with.ensures.writes.err;
  unbroken = ended_unbroken c.end_with.result c.in-Some.reason c.end_with.new.session c.end_with.ensures.over;
  out = c.end_with.ensures.writes.out;
  told = c.end_with.ensures.writes.told;
}
