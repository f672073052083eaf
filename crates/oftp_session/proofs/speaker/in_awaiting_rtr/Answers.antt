use Rattle.oftp_wire.specs.declared.command.Command.{Command}
use Rattle.std.proofs.Common.{sym, subst, Result, Ok}
use Rattle.oftp_session.specs.declared.link.WhenDone.TheVariants.{ChangeDirection}
use Rattle.oftp_session.specs.declared.session.SessionFault.{SessionFault}
use Rattle.oftp_session.specs.declared.state.State.{State}
use Rattle.oftp_session.specs.declared.state.State.TheVariants as state
use Rattle.oftp_session.specs.Speaker.{came_awaiting_rtr}
use Rattle.oftp_session.specs.Inside.{Takes}
use Rattle.oftp_session.proofs.Replying.{rtr_err, rtr_ok}
use Rattle.oftp_session.proofs.Saying.{passed_on}
use Rattle.oftp_session.proofs.speaker.in_awaiting_rtr.Goals as goal

pub returns-in_err-make-in-Rtr-clause-takes : goal.returns-in_err-make-in-Rtr-clause-takes
returns-in_err-make-in-Rtr-clause-takes g c = λ clean stands holds.
    let old = g.O.Office.view c.args.office.now in
    let new = g.O.Office.view c.make.new.office in
    subst (λ (x : Command). Takes (came_awaiting_rtr c.args.contact c.args.number x) old new c.clear.new.self c.from_residual.result) (sym c.in-Rtr.is)
    (passed_on _ old new _ c.in_err-make-in-Rtr.field-0.0 _ c.from_residual.ensures.1 (rtr_err c.args.contact c.args.number old new _ holds (c.in_err-make-in-Rtr.ensures.does clean stands)))

pub returns-in_ok-make-in-Rtr-clause-takes : goal.returns-in_ok-make-in-Rtr-clause-takes
returns-in_ok-make-in-Rtr-clause-takes g c = λ clean stands holds.
    let old = g.O.Office.view c.args.office.now in
    let new = g.O.Office.view c.make.new.office in
    let to : Result State SessionFault = Ok (state.SpeakerIdle c.args.contact ChangeDirection) in
    subst (λ (x : Command). Takes (came_awaiting_rtr c.args.contact c.args.number x) old new c.clear.new.self to) (sym c.in-Rtr.is)
    (rtr_ok c.args.contact c.args.number old new c.clear.new.self holds c.clear.ensures (c.in_ok-make-in-Rtr.ensures.does clean stands))
