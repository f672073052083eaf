use Rattle.std.proofs.Common.{sym, subst, Result, Ok}
use Rattle.oftp_wire.specs.declared.command.Command.{Command}
use Rattle.oftp_session.specs.declared.link.WhenDone.TheVariants.{ChangeDirection}
use Rattle.oftp_session.specs.declared.session.SessionFault.{SessionFault}
use Rattle.oftp_session.specs.declared.state.State.{State}
use Rattle.oftp_session.specs.declared.state.State.TheVariants as state
use Rattle.oftp_session.specs.Sending.{came_awaiting_end}
use Rattle.oftp_session.specs.Inside.{Takes}
use Rattle.oftp_session.proofs.Replying.{efna_err, efna_ok, efpa_err, efpa_ok}
use Rattle.oftp_session.proofs.Saying.{passed_on}
use Rattle.oftp_session.proofs.sending.in_awaiting_end.Goals as goal

pub returns-in_err-make-in-Efpa-clause-takes : goal.returns-in_err-make-in-Efpa-clause-takes
returns-in_err-make-in-Efpa-clause-takes g c = λ clean stands t holds is.
    let old = g.O.Office.view c.args.office.now in
    let new = g.O.Office.view c.make.new.office in
    subst (λ (x : Command). Takes (came_awaiting_end c.args.contact t x) old new c.clear.new.self c.from_residual.result) (sym c.in-Efpa.is)
    (passed_on _ old new _ c.in_err-make-in-Efpa.field-0.0 _ c.from_residual.ensures.1
    (efpa_err c.args.contact c.args.number t c.in-Efpa.efpa old new _ holds is (c.in_err-make-in-Efpa.ensures.does clean stands)))

pub returns-in_ok-make-in-Efpa-clause-takes : goal.returns-in_ok-make-in-Efpa-clause-takes
returns-in_ok-make-in-Efpa-clause-takes g c = λ clean stands t holds is.
    let old = g.O.Office.view c.args.office.now in
    let new = g.O.Office.view c.make.new.office in
    let to : Result State SessionFault = Ok c.after_file.result in
    subst (λ (x : Command). Takes (came_awaiting_end c.args.contact t x) old new c.clear.new.self to) (sym c.in-Efpa.is)
    (efpa_ok c.args.contact c.args.number t c.in-Efpa.efpa old new c.clear.new.self c.after_file.result holds is c.clear.ensures
    (c.in_ok-make-in-Efpa.ensures.does clean stands) c.after_file.ensures)

pub returns-in_err-make-in-Efna-clause-takes : goal.returns-in_err-make-in-Efna-clause-takes
returns-in_err-make-in-Efna-clause-takes g c = λ clean stands t holds is.
    let old = g.O.Office.view c.args.office.now in
    let new = g.O.Office.view c.make-in-Efna.new.office in
    subst (λ (x : Command). Takes (came_awaiting_end c.args.contact t x) old new c.clear-in-Efna.new.self c.from_residual-in_err-make-in-Efna.result) (sym c.in-Efna.is)
    (passed_on _ old new _ c.in_err-make-in-Efna.field-0.0 _ c.from_residual-in_err-make-in-Efna.ensures.1
    (efna_err c.args.contact c.args.number t c.in-Efna.field-0 old new _ holds is (c.in_err-make-in-Efna.ensures.does clean stands)))

pub returns-in_ok-make-in-Efna-clause-takes : goal.returns-in_ok-make-in-Efna-clause-takes
returns-in_ok-make-in-Efna-clause-takes g c = λ clean stands t holds is.
    let old = g.O.Office.view c.args.office.now in
    let new = g.O.Office.view c.make-in-Efna.new.office in
    let to : Result State SessionFault = Ok (state.SpeakerIdle c.args.contact ChangeDirection) in
    subst (λ (x : Command). Takes (came_awaiting_end c.args.contact t x) old new c.clear-in-Efna.new.self to) (sym c.in-Efna.is)
    (efna_ok c.args.contact c.args.number t c.in-Efna.field-0 old new c.clear-in-Efna.new.self holds is c.clear-in-Efna.ensures
    (c.in_ok-make-in-Efna.ensures.does clean stands))
