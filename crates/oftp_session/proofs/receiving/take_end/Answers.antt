use Rattle.std.proofs.Common.{Result, Ok, sym, ap, ◌∙◌}
use Rattle.oftp_register.specs.declared.verdicts.EndVerdict.TheVariants as «end»
use Rattle.oftp_session.specs.declared.session.SessionFault.{SessionFault}
use Rattle.oftp_session.specs.declared.state.State.{State}
use Rattle.oftp_session.specs.declared.state.State.TheVariants as state
use Rattle.oftp_session.specs.Phases.{frame_of}
use Rattle.oftp_session.specs.Receiving.{carried_by, on_end_verdict}
use Rattle.oftp_session.proofs.Saying.{passed_on, step_same}
use Rattle.oftp_session.proofs.Closing.{by_verdict, give_up_err, give_up_ok, open_fails, told_verdict}
use Rattle.oftp_session.proofs.Ends.{open_of}
use Rattle.oftp_session.proofs.receiving.take_end.Goals as goal

pub returns-then-is_open-clause-takes : goal.returns-then-is_open-clause-takes
returns-then-is_open-clause-takes g c = λ so clean stands f holds at.
    let old = g.O.Office.view c.args.office.now in
    let is = open_fails c.args.contact old.register f c.args.incoming c.args.efid.now at (sym c.is_open.ensures ∙ c.if-is_open.true) in
    step_same _ _ old c.ended_here.result c.ended_here.new.frame stands is c.ended_here.ensures

pub returns-in_err-make-in-Refuse-clause-takes : goal.returns-in_err-make-in-Refuse-clause-takes
returns-in_err-make-in-Refuse-clause-takes g c = λ so clean stands f holds at.
    let old = g.O.Office.view c.args.office.now in
    let new = g.O.Office.view c.make.new.office in
    let s = c.args.incoming in
    let v = told_verdict c.args.efid.now s.taker c.counts-records.result _ c.counts-records.ensures (sym c.end_verdict.ensures ∙ c.in-Refuse.is) in
    by_verdict c.args.contact old.register f s c.args.efid.now _ old new c.set_command.new.self c.from_residual.result holds at (sym c.is_open.ensures ∙ c.if-is_open.false) v
    (passed_on (on_end_verdict c.args.contact old.register f (carried_by f) («end».Refuse c.in-Refuse.reason)) old new _ c.in_err-make-in-Refuse.field-0.0 _ c.from_residual.ensures.1
    (give_up_err c.args.contact f s c.in-Refuse.reason old new _ holds at (c.in_err-make-in-Refuse.ensures.does clean stands)))

pub returns-in_ok-make-in-Refuse-clause-takes : goal.returns-in_ok-make-in-Refuse-clause-takes
returns-in_ok-make-in-Refuse-clause-takes g c = λ so clean stands f holds at.
    let old = g.O.Office.view c.args.office.now in
    let new = g.O.Office.view c.make.new.office in
    let to : Result State SessionFault = Ok (state.ListenerIdle c.args.contact) in
    let s = c.args.incoming in
    let v = told_verdict c.args.efid.now s.taker c.counts-records.result _ c.counts-records.ensures (sym c.end_verdict.ensures ∙ c.in-Refuse.is) in
    by_verdict c.args.contact old.register f s c.args.efid.now _ old new c.set_command.new.self to holds at (sym c.is_open.ensures ∙ c.if-is_open.false) v
    (give_up_ok c.args.contact f s c.in-Refuse.reason old new c.set_command.new.self holds at (c.set_command.ensures ∙ ap frame_of c.efna.ensures) (c.in_ok-make-in-Refuse.ensures.does clean stands))

pub returns-in-Accept-clause-takes : goal.returns-in-Accept-clause-takes
returns-in-Accept-clause-takes g c = λ so clean stands f holds at.
    let old = g.O.Office.view c.args.office.now in
    let new = g.O.Office.view c.close.new.office in
    let s = c.args.incoming in
    let shut = sym c.is_open.ensures ∙ c.if-is_open.false in
    let v = told_verdict c.args.efid.now s.taker c.counts-records.result _ c.counts-records.ensures (sym c.end_verdict.ensures ∙ c.in-Accept.is) in
    by_verdict c.args.contact old.register f s c.args.efid.now _ old new c.close.new.frame c.close.result holds at shut v
    (c.close.ensures.takes so clean stands f holds at (sym (open_of c.args.contact f s at) ∙ shut))
