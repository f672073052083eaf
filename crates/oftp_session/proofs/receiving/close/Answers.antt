use Rattle.std.proofs.Common.{ap, ◌∙◌}
use Rattle.oftp_register.specs.declared.verdicts.EndVerdict.TheVariants as «end»
use Rattle.oftp_session.specs.Phases.{frame_of}
use Rattle.oftp_session.specs.Receiving.{carried_by, on_end_verdict}
use Rattle.oftp_session.proofs.Closing.{close_err, close_ok}
use Rattle.oftp_session.proofs.Saying.{passed_on}
use Rattle.oftp_session.proofs.receiving.close.Goals as goal

pub returns-in_err-make-clause-takes : goal.returns-in_err-make-clause-takes
returns-in_err-make-clause-takes g c = λ so clean stands f holds at shut.
    let before = c.make.ensures.clean clean in
    let found = c.in_ok-speaks.ensures.finds before stands so in
    let sound = g.met.O.Office.sound c.asks_to_speak.new.self before found.1.stands in
    passed_on (on_end_verdict c.args.contact (g.O.Office.view c.args.office.now).register f (carried_by f) «end».Accept) _ _ _ c.in_err-make.field-0.0 _ c.from_residual-in_err-make.ensures.1
    (close_err c.args.contact f c.args.incoming c.in-Ok.rows _ _ _ _ sound holds at shut c.in-Ok.ensures.rows found.1 (c.in_err-make.ensures.does clean found.1.stands))

pub returns-clause-takes : goal.returns-clause-takes
returns-clause-takes g c = λ so clean stands f holds at shut.
    let before = c.make.ensures.clean clean in
    let found = c.in_ok-speaks.ensures.finds before stands so in
    let sound = g.met.O.Office.sound c.asks_to_speak.new.self before found.1.stands in
    let said = c.set_command.ensures ∙ ap frame_of c.efpa.ensures in
    close_ok c.args.contact f c.args.incoming c.in-Ok.rows c.in_ok-speaks.speaks _ _ _ _ sound holds at shut c.in-Ok.ensures.rows found.1 found.0 said
    (c.in_ok-make.ensures.does clean found.1.stands)
