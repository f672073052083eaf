use Rattle.std.proofs.Common.{sym, ◌∙◌}
use Rattle.oftp_session.proofs.Saying.{step_same}
use Rattle.oftp_session.proofs.Windows.{data_takes, refused_takes, too_long}
use Rattle.oftp_session.proofs.receiving.take_data.Goals as goal

pub returns-then-is_too_long-clause-takes : goal.returns-then-is_too_long-clause-takes
returns-then-is_too_long-clause-takes g c = λ clean stands f holds at.
    let is = too_long c.args.contact f c.args.payload.now (sym c.is_too_long.ensures ∙ c.if-is_too_long.true) in
    step_same _ _ (g.O.Office.view c.args.office.now) c.ended_here.result c.ended_here.new.frame stands is c.ended_here.ensures

pub returns-in-Ok-clause-takes : goal.returns-in-Ok-clause-takes
returns-in-Ok-clause-takes g c = λ clean stands f holds at.
    data_takes c.args.contact f c.args.incoming c.take.new.self c.args.payload.now _ _ _ _ holds at (sym c.is_too_long.ensures ∙ c.if-is_too_long.false) c.in-Ok.ensures.value
    (c.pass_window.ensures.takes clean stands)

pub returns-in-Err-clause-takes : goal.returns-in-Err-clause-takes
returns-in-Err-clause-takes g c = λ clean stands f holds at.
    refused_takes c.args.contact f c.args.incoming c.args.payload.now c.in-Err.fault _ _ _ stands holds at (sym c.is_too_long.ensures ∙ c.if-is_too_long.false)
    c.in-Err.ensures.refused c.refuse.ensures
