use Rattle.oftp_session.proofs.Saying.{passed_on}
use Rattle.oftp_session.proofs.Windows.{open_takes, window_err, window_ok}
use Rattle.oftp_session.proofs.receiving.pass_window.Goals as goal

pub returns-then-incoming-gt1-clause-takes : goal.returns-then-incoming-gt1-clause-takes
returns-then-incoming-gt1-clause-takes g c = λ clean stands f holds at.
    open_takes c.args.contact f c.args.incoming (g.O.Office.view c.args.office.now) c.clear.new.self at c.if-incoming-gt1.true stands c.clear.ensures

pub returns-in_err-keep-clause-takes : goal.returns-in_err-keep-clause-takes
returns-in_err-keep-clause-takes g c = λ clean stands f holds at.
    passed_on _ _ _ _ c.in_err-keep.field-0.0 _ c.from_residual.ensures.1
    (window_err c.args.contact f c.args.incoming _ _ _ _ holds at c.if-incoming-gt1.false c.take_rows-rows.ensures.rows (c.in_err-keep.ensures.does clean stands))

pub returns-clause-takes : goal.returns-clause-takes
returns-clause-takes g c = λ clean stands f holds at.
    window_ok c.args.contact f c.args.incoming _ _ _ _ _ _ holds at c.if-incoming-gt1.false c.take_rows-rows.ensures.rows c.take_rows-rows.ensures.rest
    c.window.ensures.value c.set_command.ensures (c.in_ok-keep.ensures.does clean stands)
