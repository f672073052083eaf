use Rattle.oftp_session.proofs.Crediting.{covers_err, covers_ok}
use Rattle.oftp_session.proofs.Saying.{passed_file}
use Rattle.oftp_session.proofs.sending.cover.Goals as goal

pub returns-in_err-make-clause-does : goal.returns-in_err-make-clause-does
returns-in_err-make-clause-does g c = λ clean stands t holds number was within.
    passed_file _ _ _ c.in_err-make.field-0.0 _ c.from_residual.ensures.1
    (covers_err t c.args.outgoing.now c.mark-mark.result _ _ _ c.mark-mark.ensures holds number was within c.if-mark-outgoing.true (c.in_err-make.ensures.does clean stands))

pub returns-in_ok-make-clause-does : goal.returns-in_ok-make-clause-does
returns-in_ok-make-clause-does g c = λ clean stands t holds number was within.
    covers_ok t c.args.outgoing.now c.mark-mark.result _ _ c.mark-mark.ensures holds number was within c.if-mark-outgoing.true (c.in_ok-make.ensures.does clean stands)
