use Rattle.std.proofs.Common.{ap, ◌∙◌}
use Rattle.oftp_vfile.specs.declared.format.Format.{Format}
use Rattle.oftp_session.specs.Phases.{frame_of}
use Rattle.oftp_session.proofs.Crediting.{efid_with, end_err, end_ok}
use Rattle.oftp_session.proofs.Saying.{passed_on}
use Rattle.oftp_session.proofs.sending.send_end.Goals as goal

pub returns-in_err-make-clause-takes : goal.returns-in_err-make-clause-takes
returns-in_err-make-clause-takes g c = λ clean stands t holds at none.
    passed_on _ _ _ _ c.in_err-make.field-0.0 _ c.from_residual.ensures.1
    (end_err c.args.contact t c.args.outgoing _ _ _ holds at c.requires none (c.in_err-make.ensures.does clean stands))

pub returns-clause-takes : goal.returns-clause-takes
returns-clause-takes g c = λ clean stands t holds at none.
    let command = c.efid.ensures ∙ ap (λ (f : Format). efid_with f c.args.outgoing.rows c.args.outgoing.units) c.format.ensures in
    end_ok c.args.contact t c.args.outgoing _ _ _ holds at c.requires none (c.set_command.ensures ∙ ap frame_of command)
    (c.in_ok-make.ensures.does clean stands)
