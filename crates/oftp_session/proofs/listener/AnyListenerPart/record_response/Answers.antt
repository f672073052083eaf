use Rattle.oftp_session.proofs.Passing.{look_unmade}
use Rattle.oftp_session.proofs.listener.AnyListenerPart.record_response.Goals as goal

pub returns-in_err-has_received-clause-does : goal.returns-in_err-has_received-clause-does
returns-in_err-has_received-clause-does g c =
    look_unmade _ _ _ _ c.in_err-has_received.field-0.0 _ c.in_err-has_received.ensures.looks c.from_residual.ensures.1
