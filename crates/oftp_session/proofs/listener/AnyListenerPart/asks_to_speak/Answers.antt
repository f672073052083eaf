use Rattle.oftp_session.specs.Receiving.{asks_to_speak}
use Rattle.oftp_session.proofs.Passing.{look_failed}
use Rattle.oftp_session.proofs.listener.AnyListenerPart.asks_to_speak.Goals as goal

pub returns-in_err-item-clause-finds : goal.returns-in_err-item-clause-finds
returns-in_err-item-clause-finds g c = λ clean stands so.
    look_failed _ (asks_to_speak c.args.contact.now) _ _ c.in_err-item.field-0.0 _ c.in_err-item.ensures.looks c.from_residual.ensures.1 clean stands
