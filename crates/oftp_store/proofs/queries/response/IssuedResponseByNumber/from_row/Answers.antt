use Rattle.std.proofs.lemmas.Result.{IfOk-weaker}
use Rattle.oftp_store.proofs.CauseLemmas.{err_weaker}
use Rattle.oftp_store.proofs.queries.response.IssuedResponseByNumber.from_row.Goals as goal

pub returns-clause-fits : goal.returns-clause-fits
returns-clause-fits c = IfOk-weaker c.response_at.result _ _ (λ x tells. (tells.kind, (tells.reason, (tells.text, (tells.dispatch, tt))))) c.response_at.ensures.fits

pub returns-clause-unfit : goal.returns-clause-unfit
returns-clause-unfit c =
    err_weaker c.response_at.result (λ fault unfit is fits. unfit is fits.0 fits.1) c.response_at.ensures.unfit
