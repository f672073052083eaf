use Rattle.oftp_store.proofs.CommitLemmas.{err_passed}
use Rattle.oftp_store.proofs.CauseLemmas.{not_some}
use Rattle.oftp_store.proofs.queries.header.IncomingHeaderByNumber.from_row.Goals as goal

pub returns-in_err-state-clause-unfit : goal.returns-in_err-state-clause-unfit
returns-in_err-state-clause-unfit c =
    err_passed _ c.in_err-state.field-0.0 _ c.from_residual.ensures.1
    (λ is fits. not_some _ c.in_err-state.ensures.variant (c.incoming_state_at.ensures.found fits.0.state fits.2))

pub returns-in_err-file-clause-unfit : goal.returns-in_err-file-clause-unfit
returns-in_err-file-clause-unfit c =
    err_passed _ c.in_err-file.field-0.0 _ c.from_residual-in_err-file.ensures.1 (λ is fits. c.in_err-file.ensures.unfit is fits.0.file fits.1)
