use Rattle.oftp_store.proofs.CommitLemmas.{err_passed}
use Rattle.oftp_store.proofs.CauseLemmas.{not_some}
use Rattle.oftp_store.proofs.queries.header.OutgoingHeaderByNumber.from_row.Goals as goal

pub returns-in_err-mark-clause-unfit : goal.returns-in_err-mark-clause-unfit
returns-in_err-mark-clause-unfit c =
    err_passed _ c.in_err-mark.field-0.0 _ c.from_residual.ensures.1
    (λ is fits. not_some _ c.in_err-mark.ensures.variant (c.mark_and_state_in.ensures.found fits.0.mark fits.0.state fits.2 fits.3 fits.4))

pub returns-in_err-file-clause-unfit : goal.returns-in_err-file-clause-unfit
returns-in_err-file-clause-unfit c =
    err_passed _ c.in_err-file.field-0.0 _ c.from_residual-in_err-file.ensures.1 (λ is fits. c.in_err-file.ensures.unfit is fits.0.file fits.1)
