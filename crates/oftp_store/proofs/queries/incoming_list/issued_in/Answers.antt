use Rattle.std.proofs.Common.{◌∙◌, Some, ap}
use Rattle.oftp_store.proofs.IncomingPageLemmas.{issued_told, none_issued}
use Rattle.oftp_store.proofs.CommitLemmas.{err_passed}
use Rattle.oftp_store.proofs.queries.incoming_list.issued_in.Goals as goal

pub returns-in_default-clause-told : goal.returns-in_default-clause-told
returns-in_default-clause-told c no_is = none_issued c.args.row.now (rw c.in_default.is at c.in_ok-response.ensures.told)

pub returns-clause-told : goal.returns-clause-told
returns-clause-told c no_is =
    ap Some c.issued_of.ensures
    ∙ issued_told c.args.row.now c.args.no c.in_ok-header.header c.in-Some.response c.in_ok-header.ensures.told (rw c.in-Some.is at c.in_ok-response.ensures.told) no_is

pub returns-in_err-response-clause-unfit : goal.returns-in_err-response-clause-unfit
returns-in_err-response-clause-unfit c =
    err_passed _ c.in_err-response.field-0.0 _ c.from_residual.ensures.1 (λ is fits. c.in_err-response.ensures.unfit is fits.1)

pub returns-in_err-header-clause-unfit : goal.returns-in_err-header-clause-unfit
returns-in_err-header-clause-unfit c =
    err_passed _ c.in_err-header.field-0.0 _ c.from_residual-in_err-header.ensures.1 (λ is fits. c.in_err-header.ensures.unfit is fits.0)
