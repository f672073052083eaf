use Rattle.oftp_store.specs.Causes.{HasNumber}
use Rattle.oftp_store.proofs.CommitLemmas.{err_passed}
use Rattle.oftp_store.proofs.CauseLemmas.{query_misread, query_weaker}
use Rattle.oftp_store.proofs.queries.first_row.first_number.Goals as goal

pub returns-in_err-row-clause-told : goal.returns-in_err-row-clause-told
returns-in_err-row-clause-told g c =
    err_passed _ c.in_err-row.field-0.0 _ c.from_residual.ensures.1 (query_weaker g.S.Store _ _ HasNumber _ _ _ c.in_err-row.ensures.told)

pub returns-in_err-number_in-clause-told : goal.returns-in_err-number_in-clause-told
returns-in_err-number_in-clause-told g c =
    err_passed _ c.in_err-number_in.field-0.0 _ c.from_residual-in_err-number_in.ensures.1
    (query_misread g.S.Store _ _ HasNumber _ _ _ _ _ c.in-Some.is c.in_ok-row.ensures.shown (λ is. c.in_err-number_in.ensures.unfit))
