use Rattle.oftp_store.proofs.CommitLemmas.{err_passed}
use Rattle.oftp_store.proofs.CauseLemmas.{query_failed}
use Rattle.oftp_store.proofs.queries.first_row.first_row.Goals as goal

pub returns-in_err-rows-clause-told : goal.returns-in_err-rows-clause-told
returns-in_err-rows-clause-told g c =
    err_passed _ c.in_err-rows.field-0.0 _ c.from_residual.ensures.1 (query_failed g.S.Store _ _ _ _ _ _ c.in_err-rows.ensures.error)
