use Rattle.oftp_store.proofs.CommitLemmas.{looks_both}
use Rattle.oftp_store.proofs.CauseLemmas.{passed_after}
use Rattle.oftp_store.proofs.queries.response_match.find_response_match.Goals as goal

pub returns-in_err-no-clause-told : goal.returns-in_err-no-clause-told
returns-in_err-no-clause-told g c =
    passed_after g.S.Store _ _ _ _ _ _ c.in_ok-has_filed.ensures.looks c.in_err-no.ensures.looks c.in_err-no.ensures.told c.from_residual-in_err-no.ensures.1

pub returns-in_err-file-clause-told : goal.returns-in_err-file-clause-told
returns-in_err-file-clause-told g c =
    passed_after g.S.Store _ _ _ _ _ _ (looks_both _ _ _ _ _ c.in_ok-has_filed.ensures.looks c.in_ok-no.ensures.looks) c.in_err-file.ensures.looks
    c.in_err-file.ensures.told c.from_residual-in_err-file.ensures.1
