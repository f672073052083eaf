use Rattle.std.proofs.Common.{◌∙◌, Some, ap}
use Rattle.oftp_store.proofs.CauseLemmas.{passed_after}
use Rattle.oftp_store.proofs.ListLemmas.{issued_none, issued_some, issued_unknown}
use Rattle.oftp_store.proofs.LookLemmas.{left_by}
use Rattle.oftp_store.proofs.queries.issued.find_issued.Goals as goal

pub returns-in_default-clause-answer : goal.returns-in_default-clause-answer
returns-in_default-clause-answer g c clean has r kept sound = issued_unknown r c.args.no (rw c.in_default.is at (c.in_ok-header.ensures.answer clean has r kept))

pub returns-in_err-response-clause-told : goal.returns-in_err-response-clause-told
returns-in_err-response-clause-told g c =
    passed_after g.S.Store _ _ _ _ _ _ c.in_ok-header.ensures.looks c.in_err-response.ensures.looks c.in_err-response.ensures.told c.from_residual-in_err-response.ensures.1

pub returns-in_default-2-clause-answer : goal.returns-in_default-2-clause-answer
returns-in_default-2-clause-answer g c clean has r kept sound =
    let mid = left_by r _ _ _ _ _ c.in_ok-header.ensures.looks c.in_ok-response.ensures.looks clean has kept in
    issued_none r c.args.no (rw c.in_default-2.is at (c.in_ok-response.ensures.answer clean mid.schema r mid.tables sound))

pub returns-clause-answer : goal.returns-clause-answer
returns-clause-answer g c clean has r kept sound =
    let mid = left_by r _ _ _ _ _ c.in_ok-header.ensures.looks c.in_ok-response.ensures.looks clean has kept in
    ap Some c.issued_of.ensures
    ∙ issued_some r c.args.no c.in-Some.header c.in-Some-2.response (rw c.in-Some.is at (c.in_ok-header.ensures.answer mid.clean has r kept))
    (rw c.in-Some-2.is at (c.in_ok-response.ensures.answer clean mid.schema r mid.tables sound))
