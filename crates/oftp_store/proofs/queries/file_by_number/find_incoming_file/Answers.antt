use Rattle.std.proofs.Common.{◌∙◌, Some, ap, sym}
use Rattle.oftp_store.proofs.CommitLemmas.{looks_both}
use Rattle.oftp_store.proofs.LookLemmas.{left_by}
use Rattle.oftp_store.proofs.ProgressLemmas.{incoming_told, no_incoming}
use Rattle.oftp_store.proofs.CauseLemmas.{passed_after}
use Rattle.oftp_store.proofs.queries.file_by_number.find_incoming_file.Goals as goal

pub returns-in_default-clause-answer : goal.returns-in_default-clause-answer
returns-in_default-clause-answer g c clean has r kept sound = sym (no_incoming r c.args.no (rw c.in_default.is at (c.in_ok-header.ensures.answer clean has r kept)))

pub returns-clause-answer : goal.returns-clause-answer
returns-clause-answer g c clean has r kept sound =
    let later = looks_both _ _ _ _ _ c.in_ok-rows.ensures.looks c.in_ok-response.ensures.looks in
    let first = left_by r _ _ _ _ _ c.in_ok-header.ensures.looks later clean has kept in
    let second = left_by r _ _ _ _ _ c.in_ok-rows.ensures.looks c.in_ok-response.ensures.looks clean first.schema first.tables in
    ap Some c.incoming_of.ensures
    ∙ incoming_told r c.args.no c.in_ok-rows.rows c.in-Some.header c.in_ok-response.response (rw c.in-Some.is at (c.in_ok-header.ensures.answer first.clean has r kept))
    (c.in_ok-rows.ensures.answer second.clean first.schema r first.tables) (c.in_ok-response.ensures.answer clean second.schema r second.tables sound)

pub returns-in_err-rows-clause-told : goal.returns-in_err-rows-clause-told
returns-in_err-rows-clause-told g c =
    passed_after g.S.Store _ _ _ _ _ _ c.in_ok-header.ensures.looks c.in_err-rows.ensures.looks c.in_err-rows.ensures.told c.from_residual-in_err-rows.ensures.1

pub returns-in_err-response-clause-told : goal.returns-in_err-response-clause-told
returns-in_err-response-clause-told g c =
    passed_after g.S.Store _ _ _ _ _ _ (looks_both _ _ _ _ _ c.in_ok-header.ensures.looks c.in_ok-rows.ensures.looks) c.in_err-response.ensures.looks c.in_err-response.ensures.told
    c.from_residual-in_err-response.ensures.1
