use Rattle.oftp_store.proofs.LookLemmas.{left_by}
use Rattle.oftp_store.proofs.ProgressLemmas.{incoming_progress_told}
use Rattle.oftp_store.proofs.CauseLemmas.{passed_after}
use Rattle.oftp_store.proofs.queries.progress.IncomingProgressProgress.find.Goals as goal

pub returns-clause-answer : goal.returns-clause-answer
returns-clause-answer g c clean has r kept =
    let mid = left_by r _ _ _ _ _ c.in_ok-header.ensures.looks c.in_ok-rows.ensures.looks clean has kept in
    incoming_progress_told r c.args.no c.in_ok-rows.rows c.in-Some.header (rw c.in-Some.is at (c.in_ok-header.ensures.answer mid.clean has r kept))
    (c.in_ok-rows.ensures.answer clean mid.schema r mid.tables)

pub returns-in_err-rows-clause-told : goal.returns-in_err-rows-clause-told
returns-in_err-rows-clause-told g c =
    passed_after g.S.Store _ _ _ _ _ _ c.in_ok-header.ensures.looks c.in_err-rows.ensures.looks c.in_err-rows.ensures.told c.from_residual-in_err-rows.ensures.1
