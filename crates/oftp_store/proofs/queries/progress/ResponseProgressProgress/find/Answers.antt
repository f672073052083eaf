use Rattle.std.proofs.Common.{◌≡◌, option_map, rules}
use Rattle.oftp_register.specs.declared.entries.IssuedResponse.{IssuedResponse}
use Rattle.oftp_store.proofs.LookLemmas.{left_by}
use Rattle.oftp_store.proofs.ProgressLemmas.{response_progress_told}
use Rattle.oftp_store.proofs.CauseLemmas.{passed_after}
use Rattle.oftp_store.proofs.queries.progress.ResponseProgressProgress.find.Goals as goal

pub returns-clause-answer : goal.returns-clause-answer
returns-clause-answer g c clean has r kept sound =
    let mid = left_by r _ _ _ _ _ c.in_ok-header.ensures.looks c.in_ok-response.ensures.looks clean has kept in
    let told = response_progress_told r c.args.no c.in-Some.header c.in_ok-response.response (rw c.in-Some.is at (c.in_ok-header.ensures.answer mid.clean has r kept))
    (c.in_ok-response.ensures.answer clean mid.schema r mid.tables sound) in
    let same : c.map.result ≡ option_map (λ (i : IssuedResponse). i.dispatch) c.in_ok-response.response = search rules in
    rw same told

pub returns-in_err-response-clause-told : goal.returns-in_err-response-clause-told
returns-in_err-response-clause-told g c =
    passed_after g.S.Store _ _ _ _ _ _ c.in_ok-header.ensures.looks c.in_err-response.ensures.looks c.in_err-response.ensures.told c.from_residual-in_err-response.ensures.1
