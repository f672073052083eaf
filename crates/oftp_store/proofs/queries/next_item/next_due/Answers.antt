use Rattle.std.proofs.Common.{◌∙◌}
use Rattle.oftp_store.proofs.ListLemmas.{item_nothing, item_response, response_within}
use Rattle.oftp_store.proofs.queries.next_item.next_due.Goals as goal

pub returns-in-Some-clause-answer : goal.returns-in-Some-clause-answer
returns-in-Some-clause-answer g c clean has r kept sound =
    let tried = c.within_store-tried in
    let within = response_within r c.args.partner.now c.args.cursor.response tried.result kept.incoming.few tried.ensures.same tried.ensures.far in
    item_response r c.args.partner.now c.args.cursor c.in-Some.response (rw c.in-Some.is at (c.in_ok-first.ensures.answer clean has r kept sound) ∙ within)

pub returns-in-None-clause-answer : goal.returns-in-None-clause-answer
returns-in-None-clause-answer g c clean has r kept sound =
    let tried = c.within_store-tried in
    let within = response_within r c.args.partner.now c.args.cursor.response tried.result kept.incoming.few tried.ensures.same tried.ensures.far in
    item_nothing r c.args.partner.now c.args.cursor (rw c.in-None.is at (c.in_ok-first.ensures.answer clean has r kept sound) ∙ within)
