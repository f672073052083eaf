use Rattle.std.proofs.Common.{◌∙◌, sym}
use Rattle.oftp_register.specs.LookUps.{is_next_response}
use Rattle.oftp_store.proofs.ListLemmas.{issued_by_number}
use Rattle.oftp_store.proofs.LookLemmas.{answers_after}
use Rattle.oftp_store.proofs.CauseLemmas.{told_after}
use Rattle.oftp_store.proofs.queries.next_item.next_response.Goals as goal

pub returns-in-Some-clause-answer : goal.returns-in-Some-clause-answer
returns-in-Some-clause-answer g c =
    answers_after _ _ _ _ _ _ _ _ c.in_ok-no.ensures.looks c.find_issued.ensures.looks
    (λ k has r kept. sym (rw c.in-Some.is at (c.in_ok-no.ensures.answer k has r kept))) c.find_issued.ensures.answer
    (λ r found is tells sound. tells sound ∙ issued_by_number (is_next_response c.args.partner.now c.args.tried) _ 1 r.incoming is)

pub returns-in-Some-clause-told : goal.returns-in-Some-clause-told
returns-in-Some-clause-told g c =
    told_after g.S.Store c.args.conn.now c.next_number.new.conn _ _ c.find_issued.result c.in_ok-no.ensures.looks c.find_issued.ensures.looks c.find_issued.ensures.told
