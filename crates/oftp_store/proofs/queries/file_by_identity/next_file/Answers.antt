use Rattle.std.proofs.Common.{◌∙◌, refl, sym}
use Rattle.oftp_register.specs.declared.entries.OutgoingEntry.{OutgoingEntry}
use Rattle.oftp_register.specs.LookUps.{is_next_file, outgoing_entry}
use Rattle.oftp_store.proofs.FirstLemmas.{same_by_number}
use Rattle.oftp_store.proofs.LookLemmas.{answers_after}
use Rattle.oftp_store.proofs.CauseLemmas.{told_after}
use Rattle.oftp_store.proofs.queries.file_by_identity.next_file.Goals as goal

pub returns-in-Some-clause-answer : goal.returns-in-Some-clause-answer
returns-in-Some-clause-answer g c =
    answers_after _ _ _ _ _ _ _ _ c.in_ok-no.ensures.looks c.find_outgoing_file.ensures.looks
    (λ k has r kept. sym (rw c.in-Some.is at (c.in_ok-no.ensures.answer k has r kept))) c.find_outgoing_file.ensures.answer (λ r found is tells. tells
    ∙ same_by_number outgoing_entry (λ (e : OutgoingEntry). e.no) (λ n x. refl) (is_next_file c.args.partner.now c.args.tried) _ 1 r.outgoing is)

pub returns-in-Some-clause-told : goal.returns-in-Some-clause-told
returns-in-Some-clause-told g c =
    told_after g.S.Store c.args.conn.now c.next_number.new.conn _ _ c.find_outgoing_file.result c.in_ok-no.ensures.looks c.find_outgoing_file.ensures.looks c.find_outgoing_file.ensures.told
