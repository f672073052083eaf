use Rattle.std.proofs.Common.{◌∙◌, refl, sym}
use Rattle.oftp_register.specs.declared.entries.IncomingEntry.{IncomingEntry}
use Rattle.oftp_register.specs.LookUps.{incoming_entry}
use Rattle.oftp_register.specs.Register.{same_identity}
use Rattle.oftp_store.proofs.FirstLemmas.{same_by_number}
use Rattle.oftp_store.proofs.LookLemmas.{answers_after}
use Rattle.oftp_store.proofs.CauseLemmas.{told_after}
use Rattle.oftp_store.proofs.queries.file_by_identity.look_in.Goals as goal

pub returns-in-Some-clause-answer : goal.returns-in-Some-clause-answer
returns-in-Some-clause-answer g c =
    answers_after _ _ _ _ _ _ _ _ c.in_ok-no.ensures.looks c.find_incoming_file.ensures.looks
    (λ k has r kept. sym (rw c.in-Some.is at (c.in_ok-no.ensures.answer k has r kept))) c.find_incoming_file.ensures.answer (λ r found is tells sound. tells sound
    ∙ same_by_number incoming_entry (λ (e : IncomingEntry). e.no) (λ n x. refl) (λ (e : IncomingEntry). same_identity e.identity c.args.identity.now) _ 1 r.incoming is)

pub returns-in-Some-clause-told : goal.returns-in-Some-clause-told
returns-in-Some-clause-told g c =
    told_after g.S.Store c.args.conn.now c.file_number.new.conn _ _ c.find_incoming_file.result c.in_ok-no.ensures.looks c.find_incoming_file.ensures.looks c.find_incoming_file.ensures.told
