use Rattle.std.proofs.Common.{◌∙◌, subst, sym}
use Rattle.oftp_store.specs.Causes.{HasTexts}
use Rattle.oftp_store.proofs.CauseLemmas.{err_weaker}
use Rattle.oftp_store.proofs.queries.received.texts_in.Goals as goal

pub returns-in-EndResponse-clause-unfit : goal.returns-in-EndResponse-clause-unfit
returns-in-EndResponse-clause-unfit c = err_weaker c.empty_note.result (λ fault memory is. absurd (let no_such = sym is ∙ memory in cc)) c.empty_note.ensures.memory

pub returns-in-NegativeEndResponse-clause-unfit : goal.returns-in-NegativeEndResponse-clause-unfit
returns-in-NegativeEndResponse-clause-unfit c =
    err_weaker c.note_in.result (λ fault unfit is has.
    let texts = subst (λ k. HasTexts k c.args.row.now) c.in-NegativeEndResponse.is has in
    unfit is texts.0 texts.1) c.note_in.ensures.unfit
