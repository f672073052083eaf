use Rattle.std.proofs.Common.{◌∙◌, sym}
use Rattle.oftp_store.proofs.CommitLemmas.{err_passed}
use Rattle.oftp_store.proofs.CauseLemmas.{not_some}
use Rattle.oftp_store.proofs.queries.received.note_in.Goals as goal

pub returns-in_err-creator-clause-unfit : goal.returns-in_err-creator-clause-unfit
returns-in_err-creator-clause-unfit c =
    err_passed _ c.in_err-creator.field-0.0 _ c.from_residual.ensures.1
    (λ is m has. not_some _ c.in_err-creator.ensures.variant (c.name_at.ensures.found m.creator has.creator has.values.0))

pub returns-in_err-text-clause-unfit : goal.returns-in_err-text-clause-unfit
returns-in_err-text-clause-unfit c =
    err_passed _ c.in_err-text.field-0.0 _ c.from_residual-in_err-text.ensures.1
    (λ is m has. let no_such = sym is ∙ c.in_err-text.ensures.found m.text has.text.0 has.text.1 has.values.1.0 in cc)
