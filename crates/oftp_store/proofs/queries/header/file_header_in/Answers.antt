use Rattle.std.proofs.Common.{◌∙◌, sym}
use Rattle.oftp_store.proofs.CommitLemmas.{err_passed}
use Rattle.oftp_store.proofs.CauseLemmas.{not_some}
use Rattle.oftp_store.proofs.MisreadLemmas.{file_longest}
use Rattle.oftp_store.proofs.queries.header.file_header_in.Goals as goal

pub returns-in_err-identity-clause-unfit : goal.returns-in_err-identity-clause-unfit
returns-in_err-identity-clause-unfit c =
    err_passed _ c.in_err-identity.field-0.0 _ c.from_residual.ensures.1
    (λ is h has. not_some _ c.in_err-identity.ensures.variant (c.identity_at.ensures.found h.identity has.identity))

pub returns-in_err-format-clause-unfit : goal.returns-in_err-format-clause-unfit
returns-in_err-format-clause-unfit c =
    err_passed _ c.in_err-format.field-0.0 _ c.from_residual-in_err-format.ensures.1
    (λ is h has. not_some _ c.in_err-format.ensures.variant (c.format_at.ensures.found h.format has.values.1.1.1.1.1.0))

pub returns-in_err-longest-clause-unfit : goal.returns-in_err-longest-clause-unfit
returns-in_err-longest-clause-unfit c =
    err_passed _ c.in_err-longest.field-0.0 _ c.from_residual-in_err-longest.ensures.1
    (λ is h has. not_some _ c.in_err-longest.ensures.variant (c.number_at.ensures.found h.longest has.longest has.values.1.1.1.1.1.1.0))

pub returns-then-not-allows_longest-clause-unfit : goal.returns-then-not-allows_longest-clause-unfit
returns-then-not-allows_longest-clause-unfit c =
    λ is h has. let no = c.allows_longest.ensures.1 (file_longest c.args.row.now c.in_ok-format.format c.in_ok-longest.longest h
    (rw c.in_ok-format.ensures.ok_part at c.format_at.ensures.told) (rw c.in_ok-longest.ensures.ok_part at c.number_at.ensures.told) has) in let no_such = sym c.if-not-allows_longest.true ∙ no in cc

pub returns-in_err-description-clause-unfit : goal.returns-in_err-description-clause-unfit
returns-in_err-description-clause-unfit c =
    err_passed _ c.in_err-description.field-0.0 _ c.from_residual-in_err-description.ensures.1
    (λ is h has. let no_such = sym is ∙ c.in_err-description.ensures.found h.description has.description.0 has.description.1 has.values.1.1.1.1.1.1.1.0 in cc)
