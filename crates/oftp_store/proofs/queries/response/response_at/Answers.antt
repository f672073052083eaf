use Rattle.std.proofs.Common.{◌∙◌, sym}
use Rattle.oftp_store.proofs.CommitLemmas.{err_passed}
use Rattle.oftp_store.proofs.CauseLemmas.{not_some}
use Rattle.oftp_store.proofs.MisreadLemmas.{kind_read, response_fits}
use Rattle.oftp_store.proofs.queries.response.response_at.Goals as goal

pub returns-in_err-kind-clause-unfit : goal.returns-in_err-kind-clause-unfit
returns-in_err-kind-clause-unfit c =
    err_passed _ c.in_err-kind.field-0.0 _ c.from_residual.ensures.1
    (λ is x has. not_some _ c.in_err-kind.ensures.variant (c.kind_at.ensures.found x.kind has.tells.kind))

pub returns-in_err-reason-clause-unfit : goal.returns-in_err-reason-clause-unfit
returns-in_err-reason-clause-unfit c =
    err_passed _ c.in_err-reason.field-0.0 _ c.from_residual-in_err-reason.ensures.1
    (λ is x has. not_some _ c.in_err-reason.ensures.variant (c.reason_at.ensures.found x.reason
    (kind_read c.args.row.now c.args.at c.in_ok-kind.kind x (rw c.in_ok-kind.ensures.ok_part at c.kind_at.ensures.told) has)))

pub returns-in_err-dispatch-clause-unfit : goal.returns-in_err-dispatch-clause-unfit
returns-in_err-dispatch-clause-unfit c =
    err_passed _ c.in_err-dispatch.field-0.0 _ c.from_residual-in_err-dispatch.ensures.1
    (λ is x has. not_some _ c.in_err-dispatch.ensures.variant (c.dispatch_at.ensures.found x.dispatch has.tells.dispatch))

pub returns-in_err-text-clause-unfit : goal.returns-in_err-text-clause-unfit
returns-in_err-text-clause-unfit c =
    err_passed _ c.in_err-text.field-0.0 _ c.from_residual-in_err-text.ensures.1
    (λ is x has. let no_such = sym is ∙ c.in_err-text.ensures.found x.text has.text.0 has.text.1 has.tells.text in cc)

pub returns-then-not-is_fit-clause-unfit : goal.returns-then-not-is_fit-clause-unfit
returns-then-not-is_fit-clause-unfit c =
    λ is x has. let no = c.is_fit.ensures.1 (response_fits c.args.row.now c.args.at c.in_ok-kind.kind c.in_ok-reason.reason c.in_ok-text.text x
    (rw c.in_ok-kind.ensures.ok_part at c.kind_at.ensures.told) (rw c.in_ok-reason.ensures.ok_part at c.reason_at.ensures.told) c.in_ok-text.ensures.told has) in
    let no_such = sym c.if-not-is_fit.true ∙ no in cc
