use Rattle.oftp_store.proofs.CommitLemmas.{err_passed}
use Rattle.oftp_store.proofs.CauseLemmas.{not_some}
use Rattle.oftp_store.proofs.MisreadLemmas.{received_reason}
use Rattle.oftp_store.proofs.queries.received.header_in.Goals as goal

pub returns-in_err-kind-clause-unfit : goal.returns-in_err-kind-clause-unfit
returns-in_err-kind-clause-unfit c =
    err_passed _ c.in_err-kind.field-0.0 _ c.from_residual.ensures.1 (λ h has. not_some _ c.in_err-kind.ensures.variant (c.kind_at.ensures.found h.kind has.values.0))

pub returns-in_err-identity-clause-unfit : goal.returns-in_err-identity-clause-unfit
returns-in_err-identity-clause-unfit c =
    err_passed _ c.in_err-identity.field-0.0 _ c.from_residual-in_err-identity.ensures.1
    (λ h has. not_some _ c.in_err-identity.ensures.variant (c.identity_at.ensures.found h.identity has.identity))

pub returns-in_err-reason-clause-unfit : goal.returns-in_err-reason-clause-unfit
returns-in_err-reason-clause-unfit c =
    err_passed _ c.in_err-reason.field-0.0 _ c.from_residual-in_err-reason.ensures.1
    (λ h has. not_some _ c.in_err-reason.ensures.variant (c.reason_at.ensures.found h.reason
    (received_reason c.args.row.now c.in_ok-kind.kind h (rw c.in_ok-kind.ensures.ok_part at c.kind_at.ensures.told) has)))
