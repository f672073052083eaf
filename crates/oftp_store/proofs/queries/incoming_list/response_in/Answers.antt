use Rattle.std.proofs.Common.{◌∙◌, inl, inr, sym}
use Rattle.oftp_store.proofs.CommitLemmas.{err_passed}
use Rattle.oftp_store.proofs.MisreadLemmas.{no_response_shown, response_shown}
use Rattle.oftp_store.proofs.queries.incoming_list.response_in.Goals as goal

pub returns-then-is_null-clause-told : goal.returns-then-is_null-clause-told
returns-then-is_null-clause-told c = no_response_shown c.args.row.now (c.is_null.ensures.null c.if-is_null.true)

pub returns-clause-told : goal.returns-clause-told
returns-clause-told c = response_shown c.args.row.now c.in_ok-response_at.field-0 c.in_ok-response_at.ensures.told c.in_ok-response_at.ensures.fits

pub returns-in_err-response_at-clause-unfit : goal.returns-in_err-response_at-clause-unfit
returns-in_err-response_at-clause-unfit c =
    err_passed _ c.in_err-response_at.field-0.0 _ c.from_residual.ensures.1 (λ is has. elim has [
      | inl none ↦ let no_such = sym c.if-is_null.false ∙ c.is_null.ensures.found none in cc
      | inr found ↦ c.in_err-response_at.ensures.unfit is found.0 found.1
    ])
