use Rattle.std.proofs.Common.{◌∙◌, inl, inr, sym}
use Rattle.oftp_store.proofs.CommitLemmas.{err_passed}
use Rattle.oftp_store.proofs.CauseLemmas.{not_some}
use Rattle.oftp_store.proofs.MisreadLemmas.{answered_shown, none_answered}
use Rattle.oftp_store.proofs.queries.answered.file_no_in.Goals as goal

pub returns-then-is_null-clause-told : goal.returns-then-is_null-clause-told
returns-then-is_null-clause-told c = none_answered c.args.row.now (c.is_null.ensures.null c.if-is_null.true)

pub returns-clause-told : goal.returns-clause-told
returns-clause-told c = answered_shown c.args.row.now c.in_ok-ok_or.field-0 (rw c.in_ok-ok_or.ensures.ok_part at c.no_at.ensures.fits)

pub returns-in_err-ok_or-clause-unfit : goal.returns-in_err-ok_or-clause-unfit
returns-in_err-ok_or-clause-unfit c =
    err_passed _ c.in_err-ok_or.field-0.0 _ c.from_residual.ensures.1 (λ has. elim has [
      | inl none ↦ let no_such = sym c.if-is_null.false ∙ c.is_null.ensures.found none in cc
      | inr found ↦ not_some _ c.in_err-ok_or.ensures.variant (c.no_at.ensures.found found.0 found.1)
    ])
