use Rattle.std.proofs.Common.{◌∙◌, is_some, ap, refl}
use Rattle.oftp_store.proofs.IdentityLemmas.{filed_read, finds_filed}
use Rattle.oftp_store.specs.Causes.{Filed, Fits}
use Rattle.oftp_tables.specs.Tables.{identity_values}
use Rattle.oftp_store.proofs.CommitLemmas.{err_passed}
use Rattle.oftp_store.proofs.CauseLemmas.{asked, query_weaker}
use Rattle.oftp_store.proofs.queries.identity.has_filed.Goals as goal

pub first_row-requires : goal.first_row-requires
first_row-requires g c = rw c.has_filed_text.ensures (filed_read c.args.kind).plain

pub returns-clause-answer : goal.returns-clause-answer
returns-clause-answer g c clean has r kept =
    let first = rw (c.has_filed_text.ensures, c.identity_values.ensures) at (c.in_ok-first.ensures.shown clean) in
    c.is_some.ensures ∙ ap is_some first.2 ∙ finds_filed c.args.kind _ _ c.args.identity.now first.0 has first.1 r kept

pub returns-in_err-first-clause-told : goal.returns-in_err-first-clause-told
returns-in_err-first-clause-told g c =
    err_passed _ c.in_err-first.field-0.0 _ c.from_residual.ensures.1 (asked g.S.Store (Filed c.args.kind) (identity_values c.args.identity.now) _ _ _ refl
    (query_weaker g.S.Store _ _ (Fits (Filed c.args.kind)) _ _ _ (rw (c.has_filed_text.ensures, c.identity_values.ensures) at c.in_err-first.ensures.told)))
