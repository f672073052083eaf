use Rattle.std.proofs.Common.{◌∙◌, Some, option_map, ap, sym}
use Rattle.oftp_store.proofs.ReadLemmas.{found_by_number, number_given}
use Rattle.oftp_store.specs.Causes.{Fits}
use Rattle.oftp_store.proofs.CommitLemmas.{err_passed}
use Rattle.oftp_store.proofs.CauseLemmas.{asked, query_misread, query_weaker}
use Rattle.oftp_store.proofs.queries.by_number.find.Goals as goal

pub returns-in_default-clause-answer : goal.returns-in_default-clause-answer
returns-in_default-clause-answer g c clean has =
    let first = c.in_ok-row.ensures.shown clean in
    found_by_number _ g.T.ByNumber.told g.T.ByNumber.is_found _ _ c.args.no first.0 _ _ c.query.ensures.finds has
    (number_given _ _ _ _ c.requires c.number.ensures c.params-to_sql.ensures first.1) first.2 (ap (option_map g.T.ByNumber.told) (sym c.in_default.is))

pub returns-clause-answer : goal.returns-clause-answer
returns-clause-answer g c clean has =
    let first = c.in_ok-row.ensures.shown clean in
    found_by_number _ g.T.ByNumber.told g.T.ByNumber.is_found _ _ c.args.no first.0 _ _ c.query.ensures.finds has
    (number_given _ _ _ _ c.requires c.number.ensures c.params-to_sql.ensures first.1) first.2
    (ap Some c.in_ok-from_row.ensures.told ∙ ap (option_map g.T.ByNumber.told) (sym c.in-Some.is))

pub returns-in_err-row-clause-told : goal.returns-in_err-row-clause-told
returns-in_err-row-clause-told g c =
    err_passed _ c.in_err-row.field-0.0 _ c.from_residual.ensures.1 (asked g.S.Store g.T.ByNumber.asked _ _ _ _ (sym c.query.ensures.given)
    (query_weaker g.S.Store _ _ (Fits g.T.ByNumber.asked) _ _ _ (rw c.query.ensures.asked at c.in_err-row.ensures.told)))

pub returns-in_err-from_row-clause-told : goal.returns-in_err-from_row-clause-told
returns-in_err-from_row-clause-told g c =
    err_passed _ c.in_err-from_row.field-0.0 _ c.from_residual-in_err-from_row.ensures.1 (asked g.S.Store g.T.ByNumber.asked _ _ _ _ (sym c.query.ensures.given)
    (query_misread g.S.Store _ _ (Fits g.T.ByNumber.asked) _ _ _ _ _ c.in-Some.is (rw c.query.ensures.asked at c.in_ok-row.ensures.shown) c.in_err-from_row.ensures.unfit))
