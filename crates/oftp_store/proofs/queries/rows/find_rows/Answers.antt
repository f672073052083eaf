use Rattle.std.proofs.Common.{◌≡◌, refl, ap, ◌∙◌, [], ◌∷◌, List, ℕ, map}
use Rattle.std.proofs.lemmas.Result.{IfOk-weaker}
use Rattle.sqlite.specs.Order.{Row, bytes, column}
use Rattle.sqlite.specs.declared.types.Value.TheVariants.{Blob}
use Rattle.oftp_tables.proofs.BindLemmas.{number_bound}
use Rattle.oftp_tables.proofs.LookupLemmas.{looks_then}
use Rattle.oftp_store.proofs.LookLemmas.{looks_failed}
use Rattle.oftp_store.proofs.RowQueryLemmas.{some_read, finds_rows}
use Rattle.oftp_store.specs.Causes.{HasBody, SomeRows}
use Rattle.oftp_store.proofs.CommitLemmas.{err_passed}
use Rattle.oftp_store.proofs.CauseLemmas.{asked, asked_by, query_failed, query_misread_in}
use Rattle.oftp_store.proofs.queries.rows.find_rows.Goals as goal

bodies_back : (bodies : List (List ℕ)) → map (λ (row : Row). bytes (column row 0)) (map (λ b. Blob b ∷ []) bodies) ≡ bodies
bodies_back [] = refl
bodies_back (b ∷ bodies) = ap (λ more. b ∷ more) (bodies_back bodies)

pub returns-in_err-rows-clause-looks : goal.returns-in_err-rows-clause-looks
returns-in_err-rows-clause-looks g c = looks_failed _ _ c.in_err-rows.field-0.0 _ (rw c.some_rows_text.ensures at c.in_err-rows.ensures.looks (some_read c.args.side).plain) c.from_residual.ensures.1

pub returns-clause-looks : goal.returns-clause-looks
returns-clause-looks g c = looks_then _ _ _ c.bodies_told.result (rw c.some_rows_text.ensures at c.in_ok-rows.ensures.looks (some_read c.args.side).plain) c.bodies_told.ensures.fails

pub returns-clause-answer : goal.returns-clause-answer
returns-clause-answer g c clean has =
    let back = number_bound c.args.no c.number.result c.number.ensures c.requires in
    let shown = rw (c.some_rows_text.ensures, c.params-to_sql.ensures, back, c.params-to_sql-2.ensures, c.params-to_sql-3.ensures) at (c.in_ok-rows.ensures.shown clean) in
    IfOk-weaker c.bodies_told.result _ _ (λ out told r kept.
    told ∙ ap (map (λ (row : Row). bytes (column row 0))) (c.as_slice.ensures.value ∙ finds_rows c.args.side _ _ c.args.no c.args.from c.args.most _ has shown r kept) ∙ bodies_back _)
    c.bodies_told.ensures.told

pub returns-in_err-rows-clause-told : goal.returns-in_err-rows-clause-told
returns-in_err-rows-clause-told g c =
    err_passed _ c.in_err-rows.field-0.0 _ c.from_residual.ensures.1 (asked g.S.Store (SomeRows c.args.side) _ _ _ _ refl
    (query_failed g.S.Store _ _ HasBody _ _ _ (rw c.some_rows_text.ensures at c.in_err-rows.ensures.error)))

pub returns-clause-told : goal.returns-clause-told
returns-clause-told g c =
    asked_by g.S.Store (SomeRows c.args.side) _ _ _ c.bodies_told.result refl
    (query_misread_in g.S.Store _ _ HasBody _ _ c.in_ok-rows.rows.items c.bodies_told.result (rw c.some_rows_text.ensures at c.in_ok-rows.ensures.shown)
    (rw c.as_slice.ensures.value at c.bodies_told.ensures.unfit))
