use Rattle.std.proofs.Common.{subst, refl}
use Rattle.std.proofs.lemmas.Result.{IfOk-weaker}
use Rattle.oftp_store.specs.Reads.{TellsCount}
use Rattle.oftp_store.proofs.ReadLemmas.{number_given}
use Rattle.oftp_store.proofs.RowQueryLemmas.{count_is_told, finds_last, last_read}
use Rattle.oftp_store.specs.Causes.{Fits, LastRow}
use Rattle.oftp_store.proofs.CommitLemmas.{err_passed}
use Rattle.oftp_store.proofs.CauseLemmas.{asked, asked_by, query_misread_by, query_weaker}
use Rattle.oftp_store.proofs.queries.rows.count_rows.Goals as goal

pub first_row-requires : goal.first_row-requires
first_row-requires g c = rw c.last_row_text.ensures (last_read c.args.side).plain

pub returns-clause-answer : goal.returns-clause-answer
returns-clause-answer g c clean has =
    let last = rw c.last_row_text.ensures at (c.in_ok-last.ensures.shown clean) in
    let shown = number_given _ _ _ _ c.requires c.number.ensures c.params-to_sql.ensures last.1 in
    IfOk-weaker c.count_to.result _ _ (λ count told r kept.
    count_is_told _ count _ (finds_last c.args.side _ _ c.args.no last.0 has shown r kept) (subst (λ row. TellsCount row count) last.2 told)) c.count_to.ensures.told

pub returns-in_err-last-clause-told : goal.returns-in_err-last-clause-told
returns-in_err-last-clause-told g c =
    err_passed _ c.in_err-last.field-0.0 _ c.from_residual.ensures.1 (asked g.S.Store (LastRow c.args.side) _ _ _ _ refl
    (query_weaker g.S.Store _ _ (Fits (LastRow c.args.side)) _ _ _ (rw c.last_row_text.ensures at c.in_err-last.ensures.told)))

pub returns-clause-told : goal.returns-clause-told
returns-clause-told g c =
    asked_by g.S.Store (LastRow c.args.side) _ _ _ c.count_to.result refl (query_misread_by g.S.Store _ _ (Fits (LastRow c.args.side)) _ _ c.in_ok-last.last c.count_to.result
    (rw c.last_row_text.ensures at c.in_ok-last.ensures.shown) c.count_to.ensures.unfit)
