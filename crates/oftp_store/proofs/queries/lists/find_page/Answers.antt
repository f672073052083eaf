use Rattle.std.proofs.Common.{arith, sym}
use Rattle.std.proofs.lemmas.Result.{IfOk-weaker}
use Rattle.sqlite.specs.Order.{column}
use Rattle.oftp_tables.specs.Tables.{number_in}
use Rattle.oftp_tables.proofs.BindLemmas.{number_bound}
use Rattle.oftp_store.specs.Causes.{Fits}
use Rattle.oftp_store.proofs.CauseLemmas.{asked_by, query_failed_by}
use Rattle.oftp_store.proofs.ListPageLemmas.{page_found}
use Rattle.oftp_store.proofs.queries.lists.find_page.Goals as goal

pub returns-clause-looks : goal.returns-clause-looks
returns-clause-looks g c = c.ask.ensures.looks c.page_text.ensures.finds.plain

pub returns-clause-shown : goal.returns-clause-shown
returns-clause-shown g c clean =
    let behind = number_bound c.args.behind c.number.result c.number.ensures c.requires in
    let most = number_bound 128 c.number-2.result c.number-2.ensures (omega arith) in
    rw (c.params-to_sql.ensures, behind, c.params-to_sql-2.ensures, most, c.page_text.ensures.asked) at (c.ask.ensures.shown clean)

pub returns-clause-answer : goal.returns-clause-answer
returns-clause-answer g c clean has =
    let behind = number_bound c.args.behind c.number.result c.number.ensures c.requires in
    let most = number_bound 128 c.number-2.result c.number-2.ensures (omega arith) in
    let shown = rw (c.params-to_sql.ensures, behind, c.params-to_sql-2.ensures, most) at (c.ask.ensures.shown clean) in
    IfOk-weaker c.ask.result _ _ (λ rows found r kept sound. page_found c.page_text.result.now _ _ _ _ c.args.behind _ c.page_text.ensures.finds has found r kept sound) shown

pub returns-clause-numbers : goal.returns-clause-numbers
returns-clause-numbers g c clean has =
    let behind = number_bound c.args.behind c.number.result c.number.ensures c.requires in
    let most = number_bound 128 c.number-2.result c.number-2.ensures (omega arith) in
    let shown = rw (c.params-to_sql.ensures, behind, c.params-to_sql-2.ensures, most) at (c.ask.ensures.shown clean) in
    IfOk-weaker c.ask.result _ _ (λ rows found r kept sound.
    page_found c.page_text.result.now (λ r row. number_in (column row g.E.Listed.NUMBER)) _ _ _ c.args.behind _ c.page_text.ensures.numbers has found r kept sound) shown

pub returns-clause-plain : goal.returns-clause-plain
returns-clause-plain g c = rw c.page_text.ensures.asked at c.page_text.ensures.finds.plain

pub returns-clause-told : goal.returns-clause-told
returns-clause-told g c =
    asked_by g.S.Store g.E.Listed.asked _ _ _ c.ask.result (sym c.page_text.ensures.given)
    (query_failed_by g.S.Store _ _ (Fits g.E.Listed.asked) _ _ c.ask.result (rw c.page_text.ensures.asked at c.ask.ensures.error))
