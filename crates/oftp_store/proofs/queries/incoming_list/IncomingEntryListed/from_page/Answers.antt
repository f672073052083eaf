use Rattle.std.proofs.Common.{◌∙◌, Some, length, inr, ap}
use Rattle.std.proofs.lemmas.Result.{IfOk-weaker}
use Rattle.oftp_register.specs.declared.entries.Side.TheVariants as side
use Rattle.oftp_register.specs.LookUps.{file_rows}
use Rattle.oftp_store.specs.Reads.{paged_file}
use Rattle.oftp_tables.proofs.LookupLemmas.{looks_then}
use Rattle.oftp_store.proofs.LookLemmas.{looks_failed}
use Rattle.oftp_store.specs.Causes.{PageIn}
use Rattle.oftp_store.proofs.CauseLemmas.{row_asked, row_misread}
use Rattle.oftp_store.proofs.queries.incoming_list.IncomingEntryListed.from_page.Goals as goal

pub returns-in_err-rows-clause-looks : goal.returns-in_err-rows-clause-looks
returns-in_err-rows-clause-looks g c = inr (looks_failed _ _ c.in_err-rows.field-0.0 _ c.in_err-rows.ensures.looks c.from_residual.ensures.1)

pub returns-clause-looks : goal.returns-clause-looks
returns-clause-looks g c = inr (looks_then _ _ c.in_ok-rows.rows c.file_in.result c.in_ok-rows.ensures.looks c.file_in.ensures.fails)

pub returns-clause-answer : goal.returns-clause-answer
returns-clause-answer g c clean has =
    let row = c.args.row.now in
    IfOk-weaker c.file_in.result _ _
    (λ found told r kept sound no_is.
    told no_is ∙ ap (λ n. Some (paged_file row n)) (c.in_ok-rows.ensures.answer clean has r kept ∙ ap (λ n. length (file_rows r side.Incoming n)) no_is))
    c.file_in.ensures.told

pub returns-in_err-rows-clause-told : goal.returns-in_err-rows-clause-told
returns-in_err-rows-clause-told g c no_is =
    row_asked g.S.Store PageIn _ c.args.row.now c.args.conn.now c.count_rows.new.conn c.in_err-rows.field-0.0 c.from_residual.result c.in_err-rows.ensures.told c.from_residual.ensures.1

pub returns-clause-told : goal.returns-clause-told
returns-clause-told g c no_is =
    row_misread g.S.Store PageIn _ c.args.row.now c.args.conn.now c.count_rows.new.conn ⊥ c.in_ok-rows.rows c.file_in.result c.in_ok-rows.ensures.looks (λ clean limits stands at beyond. beyond)
    c.file_in.ensures.unfit
