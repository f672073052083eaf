use Rattle.std.proofs.Common.{◌∙◌, arith}
use Rattle.std.proofs.lemmas.Result.{IfOk-weaker}
use Rattle.sqlite.specs.Held.{state}
use Rattle.oftp_register.specs.LookUps.{file_rows}
use Rattle.oftp_tables.specs.Tables.{register_in}
use Rattle.oftp_store.proofs.CauseLemmas.{beyond_told, passed_after, where_by}
use Rattle.oftp_store.proofs.CommitLemmas.{err_passed}
use Rattle.oftp_store.proofs.FormatLemmas.{blocks_read}
use Rattle.oftp_store.proofs.LookLemmas.{left_by}
use Rattle.oftp_store.proofs.queries.units.count_blocks.Goals as goal

pub returns-clause-answer : goal.returns-clause-answer
returns-clause-answer g c clean has =
    IfOk-weaker c.add_units.result _ _ (λ units told r kept.
    let mid = left_by r _ _ _ _ _ c.in_ok-count.ensures.looks c.in_ok-last.ensures.looks clean has kept in
    told ∙ blocks_read (file_rows r c.args.side c.args.no) _ _ _ _ (c.in_ok-count.ensures.answer mid.clean has r kept) c.saturating_sub-full.ensures c.from.ensures
    (c.as_slice.ensures.value ∙ c.in_ok-last.ensures.answer clean mid.schema r mid.tables))
    c.add_units.ensures.told

pub returns-in_err-count-clause-told : goal.returns-in_err-count-clause-told
returns-in_err-count-clause-told g c =
    where_by g.S.Store _ _ _ c.from_residual.result (err_passed _ c.in_err-count.field-0.0 _ c.from_residual.ensures.1 c.in_err-count.ensures.told)

pub returns-in_err-last-clause-told : goal.returns-in_err-last-clause-told
returns-in_err-last-clause-told g c =
    where_by g.S.Store _ _ _ c.from_residual-in_err-last.result
    (passed_after g.S.Store _ _ _ _ _ _ c.in_ok-count.ensures.looks c.in_err-last.ensures.looks c.in_err-last.ensures.told c.from_residual-in_err-last.ensures.1)

pub returns-clause-told : goal.returns-clause-told
returns-clause-told g c =
    beyond_told g.S.Store _ c.args.conn.now c.find_rows.new.conn c.add_units.result _ (λ clean limits stands few beyond.
    let r = register_in limits (state g.S.Store c.args.conn.now).now.trees in
    let mid = left_by r _ _ _ _ _ c.in_ok-count.ensures.looks c.in_ok-last.ensures.looks clean stands.holds.schema stands.holds.tables in
    let read = blocks_read (file_rows r c.args.side c.args.no) _ _ _ _ (c.in_ok-count.ensures.answer mid.clean stands.holds.schema r stands.holds.tables) c.saturating_sub-full.ensures
    c.from.ensures (c.as_slice.ensures.value ∙ c.in_ok-last.ensures.answer clean mid.schema r mid.tables) in
    omega (arith, few, beyond, read)) c.add_units.ensures.beyond
