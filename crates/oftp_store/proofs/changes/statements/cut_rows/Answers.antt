use Rattle.oftp_tables.proofs.BindLemmas.{number_bound}
use Rattle.oftp_tables.proofs.PerformLemmas.{performs}
use Rattle.oftp_store.specs.Edits.{Makes}
use Rattle.oftp_store.specs.Texts.{cut_rows_text}
use Rattle.oftp_store.specs.declared.changes.edit.EditKind.TheVariants.{CutRows}
use Rattle.oftp_store.proofs.RowEditLemmas.{cut_params, rows_cut}
use Rattle.oftp_store.proofs.changes.statements.cut_rows.Goals as goal

pub returns-clause-performs : goal.returns-clause-performs
returns-clause-performs g c =
    let back = number_bound c.args.no c.number.result c.number.ensures c.requires in
    rw c.done.ensures (performs g.S.Store _ _ (Makes c.args.no (CutRows c.args.count)) cut_rows_text (cut_params c.args.no c.args.count) _ c.execute.ensures.ended
    (rw (c.params-to_sql.ensures, c.params-to_sql-2.ensures, back) at c.execute.ensures.runs) c.execute.ensures.survives
    (λ count has h. rows_cut _ _ c.args.no c.args.count count has h))
