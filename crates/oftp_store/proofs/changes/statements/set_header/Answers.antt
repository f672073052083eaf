use Rattle.std.proofs.Common.{◌∷◌}
use Rattle.oftp_tables.specs.Tables.{number_value}
use Rattle.oftp_tables.proofs.BindLemmas.{number_bound}
use Rattle.oftp_tables.proofs.PerformLemmas.{performs}
use Rattle.oftp_store.specs.Edits.{Makes}
use Rattle.oftp_store.specs.Texts.{set_header_text}
use Rattle.oftp_store.specs.declared.changes.edit.EditKind.TheVariants.{SetHeader}
use Rattle.oftp_store.proofs.EditLemmas.{header_columns, header_set}
use Rattle.oftp_store.proofs.changes.statements.set_header.Goals as goal

pub returns-clause-performs : goal.returns-clause-performs
returns-clause-performs g c =
    let back = number_bound c.args.no c.number.result c.number.ensures c.requires in
    let params = number_value c.args.no ∷ header_columns c.args.header.now in
    rw c.done.ensures (performs g.S.Store _ _ (Makes c.args.no (SetHeader c.args.header)) set_header_text params _ c.execute.ensures.ended
    (simp (
      c.params-to_sql.ensures,
      c.params-to_sql-2.ensures,
      c.params-to_sql-3.ensures,
      c.params-to_sql-4.ensures,
      back,
      c.format_text.ensures,
      c.text.ensures.value,
    ) at c.execute.ensures.runs) c.execute.ensures.survives
    (λ count has h. header_set _ _ c.args.no c.args.header count has h))
