use Rattle.std.proofs.Common.{[], ◌∷◌}
use Rattle.oftp_tables.specs.Tables.{number_value}
use Rattle.oftp_tables.proofs.BindLemmas.{number_bound}
use Rattle.oftp_tables.proofs.PerformLemmas.{performs}
use Rattle.oftp_store.specs.Edits.{Makes}
use Rattle.oftp_store.specs.Texts.{set_whole_text}
use Rattle.oftp_store.specs.declared.changes.edit.EditKind.TheVariants.{SetWhole}
use Rattle.oftp_store.proofs.EditLemmas.{whole_set}
use Rattle.oftp_store.proofs.changes.statements.set_whole.Goals as goal

pub returns-clause-performs : goal.returns-clause-performs
returns-clause-performs g c =
    rw c.done.ensures (performs g.S.Store _ _ (Makes c.args.no SetWhole) set_whole_text (number_value c.args.no ∷ []) _ c.execute.ensures.ended
    (rw (c.params-to_sql.ensures, number_bound c.args.no _ c.number.ensures c.requires) at c.execute.ensures.runs) c.execute.ensures.survives
    (λ count has h. whole_set _ _ c.args.no count has h))
