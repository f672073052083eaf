use Rattle.std.proofs.Common.{◌≡◌, [], ◌∷◌}
use Rattle.oftp_tables.specs.Schema.{office_schema}
use Rattle.oftp_tables.proofs.RunLemmas.{statement_runs}
use Rattle.oftp_tables.specs.Tables.{number_value}
use Rattle.oftp_tables.specs.MigrationSteps.{SetsSchema}
use Rattle.oftp_tables.proofs.MigrationLemmas.{schema_text, sets_schema}
use Rattle.oftp_tables.proofs.migrate.set_schema.Goals as goal

pub returns-clause-runs : goal.returns-clause-runs
returns-clause-runs g c =
    statement_runs g.S.Store _ _ (λ db. db.schema ≡ office_schema) SetsSchema schema_text (number_value 1 ∷ number_value 2 ∷ []) _ _ c.execute.ensures.ended
    (rw (c.params-to_sql.ensures, c.params-to_sql-2.ensures) at c.execute.ensures.runs) c.execute.ensures.survives (λ count. sets_schema _ _ count)
