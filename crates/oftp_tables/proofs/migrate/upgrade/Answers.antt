use Rattle.std.proofs.Common.{◌≡◌}
use Rattle.sqlite.specs.Effect.{Database}
use Rattle.oftp_tables.specs.Schema.{office_schema}
use Rattle.oftp_tables.specs.Making.{Creates, HasTables}
use Rattle.oftp_tables.proofs.RunLemmas.{runs_then, runs_whatever}
use Rattle.oftp_tables.specs.MigrationSteps.{AddsNotes, SetsSchema, Upgrades}
use Rattle.oftp_tables.proofs.MigrationLemmas.{notes_made, upgrades}
use Rattle.oftp_tables.proofs.migrate.upgrade.Goals as goal

pub returns-clause-runs : goal.returns-clause-runs
returns-clause-runs g c =
    let ours = λ (db : Database). db.schema ≡ office_schema in
    let numbers = c.args.numbers.now in
    let noted = notes_made numbers in
    let two =
    runs_then (HasTables 7) ours (Creates 7) (AddsNotes numbers) noted _ _ _ _ _ (λ d e first made. made.has) (λ d e f made added. (e, made, added)) c.in_ok-make_table.ensures.runs
    c.in_ok-add_notes.ensures.runs in
    runs_whatever (HasTables 7) (Upgrades numbers) _ _ _ tt
    (runs_then (HasTables 7) ours noted SetsSchema (Upgrades numbers) _ _ _ _ _ (λ d f first made. made.2.schema)
    (λ d f g made set. upgrades numbers d made.0 f g made.1 made.2 set) two c.in_ok-set_schema.ensures.runs)
