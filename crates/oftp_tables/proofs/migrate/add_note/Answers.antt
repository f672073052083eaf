use Rattle.std.proofs.Common.{◌≡◌, [], ◌∷◌}
use Rattle.sqlite.specs.Order.{column}
use Rattle.sqlite.specs.Values.{bound_value}
use Rattle.oftp_tables.specs.Schema.{office_schema}
use Rattle.oftp_tables.proofs.RunLemmas.{statement_runs}
use Rattle.oftp_tables.specs.MigrationSteps.{AddsNotes}
use Rattle.oftp_tables.proofs.MigrationLemmas.{adds_note, note_text}
use Rattle.oftp_tables.proofs.migrate.add_note.Goals as goal

pub returns-clause-runs : goal.returns-clause-runs
returns-clause-runs g c =
    let number = c.args.number.now in
    statement_runs g.S.Store _ _ (λ db. db.schema ≡ office_schema) (AddsNotes (number ∷ [])) note_text (bound_value (column number 0) ∷ []) _ _ c.execute.ensures.ended
    (rw c.in_ok-get_ref.ensures.ok.1 at c.execute.ensures.runs) c.execute.ensures.survives (λ count. adds_note _ _ number count)
