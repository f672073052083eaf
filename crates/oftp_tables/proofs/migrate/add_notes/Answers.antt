use Rattle.std.proofs.Common.{◌≡◌, ◌∙◌, ◌+◌, [], ◌∷◌, take, refl}
use Rattle.sqlite.specs.Effect.{Database}
use Rattle.oftp_tables.specs.Schema.{office_schema}
use Rattle.oftp_tables.proofs.RunLemmas.{nothing_runs, runs_then, runs_whatever}
use Rattle.oftp_tables.specs.MigrationSteps.{AddsNotes}
use Rattle.oftp_tables.proofs.MigrationLemmas.{no_notes, next_note}
use Rattle.oftp_tables.proofs.migrate.add_notes.Goals as goal

pub notes-init : goal.notes-init
notes-init g c = record { same_reference = refl; runs = nothing_runs (λ db. db.schema ≡ office_schema) (AddsNotes []) _ _ no_notes }

pub notes-preserved : goal.notes-preserved
notes-preserved g c =
    let ours = λ (db : Database). db.schema ≡ office_schema in
    let numbers = c.args.numbers.now in
    let at = c.notes.number-index in
    let made = AddsNotes (take (at + 1) numbers) in
    record {
      same_reference = c.in_ok-add_note.ensures.same_reference ∙ c.notes.invariant.same_reference;
      runs = runs_whatever ours made _ _ _ tt
          (runs_then ours ours (AddsNotes (take at numbers)) (AddsNotes (c.number-item.result ∷ [])) made _ _ _ tt _ (λ d e was made. made.schema)
          (next_note numbers at c.number-item.result c.notes-test.true c.number-item.is) c.notes.invariant.runs c.in_ok-add_note.ensures.runs);
    }
