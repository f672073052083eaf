use Rattle.std.proofs.Common.{◌≡◌, take, Result, Ok}
use Rattle.sqlite.specs.Held.{state}
use Rattle.sqlite.specs.declared.error.Error.{Error}
use Rattle.oftp_tables.specs.Schema.{office_schema}
use Rattle.oftp_tables.specs.Transactions.{Runs}
use Rattle.oftp_tables.specs.MigrationSteps.{AddsNotes}
use Rattle.oftp_tables.proofs.migrate.add_notes.Given as goal

abbrev pub invariant-notes : goal.invariant-notes
invariant-notes g l =
    let none : Result (Unit {0}) Error = Ok tt in
    let made = AddsNotes (take l.number-index l.numbers) in
    record {
      same_reference : l.tx.conn.ghost_name ≡ l.fn.tx.conn.ghost_name;
      runs : Runs (λ db. db.schema ≡ office_schema) made (state g.S.Store l.fn.tx.conn.now) (state g.S.Store l.tx.conn.now) none;
    }
