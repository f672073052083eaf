use Rattle.std.proofs.Common.{◌≡◌, take, Result, Ok}
use Rattle.sqlite.specs.declared.error.Error.{Error}
use Rattle.oftp_tables.specs.Statements.{Performs}
use Rattle.oftp_store.specs.Edits.{MakesAll}
use Rattle.oftp_store.proofs.changes.transaction.make_edits.Given as goal

abbrev pub invariant-edits : goal.invariant-edits
invariant-edits g l =
    let none : Result (Unit {0}) Error = Ok tt in
    record {
      same_reference : l.tx.conn.ghost_name ≡ l.initial.tx.conn.ghost_name;
      performs : Performs (MakesAll (take l.edit-index l.edits)) g.S.Store l.initial.tx.conn.now l.tx.conn.now none;
    }
