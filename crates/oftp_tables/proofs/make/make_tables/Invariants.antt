use Rattle.std.proofs.Common.{◌≡◌, Result, Ok}
use Rattle.sqlite.specs.Held.{state}
use Rattle.sqlite.specs.declared.error.Error.{Error}
use Rattle.oftp_tables.specs.Transactions.{Runs}
use Rattle.oftp_tables.specs.Making.{HasEmptyTables, IsEmpty}
use Rattle.oftp_tables.proofs.make.make_tables.Given as goal

abbrev pub invariant-tables : goal.invariant-tables
invariant-tables g l =
    let none : Result (Unit {0}) Error = Ok tt in
    record {
      same_reference : l.tx.conn.ghost_name ≡ l.fn.tx.conn.ghost_name;
      runs : Runs IsEmpty (λ old new. HasEmptyTables l.at new) (state g.S.Store l.fn.tx.conn.now) (state g.S.Store l.tx.conn.now) none;
    }
