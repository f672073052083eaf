use Rattle.std.proofs.Common.{◌≡◌, ◌+◌, take, Result, Ok}
use Rattle.sqlite.specs.declared.error.Error.{Error}
use Rattle.oftp_tables.specs.Statements.{Performs}
use Rattle.oftp_store.specs.Edits.{MakesRows}
use Rattle.oftp_store.proofs.changes.statements.add_rows.Given as goal

abbrev pub invariant-rows : goal.invariant-rows
invariant-rows g l =
    let none : Result (Unit {0}) Error = Ok tt in
    record {
      same_reference : l.tx.conn.ghost_name ≡ l.fn.tx.conn.ghost_name;
      performs : Performs (MakesRows l.fn.side l.no l.from (take l.row-index l.rows)) g.S.Store l.fn.tx.conn.now l.tx.conn.now none;
      progress : l.at ≡ l.from + l.row-index;
    }
