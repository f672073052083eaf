-- What the statements do to a connection over the office's tables.
use Rattle.std.specs.Prelude.{◌≡◌, ◌≢◌, ◌≤◌, ◌↔◌, ℕ, Result, Ok, Err, OnOk, OnErr, IfErr, false}
use Rattle.std.specs.List.{AllByRecursion}
use Rattle.sqlite.specs.declared.error.Error.{Error}
use Rattle.sqlite.specs.declared.error.Error.TheVariants.{SqliteFailure}
use Rattle.sqlite.specs.declared.error.ErrorCode.TheVariants.{OutOfMemory}
use Rattle.sqlite.specs.Table.{Table}
use Rattle.sqlite.specs.View.{doubt}
use Rattle.sqlite.specs.Tree.{Trees}
use Rattle.sqlite.specs.Effect.{Database, IsDatabase}
use Rattle.sqlite.specs.State.{State, HasCleanDisk, IsUnchanged}
use Rattle.sqlite.specs.Held.{Held, state}
use Rattle.sqlite_trees.specs.declared.store.Store.{Ghosts}
use Rattle.oftp_tables.specs.Schema.{office_schema}
use Rattle.oftp_tables.specs.Transactions.{IsSpared, IsStatementError, Runs}
use Rattle.oftp_register.specs.declared.office.OfficeFault.{OfficeFault}
use Rattle.oftp_register.specs.declared.office.OfficeFault.TheVariants.{Memory}
use Rattle.oftp_register.specs.Offices.{IsFailure}

-- the database has the office's tables
pub record IsOffice (db : Database) : Type 0 where
  pub schema : db.schema ≡ office_schema
  pub store : IsDatabase db

-- this was done to the office's tables
pub record Moves (Made : Trees → Trees → Type 0) (old new : Database) : Type 0 where
  pub schema : new.schema ≡ office_schema
  pub made : Made old.trees new.trees
  pub store : IsDatabase new

-- all tables except the one in this tree are unchanged
abbrev pub Others : ℕ → Trees → Trees → Type 0
Others tree old new = AllByRecursion (λ (t : Table). t.tree ≢ tree → new t.tree ≡ old t.tree) office_schema.tables

-- What statements in a transaction do to the office's tables. An error is one of SQLite.
pub record Performs {S T : Type 0} (Made : Trees → Trees → Type 0) (g : Ghosts S) (old new : Held S) (result : Result T Error) : Type 0 where
  pub runs : Runs IsOffice (Moves Made) (state g old) (state g new) result
  pub told : HasCleanDisk (state g new) → IfErr result (IsStatementError g new)

-- the outcome of a statement, without the number of rows that it changed
abbrev pub uncounted : Result ℕ Error → Result (Unit {0}) Error
uncounted (Ok count) = Ok tt
uncounted (Err e) = Err e

-- What a look-up does, whatever its result. It only reads, and an error undoes at most an open transaction.
pub record Looks {T : Type 0} (old new : State) (result : Result T OfficeFault) : Type 0 where
  pub clean : doubt old.is_clean ≤ doubt new.is_clean
  pub mode : old.in_transaction ≡ false → new.in_transaction ≡ false
  pub same : HasCleanDisk new → old.now.schema ≡ office_schema → OnOk result (IsUnchanged old new)
  pub failed : HasCleanDisk new → old.now.schema ≡ office_schema → OnErr result (IsSpared old new)
  pub left : HasCleanDisk new → old.now.schema ≡ office_schema → (db : Trees) → new.may_leave db → old.may_leave db
  pub unrefused : IfErr result IsFailure

-- the office's error for an error of which this holds
abbrev pub IsFaultOf : (Error → Type 0) → OfficeFault → Type 0
IsFaultOf Was fault = (e : Error) × Was e × IsFailure fault × ((fault ≡ Memory) ↔ (e ≡ SqliteFailure OutOfMemory))
