-- What calls do to a connection, whatever its tables are.
use Rattle.std.specs.Prelude.{◌≡◌, ◌≢◌, ◌≤◌, ◌↔◌, ◌⊎◌, ℕ, List, Result, Err, OnOk, OnErr, IsTrue, true, false}
use Rattle.sqlite.specs.declared.error.Error.{Error}
use Rattle.sqlite.specs.declared.error.Error.TheVariants.{SqliteFailure}
use Rattle.sqlite.specs.declared.error.ErrorCode.TheVariants.{OutOfMemory, TransactionState}
use Rattle.sqlite.specs.Order.{Row}
use Rattle.sqlite_trees.specs.declared.store.Store.{Ghosts}
use Rattle.sqlite.specs.Held.{Held, state}
use Rattle.sqlite.specs.Effect.{Database}
use Rattle.sqlite.specs.Tree.{Trees}
use Rattle.sqlite.specs.Schema.{Schema}
use Rattle.sqlite.specs.View.{doubt}
use Rattle.sqlite.specs.State.{State, ExecutesInside, FailsToQuery, HasCleanDisk, IsRolledBack, IsUnchanged, Shows, Survives}
use Rattle.sqlite.specs.Steps.{FailsToCommit}
pub use Rattle.sqlite.specs.State.{KeepsCommit}
use Rattle.oftp_tables.specs.declared.fault.StoreFault.{StoreFault}
use Rattle.oftp_tables.specs.declared.fault.StoreFault.TheVariants.{Memory, WrongSchema}

-- what a refused or failed call leaves
abbrev pub IsSpared : State → State → Type 0
IsSpared old new = IsUnchanged old new ⊎ IsRolledBack old new

-- one or several statements in a transaction committed nothing
abbrev pub StaysInside : State → State → Type 0
StaysInside old new = Shows old new new.now old.committed true

-- the connection is open, and what it shows is committed
abbrev pub IsCommitted : State → State → Type 0
IsCommitted old new = Shows old new new.now new.now false

-- the connection is back at its last commit, if it is open
pub record IsUndone (old new : State) : Type 0 where
  pub was_open : IsTrue new.is_open → IsTrue old.is_open
  pub undone : IsTrue new.is_open → (new.now ≡ old.committed) × (new.committed ≡ old.committed)

-- a transaction is open
pub record IsInside (s : State) : Type 0 where
  pub is_open : IsTrue s.is_open
  pub inside : s.in_transaction ≡ true

-- What statements in a transaction do to a database of this kind. If they fail, nothing is committed.
pub record Runs {T E : Type 0} (Before : Database → Type 0) (Made : Database → Database → Type 0) (old new : State) (result : Result T E) : Type 0 where
  pub done : HasCleanDisk new → IsInside old → Before old.now → OnOk result (Made old.now new.now × StaysInside old new)
  pub failed : HasCleanDisk new → IsInside old → Before old.now → OnErr result (KeepsCommit old new)
  pub survives : Survives old new (λ _. ⊥)

-- what a crash within a transaction may leave, besides what it might have left before
abbrev pub MayLeave : (Database → Database → Type 0) → Database → Trees → Type 0
MayLeave Made old db = (new : Database) × Made old new × (db ≡ new.trees)

-- What one transaction does to a database of this kind: it does this to it and commits, or leaves the last commit.
pub record Transacts {T E : Type 0} (Before : Database → Type 0) (Made : Database → Database → Type 0) (old new : State) (result : Result T E) : Type 0 where
  pub clean : doubt old.is_clean ≤ doubt new.is_clean
  pub mode : new.in_transaction ≡ false
  pub done : HasCleanDisk new → IsTrue old.is_open → Before old.now → OnOk result (Made old.now new.now × IsCommitted old new)
  pub failed : HasCleanDisk new → IsTrue old.is_open → Before old.now → OnErr result (IsUndone old new)
  pub left : HasCleanDisk new → IsTrue old.is_open → Before old.now → (db : Trees) → new.may_leave db → old.may_leave db ⊎ MayLeave Made old.now db

-- ---- the errors of SQLite

-- a statement returned this error, in a transaction or past its end
abbrev pub IsStatementError : {S : Type 0} → Ghosts S → Held S → Error → Type 0
IsStatementError {S} g new e = (e ≡ SqliteFailure TransactionState) ⊎ ((old : Held S) × (text : List ℕ) × (params : Row) × ExecutesInside 0 text params (state g old) (state g new) (Err e))

-- a statement of a transaction returned it, or the end of the transaction
abbrev pub IsTransactionError : {S : Type 0} → Ghosts S → Held S → Error → Type 0
IsTransactionError {S} g new e = (last : Held S) × (IsStatementError g last e ⊎ FailsToCommit (state g last) (state g new) e)

-- the fault of an error of which this holds
abbrev pub IsStoreFaultOf : (Error → Type 0) → StoreFault → Type 0
IsStoreFaultOf Was fault = (e : Error) × Was e × (fault ≢ WrongSchema) × ((fault ≡ Memory) ↔ (e ≡ SqliteFailure OutOfMemory))

-- What a query over the tables of a schema does, whatever its result. It only reads, and an error undoes at most an open transaction.
pub record IsQuery {T E : Type 0} (schema : Schema) (old new : State) (result : Result T E) : Type 0 where
  pub clean : doubt old.is_clean ≤ doubt new.is_clean
  pub mode : old.in_transaction ≡ false → new.in_transaction ≡ false
  pub was_open : HasCleanDisk new → IsTrue new.is_open → IsTrue old.is_open
  pub same : HasCleanDisk new → old.now.schema ≡ schema → OnOk result (IsUnchanged old new)
  pub failed : HasCleanDisk new → old.now.schema ≡ schema → OnErr result (IsSpared old new)
  pub left : HasCleanDisk new → old.now.schema ≡ schema → (db : Trees) → new.may_leave db → old.may_leave db
