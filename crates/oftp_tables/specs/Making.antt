-- How the tables are made.
use Rattle.std.specs.Prelude.{◌≡◌, ◌⊎◌, ◌+◌, ◌<◌, ℕ, List, [], ◌∷◌, Err, codes, map, pos, true}
use Rattle.std.specs.List.{AllByRecursion}
use Rattle.sqlite.specs.declared.error.Error.{Error}
use Rattle.sqlite.specs.declared.types.Value.TheVariants.{Int}
use Rattle.sqlite.specs.Order.{Row, column}
use Rattle.sqlite.specs.Table.{Table}
use Rattle.sqlite.specs.Tree.{Trees}
use Rattle.sqlite.specs.Schema.{Schema}
use Rattle.sqlite.specs.Change.{next_tree, KeepsRows}
use Rattle.sqlite.specs.Effect.{Database, IsDatabase}
use Rattle.sqlite.specs.State.{State, ExecutesInside, Survives}
use Rattle.sqlite.specs.Steps.{FailsToCommit}
use Rattle.sqlite.specs.Held.{Held, state}
use Rattle.sqlite_trees.specs.declared.store.Store.{Ghosts}
use Rattle.oftp_tables.specs.Schema.{about_tree, first_schema, in_file_tree, in_row_tree, issued_tree, no_schema, note_tree, office_schema, out_file_tree, out_row_tree, received_tree, schema_at, text_at}
use Rattle.oftp_tables.specs.Tables.{about_row}
use Rattle.oftp_tables.specs.Transactions.{IsInside}

-- the first n tables exist
abbrev pub HasTables : ℕ → Database → Type 0
HasTables n db = db.schema ≡ schema_at n

-- the next table exists too, without rows, and the rows of the others are unchanged
pub record Creates (n : ℕ) (old new : Database) : Type 0 where
  pub has : HasTables (n + 1) new
  pub sound : IsDatabase new
  pub empty : new.trees (next_tree (schema_at n)) ≡ []
  pub others : KeepsRows (schema_at n).tables old.trees new.trees

-- the first n tables exist, without rows
pub record HasEmptyTables (n : ℕ) (db : Database) : Type 0 where
  pub has : HasTables n db
  pub empty : AllByRecursion (λ (t : Table). db.trees t.tree ≡ []) (schema_at n).tables

-- `about` has schema 2, and the other tables have no row
pub record AreNew (db : Trees) : Type 0 where
  pub about : db about_tree ≡ about_row ∷ []
  pub in_files : db in_file_tree ≡ []
  pub in_rows : db in_row_tree ≡ []
  pub out_files : db out_file_tree ≡ []
  pub out_rows : db out_row_tree ≡ []
  pub issued : db issued_tree ≡ []
  pub received : db received_tree ≡ []
  pub notes : db note_tree ≡ []

-- the database has the office's tables, without files and responses
pub record IsNew (db : Database) : Type 0 where
  pub schema : db.schema ≡ office_schema
  pub sound : IsDatabase db
  pub tables : AreNew db.trees

-- the database has no table, no index and no view
abbrev pub IsEmpty : Database → Type 0
IsEmpty db = db.schema ≡ no_schema

-- ---- what a store holds

-- the schemas that have the table `about` as the office makes it
abbrev pub HasAbout : Schema → Type 0
HasAbout schema = (schema ≡ first_schema) ⊎ (schema ≡ office_schema)

-- the SQL that reads `about`
abbrev pub about_text : List ℕ
about_text = codes "SELECT id, schema FROM about"

-- the rows of `about`: its columns `id` and `schema`
abbrev pub about_told : Trees → List Row
about_told db = map (λ row. column row 0 ∷ column row 2 ∷ []) (db about_tree)

-- the one row with id 1 and this schema
abbrev pub about_rows : ℕ → List Row
about_rows schema = (Int (pos 1) ∷ Int (pos schema) ∷ []) ∷ []

-- just the office's tables, and `about` has just schema 2
pub record HasOffice (db : Database) : Type 0 where
  pub schema : db.schema ≡ office_schema
  pub about : about_told db.trees ≡ about_rows 2

-- the same for schema 1
pub record HasFirst (db : Database) : Type 0 where
  pub schema : db.schema ≡ first_schema
  pub about : about_told db.trees ≡ about_rows 1

-- nothing was changed
pub record IsAsBefore (old new : State) : Type 0 where
  pub now : new.now ≡ old.now
  pub committed : new.committed ≡ old.committed

-- ---- why the tables weren't made

-- the SQL that writes the row of `about`
abbrev pub add_about_text : List ℕ
add_about_text = codes "INSERT INTO about (id, schema) VALUES (1, 2)"

-- The making came so far in its transaction, and then this statement returned this error. It is the one that makes the next table, or that
-- writes the row of `about`.
pub record FailsToMake {S : Type 0} (g : Ghosts S) (old new : Held S) (e : Error) : Type 0 where
  pub last : Held S
  pub before : Survives (state g old) (state g last) (λ _. ⊥)
  pub inside : IsInside (state g last)
  pub statement : ((at : ℕ) × (at < 8) × HasEmptyTables at (state g last).now × ExecutesInside 0 (text_at at) [] (state g last) (state g new) (Err e))
      ⊎ (HasEmptyTables 8 (state g last).now × ExecutesInside 0 add_about_text [] (state g last) (state g new) (Err e))

-- the tables were made in the transaction, and its commit returned this error
pub record FailsToKeep {S : Type 0} (g : Ghosts S) (old new : Held S) (e : Error) : Type 0 where
  pub last : Held S
  pub before : Survives (state g old) (state g last) (λ _. ⊥)
  pub inside : IsInside (state g last)
  pub made : IsNew (state g last).now
  pub commit : FailsToCommit (state g last) (state g new) e

-- the transaction that makes the tables returned this error, at a statement, after which it was undone, or at its commit
abbrev pub IsMakingError : {S : Type 0} → Ghosts S → Held S → Held S → Error → Type 0
IsMakingError {S} g old new e =
    ((failed : Held S) × FailsToMake g (record old { in_transaction = true }) failed e × Survives (state g failed) (state g new) (λ _. ⊥))
    ⊎ FailsToKeep g (record old { in_transaction = true }) new e
