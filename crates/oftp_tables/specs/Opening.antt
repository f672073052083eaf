-- Which register a store has when it is opened.
use Rattle.std.specs.Prelude.{◌≡◌, ◌≢◌, ◌≤◌, ◌⊎◌, [], false, IsTrue}
use Rattle.sqlite.specs.Tree.{Trees}
use Rattle.sqlite.specs.View.{doubt}
use Rattle.sqlite.specs.Effect.{Database, IsDatabase}
use Rattle.sqlite.specs.Held.{Held, state}
use Rattle.sqlite.specs.State.{State, FailsToQuery, HasCleanDisk}
use Rattle.sqlite_trees.specs.declared.store.Store.{Ghosts}
use Rattle.sqlite_catalog.specs.Listing.{IsSound as IsSoundStore}
use Rattle.oftp_vfile.specs.declared.limits.Limits.{Limits}
use Rattle.oftp_register.specs.Register.{Register, empty}
use Rattle.oftp_register.specs.Soundness.{IsSound}
use Rattle.oftp_tables.specs.declared.fault.StoreFault.{StoreFault}
use Rattle.oftp_tables.specs.declared.fault.StoreFault.TheVariants.{WrongSchema}
use Rattle.oftp_tables.specs.Schema.{first_schema, no_schema}
use Rattle.oftp_tables.specs.Making.{HasFirst, HasOffice, IsAsBefore, IsEmpty, IsMakingError, about_text}
use Rattle.oftp_tables.specs.Transactions.{IsStoreFaultOf}
use Rattle.oftp_tables.specs.Migration.{FirstTables, less_texts}
use Rattle.oftp_tables.specs.Stands.{Has, IsContentOf}

-- The content of a store is that of the register: its tables, or no table at all where the register is empty.
abbrev pub IsStoreOf : Register → Trees → Type 0
IsStoreOf r db = IsContentOf db r ⊎ (IsSoundStore no_schema db × (r ≡ empty r.limits))

-- an open connection, without uncommitted changes, over a store of the register
pub record IsAt (r : Register) (s : State) : Type 0 where
  pub is_open : IsTrue s.is_open
  pub settled : s.now ≡ s.committed
  pub sound : IsDatabase s.now
  pub content : IsStoreOf r s.now.trees
  pub register : IsSound r

-- The content of a store is the tables of schema 1 of the register, whose received responses have no texts.
pub record IsFirstOf (r : Register) (db : Trees) : Type 0 where
  pub store : IsSoundStore first_schema db
  pub tables : FirstTables r db
  pub textless : less_texts r ≡ r
  pub sound : IsSound r

-- an open connection, without uncommitted changes, over such a store
pub record IsAtFirst (r : Register) (s : State) : Type 0 where
  pub is_open : IsTrue s.is_open
  pub settled : s.now ≡ s.committed
  pub sound : IsDatabase s.now
  pub content : IsFirstOf r s.now.trees

-- a crash leaves what it might have left before, unless the store was one of these
abbrev pub SparesUnless : (Database → Type 0) → State → State → Type 0
SparesUnless IsSo old new = IsTrue old.is_open → ¬ IsSo old.now → (db : Trees) → new.may_leave db → old.may_leave db

-- ---- what an opening does to a connection

-- the stores that are opened: without tables, or with the office's
abbrev pub IsOpenable : Database → Type 0
IsOpenable d = IsEmpty d ⊎ HasOffice d

-- the stores that are migrated: of schema 1, or of schema 2
abbrev pub IsMigratable : Database → Type 0
IsMigratable d = HasFirst d ⊎ HasOffice d

-- what a crash may leave of the store of a register: what it might have left before, or the register's tables
abbrev pub Leaves : (Register → State → Type 0) → State → State → Type 0
Leaves IsOf old new = (r : Register) → IsOf r old → (db : Trees) → new.may_leave db → old.may_leave db ⊎ IsContentOf db r

-- An office was opened. Its store is one that is accepted, and the office has the store's register. Of the accepted stores only one is
-- changed.
pub record Opens (Takes Changes : Database → Type 0) (IsOf : Register → State → Type 0) (limits : Limits) (old new : State) : Type 0 where
  pub clean : doubt old.is_clean ≤ doubt new.is_clean
  pub known : HasCleanDisk new → Takes old.now
  pub found : HasCleanDisk new → (r : Register) → r.limits ≡ limits → IsOf r old → Has limits r new
  pub left : HasCleanDisk new → Leaves IsOf old new
  pub spared : HasCleanDisk new → SparesUnless Changes old new

-- An office wasn't opened. The error is a wrong schema where the store isn't accepted, and then it is unchanged.
pub record Refuses (Takes Changes : Database → Type 0) (IsOf : Register → State → Type 0) (fault : StoreFault) (old new : State) : Type 0 where
  pub clean : doubt old.is_clean ≤ doubt new.is_clean
  pub autocommit : new.in_transaction ≡ false
  pub wrong : HasCleanDisk new → fault ≡ WrongSchema → ¬ Takes old.now × IsAsBefore old new
  pub left : HasCleanDisk new → Leaves IsOf old new
  pub spared : HasCleanDisk new → SparesUnless Changes old new

-- why a store wasn't opened: an error of making the tables, where it had none, or of reading `about`
pub record FailsToOpen {S : Type 0} (g : Ghosts S) (old new : Held S) (fault : StoreFault) : Type 0 where
  pub making : IsTrue (state g old).is_open → IsEmpty (state g old).now → IsStoreFaultOf (IsMakingError g old new) fault
  pub reading : ¬ IsEmpty (state g old).now → IsStoreFaultOf (FailsToQuery about_text [] (state g old) (state g new)) fault

-- why a store wasn't migrated: an error of reading `about`, where it didn't have the tables of schema 1; of those nothing is said
abbrev pub FailsToMigrate : {S : Type 0} → Ghosts S → Held S → Held S → StoreFault → Type 0
FailsToMigrate g old new fault = (state g old).now.schema ≢ first_schema → IsStoreFaultOf (FailsToQuery about_text [] (state g old) (state g new)) fault
