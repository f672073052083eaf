-- What opening an office does to a connection, and to files.
use Rattle.std.specs.Prelude.{◌≡◌, ◌≢◌, ◌⊎◌, ⊤, IsTrue}
use Rattle.sqlite.specs.Tree.{Trees}
use Rattle.sqlite.specs.Effect.{Database, IsDatabase}
use Rattle.sqlite.specs.Held.{Held, IsNew, state}
use Rattle.sqlite.specs.State.{State, HasCleanDisk}
use Rattle.sqlite.specs.Files.{HoldsDatabase, IsNothing}
use Rattle.sqlite.specs.Recovery.{Image}
use Rattle.sqlite.specs.Start.{FindsIn}
use Rattle.sqlite_catalog.specs.Listing.{IsSound as IsSoundStore}
use Rattle.sqlite_trees.specs.declared.store.Store.{Ghosts}
use Rattle.oftp_register.specs.Register.{Register}
use Rattle.oftp_register.specs.Soundness.{IsSound}
use Rattle.oftp_tables.specs.declared.fault.StoreFault.{StoreFault}
use Rattle.oftp_tables.specs.declared.fault.StoreFault.TheVariants.{WrongSchema}
use Rattle.oftp_tables.specs.Schema.{first_schema, no_schema, office_schema}
use Rattle.oftp_tables.specs.Making.{HasFirst, IsEmpty}
use Rattle.oftp_tables.specs.Opening.{IsFirstOf, IsStoreOf}
use Rattle.oftp_tables.specs.Stands.{IsContentOf}
use Rattle.oftp_store.specs.declared.path.PathFault.{PathFault}
use Rattle.oftp_store.specs.declared.path.PathFault.TheVariants as path
use Rattle.oftp_store.specs.declared.file.PathRefused.{PathRefused}
use Rattle.oftp_store.specs.declared.file.PathRefused.TheVariants as refusal
pub use Rattle.oftp_tables.specs.Stands.{Has}
pub use Rattle.oftp_tables.specs.Opening.{IsMigratable, IsOpenable, Leaves, Opens, Refuses}

-- every database that the files may hold is one that the opening accepts
abbrev pub HoldsTaken : (Database → Type 0) → (Trees → Type 0) → Type 0
HoldsTaken Takes Holds = (d : Database) → IsDatabase d → Holds d.trees → Takes d

-- The files hold no table. Either there is no database yet: no file, an empty file, or what a crash left of a first page. Or there is a
-- database with no table, no index and no view.
abbrev pub HoldsNoTable : Image → Type 0
HoldsNoTable image = IsNothing image ⊎ ((db : Trees) × HoldsDatabase image db × IsSoundStore no_schema db)

-- while the connection is open, a crash leaves its last commit
abbrev pub LeavesCommitted : State → Type 0
LeavesCommitted s = IsTrue s.is_open → (db : Trees) → s.may_leave db → db ≡ s.committed.trees

-- ---- a refused opening

-- What an opening demands of the database in the files. It says which databases it accepts, and which of these it changes. It says which
-- it reports as foreign whatever the disk does, and which have the tables of a register. `AsEmpty` is the error for files that hold no
-- table.
pub record Demand : Type 1 where
  pub Takes : Database → Type 0
  pub Changes : Database → Type 0
  pub IsForeign : Database → Type 0
  pub IsOf : Register → Trees → Type 0
  pub AsEmpty : StoreFault → Type 0

-- to open: the office's tables, or no table, in which case they are made
abbrev pub to_open : Demand
to_open = record {
  Takes = IsOpenable;
  Changes = IsEmpty;
  IsForeign = λ d. (¬ IsEmpty d) × (d.schema ≢ office_schema);
  IsOf = λ r db. IsSound r × IsStoreOf r db;
  AsEmpty = λ fault. fault ≢ WrongSchema;
}

-- to migrate: the tables of schema 1, which become those of schema 2, or the tables of schema 2
abbrev pub to_migrate : Demand
to_migrate = record {
  Takes = IsMigratable;
  Changes = HasFirst;
  IsForeign = λ d. (d.schema ≢ first_schema) × (d.schema ≢ office_schema);
  IsOf = IsFirstOf;
  AsEmpty = λ fault. fault ≡ WrongSchema;
}

-- the connection shows this content, and a crash leaves nothing else
pub record IsAsHeld (db : Trees) (s : State) : Type 0 where
  pub now : s.now.trees ≡ db
  pub committed : s.committed.trees ≡ db
  pub left : (left : Trees) → s.may_leave left → left ≡ db

-- The office of files wasn't opened. The error is a wrong schema where their database isn't accepted, and then it is unchanged. Over files
-- without a table the error is the one of the demand. Whatever the error, a crash leaves the database that they held, or the tables of its
-- register.
pub record RefusesFiles (demand : Demand) (image : Image) (fault : StoreFault) (s : State) : Type 0 where
  pub foreign : (d : Database) → IsDatabase d → HoldsDatabase image d.trees → demand.IsForeign d → fault ≡ WrongSchema
  pub bare : HoldsNoTable image → demand.AsEmpty fault
  pub wrong : fault ≡ WrongSchema → (d : Database) → IsDatabase d → HoldsDatabase image d.trees → (¬ demand.Takes d) × IsAsHeld d.trees s
  pub left : (r : Register) (db : Trees) → HoldsDatabase image db → demand.IsOf r db → (left : Trees) → s.may_leave left → (left ≡ db) ⊎ IsContentOf left r
  pub spared : (d : Database) → IsDatabase d → HoldsDatabase image d.trees → ¬ demand.Changes d → (left : Trees) → s.may_leave left → left ≡ d.trees

-- the fault in a refusal
abbrev pub fault_told : {S : Type 0} → PathRefused S → PathFault
fault_told (refusal.Path fault) = fault
fault_told (refusal.Store refused) = path.Store refused.fault

-- the files weren't opened, and the error isn't a wrong schema
abbrev pub IsUnopened : {S : Type 0} → PathRefused S → Type 0
IsUnopened (refusal.Path fault) = fault ≢ path.Store WrongSchema
IsUnopened (refusal.Store refused) = ⊥

-- the files weren't opened, or they were and their store was refused
abbrev pub RefusesPath : {S : Type 0} → Ghosts S → Demand → Image → PathRefused S → Type 0
RefusesPath g demand image (refusal.Path fault) = fault ≢ path.Store WrongSchema
RefusesPath g demand image (refusal.Store refused) = HasCleanDisk (state g refused.conn) → RefusesFiles demand image refused.fault (state g refused.conn)

-- the store in the files was refused for what SQLite answered in the call, from the connection on that was opened over them
abbrev pub TellsPath : {S : Type 0} → Ghosts S → (Held S → Held S → StoreFault → Type 0) → Image → PathRefused S → Type 0
TellsPath {S} g Fails image (refusal.Path fault) = ⊤
TellsPath {S} g Fails image (refusal.Store refused) =
    HasCleanDisk (state g refused.conn) → refused.fault ≢ WrongSchema
    → (first : Held S) × IsNew first × (HasCleanDisk (state g first) → FindsIn image (state g first)) × Fails first refused.conn refused.fault
