-- When an office over a database is open and has its register.
use Rattle.std.specs.Prelude.{◌≡◌, false, IsTrue}
use Rattle.sqlite.specs.Tree.{Trees}
use Rattle.sqlite.specs.Effect.{Database, IsDatabase}
use Rattle.sqlite.specs.State.{State}
use Rattle.sqlite_catalog.specs.Listing.{IsSound as IsSoundStore}
use Rattle.oftp_vfile.specs.declared.limits.Limits.{Limits}
use Rattle.oftp_register.specs.Register.{Register}
use Rattle.oftp_register.specs.Soundness.{IsSound}
use Rattle.oftp_tables.specs.Schema.{office_schema}
use Rattle.oftp_tables.specs.Tables.{Tables, register_in}

-- the content of a store represents a register
pub record IsContentOf (db : Trees) (r : Register) : Type 0 where
  pub store : IsSoundStore office_schema db
  pub tables : Tables r db
  pub sound : IsSound r

-- the database has the office's tables, and they represent the register that is read from them
pub record Holds (limits : Limits) (d : Database) : Type 0 where
  pub schema : d.schema ≡ office_schema
  pub store : IsDatabase d
  pub tables : Tables (register_in limits d.trees) d.trees
  pub sound : IsSound (register_in limits d.trees)

-- the connection is open, outside a transaction, and its tables represent a register
pub record Stands (limits : Limits) (s : State) : Type 0 where
  pub is_open : IsTrue s.is_open
  pub autocommit : s.in_transaction ≡ false
  pub settled : s.now ≡ s.committed
  pub holds : Holds limits s.now

-- an office with these limits over the connection has the register
abbrev pub Has : Limits → Register → State → Type 0
Has limits r s = Stands limits s × (register_in limits s.now.trees ≡ r)
