-- Schema 1, and what a migration makes of it.
use Rattle.std.specs.Prelude.{◌≡◌, ◌<◌, [], ◌∷◌, map}
use Rattle.std.specs.List.{AllByRecursion}
use Rattle.sqlite.specs.Tree.{Trees}
use Rattle.sqlite.specs.Effect.{Database, IsDatabase}
use Rattle.oftp_register.specs.Register.{Register, Received}
use Rattle.oftp_tables.specs.Schema.{about_tree, in_file_tree, in_row_tree, issued_tree, office_schema, out_file_tree, out_row_tree, received_tree}
use Rattle.oftp_tables.specs.Tables.{HoldIncoming, HoldOutgoing, Tables, about_row_of, received_row, rows_from}

-- The tables of schema 1 represent the register. They have no creator and no text of a received response.
pub record FirstTables (r : Register) (db : Trees) : Type 0 where
  pub about : db about_tree ≡ about_row_of 1 ∷ []
  pub incoming : HoldIncoming r.incoming (db in_file_tree) (db in_row_tree) (db issued_tree)
  pub outgoing : HoldOutgoing r.outgoing (db out_file_tree) (db out_row_tree)
  pub received : db received_tree ≡ rows_from received_row 1 r.received
  pub reasons : AllByRecursion (λ (x : Received). x.reason < 100) r.received

-- the register with empty texts in the received responses
abbrev pub less_texts : Register → Register
less_texts r = record r { received = map (λ (x : Received). record x { creator = []; text = [] }) r.received }

-- The database has the tables of schema 2, which represent the same register, with those two texts empty.
pub record IsMigrated (old new : Database) : Type 0 where
  pub schema : new.schema ≡ office_schema
  pub sound : IsDatabase new
  pub tables : (r : Register) → FirstTables r old.trees → Tables (less_texts r) new.trees
