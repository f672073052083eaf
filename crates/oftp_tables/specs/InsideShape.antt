-- Inside: what a catalog has for the office's tables, for the functions of src/shape.rt.
use Rattle.std.specs.Prelude.{◌≡◌, [], ◌∷◌, false, true, List, ℕ, Option, None, Some}
use Rattle.std.specs.Borrow.{Bor}
use Rattle.sqlite.specs.Table.{Table}
use Rattle.sqlite.specs.Schema.{Schema}
use Rattle.sqlite.specs.Kind.{Kind}
use Rattle.sqlite_value.specs.Keys.{plain}
use Rattle.sqlite_value.specs.declared.keys.Order.{Order}
use Rattle.sqlite_schema.specs.declared.schema.Column.{Column}
use Rattle.sqlite_schema.specs.declared.schema.Index.{Index}
use Rattle.sqlite_schema.specs.declared.schema.Reference.{Reference}
use Rattle.oftp_tables.specs.declared.wanted.Wanted.{Wanted}
use Rattle.oftp_tables.specs.declared.wanted.Wanted.TheVariants.{Numbered, Rows}
use Rattle.oftp_tables.specs.Schema.{column, in_row, keyed, reference_to}

-- no CHECK, no computed default and no AUTOINCREMENT
pub record HasNothingElse (t : Table) : Type 0 where
  pub checks : t.checks ≡ []
  pub computed : t.computed ≡ []
  pub places : t.stamps.places ≡ []
  pub terms : t.stamps.terms ≡ []
  pub formats : t.stamps.formats ≡ []
  pub counted : t.is_counted ≡ false

-- a table of this name, in this tree, with nothing else
pub record IsFramed (name : List ℕ) (tree : ℕ) (t : Table) : Type 0 where
  pub name_is : t.name ≡ name
  pub tree_is : t.tree ≡ tree
  pub nothing_else : HasNothingElse t

-- the rowid is the first column, which is the primary key
pub record IsKeyed (t : Table) : Type 0 where
  pub key : t.key ≡ Some 0
  pub primary : t.primary ≡ 0 ∷ []

-- the UNIQUE of these columns, if there is one
abbrev pub uniques_of : Option (Bor (List ℕ)) → List (List ℕ)
uniques_of None = []
uniques_of (Some places) = places.now ∷ []

-- its order
abbrev pub orders_of : Option (Bor (List ℕ)) → List Order
orders_of None = []
orders_of (Some places) = plain ∷ []

-- a table has no other UNIQUE
pub record IsUniqueOn (places : Option (Bor (List ℕ))) (t : Table) : Type 0 where
  pub uniques : t.uniques ≡ uniques_of places
  pub orders : t.orders ≡ orders_of places

-- the column at an index refers to the numbers of a table, if there is one
abbrev pub references_of : ℕ → Option (Bor (List ℕ)) → List Reference
references_of place None = []
references_of place (Some parent) = reference_to place parent.now ∷ []

-- the same table, field by field, where it has nothing else
pub record AreAlike (t u : Table) : Type 0 where
  pub name : t.name ≡ u.name
  pub tree : t.tree ≡ u.tree
  pub columns : t.columns ≡ u.columns
  pub key : t.key ≡ u.key
  pub primary : t.primary ≡ u.primary
  pub uniques : t.uniques ≡ u.uniques
  pub orders : t.orders ≡ u.orders
  pub references : t.references ≡ u.references
  pub nothing_else : HasNothingElse t

-- ---- the wanted tables, as the catalog has them

-- columns of these names and types, and then others
abbrev pub columns_then : List (Bor (List ℕ) × Kind) → List Column → List Column
columns_then [] rest = rest
columns_then (one ∷ others) rest = column one.0.now one.1 ∷ columns_then others rest

-- the columns of these parts in order
abbrev pub columns_of : List (Bor (List (Bor (List ℕ) × Kind))) → List Column
columns_of [] = []
columns_of (part ∷ parts) = columns_then part.now (columns_of parts)

-- a wanted table
abbrev pub table_of : Wanted → Table
table_of (Numbered name tree columns unique parent) = record (keyed name.now (columns_of columns.now)) {
  tree = tree;
  uniques = uniques_of unique;
  orders = orders_of unique;
  references = references_of 0 parent;
}
table_of (Rows name tree parent) = record in_row { name = name.now; tree = tree; references = reference_to 1 parent.now ∷ [] }

-- wanted tables, and then others
abbrev pub tables_then : List Wanted → List Table → List Table
tables_then [] rest = rest
tables_then (one ∷ others) rest = table_of one ∷ tables_then others rest

-- the index of a UNIQUE: its name, its tree, that of its table, and the columns
abbrev pub index_of : Bor (List ℕ) × ℕ × ℕ × Bor (List ℕ) → Index
index_of it = record { name = it.0.now; tree = it.1; table = it.2; columns = it.3.now; order = plain; is_unique = true }

abbrev pub indexes_of : List (Bor (List ℕ) × ℕ × ℕ × Bor (List ℕ)) → List Index
indexes_of [] = []
indexes_of (one ∷ others) = index_of one ∷ indexes_of others

-- a catalog with these tables and indexes, and no view
abbrev pub catalog_of : List Wanted → List Wanted → List (Bor (List ℕ) × ℕ × ℕ × Bor (List ℕ)) → Schema
catalog_of first later indexes = record { tables = tables_then first (tables_then later []); indexes = indexes_of indexes; views = [] }
