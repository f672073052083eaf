-- The tables of schema 2, as the office makes them: all STRICT, all columns NOT NULL. Schema 1 is the same without `received_note`.
use Rattle.std.specs.Prelude.{true, false, [], ◌∷◌, ◌++◌, Some, None, codes, List, ℕ, zero, suc, slice_get, unwrap_or}
use Rattle.sqlite.specs.Collation.TheVariants.{Binary}
use Rattle.sqlite.specs.declared.types.Value.TheVariants.{Null}
use Rattle.sqlite.specs.Table.{Table}
use Rattle.sqlite.specs.Schema.{Schema}
use Rattle.sqlite.specs.Kind.{Kind}
use Rattle.sqlite.specs.Kind.TheVariants.{Integer, Text, Blob}
use Rattle.sqlite.specs.Change.{created}
use Rattle.sqlite_value.specs.Keys.{plain}
use Rattle.sqlite_schema.specs.declared.schema.Column.{Column}
use Rattle.sqlite_schema.specs.declared.schema.Reference.{Reference}
use Rattle.sqlite_schema.specs.declared.schema.Action.TheVariants.{NoAction}

abbrev pub column : List ℕ → Kind → Column
column name kind = record { name = name; kind = kind; is_strict = true; not_null = true; default = Null; collation = Binary }

-- the column `no` of another table, to which the column at an index refers
abbrev pub reference_to : ℕ → List ℕ → Reference
reference_to place parent = record {
  columns = place ∷ [];
  parent = parent;
  parent_columns = codes "no" ∷ [];
  on_delete = NoAction;
  on_update = NoAction;
  is_deferred = false;
}

-- a table whose primary key is its first column, an integer, which is therefore its rowid; without UNIQUE and REFERENCES
abbrev pub keyed : List ℕ → List Column → Table
keyed name columns = record {
  name = name;
  tree = 0;
  columns = columns;
  key = Some 0;
  primary = 0 ∷ [];
  uniques = [];
  orders = [];
  checks = [];
  references = [];
  computed = [];
  stamps = record { places = []; terms = []; formats = [] };
  is_counted = false;
}

-- ---- the SQL that makes the tables

abbrev identity_text : List ℕ
identity_text = codes "dataset TEXT NOT NULL, date TEXT NOT NULL, time TEXT NOT NULL, originator TEXT NOT NULL, destination TEXT NOT NULL, "

abbrev once_text : List ℕ
once_text = codes "dataset, date, time, originator, destination)) STRICT"

abbrev pub about_text : List ℕ
about_text = codes "CREATE TABLE about (id INTEGER NOT NULL PRIMARY KEY, schema INTEGER NOT NULL) STRICT"

abbrev pub in_file_text : List ℕ
in_file_text =
    codes "CREATE TABLE in_file (no INTEGER NOT NULL PRIMARY KEY, " ++ identity_text
    ++ codes "format TEXT NOT NULL, longest INTEGER NOT NULL, description TEXT NOT NULL, state TEXT NOT NULL, UNIQUE (" ++ once_text

abbrev pub in_row_text : List ℕ
in_row_text = codes "CREATE TABLE in_row (no INTEGER NOT NULL REFERENCES in_file (no), pos INTEGER NOT NULL, body BLOB NOT NULL, PRIMARY KEY (no, pos)) STRICT"

abbrev pub out_file_text : List ℕ
out_file_text =
    codes "CREATE TABLE out_file (no INTEGER NOT NULL PRIMARY KEY, " ++ identity_text
    ++ codes "format TEXT NOT NULL, longest INTEGER NOT NULL, description TEXT NOT NULL, mark INTEGER NOT NULL, state TEXT NOT NULL, reason TEXT NOT NULL, UNIQUE (" ++ once_text

abbrev pub out_row_text : List ℕ
out_row_text = codes "CREATE TABLE out_row (no INTEGER NOT NULL REFERENCES out_file (no), pos INTEGER NOT NULL, body BLOB NOT NULL, PRIMARY KEY (no, pos)) STRICT"

abbrev pub issued_text : List ℕ
issued_text =
    codes "CREATE TABLE issued (no INTEGER NOT NULL PRIMARY KEY REFERENCES in_file (no), kind TEXT NOT NULL, reason TEXT NOT NULL, note TEXT NOT NULL, "
    ++ codes "sent INTEGER NOT NULL) STRICT"

abbrev pub received_text : List ℕ
received_text =
    codes "CREATE TABLE received (no INTEGER NOT NULL PRIMARY KEY, kind TEXT NOT NULL, " ++ identity_text ++ codes "reason TEXT NOT NULL, UNIQUE (kind, " ++ once_text

abbrev pub received_note_text : List ℕ
received_note_text = codes "CREATE TABLE received_note (no INTEGER NOT NULL PRIMARY KEY REFERENCES received (no), creator TEXT NOT NULL, note TEXT NOT NULL) STRICT"

-- ---- the tables

abbrev pub about : Table
about = keyed (codes "about") (column (codes "id") Integer ∷ column (codes "schema") Integer ∷ [])

-- the columns of an identity
abbrev pub identity_columns : List Column
identity_columns =
    column (codes "dataset") Text ∷ column (codes "date") Text ∷ column (codes "time") Text
    ∷ column (codes "originator") Text ∷ column (codes "destination") Text ∷ []

-- the columns of a file between its identity and its state
abbrev pub file_columns : List Column
file_columns = column (codes "format") Text ∷ column (codes "longest") Integer ∷ column (codes "description") Text ∷ []

-- the columns of a row of a file
abbrev pub row_columns : List Column
row_columns = column (codes "no") Integer ∷ column (codes "pos") Integer ∷ column (codes "body") Blob ∷ []

abbrev pub in_file : Table
in_file = record (keyed (codes "in_file") (column (codes "no") Integer ∷ identity_columns ++ file_columns ++ column (codes "state") Text ∷ [])) {
  uniques = (2 ∷ 3 ∷ 4 ∷ 5 ∷ 6 ∷ []) ∷ [];
  orders = plain ∷ [];
}

abbrev pub in_row : Table
in_row = record (keyed (codes "in_row") row_columns) {
  key = None;
  primary = 1 ∷ 2 ∷ [];
  uniques = (1 ∷ 2 ∷ []) ∷ [];
  orders = plain ∷ [];
  references = reference_to 1 (codes "in_file") ∷ [];
}

-- the last columns of an outgoing file
abbrev pub out_state_columns : List Column
out_state_columns = column (codes "mark") Integer ∷ column (codes "state") Text ∷ column (codes "reason") Text ∷ []

abbrev pub out_file : Table
out_file = record (keyed (codes "out_file") (column (codes "no") Integer ∷ identity_columns ++ file_columns ++ out_state_columns)) {
  uniques = (2 ∷ 3 ∷ 4 ∷ 5 ∷ 6 ∷ []) ∷ [];
  orders = plain ∷ [];
}

abbrev pub out_row : Table
out_row = record in_row { name = codes "out_row"; references = reference_to 1 (codes "out_file") ∷ [] }

abbrev pub issued_columns : List Column
issued_columns =
    column (codes "no") Integer ∷ column (codes "kind") Text ∷ column (codes "reason") Text
    ∷ column (codes "note") Text ∷ column (codes "sent") Integer ∷ []

abbrev pub issued : Table
issued = record (keyed (codes "issued") issued_columns) { references = reference_to 0 (codes "in_file") ∷ [] }

abbrev pub received : Table
received = record (keyed (codes "received") (column (codes "no") Integer ∷ column (codes "kind") Text ∷ identity_columns ++ column (codes "reason") Text ∷ [])) {
  uniques = (2 ∷ 3 ∷ 4 ∷ 5 ∷ 6 ∷ 7 ∷ []) ∷ [];
  orders = plain ∷ [];
}

abbrev pub received_note : Table
received_note = record (keyed (codes "received_note") (column (codes "no") Integer ∷ column (codes "creator") Text ∷ column (codes "note") Text ∷ [])) {
  references = reference_to 0 (codes "received") ∷ [];
}

-- ---- the schemas: the tables in the order in which they are made

-- the tables of schema 2
abbrev pub tables : List Table
tables = about ∷ in_file ∷ in_row ∷ out_file ∷ out_row ∷ issued ∷ received ∷ received_note ∷ []

abbrev pub texts : List (List ℕ)
texts = about_text ∷ in_file_text ∷ in_row_text ∷ out_file_text ∷ out_row_text ∷ issued_text ∷ received_text ∷ received_note_text ∷ []

abbrev pub table_at : ℕ → Table
table_at n = unwrap_or (slice_get tables n) about

abbrev pub text_at : ℕ → List ℕ
text_at n = unwrap_or (slice_get texts n) []

abbrev pub no_schema : Schema
no_schema = record { tables = []; indexes = []; views = [] }

-- the schema after the first n tables
abbrev pub schema_at : ℕ → Schema
schema_at zero = no_schema
schema_at (suc n) = created (schema_at n) (table_at n)

-- schema 1, which only `migrate` reads
abbrev pub first_schema : Schema
first_schema = schema_at 7

-- schema 2
abbrev pub office_schema : Schema
office_schema = schema_at 8

-- the trees of the tables; a UNIQUE takes one more

abbrev pub about_tree : ℕ
about_tree = 0

abbrev pub in_file_tree : ℕ
in_file_tree = 1

abbrev pub in_row_tree : ℕ
in_row_tree = 3

abbrev pub out_file_tree : ℕ
out_file_tree = 5

abbrev pub out_row_tree : ℕ
out_row_tree = 7

abbrev pub issued_tree : ℕ
issued_tree = 9

abbrev pub received_tree : ℕ
received_tree = 10

abbrev pub note_tree : ℕ
note_tree = 12
