-- The steps of the migration.
use Rattle.std.specs.Prelude.{◌≡◌, ◌+◌, ◌++◌, ℕ, List, [], ◌∷◌, pos}
use Rattle.std.specs.List.{AllByRecursion}
use Rattle.sqlite.specs.declared.types.Value.TheVariants.{Null, Int, Text}
use Rattle.sqlite.specs.Order.{Row, column}
use Rattle.sqlite.specs.Tree.{Trees, put_row}
use Rattle.sqlite.specs.Effect.{Database, IsDatabase}
use Rattle.oftp_register.specs.declared.entry.ResponseKind.{ResponseKind}
use Rattle.oftp_register.specs.declared.entry.ResponseKind.TheVariants.{EndResponse, NegativeEndResponse}
use Rattle.oftp_register.specs.Register.{Register, Received}
use Rattle.oftp_tables.specs.Schema.{about_tree, note_tree, office_schema}
use Rattle.oftp_tables.specs.Tables.{Tables, about_row, about_row_of, number_value}
use Rattle.oftp_tables.specs.Statements.{Others}
use Rattle.oftp_tables.specs.Migration.{FirstTables, less_texts}

-- the numbers of the Negative End Responses among these, which are numbered from n on, as rows of one value

abbrev pub number_if_negative : ℕ → ResponseKind → List Row
number_if_negative n EndResponse = []
number_if_negative n NegativeEndResponse = (number_value n ∷ []) ∷ []

abbrev pub numbers_from : ℕ → List Received → List Row
numbers_from n [] = []
numbers_from n (x ∷ xs) = number_if_negative n x.kind ++ numbers_from (n + 1) xs

-- the numbers of the Negative End Responses in a store of schema 1
abbrev pub AreNegatives : Trees → List Row → Type 0
AreNegatives db numbers = (r : Register) → FirstTables r db → numbers ≡ numbers_from 1 r.received

-- the row of `received_note` for a number, with two empty texts
abbrev pub empty_note : Row → Row
empty_note number = column number 0 ∷ Null ∷ Text [] ∷ Text [] ∷ []

-- a row has a number
pub record IsNumber (row : Row) : Type 0 where
  pub number : ℕ
  pub is : column row 0 ≡ Int (pos number)

-- the rows with the empty notes for these numbers, one after the other
abbrev pub put_notes : List Row → List Row → List Row
put_notes [] rows = rows
put_notes (number ∷ numbers) rows = put_notes numbers (put_row (empty_note number) rows)

-- `received_note` has the empty notes for these numbers, and the other tables are unchanged
pub record AddsNotes (numbers : List Row) (old new : Database) : Type 0 where
  pub schema : new.schema ≡ office_schema
  pub notes : AllByRecursion IsNumber numbers → new.trees note_tree ≡ put_notes numbers (old.trees note_tree)
  pub others : Others note_tree old.trees new.trees

-- `about` has schema 2, and the other tables are unchanged
pub record SetsSchema (old new : Database) : Type 0 where
  pub schema : new.schema ≡ office_schema
  pub sound : IsDatabase new
  pub about : old.trees about_tree ≡ about_row_of 1 ∷ [] → new.trees about_tree ≡ about_row ∷ []
  pub others : Others about_tree old.trees new.trees

-- The tables are those of schema 2, given the numbers of the Negative End Responses.
pub record Upgrades (numbers : List Row) (old new : Database) : Type 0 where
  pub schema : new.schema ≡ office_schema
  pub sound : IsDatabase new
  pub tables : (r : Register) → FirstTables r old.trees → numbers ≡ numbers_from 1 r.received → Tables (less_texts r) new.trees
