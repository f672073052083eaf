-- How the SQL of the look-ups is read, and what a query by a number returns.
use Rattle.std.proofs.Common.{◌≡◌, ◌<◌, ◌^◌, ℕ, zero, suc, ℤ, pos, w64, to_z, of_z, false, List, [], ◌∷◌, length, get_or, slice_get, option_map, Option, Some, refl, sym, ap, subst, ◌∙◌, arith}
use Rattle.std.specs.List.Sorted.{IsPermutation}
use Rattle.sqlite.specs.declared.types.Value.{Value}
use Rattle.sqlite.specs.declared.types.Value.TheVariants.{Int, Null}
use Rattle.sqlite.specs.Order.{Row, column}
use Rattle.sqlite.specs.Values.{bound_value}
use Rattle.sqlite.specs.Term.{Term, eval_all}
use Rattle.sqlite.specs.Command.{Command}
use Rattle.sqlite.specs.Command.TheVariants.{Select}
use Rattle.sqlite.specs.Effect.{Database, Reads}
use Rattle.sqlite.specs.Listing.{understood, reads_listing}
use Rattle.sqlite.specs.State.{State, Shown}
use Rattle.sqlite.proofs.Callers.{command_of, reads_as}
use Rattle.oftp_register.specs.Register.{Register}
use Rattle.oftp_tables.specs.Schema.{office_schema}
use Rattle.oftp_tables.proofs.QueryLemmas.{answers, chosen, plain_query}
use Rattle.oftp_tables.specs.Tables.{Tables, number_value, rows_from}
use Rattle.oftp_tables.proofs.BindLemmas.{number_bound}
use Rattle.oftp_tables.proofs.SplitLemmas.{by_number}
use Rattle.oftp_store.specs.Reads.{IsPlaced, IsToldOf, first_told}
use Rattle.oftp_store.specs.Tells.{FindsByNumber}
use Rattle.oftp_store.specs.Texts.{IsPlainText}
use Rattle.oftp_store.proofs.NumberLemmas.{OneRow, nowhere, one_row, somewhere}

-- the element at an index
pub got_at : {A : Type 0} (xs : List A) (i : ℕ) (x : A) → i < length xs → x ≡ get_or xs i x → slice_get xs i ≡ Some x
got_at [] i x h is = absurd (omega (arith, h))
got_at (y ∷ xs) zero x h is = ap Some (sym is)
got_at (y ∷ xs) (suc i) x h is = got_at xs i x (omega (arith, h)) is

-- a column that a row has
pub column_got : (row : Row) (at : ℕ) (v : Value) → slice_get row at ≡ Some v → column row at ≡ v
column_got [] at v is = absurd (let no_such = is in cc)
column_got (first ∷ row) zero v is = cc
column_got (first ∷ row) (suc at) v is = column_got row at v is

-- the SQL of a look-up is this command over the office's tables, and nothing else
pub record IsRead (text : List ℕ) (command : Command) : Type 0 where
  pub is : command_of (understood office_schema text) ≡ command
  pub unlisted : reads_listing office_schema text ≡ false
  pub plain : IsPlainText text

-- so the rows that it returns are the result of that command
pub read_so : (text : List ℕ) (params : Row) (old new : State) (command : Command) (rows : List Row) → IsRead text command → old.now.schema ≡ office_schema → Shown text params old new rows
    → Reads command old.now params rows
read_so text params old new command rows reading has shown = reads_as text params old new office_schema has command reading.is reading.plain reading.unlisted rows shown

-- the number of an entry is passed to a query unchanged
pub number_given : {k : ℕ} {value : ℤ} {v : Value} (text : List ℕ) (old new : State) (rows : List Row) → k < 2 ^ 63 → value ≡ pos k → v ≡ Int (to_z w64 (of_z w64 value))
    → Shown text (bound_value v ∷ []) old new rows → Shown text (number_value k ∷ []) old new rows
number_given {k} {value} text old new rows small value_is is h =
    subst (λ u. Shown text (u ∷ []) old new rows) (ap bound_value is ∙ ap Int (number_bound k value value_is small)) h

-- ---- queries by the number of an entry

-- the result of the command of such a query is that of its SQL
pub by_its_number : {A : Type 0} {text : List ℕ} {command : Command} {read : Row → A} {IsFound : Register → ℕ → Option A → Type 0} → IsRead text command
    → ((db : Database) (k : ℕ) (rows : List Row) → Reads command db (number_value k ∷ []) rows → (r : Register) → Tables r db.trees → IsFound r k (first_told read rows))
    → FindsByNumber text read IsFound
by_its_number reading finds = record {
  plain = reading.plain;
  unlisted = reading.unlisted;
  finds = λ db k rows answer. finds db k rows (subst (λ command. Reads command db (number_value k ∷ []) rows) reading.is answer);
}

-- the value in its first row is found
pub found_by_number : {A : Type 0} (text : List ℕ) (read : Row → A) (IsFound : Register → ℕ → Option A → Type 0) (old new : State) (k : ℕ) (rows : List Row) (first : Option Row) (found : Option A)
    → FindsByNumber text read IsFound → old.now.schema ≡ office_schema → Shown text (number_value k ∷ []) old new rows → first ≡ slice_get rows 0 → found ≡ option_map read first
    → (r : Register) → Tables r old.now.trees → IsFound r k found
found_by_number text read IsFound old new k rows first found by has shown is told r kept =
    let answer = reads_as text (number_value k ∷ []) old new office_schema has _ refl by.plain by.unlisted rows shown in
    subst (IsFound r k) (sym (told ∙ ap (option_map read) is)) (by.finds old.now k rows answer r kept)

-- the value of an entry, where a table has a row for each entry
pub finds_told : {X H : Type 0} (row : ℕ → X → Row) → ((n : ℕ) (x : X) → column (row n x) 0 ≡ Int (pos n)) → (tree : ℕ) (project : List Term)
    (read : Row → H) (tell : X → H) (db : Database) (xs : List X) (k : ℕ) (rows : List Row)
    → Reads (Select (record { lets = []; body = plain_query tree by_number project }) []) db (number_value k ∷ []) rows → db.trees tree ≡ rows_from row 1 xs
    → ((before : List X) (x : X) (after : List X) → IsPlaced xs k before x after → read (eval_all project ((number_value k ∷ []) ∷ row k x ∷ [])) ≡ tell x)
    → IsToldOf tell xs k (first_told read rows)
finds_told {X} row numbers tree project read tell db xs k rows answered table back =
    let params = number_value k ∷ [] in
    go (one_row row numbers xs k project rows
    (subst (λ table. IsPermutation (chosen by_number project params table) rows) table (answers db.trees tree by_number project params rows (answered.answer Null))))
  where
    go : OneRow row xs k project rows → IsToldOf tell xs k (first_told read rows)
    go (nowhere none unknown) = subst (λ rows. IsToldOf tell xs k (first_told read rows)) (sym none) unknown
    go (somewhere before x after placed one) = subst (λ rows. IsToldOf tell xs k (first_told read rows)) (sym one) (before, x, after, placed, back before x after placed)
