-- What look-ups return of the register that the tables represent, and the response by number.
use Rattle.std.specs.Prelude.{◌≡◌, ◌==◌, ◌⊎◌, ℕ, false, List, [], ◌∷◌, map, take, drop, Option, Some, None, Result, IfOk, IfErr, find, slice_get}
use Rattle.sqlite.specs.Order.{Row}
use Rattle.sqlite.specs.Effect.{Database, Reads}
use Rattle.sqlite.specs.Listing.{reads_listing, understood}
use Rattle.sqlite.specs.State.{State, HasCleanDisk, Shown}
use Rattle.sqlite.specs.Held.{Held, state}
use Rattle.sqlite_trees.specs.declared.store.Store.{Ghosts}
use Rattle.sqlite.proofs.Callers.{command_of}
use Rattle.oftp_tables.specs.Schema.{office_schema}
use Rattle.oftp_vfile.specs.declared.limits.Limits.{Limits}
use Rattle.oftp_register.specs.declared.office.OfficeFault.{OfficeFault}
use Rattle.oftp_register.specs.declared.entries.IssuedEntry.{IssuedEntry}
use Rattle.oftp_register.specs.Offices.{IsFailure}
use Rattle.oftp_register.specs.Register.{Register}
use Rattle.oftp_register.specs.Soundness.{IsSound}
use Rattle.oftp_register.specs.LookUps.{list_issued}
use Rattle.oftp_tables.specs.Statements.{Looks}
use Rattle.oftp_tables.specs.Tables.{Tables, number_value}
use Rattle.oftp_store.specs.Reads.{first_told}
use Rattle.oftp_store.specs.Texts.{IsPlainText}
use Rattle.oftp_store.specs.declared.queries.lists.TheConstants.{PAGE}

-- a look-up, which only reads
abbrev pub OnlyLooks : {S T : Type 0} → Ghosts S → Held S → Held S → Result T OfficeFault → Type 0
OnlyLooks g old new result = Looks (state g old) (state g new) result

-- after an `Ok`, this holds of the result and of the register that the tables represent
abbrev pub TellsBetween : {T : Type 0} → (Register → T → Type 0) → State → State → Result T OfficeFault → Type 0
TellsBetween told old new result = HasCleanDisk new → old.now.schema ≡ office_schema → IfOk result (λ x. (r : Register) → Tables r old.now.trees → told r x)

abbrev pub TellsStored : {S T : Type 0} → Ghosts S → (Register → T → Type 0) → Held S → Held S → Result T OfficeFault → Type 0
TellsStored g told old new result = TellsBetween told (state g old) (state g new) result

-- the same, where that register has these limits
abbrev pub TellsLimited : {S T : Type 0} → Ghosts S → Limits → (Register → T → Type 0) → Held S → Held S → Result T OfficeFault → Type 0
TellsLimited g limits told old new result =
    HasCleanDisk (state g new) → (state g old).now.schema ≡ office_schema
    → IfOk result (λ x. (r : Register) → r.limits ≡ limits → Tables r (state g old).now.trees → told r x)

-- the same, where that register is sound
abbrev pub Tells : {S T : Type 0} → Ghosts S → (Register → T → Type 0) → Held S → Held S → Result T OfficeFault → Type 0
Tells g told = TellsStored g (λ r x. IsSound r → told r x)

-- a query returns rows, and the result says this of the first, if there is one
abbrev pub TellsFirst : {S T : Type 0} → Ghosts S → List ℕ → Row → (T → Option Row → Type 0) → Held S → Held S → Result T OfficeFault → Type 0
TellsFirst g text params Told old new result =
    HasCleanDisk (state g new) → IfOk result (λ x. (rows : List Row) × Shown text params (state g old) (state g new) rows × Told x (slice_get rows 0))

-- The SQL of a query with a number is plain and doesn't list the schema. The first row of its result says this of the entry with that
-- number.
pub record FindsByNumber {A : Type 0} (text : List ℕ) (read : Row → A) (IsFound : Register → ℕ → Option A → Type 0) : Type 0 where
  pub plain : IsPlainText text
  pub unlisted : reads_listing office_schema text ≡ false
  pub finds : (db : Database) (n : ℕ) (rows : List Row) → Reads (command_of (understood office_schema text)) db (number_value n ∷ []) rows
      → (r : Register) → Tables r db.trees → IsFound r n (first_told read rows)

-- The SQL of a page of a table is plain and doesn't list the schema. The rows of its result are read as the items behind a number.
pub record FindsPages {A : Type 0} (text : List ℕ) (told : Register → Row → A) (items : Register → List A) : Type 0 where
  pub plain : IsPlainText text
  pub unlisted : reads_listing office_schema text ≡ false
  pub finds : (db : Database) (behind : ℕ) (rows : List Row) → Reads (command_of (understood office_schema text)) db (number_value behind ∷ number_value PAGE ∷ []) rows
      → (r : Register) → Tables r db.trees → IsSound r → map (told r) rows ≡ take PAGE (drop behind (items r))

-- a step that looks up, or only reads what was returned before
abbrev pub LooksAtMost : {S T : Type 0} → Ghosts S → Held S → Held S → Result T OfficeFault → Type 0
LooksAtMost g old new result = ((new ≡ old) × IfErr result IsFailure) ⊎ OnlyLooks g old new result

-- the response to the incoming file with a number, if one was issued
abbrev pub issued_by_no : Register → ℕ → Option IssuedEntry
issued_by_no r n = find (λ (e : IssuedEntry). e.no == n) (list_issued r)

-- the list of an entry, if there is one
abbrev pub listed : {E : Type 0} → Option E → List E
listed None = []
listed (Some e) = e ∷ []
