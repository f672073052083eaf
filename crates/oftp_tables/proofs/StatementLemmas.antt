-- What a statement on the row of a number does to a table.
use Rattle.std.proofs.Common.{◌≡◌, ◌/◌, ℕ, pos, List, [], ◌∷◌, ◌++◌, length, slice_get, Some, None, Ok, refl, ap, subst, ◌∙◌}
use Rattle.std.specs.List.Sorted.{IsPermutation}
use Rattle.sqlite_schema.specs.declared.program.Program.{Program}
use Rattle.sqlite.specs.declared.types.Value.TheVariants.{Null, Int}
use Rattle.sqlite.specs.Order.{Row, column}
use Rattle.sqlite.specs.Tree.{Trees, put_row, without_rowid}
use Rattle.sqlite.specs.Term.{Term, col, eval_all}
use Rattle.sqlite.specs.Command.TheVariants.{Insert, Update}
use Rattle.sqlite.specs.Source.TheVariants.{Values}
use Rattle.sqlite.specs.Effect.{value_rows}
use Rattle.sqlite.specs.Cast.{cast_row}
use Rattle.sqlite.specs.Edit.{edit_of, edited, id_in, with_rowid}
use Rattle.sqlite.specs.Rowids.TheVariants.{Chosen, Given}
use Rattle.sqlite.specs.Listing.{understood}
use Rattle.sqlite.specs.Does.{Does}
use Rattle.sqlite.specs.Table.{Table}
use Rattle.sqlite.specs.State.{State, ExecutesInside, mode_of}
use Rattle.sqlite.proofs.Callers.{IsPlain, command_of, statement_of, runs_as, one_permutation}
use Rattle.sqlite_rules.specs.Calls.{ids_of}
use Rattle.sqlite.specs.Schema.{Schema}
use Rattle.oftp_tables.specs.Schema.{office_schema}
use Rattle.oftp_tables.proofs.TermLemmas.{no_works}
use Rattle.oftp_tables.proofs.QueryLemmas.{plain_query, chosen, answers}
use Rattle.oftp_tables.proofs.WriteLemmas.{Inserted, Updated, inserts, simple, updates}
use Rattle.oftp_tables.specs.Statements.{Moves}
pub use Rattle.oftp_tables.specs.Statements.{Others}
use Rattle.oftp_tables.specs.Tables.{number_value}
use Rattle.oftp_tables.proofs.SplitLemmas.{IsSplit, by_number, chosen_one, put_between, without_between}

-- the table has one more row, with a new number
pub record PutsIn (k : ℕ) (t : Table) (source : Row) (old new : Trees) : Type 0 where
  pub rows : (lo hi : List Row) (r : Row) → IsSplit k lo hi → column r 0 ≡ Int (pos k) → cast_row t source ≡ r → old t.tree ≡ lo ++ hi → new t.tree ≡ lo ++ r ∷ hi
  pub others : Others t.tree old new

-- the row with a number is replaced
pub record Rewrites (k : ℕ) (t : Table) (terms : List Term) (more : Row) (old new : Trees) : Type 0 where
  pub rows : (lo hi : List Row) (r s : Row) → IsSplit k lo hi → column r 0 ≡ Int (pos k) → column s 0 ≡ Int (pos k)
      → cast_row t (column r 0 ∷ eval_all terms ((number_value k ∷ more) ∷ r ∷ [])) ≡ s → old t.tree ≡ lo ++ r ∷ hi → new t.tree ≡ lo ++ s ∷ hi
  pub others : Others t.tree old new

own_rowid : (k : ℕ) (rows : List Row) (r : Row) → column r 0 ≡ Int (pos k) → with_rowid Chosen rows r ≡ r
own_rowid k rows r is = rw is refl

puts_in : (k : ℕ) (t : Table) (source : Row) (old new : Trees) → Inserted office_schema (simple t) source old new → PutsIn k (simple t) source old new
puts_in k t source old new made = record {
  rows = λ lo hi r split numbered is was.
      made.rows ∙ ap (λ x. put_row (with_rowid Chosen (old t.tree) x) (old t.tree)) is ∙ ap (λ x. put_row x (old t.tree)) (own_rowid k (old t.tree) r numbered)
      ∙ ap (put_row r) was ∙ put_between k r lo hi numbered split;
  others = made.tables;
}

-- an INSERT of one row
pub inserts_one : (old new : State) (text : List ℕ) (at : ℕ) (t : Table) (terms : List Term) (width : ℕ) (params source : Row) (count : ℕ) → old.now.schema ≡ office_schema
    → command_of (understood office_schema text) ≡ Insert at (Values terms width) → IsPlain (understood office_schema text) → slice_get office_schema.tables at ≡ Some (simple t)
    → value_rows params width (length terms / width) terms ≡ source ∷ [] → ExecutesInside 0 text params old new (Ok count)
    → Moves (Inserted office_schema (simple t) source) old.now new.now
inserts_one old new text at t terms width params source count has is plain found given h =
    let w = runs_as text params old new office_schema has (Insert at (Values terms width)) is plain count h.0 in
    let statement = statement_of text (understood office_schema text) in
    let does = λ (s : Schema). Does old.step_limit (mode_of old) params (record old.now { schema = s }) statement None (Insert at (Values terms width)) (Ok (w.tally, new.now)) in
    let made = inserts (mode_of old) old.step_limit params (record { schema = office_schema; trees = old.now.trees }) statement at t terms width source (w.tally, new.now)
    found given (no_works t.tree) (subst does has w.changed) in
    record { schema = made.0; made = made.1; store = w.sound }

-- with its number
pub inserts_row : (old new : State) (text : List ℕ) (at : ℕ) (t : Table) (terms : List Term) (width : ℕ) (params source : Row) (k count : ℕ) → old.now.schema ≡ office_schema
    → command_of (understood office_schema text) ≡ Insert at (Values terms width) → IsPlain (understood office_schema text) → slice_get office_schema.tables at ≡ Some (simple t)
    → value_rows params width (length terms / width) terms ≡ source ∷ [] → ExecutesInside 0 text params old new (Ok count) → Moves (PutsIn k (simple t) source) old.now new.now
inserts_row old new text at t terms width params source k count has is plain found given h =
    let it = inserts_one old new text at t terms width params source count has is plain found given h in
    record { schema = it.schema; made = puts_in k t source old.now.trees new.now.trees it.made; store = it.store }

-- what such an UPDATE selects: the rowid, and the new row
abbrev pub shown_terms : List Term → List Term
shown_terms terms = col 1 0 ∷ col 1 0 ∷ terms

abbrev pub by_number_program : ℕ → List Term → Program
by_number_program tree terms = record { lets = []; body = plain_query tree by_number (shown_terms terms) }

-- the rows without one
abbrev taken_out : Row → List Row → List Row
taken_out r rows = without_rowid (id_in (column r 0)) rows

rewrites : (k : ℕ) (t : Table) (terms : List Term) (more : Row) (old new : Trees) (found : List Row) → Updated office_schema t found old new
    → IsPermutation (chosen by_number (shown_terms terms) (number_value k ∷ more) (old t.tree)) found → Rewrites k t terms more old new
rewrites k t terms more old new found made perm = record {
  rows = λ lo hi r s split numbered still is was.
      let params = number_value k ∷ more in
      let shown = eval_all (shown_terms terms) (params ∷ r ∷ []) in
      let one_chosen = ap (chosen by_number (shown_terms terms) params) was ∙ chosen_one (shown_terms terms) k more r lo hi numbered split in
      let one : found ≡ shown ∷ [] = one_permutation shown found (subst (λ xs. IsPermutation xs found) one_chosen perm) in
      let left : taken_out r (old t.tree) ≡ lo ++ hi = ap (λ v. without_rowid (id_in v) (old t.tree)) numbered ∙ ap (without_rowid (pos k)) was ∙ without_between k r lo hi numbered split in
      made.rows ∙ ap (λ (rs : List Row). edited old (edit_of old t (ids_of rs) Given 1 rs)) one ∙ ap (λ x. put_row x (taken_out r (old t.tree))) is
      ∙ ap (put_row s) left ∙ put_between k s lo hi still split;
  others = made.tables;
}

-- an UPDATE of the row with a number
pub updates_row : (old new : State) (text : List ℕ) (at : ℕ) (t : Table) (terms : List Term) (more : Row) (k count : ℕ) → old.now.schema ≡ office_schema
    → command_of (understood office_schema text) ≡ Update at (by_number_program t.tree terms) → IsPlain (understood office_schema text) → slice_get office_schema.tables at ≡ Some t
    → ExecutesInside 0 text (number_value k ∷ more) old new (Ok count) → Moves (Rewrites k t terms more) old.now new.now
updates_row old new text at t terms more k count has is plain found h =
    let params = number_value k ∷ more in
    let command = Update at (by_number_program t.tree terms) in
    let w = runs_as text params old new office_schema has command is plain count h.0 in
    let statement = statement_of text (understood office_schema text) in
    let does = λ (s : Schema). Does old.step_limit (mode_of old) params (record old.now { schema = s }) statement None command (Ok (w.tally, new.now)) in
    let u = updates (mode_of old) old.step_limit params (record { schema = office_schema; trees = old.now.trees }) statement at t (by_number_program t.tree terms) (w.tally, new.now)
    found (no_works t.tree) (subst does has w.changed) in
    record {
      schema = u.2;
      made = rewrites k t terms more old.now.trees new.now.trees u.0 u.3 (answers old.now.trees t.tree by_number (shown_terms terms) params u.0 (u.1.answer Null));
      store = w.sound;
    }
