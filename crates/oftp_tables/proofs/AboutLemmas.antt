-- What the query on `about` returns.
use Rattle.std.proofs.Common.{◌≡◌, false, ℕ, List, [], ◌∷◌, length, map, codes, inl, inr, refl, sym, ap, subst}
use Rattle.std.specs.List.Sorted.{IsPermutation}
use Rattle.std.proofs.lemmas.List.Sorted.{IsPermutation-sym}
use Rattle.sqlite_tied.specs.Compute.{everything}
use Rattle.sqlite.specs.declared.types.Value.TheVariants.{Null}
use Rattle.sqlite.specs.Order.{Row, column}
use Rattle.sqlite.specs.Term.{Term, col}
use Rattle.sqlite.specs.Tree.{Trees}
use Rattle.sqlite.specs.Schema.{Schema}
use Rattle.sqlite.specs.Command.{Command}
use Rattle.sqlite.specs.Command.TheVariants.{Select}
use Rattle.sqlite.specs.Listing.{understood, reads_listing}
use Rattle.sqlite.specs.State.{State, CommitsShowing, FailsToQuery, HasCleanDisk, IsUnchanged, Shown, Survives}
use Rattle.sqlite.proofs.Callers.{one_permutation, reads_as}
use Rattle.oftp_tables.specs.Schema.{about_tree, first_schema, no_schema, office_schema}
use Rattle.oftp_tables.specs.Making.{HasAbout, about_rows, about_text, about_told}
use Rattle.oftp_tables.specs.Transactions.{IsSpared}
use Rattle.oftp_tables.proofs.ConnectionLemmas.{query_leaves, spared_query, unchanged_query}
use Rattle.sqlite.specs.declared.error.Error.{Error}
use Rattle.oftp_tables.proofs.QueryLemmas.{plain_query, chosen, answers}
use Rattle.oftp_tables.proofs.SqlLemmas.{IsRead, is_read}

abbrev project : List Term
project = col 1 0 ∷ col 1 2 ∷ []

abbrev select : Command
select = Select (record { lets = []; body = plain_query about_tree [] project }) (codes "id" ∷ codes "schema" ∷ [])

-- what the SQL means over the tables of a schema
record IsMeant (schema : Schema) : Type 0 where
  read : IsRead about_text select (understood schema about_text)
  unlisted : reads_listing schema about_text ≡ false

meant_first : IsMeant first_schema
unfolding understood everything
meant_first = record { read = is_read _ _ _ (refl, refl, refl, refl); unlisted = refl }

meant_second : IsMeant office_schema
unfolding understood everything
meant_second = record { read = is_read _ _ _ (refl, refl, refl, refl); unlisted = refl }

meant : (schema : Schema) → HasAbout schema → IsMeant schema
meant schema (inl is) = subst IsMeant (sym is) meant_first
meant schema (inr is) = subst IsMeant (sym is) meant_second

all_chosen : (rows : List Row) → chosen [] project [] rows ≡ map (λ row. column row 0 ∷ column row 2 ∷ []) rows
all_chosen [] = refl
all_chosen (row ∷ rows) = ap (λ (more : List Row). (column row 0 ∷ column row 2 ∷ []) ∷ more) (all_chosen rows)

-- the result is right where the table exists
pub record IsTold (schema : ℕ) (db : Trees) (rows : List Row) : Type 0 where
  pub there : rows ≡ about_rows schema → about_told db ≡ about_rows schema
  pub back : about_told db ≡ about_rows schema → rows ≡ about_rows schema

finds_about : (schema : ℕ) (old new : State) (rows : List Row) → HasAbout old.now.schema → Shown about_text [] old new rows → IsTold schema old.now.trees rows
finds_about schema old new rows has h =
    let it = meant old.now.schema has in
    let read = reads_as about_text [] old new old.now.schema refl select it.read.command_is it.read.plain it.unlisted rows h in
    let told = about_told old.now.trees in
    let perm : IsPermutation told rows = subst (λ xs. IsPermutation xs rows) (all_chosen (old.now.trees about_tree)) (answers old.now.trees about_tree [] project [] rows (read.answer Null)) in
    record {
      there = λ is. one_permutation _ _ (IsPermutation-sym _ _ (subst (IsPermutation told) is perm));
      back = λ is. one_permutation _ _ (subst (λ xs. IsPermutation xs rows) is perm);
    }

-- what the query does
module _ (old new : State) (has : HasAbout old.now.schema) where
  pub about_same : (rows : List Row) → Shown about_text [] old new rows → IsUnchanged old new
  about_same rows shown = unchanged_query about_text [] old new rows (meant old.now.schema has).read.plain shown

  pub about_failed : (e : Error) → FailsToQuery about_text [] old new e → IsSpared old new
  about_failed e fails = spared_query about_text [] old new e (meant old.now.schema has).read.plain fails

  pub about_leaves : Survives old new (CommitsShowing about_text [] old) → HasCleanDisk new → (db : Trees) → new.may_leave db → old.may_leave db
  about_leaves survives = query_leaves about_text [] old new (meant old.now.schema has).read.plain survives

  pub about_told_by : (schema : ℕ) (rows : List Row) → Shown about_text [] old new rows → IsTold schema old.now.trees rows
  about_told_by schema rows shown = finds_about schema old new rows has shown

pub not_empty : no_schema ≡ office_schema → ⊥
not_empty e = let tables = ap (λ (s : Schema). s.tables) e in let no_such : [] ≡ office_schema.tables = tables in absurd (cc)

pub first_not_office : first_schema ≡ office_schema → ⊥
first_not_office e = let counts = ap (λ (s : Schema). length s.tables) e in let no_such : 7 ≡ 8 = counts in absurd (cc)
