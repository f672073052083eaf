-- What the CREATE statements make.
use Rattle.std.proofs.Common.{◌≡◌, ◌+◌, ◌<◌, ◌≤◌, ◌∙◌, ℕ, zero, suc, pos, List, [], ◌∷◌, true, false, None, Result, Ok, Err, IfErr, IsTrue, inl, inr, refl, sym, ap, subst, arith}
use Rattle.std.specs.List.{AllByRecursion}
use Rattle.sqlite_keyed.proofs.ListLemmas.{all-append}
use Rattle.sqlite_tied.specs.Compute.{everything}
use Rattle.sqlite.specs.declared.types.Value.TheVariants.{Null, Int}
use Rattle.sqlite.specs.Order.{Row}
use Rattle.sqlite.specs.Table.{Table}
use Rattle.sqlite.specs.Tree.{Trees, put_row}
use Rattle.sqlite.specs.Term.{Term, lit}
use Rattle.sqlite.specs.Schema.{Schema}
use Rattle.sqlite.specs.Command.{Command}
use Rattle.sqlite.specs.Command.TheVariants.{CreateTable, Insert}
use Rattle.sqlite.specs.Source.TheVariants.{Values}
use Rattle.sqlite.specs.Compile.{table_defined_by}
use Rattle.sqlite.specs.Change.{created, next_tree, KeepsRows}
use Rattle.sqlite.specs.Edit.{with_rowid}
use Rattle.sqlite.specs.Cast.{cast_row}
use Rattle.sqlite.specs.Rowids.TheVariants.{Chosen}
use Rattle.sqlite.specs.Listing.{understood}
use Rattle.sqlite.specs.Effect.{Database}
use Rattle.sqlite.specs.Does.{Tally, lacks_sequence}
use Rattle.sqlite.specs.State.{State, ExecutesInside, HasCleanDisk, Survives, Writes}
use Rattle.sqlite.specs.declared.error.Error.{Error}
use Rattle.sqlite.specs.Held.{Held, state}
use Rattle.sqlite.specs.Steps.{FailsToCommit}
use Rattle.sqlite.specs.View.{doubt}
use Rattle.sqlite_trees.specs.declared.store.Store.{Ghosts}
use Rattle.oftp_tables.specs.Transactions.{IsInside, Runs}
use Rattle.sqlite.proofs.Callers.{runs_as}
use Rattle.oftp_tables.specs.Schema.{about, office_schema, schema_at, table_at, text_at}
use Rattle.oftp_tables.specs.Making.{Creates, FailsToMake, HasEmptyTables, HasTables, IsEmpty, IsMakingError, IsNew, add_about_text}
use Rattle.oftp_tables.specs.Tables.{about_row}
use Rattle.oftp_tables.proofs.WriteLemmas.{same_value, went}
use Rattle.oftp_tables.proofs.StatementLemmas.{inserts_one}
use Rattle.oftp_tables.proofs.SqlLemmas.{IsRead, is_read}
use Rattle.oftp_tables.proofs.TermLemmas.{cast_null, cast_int}

-- the meaning of the n-th SQL text
record IsMeant (n : ℕ) : Type 0 where
  read : IsRead (text_at n) CreateTable (understood (schema_at n) (text_at n))
  table : table_defined_by (text_at n) ≡ Ok (table_at n)
  uncounted : lacks_sequence (schema_at (suc n)) ≡ false

-- each text is read here, and not in the clauses below, which are read twice
all_meant : IsMeant 0 × IsMeant 1 × IsMeant 2 × IsMeant 3 × IsMeant 4 × IsMeant 5 × IsMeant 6 × IsMeant 7
unfolding understood everything
all_meant = (
  record { read = is_read _ _ _ (refl, refl, refl, refl); table = refl; uncounted = refl },
  record { read = is_read _ _ _ (refl, refl, refl, refl); table = refl; uncounted = refl },
  record { read = is_read _ _ _ (refl, refl, refl, refl); table = refl; uncounted = refl },
  record { read = is_read _ _ _ (refl, refl, refl, refl); table = refl; uncounted = refl },
  record { read = is_read _ _ _ (refl, refl, refl, refl); table = refl; uncounted = refl },
  record { read = is_read _ _ _ (refl, refl, refl, refl); table = refl; uncounted = refl },
  record { read = is_read _ _ _ (refl, refl, refl, refl); table = refl; uncounted = refl },
  record { read = is_read _ _ _ (refl, refl, refl, refl); table = refl; uncounted = refl },
)

meant : (n : ℕ) → n < 8 → IsMeant n
meant zero h = all_meant.0
meant (suc zero) h = all_meant.1
meant (suc (suc zero)) h = all_meant.2
meant (suc (suc (suc zero))) h = all_meant.3
meant (suc (suc (suc (suc zero)))) h = all_meant.4
meant (suc (suc (suc (suc (suc zero))))) h = all_meant.5
meant (suc (suc (suc (suc (suc (suc zero)))))) h = all_meant.6
meant (suc (suc (suc (suc (suc (suc (suc zero))))))) h = all_meant.7
meant (suc (suc (suc (suc (suc (suc (suc (suc n)))))))) h = absurd (omega arith)

pub makes : (n count : ℕ) (old new : State) → n < 8 → HasTables n old.now → ExecutesInside 0 (text_at n) [] old new (Ok count) → Creates n old.now new.now
makes n count old new low has h =
    let it = meant n low in
    let text = text_at n in
    let w = subst (λ t. Writes old new None CreateTable t [] count) it.read.whole (runs_as text [] old new (schema_at n) has CreateTable it.read.command_is it.read.plain count h.0) in
    let all = went w.changed in
    let first = went all.1 in
    let made = first.1 in
    let both : Ok made.table ≡ Ok (table_at n) = sym made.defined ∙ it.table in
    let same : made.table ≡ table_at n = same_value both in
    let schema : first.0.schema ≡ schema_at (suc n) = made.is ∙ ap (λ s. created s made.table) has ∙ ap (created (schema_at n)) same in
    let plain : lacks_sequence first.0.schema ≡ false = ap lacks_sequence schema ∙ it.uncounted in
    let now : new.now ≡ first.0 = ap (λ (p : Tally × Database). p.1) (same_value all.2) ∙ same_value (rw plain at first.2) in
    let next : suc n ≡ n + 1 = omega arith in
    record {
      has = subst (λ k. HasTables k new.now) next (ap (λ (d : Database). d.schema) now ∙ schema);
      sound = w.sound;
      empty = subst (λ (d : Database). d.trees (next_tree (schema_at n)) ≡ []) (sym now) (subst (λ s. first.0.trees (next_tree s) ≡ []) has made.empty);
      others = subst (λ (d : Database). KeepsRows (schema_at n).tables old.now.trees d.trees) (sym now) (subst (λ (s : Schema). KeepsRows s.tables old.now.trees first.0.trees) has made.others);
    }

stay_empty : (ts : List Table) (old new : Trees) → KeepsRows ts old new → AllByRecursion (λ (t : Table). old t.tree ≡ []) ts → AllByRecursion (λ (t : Table). new t.tree ≡ []) ts
stay_empty [] old new kept empty = tt
stay_empty (t ∷ ts) old new kept empty = (kept.0 ∙ empty.0, stay_empty ts old new kept.1 empty.1)

-- one more table without rows
pub stays_empty : (n : ℕ) (old new : Database) → HasEmptyTables n old → Creates n old new → HasEmptyTables (n + 1) new
stays_empty n old new empty made =
    let next : suc n ≡ n + 1 = omega arith in
    let last : Table = record (table_at n) { tree = next_tree (schema_at n) } in
    let ts = (schema_at n).tables in
    let all : AllByRecursion (λ (t : Table). new.trees t.tree ≡ []) (schema_at (suc n)).tables =
    all-append (λ (t : Table). new.trees t.tree ≡ []) ts (last ∷ []) (stay_empty ts old.trees new.trees made.others empty.empty) (made.empty, tt) in
    record { has = made.has; empty = subst (λ k. AllByRecursion (λ (t : Table). new.trees t.tree ≡ []) (schema_at k).tables) next all }

pub none_yet : (db : Database) → IsEmpty db → HasEmptyTables 0 db
none_yet db none = record { has = none; empty = tt }

-- ---- the row of `about`

abbrev terms : List Term
terms = lit (Int (pos 1)) ∷ lit Null ∷ lit (Int (pos 2)) ∷ []

abbrev insert : Command
insert = Insert 0 (Values terms 3)

about_read : IsRead add_about_text insert (understood office_schema add_about_text)
unfolding understood everything
about_read = is_read _ _ _ (refl, refl, refl, refl)

pub readies : (count : ℕ) (old new : State) → HasEmptyTables 8 old.now → ExecutesInside 0 add_about_text [] old new (Ok count) → IsNew new.now
readies count old new up h =
    let source : Row = Int (pos 1) ∷ Null ∷ Int (pos 2) ∷ [] in
    let it = inserts_one old new add_about_text 0 about terms 3 [] source count up.has about_read.command_is about_read.plain refl refl h in
    let others = it.made.tables in
    let none = up.empty in
    let row : (rows : List Row) → put_row (with_rowid Chosen rows (cast_row about source)) [] ≡ about_row ∷ [] = λ rows. simp (cast_null, cast_int) in
    record {
      schema = it.schema;
      sound = it.store;
      tables = record {
        about = it.made.rows ∙ ap (λ (rows : List Row). put_row (with_rowid Chosen rows (cast_row about source)) rows) none.0 ∙ row [];
        in_files = others.1.0 (λ e. omega (arith, e)) ∙ none.1.0;
        in_rows = others.1.1.0 (λ e. omega (arith, e)) ∙ none.1.1.0;
        out_files = others.1.1.1.0 (λ e. omega (arith, e)) ∙ none.1.1.1.0;
        out_rows = others.1.1.1.1.0 (λ e. omega (arith, e)) ∙ none.1.1.1.1.0;
        issued = others.1.1.1.1.1.0 (λ e. omega (arith, e)) ∙ none.1.1.1.1.1.0;
        received = others.1.1.1.1.1.1.0 (λ e. omega (arith, e)) ∙ none.1.1.1.1.1.1.0;
        notes = others.1.1.1.1.1.1.1.0 (λ e. omega (arith, e)) ∙ none.1.1.1.1.1.1.1.0;
      };
    }

-- ---- why the tables weren't made

-- the error of a statement that ran in a transaction
pub fails_inside : (sql : List ℕ) (params : Row) (old new : State) (result : Result ℕ Error) → (IsTrue old.in_transaction → ExecutesInside 0 sql params old new result) → IsInside old
    → IfErr result (λ e. ExecutesInside 0 sql params old new (Err e))
fails_inside sql params old new (Ok count) runs within = tt
fails_inside sql params old new (Err e) runs within = runs within.inside

-- a transaction goes on after what ran in it
stays_inside : {T E : Type 0} (Before : Database → Type 0) (Made : Database → Database → Type 0) (old new : State) (x : T) → HasCleanDisk new → IsInside old → Before old.now
    → Runs {E = E} Before Made old new (Ok x) → Made old.now new.now × IsInside new
stays_inside Before Made old new x clean within before runs =
    let done = runs.done clean within before in (done.0, record { is_open = done.1.is_open; inside = done.1.mode })

-- some tables were made, and the next wasn't
pub fails_at_table : {S : Type 0} (g : Ghosts S) (old mid new : Held S) (at : ℕ) (e : Error) → at < 8
    → Runs {T = Unit {0}} {E = Error} IsEmpty (λ old new. HasEmptyTables at new) (state g old) (state g mid) (Ok tt) → doubt (state g mid).is_clean ≤ doubt (state g new).is_clean
    → (HasCleanDisk (state g new) → IsTrue (state g mid).in_transaction → ExecutesInside 0 (text_at at) [] (state g mid) (state g new) (Err e))
    → HasCleanDisk (state g new) → IsInside (state g old) → IsEmpty (state g old).now → FailsToMake g old new e
fails_at_table g old mid new at e less runs sure executes clean within empty =
    let done = stays_inside _ _ _ _ tt (omega (arith, sure, clean)) within empty runs in
    record { last = mid; before = runs.survives; inside = done.1; statement = inl (at, less, done.0, executes clean done.1.inside) }

-- the tables were made, and `about` wasn't filled
pub fails_at_about : {S : Type 0} (g : Ghosts S) (old mid new : Held S) (e : Error)
    → Runs {T = Unit {0}} {E = Error} IsEmpty (λ old new. HasEmptyTables 8 new) (state g old) (state g mid) (Ok tt) → doubt (state g mid).is_clean ≤ doubt (state g new).is_clean
    → (HasCleanDisk (state g new) → IsInside (state g mid) → ExecutesInside 0 add_about_text [] (state g mid) (state g new) (Err e))
    → HasCleanDisk (state g new) → IsInside (state g old) → IsEmpty (state g old).now → FailsToMake g old new e
fails_at_about g old mid new e runs sure executes clean within empty =
    let done = stays_inside _ _ _ _ tt (omega (arith, sure, clean)) within empty runs in
    record { last = mid; before = runs.survives; inside = done.1; statement = inr (done.0, executes clean done.1) }

module _ {S : Type 0} (g : Ghosts S) (old begun : Held S) (is : begun ≡ record old { in_transaction = true }) (is_open : IsTrue (state g old).is_open) (empty : IsEmpty (state g old).now) where
  within : IsInside (state g begun)
  within = rw is (record { is_open = is_open; inside = refl })

  none : IsEmpty (state g begun).now
  none = rw is empty

  -- the transaction failed at a statement, and was undone
  pub fails_on_the_way : {U : Type 0} (failed new : Held S) (result : Result U Error) (e : Error) → result ≡ Err e
      → (HasCleanDisk (state g failed) → IsInside (state g begun) → IsEmpty (state g begun).now → FailsToMake g begun failed e) → Survives (state g failed) (state g new) (λ _. ⊥)
      → HasCleanDisk (state g new) → IfErr result (IsMakingError g old new)
  fails_on_the_way failed new result e told fails undone clean =
      let made = fails (omega (arith, undone.clean, clean)) within none in
      rw told (inl (failed, subst (λ h. FailsToMake g h failed e) is made, undone))

  -- it failed at its commit
  pub fails_at_its_end : (last new : Held S) (result : Result (Unit {0}) Error)
      → Runs {T = Unit {0}} {E = Error} IsEmpty (λ old new. IsNew new) (state g begun) (state g last) (Ok tt) → doubt (state g last).is_clean ≤ doubt (state g new).is_clean
      → IfErr result (FailsToCommit (state g last) (state g new)) → HasCleanDisk (state g new) → IfErr result (IsMakingError g old new)
  fails_at_its_end last new (Ok x) runs sure ends clean = tt
  fails_at_its_end last new (Err e) runs sure ends clean =
      let done = stays_inside _ _ _ _ tt (omega (arith, sure, clean)) within none runs in
      inr (record { last = last; before = subst (λ h. Survives (state g h) (state g last) (λ _. ⊥)) is runs.survives; inside = done.1; made = done.0; commit = ends })
