-- What the statements on the rows of a file do to the tables of a register.
use Rattle.std.proofs.Common.{◌≡◌, ◌+◌, ◌<◌, ◌&&◌, ℕ, ℤ, Bool, true, false, not, cond, nat_le, List, [], ◌∷◌, ◌++◌, length, map, drop, take, filter, get_or, Some, None, Result, Ok, Err, IsTrue, append-nil, append_assoc, length-append, slice_get, refl, sym, ap, subst, ◌∙◌, arith}
use Rattle.std.specs.List.{AllByRecursion, list_all}
use Rattle.std.specs.List.Sorted.{IsPermutation}
use Rattle.std.proofs.lemmas.List.{map-append, length-map, take_more, length-take}
use Rattle.std.proofs.lemmas.List.Sorted.{IsPermutation-map, IsPermutation-sym, IsPermutation-trans, IsPermutation-cons}
use Rattle.sqlite_keyed.proofs.ListLemmas.{all-filter, ascending-filter}
use Rattle.sqlite_tied.specs.Compute.{everything}
use Rattle.sqlite_schema.specs.declared.program.Program.{Program}
use Rattle.sqlite_rules.specs.Calls.{ids_of}
use Rattle.sqlite.specs.declared.types.Value.TheVariants.{Null, Int}
use Rattle.sqlite.specs.Order.{Row, column}
use Rattle.sqlite.specs.Tree.{Trees, put_row}
use Rattle.sqlite.specs.Held.{Held, state}
use Rattle.sqlite_trees.specs.declared.store.Store.{Ghosts}
use Rattle.sqlite.specs.declared.error.Error.{Error}
use Rattle.sqlite.specs.declared.error.Error.TheVariants.{SqliteFailure}
use Rattle.sqlite.specs.declared.error.ErrorCode.TheVariants.{TransactionState}
use Rattle.sqlite.specs.Term.{Term, lit, col, holds, eval_all}
use Rattle.sqlite.specs.Command.TheVariants.{Insert, Delete}
use Rattle.sqlite.specs.Source.TheVariants.{Values}
use Rattle.sqlite.specs.Edit.{id_in, is_taken, next_rowid, with_rowid}
use Rattle.sqlite.specs.Cast.{cast_row}
use Rattle.sqlite.specs.Rowids.TheVariants.{Chosen}
use Rattle.sqlite.specs.Listing.{understood}
use Rattle.sqlite.specs.Does.{Does}
use Rattle.sqlite.specs.Table.{Table}
use Rattle.sqlite.specs.State.{State, ExecutesInside, HasCleanDisk, Survives, mode_of}
use Rattle.sqlite.proofs.Callers.{IsPlain, command_of, statement_of, runs_as}
use Rattle.oftp_tables.specs.Schema.{in_row, in_row_tree, office_schema, out_row, out_row_tree}
use Rattle.oftp_tables.proofs.TermLemmas.{cast_int, cast_null, no_works}
use Rattle.oftp_tables.proofs.QueryLemmas.{answers, chosen, plain_query}
use Rattle.oftp_tables.proofs.WriteLemmas.{Deleted, Inserted, deletes, inserts, simple}
use Rattle.oftp_register.specs.declared.entries.Side.{Side}
use Rattle.oftp_register.specs.declared.entries.Side.TheVariants as side
use Rattle.oftp_register.specs.Register.{Register, Incoming, Outgoing}
use Rattle.oftp_tables.specs.Statements.{Moves, Performs, uncounted}
use Rattle.oftp_tables.specs.Tables.{AreNumbered, HasReason, HasRefusal, Tables, body_row, bodies_from, has_number, in_file_row, issued_from, issued_if_any, less_rowids, number_value, out_file_row, rows_from, rows_in, rows_out}
use Rattle.oftp_tables.proofs.BodyLemmas.{bodies_cut, bodies_more}
use Rattle.oftp_tables.proofs.CutLemmas.{deleted, id_of}
use Rattle.oftp_tables.proofs.LandLemmas.{lands}
use Rattle.oftp_tables.proofs.ManyLemmas.{passing}
use Rattle.oftp_tables.proofs.PerformLemmas.{performs, performs_then}
use Rattle.oftp_tables.proofs.PlaceLemmas.{place}
use Rattle.oftp_tables.proofs.RowLemmas.{from_filter, from_passes, from_same, from_test, put_fresh, put_numbered}
use Rattle.oftp_tables.proofs.StatementLemmas.{Others}
use Rattle.oftp_store.specs.Edits.{AddsRowsTo, Makes, MakesRows}
use Rattle.oftp_store.specs.Texts.{add_row_text, cut_rows_text}
use Rattle.oftp_store.specs.declared.changes.edit.EditKind.TheVariants.{CutRows}
use Rattle.oftp_store.proofs.EditLemmas.{all_but, length_but}

-- ---- the table of a side

abbrev pub row_table : Side → Table
row_table side.Incoming = record in_row { tree = in_row_tree }
row_table side.Outgoing = record out_row { tree = out_row_tree }

abbrev place_of : Side → ℕ
place_of side.Incoming = 2
place_of side.Outgoing = 4

abbrev terms : List Term
terms = lit Null ∷ col 0 0 ∷ col 0 1 ∷ col 0 2 ∷ []

pub add_row_is : (which : Side) → command_of (understood office_schema (add_row_text which)) ≡ Insert (place_of which) (Values terms 4)
unfolding understood everything
add_row_is side.Incoming = refl
add_row_is side.Outgoing = refl

pub add_row_plain : (which : Side) → IsPlain (understood office_schema (add_row_text which))
unfolding understood everything
add_row_plain side.Incoming = (refl, refl)
add_row_plain side.Outgoing = (refl, refl)

found_table : (which : Side) → slice_get office_schema.tables (place_of which) ≡ Some (simple (row_table which))
found_table side.Incoming = refl
found_table side.Outgoing = refl

cast_same : (which : Side) (n at : ℕ) (body : List ℕ) → cast_row (simple (row_table which)) (Null ∷ body_row n at body) ≡ Null ∷ body_row n at body
cast_same side.Incoming n at body = simp (cast_null, cast_int)
cast_same side.Outgoing n at body = simp (cast_null, cast_int)

-- ---- one row more

-- the table has one row more, under some rowid
record AddsRow (tree n at : ℕ) (body : List ℕ) (old new : Trees) : Type 0 where
  added : IsPermutation (body_row n at body ∷ less_rowids (old tree)) (less_rowids (new tree))
  apart : AreNumbered (old tree) → AreNumbered (new tree)
  others : Others tree old new

adds : (t : Table) (n at : ℕ) (body : List ℕ) (old new : Trees) → cast_row (simple t) (Null ∷ body_row n at body) ≡ Null ∷ body_row n at body
    → Inserted office_schema (simple t) (Null ∷ body_row n at body) old new → AddsRow t.tree n at body old new
adds t n at body old new cast made =
    let was = old t.tree in
    let row = Int (next_rowid was) ∷ body_row n at body in
    let is : with_rowid Chosen was (cast_row (simple t) (Null ∷ body_row n at body)) ≡ row = ap (with_rowid Chosen was) cast in
    let fresh : is_taken was row ≡ false = subst (λ r. is_taken was r ≡ false) is made.fresh in
    let rows : new t.tree ≡ put_row row was = made.rows ∙ ap (λ r. put_row r was) is in
    record {
      added = IsPermutation-map (drop 1) (row ∷ was) (new t.tree) (subst (IsPermutation (row ∷ was)) (sym rows) (put_fresh row was fresh));
      apart = λ h. subst AreNumbered (sym rows) (put_numbered (next_rowid was) (body_row n at body) was h fresh);
      others = made.tables;
    }

-- the header and the response of a file stay when its rows change

in_files_same : (f : Incoming) (rows : List (List ℕ)) (k : ℕ) (before after : List Incoming)
    → rows_from in_file_row k (before ++ f ∷ after) ≡ rows_from in_file_row k (before ++ (record f { rows = rows }) ∷ after)
in_files_same f rows k [] after = refl
in_files_same f rows k (b ∷ before) after = ap (λ (more : List Row). in_file_row k b ∷ more) (in_files_same f rows (k + 1) before after)

issued_stays : (f : Incoming) (rows : List (List ℕ)) (k : ℕ) (before after : List Incoming) → issued_from k (before ++ f ∷ after) ≡ issued_from k (before ++ (record f { rows = rows }) ∷ after)
issued_stays f rows k [] after = refl
issued_stays f rows k (b ∷ before) after = ap (λ (more : List Row). issued_if_any k b.response ++ more) (issued_stays f rows (k + 1) before after)

out_files_same : (f : Outgoing) (rows : List (List ℕ)) (k : ℕ) (before after : List Outgoing)
    → rows_from out_file_row k (before ++ f ∷ after) ≡ rows_from out_file_row k (before ++ (record f { rows = rows }) ∷ after)
out_files_same f rows k [] after = refl
out_files_same f rows k (b ∷ before) after = ap (λ (more : List Row). out_file_row k b ∷ more) (out_files_same f rows (k + 1) before after)

-- the rows of one incoming file are replaced
in_rows_land : (r : Register) (before : List Incoming) (f : Incoming) (rows : List (List ℕ)) (after : List Incoming) → r.incoming ≡ before ++ f ∷ after
    → (old new : Trees) → Others in_row_tree old new → AreNumbered (new in_row_tree)
    → IsPermutation (bodies_from 1 (map rows_in before ++ rows ∷ map rows_in after)) (less_rowids (new in_row_tree)) → Tables r old
    → Tables (record r { incoming = before ++ (record f { rows = rows }) ∷ after }) new
in_rows_land r before f rows after here old new others apart are kept =
    let g : Incoming = record f { rows = rows } in
    lands in_row_tree (new in_row_tree) old new refl (record r { incoming = before ++ g ∷ after }) others (record {
      about = kept.about;
      incoming = record {
        headers = kept.incoming.headers ∙ ap (rows_from in_file_row 1) here ∙ in_files_same f rows 1 before after;
        rows = subst (λ files. IsPermutation (bodies_from 1 files) (less_rowids (new in_row_tree))) (sym (map-append rows_in before (g ∷ after))) are;
        row_ids = apart;
        responses = kept.incoming.responses ∙ ap (issued_from 1) here ∙ issued_stays f rows 1 before after;
        reasons = all_as (subst (AllByRecursion (λ (x : Incoming). HasReason x.response)) here kept.incoming.reasons);
        few = omega (arith, kept.incoming.few, ap length here, length_but before f g after);
      };
      outgoing = kept.outgoing;
      received = kept.received;
    })
  where
    all_as : AllByRecursion (λ (x : Incoming). HasReason x.response) (before ++ f ∷ after) → AllByRecursion (λ (x : Incoming). HasReason x.response) (before ++ (record f { rows = rows }) ∷ after)
    all_as h = all_but (λ (x : Incoming). HasReason x.response) before f (record f { rows = rows }) after
        (Rattle.oftp_tables.proofs.BackLemmas.at_place (λ (x : Incoming). HasReason x.response) before f after h) h

-- the rows of one outgoing file are replaced
out_rows_land : (r : Register) (before : List Outgoing) (f : Outgoing) (rows : List (List ℕ)) (after : List Outgoing) → r.outgoing ≡ before ++ f ∷ after
    → (old new : Trees) → Others out_row_tree old new → AreNumbered (new out_row_tree)
    → IsPermutation (bodies_from 1 (map rows_out before ++ rows ∷ map rows_out after)) (less_rowids (new out_row_tree)) → Tables r old
    → Tables (record r { outgoing = before ++ (record f { rows = rows }) ∷ after }) new
out_rows_land r before f rows after here old new others apart are kept =
    let g : Outgoing = record f { rows = rows } in
    lands out_row_tree (new out_row_tree) old new refl (record r { outgoing = before ++ g ∷ after }) others (record {
      about = kept.about;
      incoming = kept.incoming;
      outgoing = record {
        headers = kept.outgoing.headers ∙ ap (rows_from out_file_row 1) here ∙ out_files_same f rows 1 before after;
        rows = subst (λ files. IsPermutation (bodies_from 1 files) (less_rowids (new out_row_tree))) (sym (map-append rows_out before (g ∷ after))) are;
        row_ids = apart;
        reasons = all_as (subst (AllByRecursion (λ (x : Outgoing). HasRefusal x.state)) here kept.outgoing.reasons);
        few = omega (arith, kept.outgoing.few, ap length here, length_but before f g after);
      };
      received = kept.received;
    })
  where
    all_as : AllByRecursion (λ (x : Outgoing). HasRefusal x.state) (before ++ f ∷ after) → AllByRecursion (λ (x : Outgoing). HasRefusal x.state) (before ++ (record f { rows = rows }) ∷ after)
    all_as h = all_but (λ (x : Outgoing). HasRefusal x.state) before f (record f { rows = rows }) after
        (Rattle.oftp_tables.proofs.BackLemmas.at_place (λ (x : Outgoing). HasRefusal x.state) before f after h) h

-- one body is appended to those of a file, among those of all files
one_more : (n at : ℕ) (before : List (List (List ℕ))) (rows : List (List ℕ)) (body : List ℕ) (after : List (List (List ℕ))) (old new : List Row) → n ≡ 1 + length before → length rows ≡ at
    → IsPermutation (bodies_from 1 (before ++ rows ∷ after)) (less_rowids old) → IsPermutation (body_row n at body ∷ less_rowids old) (less_rowids new)
    → IsPermutation (bodies_from 1 (before ++ (rows ++ body ∷ []) ∷ after)) (less_rowids new)
one_more n at before rows body after old new number size were added =
    let join : IsPermutation (body_row n at body ∷ bodies_from 1 (before ++ rows ∷ after)) (bodies_from 1 (before ++ (rows ++ body ∷ []) ∷ after)) =
    subst (λ k. IsPermutation (body_row k at body ∷ bodies_from 1 (before ++ rows ∷ after)) (bodies_from 1 (before ++ (rows ++ body ∷ []) ∷ after))) (sym number)
    (subst (λ m. IsPermutation (body_row (1 + length before) m body ∷ bodies_from 1 (before ++ rows ∷ after)) (bodies_from 1 (before ++ (rows ++ body ∷ []) ∷ after))) size
    (bodies_more 1 before rows (body ∷ []) after)) in
    IsPermutation-trans _ _ _ (IsPermutation-sym _ _ join) (IsPermutation-trans _ _ _ (IsPermutation-cons (body_row n at body) _ _ were) added)

makes_row : (which : Side) (n at : ℕ) (body : List ℕ) (old new : Trees) → AddsRow (row_table which).tree n at body old new → MakesRows which n at (body ∷ []) old new
makes_row side.Incoming n at body old new made r s did kept =
    let f = did.file in
    let were : IsPermutation (bodies_from 1 (map rows_in did.before ++ f.rows ∷ map rows_in did.after)) (less_rowids (old in_row_tree)) =
    subst (λ files. IsPermutation (bodies_from 1 files) (less_rowids (old in_row_tree))) (ap (map rows_in) did.here ∙ map-append rows_in did.before (f ∷ did.after)) kept.incoming.rows in
    subst (λ (q : Register). Tables q new) (sym did.now) (in_rows_land r did.before f (f.rows ++ body ∷ []) did.after did.here old new made.others (made.apart kept.incoming.row_ids)
    (one_more n at (map rows_in did.before) f.rows body (map rows_in did.after) (old in_row_tree) (new in_row_tree)
    (omega (arith, did.number, length-map did.before rows_in)) did.was were made.added) kept)
makes_row side.Outgoing n at body old new made r s did kept =
    let f = did.file in
    let were : IsPermutation (bodies_from 1 (map rows_out did.before ++ f.rows ∷ map rows_out did.after)) (less_rowids (old out_row_tree)) =
    subst (λ files. IsPermutation (bodies_from 1 files) (less_rowids (old out_row_tree))) (ap (map rows_out) did.here ∙ map-append rows_out did.before (f ∷ did.after)) kept.outgoing.rows in
    subst (λ (q : Register). Tables q new) (sym did.now) (out_rows_land r did.before f (f.rows ++ body ∷ []) did.after did.here old new made.others (made.apart kept.outgoing.row_ids)
    (one_more n at (map rows_out did.before) f.rows body (map rows_out did.after) (old out_row_tree) (new out_row_tree)
    (omega (arith, did.number, length-map did.before rows_out)) did.was were made.added) kept)

pub row_added : (which : Side) (old new : State) (n at : ℕ) (body : List ℕ) (count : ℕ) → old.now.schema ≡ office_schema → ExecutesInside 0 (add_row_text which) (body_row n at body) old new (Ok count)
    → Moves (MakesRows which n at (body ∷ [])) old.now new.now
row_added which old new n at body count has h =
    let params = body_row n at body in
    let text = add_row_text which in
    let insert = Insert (place_of which) (Values terms 4) in
    let w = runs_as text params old new office_schema has insert (add_row_is which) (add_row_plain which) count h.0 in
    let made = inserts (mode_of old) old.step_limit params (record { schema = office_schema; trees = old.now.trees }) (statement_of text (understood office_schema text))
    (place_of which) (row_table which) terms 4 (Null ∷ params) (w.tally, new.now)
    (found_table which) refl (no_works (row_table which).tree)
    (subst (λ s. Does old.step_limit (mode_of old) params (record old.now { schema = s }) (statement_of text (understood office_schema text)) None insert (Ok (w.tally, new.now))) has w.changed) in
    record {
      schema = made.0;
      made = makes_row which n at body old.now.trees new.now.trees (adds (row_table which) n at body old.now.trees new.now.trees (cast_same which n at body) made.1);
      store = w.sound;
    }

-- ---- a loop

-- bodies after rows, and one more body after those
more_rows : (rows bodies : List (List ℕ)) (i : ℕ) (body : List ℕ) → i < length bodies → body ≡ get_or bodies i body → rows ++ take (i + 1) bodies ≡ (rows ++ take i bodies) ++ body ∷ []
more_rows rows bodies i body within item =
    ap (λ more. rows ++ more) (take_more bodies i body within ∙ ap (λ b. take i bodies ++ b ∷ []) (sym item)) ∙ sym (append_assoc rows (take i bodies) (body ∷ []))

-- the number of rows before it
rows_so_far : (rows bodies : List (List ℕ)) (from i at : ℕ) → length rows ≡ from → i < length bodies → at ≡ from + i → length (rows ++ take i bodies) ≡ at
rows_so_far rows bodies from i at was within place = omega (arith, length-append rows (take i bodies), was, length-take i bodies, place, within)

-- the last of the rows that are added
record EndsWithRow (which : Side) (n from at : ℕ) (rows : List (List ℕ)) (body : List ℕ) (r s : Register) : Type 0 where
  mid : Register
  first : AddsRowsTo which n from rows r mid
  last : AddsRowsTo which n at (body ∷ []) mid s

ends_with_row : (which : Side) (n from i at : ℕ) (bodies : List (List ℕ)) (body : List ℕ) (r s : Register) → i < length bodies → body ≡ get_or bodies i body → at ≡ from + i
    → AddsRowsTo which n from (take (i + 1) bodies) r s → EndsWithRow which n from at (take i bodies) body r s
ends_with_row side.Incoming n from i at bodies body r s within item place did =
    let g : Incoming = record did.file { rows = did.file.rows ++ take i bodies } in
    let now = did.now ∙ ap (λ rows. let q : Register = record r { incoming = did.before ++ (record g { rows = rows }) ∷ did.after } in q) (more_rows did.file.rows bodies i body within item) in
    record {
      mid = record r { incoming = did.before ++ g ∷ did.after };
      first = record { before = did.before; file = did.file; after = did.after; here = did.here; number = did.number; was = did.was; now = refl };
      last = record { before = did.before; file = g; after = did.after; here = refl; number = did.number; was = rows_so_far did.file.rows bodies from i at did.was within place; now = now };
    }
ends_with_row side.Outgoing n from i at bodies body r s within item place did =
    let g : Outgoing = record did.file { rows = did.file.rows ++ take i bodies } in
    let now = did.now ∙ ap (λ rows. let q : Register = record r { outgoing = did.before ++ (record g { rows = rows }) ∷ did.after } in q) (more_rows did.file.rows bodies i body within item) in
    record {
      mid = record r { outgoing = did.before ++ g ∷ did.after };
      first = record { before = did.before; file = did.file; after = did.after; here = did.here; number = did.number; was = did.was; now = refl };
      last = record { before = did.before; file = g; after = did.after; here = refl; number = did.number; was = rows_so_far did.file.rows bodies from i at did.was within place; now = now };
    }

-- one more row of the file
pub rows_more : (which : Side) (n from i at : ℕ) (bodies : List (List ℕ)) (body : List ℕ) → i < length bodies → body ≡ get_or bodies i body → at ≡ from + i → (a b c : Trees)
    → MakesRows which n from (take i bodies) a b → MakesRows which n at (body ∷ []) b c → MakesRows which n from (take (i + 1) bodies) a c
rows_more which n from i at bodies body within item place a b c one two r s did kept =
    let parts = ends_with_row which n from i at bodies body r s within item place did in
    two parts.mid s parts.last (one r parts.mid parts.first kept)

-- the statement of one row, after those of the rows before it, whatever its outcome
pub row_performed : {S : Type 0} (g : Ghosts S) (which : Side) (n from i at : ℕ) (bodies : List (List ℕ)) (body : List ℕ) (a b c : Held S) (count : Result ℕ Error) → i < length bodies
    → body ≡ get_or bodies i body → at ≡ from + i → Performs {T = Unit {0}} (MakesRows which n from (take i bodies)) g a b (Ok tt)
    → ((state g b).in_transaction ≡ false → (count ≡ Err (SqliteFailure TransactionState)) × (c ≡ b))
    → (HasCleanDisk (state g c) → IsTrue (state g b).in_transaction → ExecutesInside 0 (add_row_text which) (body_row n at body) (state g b) (state g c) count)
    → Survives (state g b) (state g c) (λ _. ⊥) → Performs (MakesRows which n from (take (i + 1) bodies)) g a c (uncounted count)
row_performed g which n from i at bodies body a b c count within item place before ended runs survives =
    performs_then g a b c _ _ _ tt (uncounted count) (rows_more which n from i at bodies body within item place) before
    (performs g b c (MakesRows which n at (body ∷ [])) (add_row_text which) (body_row n at body) count ended runs survives
    (λ done has h. row_added which (state g b) (state g c) n at body done has h))

pub no_rows : (which : Side) (n from : ℕ) (db : Trees) → MakesRows which n from [] db db
no_rows side.Incoming n from db r s did kept =
    subst (λ (q : Register). Tables q db)
    (sym (did.now ∙ ap (λ rows. let q : Register = record r { incoming = did.before ++ (record did.file { rows = rows }) ∷ did.after } in q) (append-nil did.file.rows)
    ∙ ap (λ files. let q : Register = record r { incoming = files } in q) (sym did.here))) kept
no_rows side.Outgoing n from db r s did kept =
    subst (λ (q : Register). Tables q db)
    (sym (did.now ∙ ap (λ rows. let q : Register = record r { outgoing = did.before ++ (record did.file { rows = rows }) ∷ did.after } in q) (append-nil did.file.rows)
    ∙ ap (λ files. let q : Register = record r { outgoing = files } in q) (sym did.here))) kept

-- ---- the rows of an incoming file are deleted from a position on

abbrev cut_program : Program
cut_program = record { lets = []; body = plain_query in_row_tree from_filter (col 1 0 ∷ []) }

cut_is : command_of (understood office_schema cut_rows_text) ≡ Delete 2 cut_program
unfolding understood everything
cut_is = refl

cut_plain : IsPlain (understood office_schema cut_rows_text)
unfolding understood everything
cut_plain = (refl, refl)

abbrev pub cut_params : ℕ → ℕ → Row
cut_params n count = number_value n ∷ number_value count ∷ []

abbrev whole_test : ℕ → ℕ → Row → Bool
whole_test n count r = list_all (holds (cut_params n count ∷ r ∷ [])) from_filter

-- the rowids that the statement finds
found_ids : (n count : ℕ) (rows : List Row) → ids_of (chosen from_filter (col 1 0 ∷ []) (cut_params n count) rows) ≡ map id_of (filter (whole_test n count) rows)
found_ids n count [] = refl
found_ids n count (r ∷ rows) =
    elim (whole_test n count r) as
    (λ b. ids_of (cond b (eval_all (col 1 0 ∷ []) (cut_params n count ∷ r ∷ []) ∷ []) [] ++ chosen from_filter (col 1 0 ∷ []) (cut_params n count) rows)
    ≡ map id_of (cond b (r ∷ filter (whole_test n count) rows) (filter (whole_test n count) rows))) [
      | true ↦ ap (λ (ids : List ℤ). id_of r ∷ ids) (found_ids n count rows)
      | false ↦ found_ids n count rows
    ]

less_filtered : (n count : ℕ) (rows : List Row) → less_rowids (filter (λ r. not (whole_test n count r)) rows) ≡ filter (λ r. not (from_test n count r)) (less_rowids rows)
less_filtered n count [] = refl
less_filtered n count (r ∷ rows) =
    rw (from_passes n count [] r) (elim (from_test n count (drop 1 r)) as
    (λ b. less_rowids (cond (not b) (r ∷ filter (λ r. not (whole_test n count r)) rows) (filter (λ r. not (whole_test n count r)) rows))
    ≡ cond (not b) (drop 1 r ∷ filter (λ r. not (from_test n count r)) (less_rowids rows)) (filter (λ r. not (from_test n count r)) (less_rowids rows))) [
      | true ↦ less_filtered n count rows
      | false ↦ ap (λ (more : List Row). drop 1 r ∷ more) (less_filtered n count rows)
    ])

makes_cut : (n count : ℕ) (rows : List Row) (old new : Trees) → IsPermutation (chosen from_filter (col 1 0 ∷ []) (cut_params n count) (old in_row_tree)) rows
    → Deleted office_schema (row_table side.Incoming) rows old new → Makes n (CutRows count) old new
makes_cut n count rows old new perm made r s did kept =
    let f = did.file in
    let numbered = kept.incoming.row_ids in
    let left : new in_row_tree ≡ filter (λ r. not (whole_test n count r)) (old in_row_tree) =
    made.rows ∙ deleted (whole_test n count) (old in_row_tree) (ids_of rows) numbered
    (subst (λ ids. IsPermutation ids (ids_of rows)) (found_ids n count (old in_row_tree))
    (IsPermutation-map (λ r. id_in (column r 0)) (chosen from_filter (col 1 0 ∷ []) (cut_params n count) (old in_row_tree)) rows perm)) in
    let were : IsPermutation (bodies_from 1 (map rows_in did.before ++ f.rows ∷ map rows_in did.after)) (less_rowids (old in_row_tree)) =
    subst (λ files. IsPermutation (bodies_from 1 files) (less_rowids (old in_row_tree))) (ap (map rows_in) did.here ∙ map-append rows_in did.before (f ∷ did.after)) kept.incoming.rows in
    let files = map rows_in did.before ++ f.rows ∷ map rows_in did.after in
    let cut = bodies_cut n count 1 (map rows_in did.before) f.rows (map rows_in did.after) (omega (arith, did.number, length-map did.before rows_in)) in
    let among : IsPermutation (filter (λ r. not (has_number n r && nat_le count (place r))) (bodies_from 1 files)) (less_rowids (new in_row_tree)) =
    subst (IsPermutation _) (sym (ap less_rowids left ∙ less_filtered n count (old in_row_tree)))
    (passing (λ r. not (from_test n count r)) (λ r. not (has_number n r && nat_le count (place r))) (λ m at b. ap not (from_same n count m at b)) files (less_rowids (old in_row_tree)) were) in
    subst (λ (q : Register). Tables q new) (sym did.now) (in_rows_land r did.before f (take count f.rows) did.after did.here old new made.tables
    (subst AreNumbered (sym left) (all-filter _ (λ r. not (whole_test n count r)) (old in_row_tree) numbered.0, ascending-filter _ (λ r. not (whole_test n count r)) (old in_row_tree) numbered.1))
    (subst (λ rows. IsPermutation rows (less_rowids (new in_row_tree))) cut among) kept)

pub rows_cut : (old new : State) (n count done : ℕ) → old.now.schema ≡ office_schema → ExecutesInside 0 cut_rows_text (cut_params n count) old new (Ok done)
    → Moves (Makes n (CutRows count)) old.now new.now
rows_cut old new n count done has h =
    let params = cut_params n count in
    let command = Delete 2 cut_program in
    let w = runs_as cut_rows_text params old new office_schema has command cut_is cut_plain done h.0 in
    let u = deletes (mode_of old) old.step_limit params (record { schema = office_schema; trees = old.now.trees })
    (statement_of cut_rows_text (understood office_schema cut_rows_text)) 2 (row_table side.Incoming) cut_program (w.tally, new.now) refl (no_works in_row_tree)
    (subst (λ s. Does old.step_limit (mode_of old) params (record old.now { schema = s }) (statement_of cut_rows_text (understood office_schema cut_rows_text)) None command (Ok (w.tally, new.now)))
    has w.changed) in
    record {
      schema = u.2;
      made = makes_cut n count u.0 old.now.trees new.now.trees (answers old.now.trees in_row_tree from_filter (col 1 0 ∷ []) params u.0 (u.1.answer Null)) u.3;
      store = w.sound;
    }
