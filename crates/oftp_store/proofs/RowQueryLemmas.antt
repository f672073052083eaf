-- What the look-ups on the rows of a file return.
use Rattle.std.proofs.Common.{◌≡◌, ◌==◌, ◌&&◌, ◌+◌, ◌<◌, ℕ, zero, suc, pos, Bool, true, nat_le, List, [], ◌∷◌, length, map, drop, take, filter, slice_get, unwrap_or, codes, Some, Less, refl, sym, ap, subst, subst₂, ◌∙◌, arith}
use Rattle.std.specs.List.{AllByRecursion, list_all}
use Rattle.std.specs.List.Sorted.{IsPermutation}
use Rattle.std.proofs.lemmas.Bool.Decides.{nat_tests}
use Rattle.std.proofs.lemmas.List.Sorted.{IsPermutation-map, IsPermutation-trans}
use Rattle.sqlite_tied.specs.Compute.{everything}
use Rattle.sqlite_trees.specs.Tree.{IsAscending}
use Rattle.sqlite.specs.Collation.TheVariants.{Binary}
use Rattle.sqlite.specs.declared.types.Value.TheVariants.{Null, Int, Blob}
use Rattle.sqlite.specs.Order.{Row, column}
use Rattle.sqlite.specs.Tree.{Trees}
use Rattle.sqlite.specs.Term.{Term, lit, col, holds}
use Rattle.sqlite.specs.Ops.{binary, is_true}
use Rattle.sqlite.specs.Query.{Query, IsAnswer, Output, output, output_cmp}
use Rattle.sqlite.specs.Program.{overlay}
use Rattle.sqlite.specs.Command.{Command}
use Rattle.sqlite.specs.Command.TheVariants.{Select}
use Rattle.sqlite.specs.Listing.{understood}
use Rattle.sqlite.specs.State.{State, Shown}
use Rattle.sqlite_sql.specs.declared.ops.BinaryOp.TheVariants as by
use Rattle.sqlite_sql.specs.declared.ops.CompareOp.TheVariants as compare
use Rattle.oftp_tables.specs.Schema.{in_row_tree, office_schema, out_row_tree}
use Rattle.oftp_tables.proofs.TermLemmas.{equal, equal_numbers, and_true}
use Rattle.oftp_register.specs.declared.entries.Side.{Side}
use Rattle.oftp_register.specs.declared.entries.Side.TheVariants as side
use Rattle.oftp_register.specs.Register.{Register}
use Rattle.oftp_register.specs.LookUps.{entry_at, file_rows}
use Rattle.oftp_tables.specs.Tables.{Tables, body_row, body_rows, bodies_from, has_number, less_rowids, number_value, rows_in, rows_out}
use Rattle.oftp_tables.proofs.SortedLemmas.{ordered_query, found, answers_in_order}
use Rattle.oftp_tables.proofs.PlaceLemmas.{place}
use Rattle.oftp_tables.proofs.RowLemmas.{from_filter, from_passes, from_same, from_test}
use Rattle.oftp_tables.proofs.SpotLemmas.{Spot, spot, zeroth, there, past}
use Rattle.oftp_tables.proofs.ManyLemmas.{without_rowids, rows_from_place, no_rows_past, no_rows_zeroth, passing}
use Rattle.oftp_store.specs.Reads.{TellsCount}
use Rattle.oftp_store.specs.Texts.{last_row_text, some_rows_text}
use Rattle.oftp_store.proofs.DescentLemmas.{descends, down, falling, first_down, last_row, turned_over, up}
use Rattle.oftp_store.proofs.FirstLemmas.{less_number, rising, shown}
use Rattle.oftp_store.proofs.NumberLemmas.{entry_beyond, entry_placed}
use Rattle.oftp_store.proofs.ReadLemmas.{IsRead, read_so}

abbrev pub tree_of : Side → ℕ
tree_of side.Incoming = in_row_tree
tree_of side.Outgoing = out_row_tree

-- ---- the rows of a file

-- from a position on

abbrev some_query : ℕ → Query
some_query tree = ordered_query tree from_filter (col 1 3 ∷ []) ((col 1 2, rising) ∷ []) (col 0 2)

abbrev pub some_select : ℕ → Command
some_select tree = Select (record { lets = []; body = some_query tree }) (codes "body" ∷ [])

pub some_read : (which : Side) → IsRead (some_rows_text which) (some_select (tree_of which))
unfolding understood everything
some_read side.Incoming = record { is = refl; unlisted = refl; plain = (refl, refl) }
some_read side.Outgoing = record { is = refl; unlisted = refl; plain = (refl, refl) }

abbrev pub some_params : ℕ → ℕ → ℕ → Row
some_params n from most = number_value n ∷ number_value from ∷ number_value most ∷ []

abbrev some_show : Row → Output
some_show row = (column row 1 ∷ [], column row 2 ∷ [])

some_shows : (tree n from most : ℕ) (r : Row) → output (some_query tree) (some_params n from most ∷ r ∷ []) ≡ some_show (drop 1 r)
some_shows tree n from most [] = refl
some_shows tree n from most (v ∷ r) = refl

rising_rows : (tree n at : ℕ) (bodies : List (List ℕ)) → IsAscending (λ a b. output_cmp (some_query tree) a b ≡ Less) (map some_show (body_rows n at bodies))
rising_rows tree n at [] = tt
rising_rows tree n at (b ∷ bodies) = (later (at + 1) bodies (omega arith), rising_rows tree n (at + 1) bodies)
  where
    later : (k : ℕ) (more : List (List ℕ)) → at < k → AllByRecursion (λ o. output_cmp (some_query tree) (some_show (body_row n at b)) o ≡ Less) (map some_show (body_rows n k more))
    later k [] h = tt
    later k (c ∷ more) h = (rw (less_number at k h) refl, later (k + 1) more (omega (arith, h)))

shown_bodies : (n at : ℕ) (bodies : List (List ℕ)) → map (λ (o : Output). o.1) (map some_show (body_rows n at bodies)) ≡ map (λ b. Blob b ∷ []) bodies
shown_bodies n at [] = refl
shown_bodies n at (b ∷ bodies) = ap (λ (rows : List Row). (Blob b ∷ []) ∷ rows) (shown_bodies n (at + 1) bodies)

-- the rows of a file that a register has
pub data Bodies (n from : ℕ) (files : List (List (List ℕ))) (rows : List (List ℕ)) : Type 0 where
  are : filter (λ r. has_number n r && nat_le from (place r)) (bodies_from 1 files) ≡ body_rows n from (drop from rows) → Bodies n from files rows

bodies_at : (n from : ℕ) (files : List (List (List ℕ))) → Bodies n from files (unwrap_or (entry_at n files) [])
bodies_at n from files = go (spot n files)
  where
    drop_nothing : (k : ℕ) → (let none : List (List ℕ) = [] in drop k none ≡ none)
    drop_nothing zero = refl
    drop_nothing (suc k) = refl

    go : Spot n files → Bodies n from files (unwrap_or (entry_at n files) [])
    go (zeroth is) = subst (λ m. Bodies m from files (unwrap_or (entry_at m files) [])) (sym is) (are (no_rows_zeroth from files ∙ ap (body_rows 0 from) (sym (drop_nothing from))))
    go (past h) =
        let none : unwrap_or (entry_at n files) [] ≡ [] = ap (λ o. unwrap_or o []) (entry_beyond n files h) in
        subst (Bodies n from files) (sym none) (are (no_rows_past n from files h ∙ ap (body_rows n from) (sym (drop_nothing from))))
    go (there before f after is at) =
        let here : unwrap_or (entry_at n files) [] ≡ f = ap (λ o. unwrap_or o []) (entry_placed n files before f after (record { here = is; number = at })) in
        subst (Bodies n from files) (sym here) (are (ap (λ fs. filter (λ r. has_number n r && nat_le from (place r)) (bodies_from 1 fs)) is ∙ rows_from_place n from before f after at))

-- the rows of the files of a side

abbrev files_of : Side → Register → List (List (List ℕ))
files_of side.Incoming r = map rows_in r.incoming
files_of side.Outgoing r = map rows_out r.outgoing

own_rows : (which : Side) (r : Register) (n : ℕ) → file_rows r which n ≡ unwrap_or (entry_at n (files_of which r)) []
own_rows side.Incoming r n = refl
own_rows side.Outgoing r n = refl

kept_rows : (which : Side) (r : Register) (db : Trees) → Tables r db → IsPermutation (bodies_from 1 (files_of which r)) (less_rowids (db (tree_of which)))
kept_rows side.Incoming r db kept = kept.incoming.rows
kept_rows side.Outgoing r db kept = kept.outgoing.rows

pub finds_rows : (which : Side) (old new : State) (n from most : ℕ) (rows : List Row) → old.now.schema ≡ office_schema
    → Shown (some_rows_text which) (some_params n from most) old new rows → (r : Register) → Tables r old.now.trees
    → rows ≡ map (λ b. Blob b ∷ []) (take most (drop from (file_rows r which n)))
finds_rows which old new n from most rows has h r kept =
    let params = some_params n from most in
    let read = read_so (some_rows_text which) params old new _ rows (some_read which) has h in
    go (subst (Bodies n from (files_of which r)) (sym (own_rows which r n)) (bodies_at n from (files_of which r))) (read.answer Null)
  where
    take_map : (m : ℕ) (bs : List (List ℕ)) → take m (map (λ b. Blob b ∷ []) bs) ≡ map (λ b. Blob b ∷ []) (take m bs)
    take_map zero bs = refl
    take_map (suc m) [] = refl
    take_map (suc m) (b ∷ bs) = ap (λ (rows : List Row). (Blob b ∷ []) ∷ rows) (take_map m bs)

    go : Bodies n from (files_of which r) (file_rows r which n) → IsAnswer (some_query (tree_of which)) (overlay old.now.trees []) (some_params n from most) rows
        → rows ≡ map (λ b. Blob b ∷ []) (take most (drop from (file_rows r which n)))
    go (are is) answer =
        let db = old.now.trees in
        let all = body_rows n from (drop from (file_rows r which n)) in
        let among : IsPermutation all (filter (from_test n from) (less_rowids (db (tree_of which)))) =
        subst (λ xs. IsPermutation xs (filter (from_test n from) (less_rowids (db (tree_of which))))) is
        (passing (from_test n from) (λ r. has_number n r && nat_le from (place r)) (from_same n from) (files_of which r) (less_rowids (db (tree_of which))) (kept_rows which r db kept)) in
        let wanted : IsPermutation (map some_show all) (map (output (some_query (tree_of which))) (found from_filter (some_params n from most) (db (tree_of which)))) =
        subst (IsPermutation (map some_show all))
        (sym (without_rowids (some_query (tree_of which)) (some_params n from most) (from_test n from) some_show (from_passes n from (number_value most ∷ []))
        (some_shows (tree_of which) n from most) (db (tree_of which)))) (IsPermutation-map some_show all _ among) in
        answers_in_order db (tree_of which) from_filter (col 1 3 ∷ []) ((col 1 2, rising) ∷ []) (col 0 2) (some_params n from most) rows (map some_show all) answer
        (rising_rows (tree_of which) n from (drop from (file_rows r which n))) wanted
        ∙ ap (take most) (shown_bodies n from (drop from (file_rows r which n))) ∙ take_map most (drop from (file_rows r which n))

-- ---- the last row

abbrev last_filter : List Term
last_filter = equal (col 1 1) (col 0 0) ∷ []

abbrev last_query : ℕ → Query
last_query tree = ordered_query tree last_filter (col 1 2 ∷ []) ((col 1 2, falling) ∷ []) (lit (Int (pos 1)))

abbrev pub last_select : ℕ → Command
last_select tree = Select (record { lets = []; body = last_query tree }) (codes "pos" ∷ [])

pub last_read : (which : Side) → IsRead (last_row_text which) (last_select (tree_of which))
unfolding understood everything
last_read side.Incoming = record { is = refl; unlisted = refl; plain = (refl, refl) }
last_read side.Outgoing = record { is = refl; unlisted = refl; plain = (refl, refl) }

abbrev last_test : ℕ → Row → Bool
last_test n row = is_true (binary (by.Compare compare.Eq Binary) (column row 0) (number_value n)) && true

abbrev last_show : Row → Output
last_show row = (column row 1 ∷ [], column row 1 ∷ [])

last_passes : (n : ℕ) (r : Row) → list_all (holds ((number_value n ∷ []) ∷ r ∷ [])) last_filter ≡ last_test n (drop 1 r)
last_passes n [] = refl
last_passes n (v ∷ r) = refl

last_shows : (tree n : ℕ) (r : Row) → output (last_query tree) ((number_value n ∷ []) ∷ r ∷ []) ≡ last_show (drop 1 r)
last_shows tree n [] = refl
last_shows tree n (v ∷ r) = refl

from_first : (at : ℕ) (b : Bool) → (b && nat_le 0 at) ≡ (b && true)
from_first at b = let any : nat_le 0 at ≡ true = grind (arith, nat_tests) in rw any refl

last_same : (n m at : ℕ) (b : List ℕ) → last_test n (body_row m at b) ≡ (has_number n (body_row m at b) && nat_le 0 (place (body_row m at b)))
last_same n m at b = simp (equal_numbers, and_true) (sym (from_first at (m == n) ∙ and_true (m == n)))

places_of : (n at : ℕ) (bodies : List (List ℕ)) → map last_show (body_rows n at bodies) ≡ up at (length bodies)
places_of n at [] = refl
places_of n at (b ∷ bodies) = ap (λ os. shown at ∷ os) (places_of n (at + 1) bodies)

pub finds_last : (which : Side) (old new : State) (n : ℕ) (rows : List Row) → old.now.schema ≡ office_schema
    → Shown (last_row_text which) (number_value n ∷ []) old new rows → (r : Register) → Tables r old.now.trees
    → rows ≡ last_row 0 (length (file_rows r which n))
finds_last which old new n rows has h r kept =
    let read = read_so (last_row_text which) (number_value n ∷ []) old new _ rows (last_read which) has h in
    go (subst (Bodies n 0 (files_of which r)) (sym (own_rows which r n)) (bodies_at n 0 (files_of which r))) (read.answer Null)
  where
    go : Bodies n 0 (files_of which r) (file_rows r which n) → IsAnswer (last_query (tree_of which)) (overlay old.now.trees []) (number_value n ∷ []) rows
        → rows ≡ last_row 0 (length (file_rows r which n))
    go (are is) answer =
        let db = old.now.trees in
        let bodies = file_rows r which n in
        let among : IsPermutation (body_rows n 0 bodies) (filter (last_test n) (less_rowids (db (tree_of which)))) =
        subst (λ xs. IsPermutation xs (filter (last_test n) (less_rowids (db (tree_of which))))) is
        (passing (last_test n) (λ r. has_number n r && nat_le 0 (place r)) (last_same n) (files_of which r) (less_rowids (db (tree_of which))) (kept_rows which r db kept)) in
        let outputs : IsPermutation (up 0 (length bodies)) (map (output (last_query (tree_of which))) (found last_filter (number_value n ∷ []) (db (tree_of which)))) =
        subst₂ IsPermutation (places_of n 0 bodies)
        (sym (without_rowids (last_query (tree_of which)) (number_value n ∷ []) (last_test n) last_show (last_passes n) (last_shows (tree_of which) n) (db (tree_of which))))
        (IsPermutation-map last_show (body_rows n 0 bodies) _ among) in
        answers_in_order db (tree_of which) last_filter (col 1 2 ∷ []) ((col 1 2, falling) ∷ []) (lit (Int (pos 1))) (number_value n ∷ []) rows
        (down 0 (length bodies)) answer (descends (last_query (tree_of which)) (λ j k h. rw (less_number j k h) refl) 0 (length bodies))
        (IsPermutation-trans _ _ _ (turned_over 0 (length bodies)) outputs)
        ∙ first_down 0 (length bodies)

pub count_is_told : (n count : ℕ) (rows : List Row) → rows ≡ last_row 0 n → TellsCount (slice_get rows 0) count → count ≡ n
count_is_told zero count rows is tells = subst (λ rows. TellsCount (slice_get rows 0) count → count ≡ 0) (sym is) (λ t. t) tells
count_is_told (suc n) count rows is tells = subst (λ rows. TellsCount (slice_get rows 0) count → count ≡ suc n) (sym is) same tells
  where
    same : TellsCount (Some (number_value (0 + n) ∷ [])) count → count ≡ suc n
    same (at, is, counted) = let same : 0 + n ≡ at = cc in omega (arith, counted, same)
