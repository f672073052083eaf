-- What a query for the last number in a table returns.
use Rattle.std.proofs.Common.{◌≡◌, ◌+◌, ℕ, zero, suc, pos, List, [], ◌∷◌, length, map, slice_get, unwrap_or, codes, Option, refl, sym, ap, subst, ◌∙◌, arith}
use Rattle.std.specs.List.Sorted.{IsPermutation}
use Rattle.sqlite_tied.specs.Compute.{everything}
use Rattle.sqlite.specs.declared.types.Value.TheVariants.{Int, Null}
use Rattle.sqlite.specs.Order.{Row, column}
use Rattle.sqlite.specs.Tree.{Trees}
use Rattle.sqlite.specs.Term.{lit, col}
use Rattle.sqlite.specs.Query.{Query, IsAnswer, output}
use Rattle.sqlite.specs.Program.{overlay}
use Rattle.sqlite.specs.Command.{Command}
use Rattle.sqlite.specs.Command.TheVariants.{Select}
use Rattle.sqlite.specs.Listing.{understood}
use Rattle.sqlite.specs.State.{State, Shown}
use Rattle.oftp_tables.specs.Schema.{in_file_tree, office_schema, out_file_tree, received_tree}
use Rattle.oftp_register.specs.Register.{Register}
use Rattle.oftp_tables.specs.Tables.{Tables, in_file_row, number_value, out_file_row, received_row, rows_from}
use Rattle.oftp_tables.proofs.SortedLemmas.{ordered_query, found, answers_in_order}
use Rattle.oftp_store.specs.Numbers.{TellsNo, entries_in, last_text}
use Rattle.oftp_store.specs.declared.queries.last_number.Table.{Table}
use Rattle.oftp_store.specs.declared.queries.last_number.Table.TheVariants as table
use Rattle.oftp_store.proofs.DescentLemmas.{descends, down, falling, first_down, last_row, turned_over, up}
use Rattle.oftp_store.proofs.FirstLemmas.{less_number, number_told, shown}
use Rattle.oftp_store.proofs.ReadLemmas.{IsRead, read_so}

abbrev pub last_query : ℕ → Query
last_query tree = ordered_query tree [] (col 1 0 ∷ []) ((col 1 0, falling) ∷ []) (lit (Int (pos 1)))

module _ {X : Type 0} (row : ℕ → X → Row) (numbers : (n : ℕ) (x : X) → column (row n x) 0 ≡ number_value n) where
  outputs : (tree n : ℕ) (xs : List X) → map (output (last_query tree)) (found [] [] (rows_from row n xs)) ≡ up n (length xs)
  outputs tree n [] = refl
  outputs tree n (x ∷ xs) = let here : output (last_query tree) ([] ∷ row n x ∷ []) ≡ shown n = ap (λ v. (v ∷ [], v ∷ [])) (numbers n x) in rw here (ap (λ os. shown n ∷ os) (outputs tree (n + 1) xs))

  answers_last : (db : Trees) (tree : ℕ) (rows : List Row) (xs : List X) → db tree ≡ rows_from row 1 xs → IsAnswer (last_query tree) (overlay db []) [] rows → rows ≡ last_row 1 (length xs)
  answers_last db tree rows xs is answer =
      let all : map (output (last_query tree)) (found [] [] (db tree)) ≡ up 1 (length xs) = ap (λ t. map (output (last_query tree)) (found [] [] t)) is ∙ outputs tree 1 xs in
      answers_in_order db tree [] (col 1 0 ∷ []) ((col 1 0, falling) ∷ []) (lit (Int (pos 1))) [] rows (down 1 (length xs)) answer
      (descends (last_query tree) (λ j k h. rw (less_number j k h) refl) 1 (length xs))
      (subst (IsPermutation (down 1 (length xs))) (sym all) (turned_over 1 (length xs)))
      ∙ first_down 1 (length xs)

abbrev pub tree_of : Table → ℕ
tree_of table.IncomingFiles = in_file_tree
tree_of table.OutgoingFiles = out_file_tree
tree_of table.ReceivedResponses = received_tree

abbrev pub last_select : Table → Command
last_select which = Select (record { lets = []; body = last_query (tree_of which) }) (codes "no" ∷ [])

pub last_read : (which : Table) → IsRead (last_text which) (last_select which)
unfolding understood everything
last_read table.IncomingFiles = record { is = refl; unlisted = refl; plain = (refl, refl) }
last_read table.OutgoingFiles = record { is = refl; unlisted = refl; plain = (refl, refl) }
last_read table.ReceivedResponses = record { is = refl; unlisted = refl; plain = (refl, refl) }

last_there : (which : Table) (r : Register) (db : Trees) (rows : List Row) → Tables r db → IsAnswer (last_query (tree_of which)) (overlay db []) [] rows → rows ≡ last_row 1 (entries_in r which)
last_there table.IncomingFiles r db rows kept = answers_last in_file_row (λ n x. refl) db in_file_tree rows r.incoming kept.incoming.headers
last_there table.OutgoingFiles r db rows kept = answers_last out_file_row (λ n x. refl) db out_file_tree rows r.outgoing kept.outgoing.headers
last_there table.ReceivedResponses r db rows kept = answers_last received_row (λ n x. refl) db received_tree rows r.received kept.received.responses_are

last_is_told : (m : ℕ) (told : Option ℕ) (rows : List Row) → rows ≡ last_row 1 m → TellsNo told (slice_get rows 0) → unwrap_or told 0 ≡ m
last_is_told zero told rows is tells = ap (λ o. unwrap_or o 0) (number_told [] rows told is tells)
last_is_told (suc m) told rows is tells = let next : 1 + m ≡ suc m = omega arith in ap (λ o. unwrap_or o 0) (number_told ((1 + m) ∷ []) rows told is tells) ∙ next

pub finds_last_no : (which : Table) (old new : State) (rows : List Row) (told : Option ℕ) → old.now.schema ≡ office_schema → Shown (last_text which) [] old new rows
    → TellsNo told (slice_get rows 0)
    → (r : Register) → Tables r old.now.trees → unwrap_or told 0 ≡ entries_in r which
finds_last_no which old new rows told has h tells r kept =
    let read = read_so (last_text which) [] old new _ rows (last_read which) has h in
    last_is_told (entries_in r which) told rows (last_there which r old.now.trees rows kept (read.answer Null)) tells
