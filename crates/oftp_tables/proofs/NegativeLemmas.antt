-- The numbers of the Negative End Responses, as the query returns them.
use Rattle.std.proofs.Common.{◌≡◌, ◌+◌, ◌<◌, ◌++◌, ◌&&◌, ◌∙◌, ℕ, negsuc, Bool, true, false, cond, List, [], ◌∷◌, map, codes, Less, Result, Ok, Err, IfOk, OnOk, refl, sym, ap, subst, arith}
use Rattle.std.specs.List.{AllByRecursion}
use Rattle.std.specs.List.Sorted.{IsPermutation}
use Rattle.std.proofs.lemmas.List.Sorted.{IsPermutation-refl}
use Rattle.sqlite_tied.specs.Compute.{everything}
use Rattle.sqlite_value.specs.declared.keys.Key.{Key}
use Rattle.sqlite_trees.specs.Tree.{IsAscending}
use Rattle.sqlite.specs.Collation.TheVariants.{Binary}
use Rattle.sqlite.specs.declared.types.Value.TheVariants.{Null, Int, Text}
use Rattle.sqlite.specs.Order.{Row}
use Rattle.sqlite.specs.Schema.{Schema}
use Rattle.sqlite.specs.Term.{Term, col, lit}
use Rattle.sqlite.specs.Query.{Output, Query, output, output_cmp}
use Rattle.sqlite.specs.Command.{Command}
use Rattle.sqlite.specs.Command.TheVariants.{Select}
use Rattle.sqlite.specs.Listing.{understood, reads_listing}
use Rattle.sqlite.specs.State.{State, Shown}
use Rattle.sqlite.proofs.Callers.{IsPlain, reads_as}
use Rattle.oftp_register.specs.declared.entry.ResponseKind.{ResponseKind}
use Rattle.oftp_register.specs.declared.entry.ResponseKind.TheVariants.{EndResponse, NegativeEndResponse}
use Rattle.oftp_register.specs.Register.{Received}
use Rattle.oftp_tables.specs.Schema.{first_schema, received_tree}
use Rattle.sqlite.specs.Ops.{binary, is_true}
use Rattle.sqlite_sql.specs.declared.ops.BinaryOp.TheVariants as by
use Rattle.sqlite_sql.specs.declared.ops.CompareOp.TheVariants as compare
use Rattle.oftp_tables.proofs.TermLemmas.{equal, equal_texts}
use Rattle.oftp_tables.specs.Tables.{kind_text, number_value, received_row, rows_from}
use Rattle.oftp_tables.proofs.OrderedLemmas.{less}
use Rattle.oftp_tables.proofs.SqlLemmas.{IsRead, is_read}
use Rattle.oftp_tables.proofs.SortedLemmas.{ordered_query, found, answers_in_order}
use Rattle.oftp_tables.specs.MigrationSteps.{AreNegatives, number_if_negative, numbers_from}

abbrev pub negatives_text : List ℕ
negatives_text = codes "SELECT no FROM received WHERE kind = 'NERP' ORDER BY no"

abbrev rising : Key
rising = record { collation = Binary; descending = false }

abbrev filter : List Term
filter = equal (col 1 2) (lit (Text (codes "NERP"))) ∷ []

abbrev query : Query
query = ordered_query received_tree filter (col 1 0 ∷ []) ((col 1 0, rising) ∷ []) (lit (Int (negsuc 0)))

abbrev select : Command
select = Select (record { lets = []; body = query }) (codes "no" ∷ [])

negatives_read : IsRead negatives_text select (understood first_schema negatives_text)
unfolding understood everything
negatives_read = is_read _ _ _ (refl, refl, refl, refl)

negatives_unlisted : reads_listing first_schema negatives_text ≡ false
unfolding understood everything
negatives_unlisted = refl

pub plain_at : (schema : Schema) → schema ≡ first_schema → IsPlain (understood schema negatives_text)
plain_at schema is = subst (λ s. IsPlain (understood s negatives_text)) (sym is) negatives_read.plain

pub on_shown : {A E : Type 0} (result : Result A E) (P : A → Type 0) (Q : Type 0) → IfOk result P → ((x : A) → P x → Q) → OnOk result Q
on_shown (Ok x) P Q h f = f x h
on_shown (Err e) P Q h f = tt

-- the columns that are returned, and the order
abbrev shown : ℕ → Output
shown n = (number_value n ∷ [], number_value n ∷ [])

abbrev shown_if_negative : ℕ → ResponseKind → List Output
shown_if_negative n EndResponse = []
shown_if_negative n NegativeEndResponse = shown n ∷ []

abbrev shown_from : ℕ → List Received → List Output
shown_from n [] = []
shown_from n (x ∷ xs) = shown_if_negative n x.kind ++ shown_from (n + 1) xs

abbrev is_negative : ResponseKind → Bool
is_negative EndResponse = false
is_negative NegativeEndResponse = true

test : (k : ResponseKind) → is_true (binary (by.Compare compare.Eq Binary) (Text (kind_text k)) (Text (codes "NERP"))) ≡ is_negative k
test EndResponse = equal_texts (codes "EERP") (codes "NERP")
test NegativeEndResponse = equal_texts (codes "NERP") (codes "NERP")

found_from : (n : ℕ) (xs : List Received) → map (output query) (found filter [] (rows_from received_row n xs)) ≡ shown_from n xs
found_from n [] = refl
found_from n (x ∷ xs) =
    let envs = λ (k : ResponseKind). cond (is_negative k && true) (([] ∷ received_row n x ∷ []) ∷ []) [] in
    let rest = found filter [] (rows_from received_row (n + 1) xs) in
    rw (test x.kind) (elim x.kind as (λ k. map (output query) (envs k ++ rest) ≡ shown_if_negative n k ++ shown_from (n + 1) xs) [
      | EndResponse ↦ found_from (n + 1) xs
      | NegativeEndResponse ↦ ap (λ (os : List Output). shown n ∷ os) (found_from (n + 1) xs)
    ])

later : (k n : ℕ) (xs : List Received) → k < n → AllByRecursion (λ o. output_cmp query (shown k) o ≡ Less) (shown_from n xs)
later k n [] h = tt
later k n (x ∷ xs) h =
    elim x.kind as (λ kind. AllByRecursion (λ o. output_cmp query (shown k) o ≡ Less) (shown_if_negative n kind ++ shown_from (n + 1) xs)) [
      | EndResponse ↦ later k (n + 1) xs (omega (arith, h))
      | NegativeEndResponse ↦ (rw (less k n h) refl, later k (n + 1) xs (omega (arith, h)))
    ]

rising_from : (n : ℕ) (xs : List Received) → IsAscending (λ a b. output_cmp query a b ≡ Less) (shown_from n xs)
rising_from n [] = tt
rising_from n (x ∷ xs) =
    elim x.kind as (λ kind. IsAscending (λ a b. output_cmp query a b ≡ Less) (shown_if_negative n kind ++ shown_from (n + 1) xs)) [
      | EndResponse ↦ rising_from (n + 1) xs
      | NegativeEndResponse ↦ (later n (n + 1) xs (omega arith), rising_from (n + 1) xs)
    ]

told_from : (n : ℕ) (xs : List Received) → map (λ (o : Output). o.1) (shown_from n xs) ≡ numbers_from n xs
told_from n [] = refl
told_from n (x ∷ xs) =
    elim x.kind as (λ k. map (λ (o : Output). o.1) (shown_if_negative n k ++ shown_from (n + 1) xs) ≡ number_if_negative n k ++ numbers_from (n + 1) xs) [
      | EndResponse ↦ told_from (n + 1) xs
      | NegativeEndResponse ↦ ap (λ (rows : List Row). (number_value n ∷ []) ∷ rows) (told_from (n + 1) xs)
    ]

pub finds_negatives : (old new : State) (rows : List Row) → old.now.schema ≡ first_schema → Shown negatives_text [] old new rows → AreNegatives old.now.trees rows
finds_negatives old new rows has h r first =
    let read = reads_as negatives_text [] old new first_schema has select negatives_read.command_is negatives_read.plain negatives_unlisted rows h in
    let xs = r.received in
    let wanted = shown_from 1 xs in
    let same : wanted ≡ map (output query) (found filter [] (old.now.trees received_tree)) = sym (ap (λ rows. map (output query) (found filter [] rows)) first.received ∙ found_from 1 xs) in
    answers_in_order old.now.trees received_tree filter (col 1 0 ∷ []) ((col 1 0, rising) ∷ []) (lit (Int (negsuc 0))) [] rows wanted (read.answer Null) (rising_from 1 xs)
    (subst (IsPermutation wanted) same (IsPermutation-refl wanted))
    ∙ told_from 1 xs
