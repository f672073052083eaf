-- What the queries for the next item return.
use Rattle.std.proofs.Common.{◌≡◌, ◌==◌, ◌&&◌, ◌+◌, ◌<◌, ◌++◌, ◌^◌, ℕ, ℤ, pos, w64, to_z, of_z, nat_lt, Bool, true, false, cond, List, [], ◌∷◌, length, map, flat_map, find, slice_get, codes, Option, Some, None, is_gt, inl, inr, refl, sym, ap, subst, ◌∙◌, arith}
use Rattle.std.specs.List.{list_all, filter_map}
use Rattle.std.specs.List.Sorted.{IsPermutation}
use Rattle.std.specs.Option.{option_map}
use Rattle.std.specs.Ordering.{nat_cmp}
use Rattle.std.specs.Str.{bytes_eq}
use Rattle.std.proofs.lemmas.Bool.{cases_Bool}
use Rattle.std.proofs.lemmas.Bool.Decides.{nat_tests}
use Rattle.std.proofs.lemmas.Cmp.{on_total}
use Rattle.sqlite_tied.specs.Compute.{everything}
use Rattle.sqlite_sql.proofs.QueryLemmas.{key_cmp_total}
use Rattle.sqlite_keyed.proofs.SortLemmas.{sorted_unique}
use Rattle.sqlite.specs.Collation.TheVariants.{Binary}
use Rattle.sqlite.specs.declared.types.Value.TheVariants.{Int, Null, Text}
use Rattle.sqlite.specs.Order.{Row, value_cmp}
use Rattle.sqlite.specs.Tree.{Trees}
use Rattle.sqlite.specs.Term.{Term, Env, lit, col, holds, op2}
use Rattle.sqlite.specs.Ops.{binary, is_true, from_truth}
use Rattle.sqlite.specs.Query.{Query, IsAnswer, Output, output, output_cmp, inner, end}
use Rattle.sqlite.specs.Program.{overlay}
use Rattle.sqlite.specs.Command.{Command}
use Rattle.sqlite.specs.Command.TheVariants.{Select}
use Rattle.sqlite.specs.Listing.{understood}
use Rattle.sqlite.specs.State.{State, Shown}
use Rattle.sqlite_sql.specs.declared.ops.BinaryOp.TheVariants as by
use Rattle.sqlite_sql.specs.declared.ops.CompareOp.TheVariants as compare
use Rattle.oftp_tables.specs.Schema.{in_file_tree, issued_tree, office_schema, out_file_tree}
use Rattle.oftp_tables.proofs.TermLemmas.{and_true, equal, equal_numbers, equal_texts, number_cmp}
use Rattle.oftp_tables.proofs.QueryLemmas.{no_overlay}
use Rattle.oftp_register.specs.declared.entry.Dispatch.{Dispatch}
use Rattle.oftp_register.specs.declared.entry.Dispatch.TheVariants.{Due, Sent}
use Rattle.oftp_register.specs.declared.entry.OutgoingState.{OutgoingState}
use Rattle.oftp_register.specs.declared.entry.OutgoingState.TheVariants.{Waiting, Closing, Handed, Refused, Delivered, Returned}
use Rattle.oftp_register.specs.declared.entries.IssuedEntry.{IssuedEntry}
use Rattle.oftp_register.specs.declared.entries.OutgoingEntry.{OutgoingEntry}
use Rattle.oftp_register.specs.Register.{Register, Incoming, Issued, Outgoing}
use Rattle.oftp_register.specs.LookUps.{is_due, is_next_file, is_next_response, is_on_its_way, issued_entry, issued_response, numbered, outgoing_entry}
use Rattle.oftp_tables.specs.Tables.{Tables, in_file_row, issued_from, issued_if_any, issued_row, number_value, out_file_row, out_state_text, rows_from, sent_number}
use Rattle.oftp_tables.proofs.BindLemmas.{number_bound}
use Rattle.oftp_store.specs.Numbers.{TellsNo, next_number, next_text}
use Rattle.oftp_store.specs.declared.queries.next_number.Sendable.{Sendable}
use Rattle.oftp_store.specs.declared.queries.next_number.Sendable.TheVariants as sendable
use Rattle.oftp_store.proofs.FirstLemmas.{answers_first, ascending, first_query, first_row, first_shown, first_wanted, number_told, passing, rising, shown}
use Rattle.oftp_store.proofs.ReadLemmas.{IsRead, read_so}

abbrev pub above : Term → Term → Term
above = op2 (by.Compare compare.Gt Binary)

abbrev pub next_params : ℕ → List ℕ → Row
next_params tried partner = number_value tried ∷ Text partner ∷ []

-- the parameters of a query, a number and a partner, are passed unchanged
pub next_given : {tried : ℕ} {value : ℤ} {given partner : List ℕ} (text : List ℕ) (old new : State) (rows : List Row) → tried < 2 ^ 63 → value ≡ pos tried → given ≡ partner
    → Shown text (Int (to_z w64 (of_z w64 value)) ∷ Text given ∷ []) old new rows → Shown text (next_params tried partner) old new rows
next_given {tried} {value} text old new rows small value_is is h = rw (number_bound tried value value_is small, is) at h

gt_of_cmp : (m n : ℕ) → is_gt (nat_cmp m n) ≡ nat_lt n m
gt_of_cmp m n =
    elim (cases_Bool (nat_lt m n)) [
      | inl below ↦ let other : nat_lt n m ≡ false = grind (arith, nat_tests, below) in rw (below, other) refl
      | inr past ↦ elim (cases_Bool (m == n)) [
        | inl same ↦ let other : nat_lt n m ≡ false = grind (arith, nat_tests, same) in rw (past, same, other) refl
        | inr unlike ↦ let more : nat_lt n m ≡ true = grind (arith, nat_tests, past, unlike) in rw (past, unlike, more) refl
      ]
    ]

-- `>` on two numbers
pub greater_numbers : (m n : ℕ) → is_true (binary (by.Compare compare.Gt Binary) (Int (pos m)) (Int (pos n))) ≡ nat_lt n m
unfolding binary
greater_numbers m n = truth_of (is_gt (value_cmp (Int (pos m)) (Int (pos n)))) ∙ ap is_gt (number_cmp m n) ∙ gt_of_cmp m n
  where
    truth_of : (b : Bool) → is_true (from_truth (Some b)) ≡ b
    truth_of true = refl
    truth_of false = refl

-- ---- files

abbrev next_file_filter : List Term
next_file_filter = above (col 1 0) (col 0 0) ∷ op2 by.Or (equal (col 1 11) (lit (Text (codes "waiting")))) (equal (col 1 11) (lit (Text (codes "closing")))) ∷ equal (col 1 6) (col 0 1) ∷ []

on_its_way : (s : OutgoingState) → is_true (binary by.Or (binary (by.Compare compare.Eq Binary) (Text (out_state_text s)) (Text (codes "waiting"))) (binary (by.Compare compare.Eq Binary)
    (Text (out_state_text s)) (Text (codes "closing")))) ≡ is_on_its_way s
unfolding binary value_cmp lib.Ieee.is_nan lib.Ieee.lt
on_its_way Waiting = refl
on_its_way Closing = refl
on_its_way Handed = refl
on_its_way (Refused reason) = refl
on_its_way Delivered = refl
on_its_way Returned = refl

abbrev is_next : List ℕ → ℕ → ℕ → Outgoing → Bool
is_next partner tried n f = nat_lt tried n && (is_on_its_way f.state && bytes_eq f.identity.destination partner)

file_passes : (partner : List ℕ) (tried n : ℕ) (f : Outgoing) → list_all (holds (next_params tried partner ∷ out_file_row n f ∷ [])) next_file_filter ≡ is_next partner tried n f
file_passes partner tried n f = simp (greater_numbers, on_its_way, equal_texts, and_true)

-- ---- responses

abbrev due_filter : List Term
due_filter = equal (col 2 0) (col 1 0) ∷ above (col 1 0) (col 0 0) ∷ equal (col 1 5) (lit (Int (pos 0))) ∷ equal (col 2 5) (col 0 1) ∷ []

abbrev due_query : Query
due_query = record (first_query issued_tree due_filter) { from = inner issued_tree (inner in_file_tree end) }

-- the response of a file is the next one
abbrev is_due_in : List ℕ → ℕ → ℕ → Incoming → Option Issued → Bool
is_due_in partner tried n f None = false
is_due_in partner tried n f (Some x) = nat_lt tried n && (is_due x.dispatch && bytes_eq f.identity.originator partner)

abbrev is_answer_due : List ℕ → ℕ → ℕ → Incoming → Bool
is_answer_due partner tried n f = is_due_in partner tried n f f.response

unsent : (d : Dispatch) → (sent_number d == 0) ≡ is_due d
unsent Due = refl
unsent Sent = refl

pair_passes : (partner : List ℕ) (tried k m : ℕ) (x : Issued) (g : Incoming)
    → list_all (holds (next_params tried partner ∷ issued_row k x ∷ in_file_row m g ∷ [])) due_filter ≡ ((m == k) && is_due_in partner tried k g (Some x))
pair_passes partner tried k m x g = simp (equal_numbers, greater_numbers, equal_texts, and_true, unsent)

-- a row of one table joined with its row of the other
abbrev pairs : Row → Row → List Row → List Env
pairs params row = flat_map (λ s. cond (list_all (holds (params ∷ row ∷ s ∷ [])) due_filter) ((params ∷ row ∷ s ∷ []) ∷ []) [])

module _ (partner : List ℕ) (tried k : ℕ) (x : Issued) where
  abbrev params : Row
  params = next_params tried partner

  pairs_low : (n : ℕ) (fs : List Incoming) → k < n → pairs params (issued_row k x) (rows_from in_file_row n fs) ≡ []
  pairs_low n [] h = refl
  pairs_low n (f ∷ fs) h = let other : (n == k) ≡ false = grind (arith, nat_tests, h) in rw (pair_passes partner tried k n x f, other) (pairs_low (n + 1) fs (omega (arith, h)))

  pairs_there : (n : ℕ) (before : List Incoming) (f : Incoming) (after : List Incoming) → k ≡ n + length before
      → pairs params (issued_row k x) (rows_from in_file_row n (before ++ f ∷ after)) ≡ cond (is_due_in partner tried k f (Some x)) ((params ∷ issued_row k x ∷ in_file_row k f ∷ []) ∷ []) []
  pairs_there n [] f after is =
      let here : k ≡ n = omega (arith, is) in
      subst (λ m. pairs params (issued_row k x) (rows_from in_file_row m (f ∷ after))
      ≡ cond (is_due_in partner tried k f (Some x)) ((params ∷ issued_row k x ∷ in_file_row k f ∷ []) ∷ []) []) here first
    where
      alike : (k == k) ≡ true
      alike = grind (arith, nat_tests)

      nothing : (es : List Env) → es ++ [] ≡ es
      nothing [] = refl
      nothing (e ∷ es) = ap (λ more. e ∷ more) (nothing es)

      first : pairs params (issued_row k x) (rows_from in_file_row k (f ∷ after)) ≡ cond (is_due_in partner tried k f (Some x)) ((params ∷ issued_row k x ∷ in_file_row k f ∷ []) ∷ []) []
      first = rw (pair_passes partner tried k k x f, alike, pairs_low (k + 1) after (omega arith)) (nothing _)
  pairs_there n (g ∷ before) f after is = let other : (n == k)
      ≡ false = grind (arith, nat_tests, is) in rw (pair_passes partner tried k n x g, other) (pairs_there (n + 1) before f after (omega (arith, is)))

-- all pairs
abbrev all_pairs : Row → List Row → List Row → List Env
all_pairs params issued in_file = flat_map (λ r. pairs params r in_file) issued

append_nil-again : (before : List Incoming) (f : Incoming) (more : List Incoming) → (before ++ f ∷ []) ++ more ≡ before ++ f ∷ more
append_nil-again [] f more = refl
append_nil-again (b ∷ before) f more = ap (λ fs. b ∷ fs) (append_nil-again before f more)

length_more : (before : List Incoming) (f : Incoming) → length (before ++ f ∷ []) ≡ length before + 1
length_more [] f = refl
length_more (b ∷ before) f = let h = length_more before f in omega (arith, h)

due_shown : (partner : List ℕ) (tried n : ℕ) (files before rest : List Incoming) → files ≡ before ++ rest → n ≡ 1 + length before
    → map (output due_query) (all_pairs (next_params tried partner) (issued_from n rest) (rows_from in_file_row 1 files)) ≡ map shown (passing (is_answer_due partner tried) n rest)
due_shown partner tried n files before [] is at = refl
due_shown partner tried n files before (f ∷ more) is at =
    go f.response (due_shown partner tried (n + 1) files (before ++ f ∷ []) more (is ∙ sym (append_nil-again before f more)) (let h = length_more before f in omega (arith, h, at)))
  where
    all : List Row
    all = rows_from in_file_row 1 files

    params : Row
    params = next_params tried partner

    pair : (b : Bool) (x : Issued) → map (output due_query) (all_pairs params (issued_from (n + 1) more) all) ≡ map shown (passing (is_answer_due partner tried) (n + 1) more)
        → map (output due_query) (cond b ((params ∷ issued_row n x ∷ in_file_row n f ∷ []) ∷ []) [] ++ all_pairs params (issued_from (n + 1) more) all)
        ≡ map shown (cond b (n ∷ passing (is_answer_due partner tried) (n + 1) more) (passing (is_answer_due partner tried) (n + 1) more))
    pair true x later = ap (λ os. shown n ∷ os) later
    pair false x later = later

    go : (o : Option Issued) → map (output due_query) (all_pairs params (issued_from (n + 1) more) all) ≡ map shown (passing (is_answer_due partner tried) (n + 1) more)
        → map (output due_query) (all_pairs params (issued_if_any n o ++ issued_from (n + 1) more) all)
        ≡ map shown (cond (is_due_in partner tried n f o) (n ∷ passing (is_answer_due partner tried) (n + 1) more) (passing (is_answer_due partner tried) (n + 1) more))
    go None later = later
    go (Some x) later =
        let here : pairs params (issued_row n x) all ≡ cond (is_due_in partner tried n f (Some x)) ((params ∷ issued_row n x ∷ in_file_row n f ∷ []) ∷ []) [] =
        ap (λ fs. pairs params (issued_row n x) (rows_from in_file_row 1 fs)) is ∙ pairs_there partner tried n x 1 before f more at in
        ap (λ es. map (output due_query) (es ++ all_pairs params (issued_from (n + 1) more) all)) here ∙ pair (is_due_in partner tried n f (Some x)) x later

-- the result of the query
due_rows : (db : Trees) (partner : List ℕ) (tried : ℕ) (rows : List Row) (files : List Incoming) → db issued_tree ≡ issued_from 1 files → db in_file_tree ≡ rows_from in_file_row 1 files
    → IsAnswer due_query (overlay db []) (next_params tried partner) rows → rows ≡ first_row (passing (is_answer_due partner tried) 1 files)
due_rows db partner tried rows files issued headers a =
    let params = next_params tried partner in
    let wanted = map shown (passing (is_answer_due partner tried) 1 files) in
    let tables : all_pairs params (overlay db [] issued_tree) (overlay db [] in_file_tree) ≡ all_pairs params (issued_from 1 files) (rows_from in_file_row 1 files) =
    ap (λ t. all_pairs params t (overlay db [] in_file_tree)) (no_overlay db issued_tree ∙ issued) ∙ ap (all_pairs params (issued_from 1 files)) (no_overlay db in_file_tree ∙ headers) in
    let kept : a.kept ≡ wanted = a.distinct ∙ ap (map (output due_query)) (a.grouped ∙ tables) ∙ due_shown partner tried 1 files [] files refl refl in
    let there : IsPermutation wanted a.ordered = subst (λ os. IsPermutation os a.ordered) kept a.same in
    let order_is : a.ordered ≡ wanted = sorted_unique (output_cmp due_query) (on_total (λ (o : Output). o.0) (key_cmp_total (rising ∷ []) 0)) wanted a.ordered (ascending due_filter
    (is_answer_due partner tried) issued_tree 1 files) there a.sorted in
    a.shown ∙ ap (λ (os : List Output). Rattle.sqlite.specs.Query.page due_query params (map (λ (o : Output). o.1) os)) order_is ∙ first_shown (passing (is_answer_due partner tried) 1 files)

-- the number of the first entry that is wanted
first_due : (partner : List ℕ) (tried n : ℕ) (files : List Incoming)
    → slice_get (passing (is_answer_due partner tried) n files) 0
    ≡ option_map (λ (e : IssuedEntry). e.no) (find (is_next_response partner tried) (filter_map (λ entry. entry) (numbered issued_entry n files)))
first_due partner tried n [] = refl
first_due partner tried n (f ∷ files) = go f.response (first_due partner tried (n + 1) files)
  where
    rest : Option IssuedEntry
    rest = find (is_next_response partner tried) (filter_map (λ entry. entry) (numbered issued_entry (n + 1) files))

    later : List ℕ
    later = passing (is_answer_due partner tried) (n + 1) files

    entry : Issued → IssuedEntry
    entry x = record { no = n; identity = f.identity; response = issued_response x }

    pick : (b : Bool) (x : Issued) → slice_get later 0 ≡ option_map (λ (e : IssuedEntry). e.no) rest
        → slice_get (cond b (n ∷ later) later) 0 ≡ option_map (λ (e : IssuedEntry). e.no) (cond b (Some (entry x)) rest)
    pick true x more = refl
    pick false x more = more

    go : (o : Option Issued) → slice_get later 0 ≡ option_map (λ (e : IssuedEntry). e.no) rest
        → slice_get (cond (is_due_in partner tried n f o) (n ∷ later) later) 0
        ≡ option_map (λ (e : IssuedEntry). e.no) (find (is_next_response partner tried) (filter_map (λ entry. entry) (option_map entry o ∷ numbered issued_entry (n + 1) files)))
    go None more = more
    go (Some x) more = pick (is_due_in partner tried n f (Some x)) x more

-- ---- either

abbrev pub query_of : Sendable → Query
query_of sendable.File = first_query out_file_tree next_file_filter
query_of sendable.Response = due_query

abbrev pub next_select : Sendable → Command
next_select what = Select (record { lets = []; body = query_of what }) (codes "no" ∷ [])

pub next_read : (what : Sendable) → IsRead (next_text what) (next_select what)
unfolding understood everything
next_read sendable.File = record { is = refl; unlisted = refl; plain = (refl, refl) }
next_read sendable.Response = record { is = refl; unlisted = refl; plain = (refl, refl) }

next_there : (what : Sendable) (partner : List ℕ) (tried : ℕ) (rows : List Row) (told : Option ℕ) (r : Register) (db : Trees) → TellsNo told (slice_get rows 0) → Tables r db
    → IsAnswer (query_of what) (overlay db []) (next_params tried partner) rows → told ≡ next_number r what partner tried
next_there sendable.File partner tried rows told r db tells kept answer =
    number_told _ rows told (answers_first out_file_row (λ n x. refl) next_file_filter (next_params tried partner) (is_next partner tried)
    (file_passes partner tried) db out_file_tree rows r.outgoing kept.outgoing.headers answer) tells
    ∙ first_wanted outgoing_entry (λ (e : OutgoingEntry). e.no) (λ n x. refl) (is_next_file partner tried) (is_next partner tried) (λ n x. refl) 1 r.outgoing
next_there sendable.Response partner tried rows told r db tells kept answer =
    number_told _ rows told (due_rows db partner tried rows r.incoming kept.incoming.responses kept.incoming.headers answer) tells
    ∙ first_due partner tried 1 r.incoming

pub finds_next : (what : Sendable) (old new : State) (partner : List ℕ) (tried : ℕ) (rows : List Row) (told : Option ℕ) → old.now.schema ≡ office_schema
    → Shown (next_text what) (next_params tried partner) old new rows → TellsNo told (slice_get rows 0)
    → (r : Register) → Tables r old.now.trees → told ≡ next_number r what partner tried
finds_next what old new partner tried rows told has h tells r kept =
    let read = read_so (next_text what) (next_params tried partner) old new _ rows (next_read what) has h in
    next_there what partner tried rows told r old.now.trees tells kept (read.answer Null)
