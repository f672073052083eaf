-- What a page of a table answers, whatever its entries, with what is joined to each.
use Rattle.std.proofs.Common.{◌≡◌, ◌==◌, ◌&&◌, ◌+◌, ◌<◌, ◌++◌, ℕ, zero, suc, pos, negsuc, nat_lt, slice_get, Some, option_map, Bool, true, false, cond, if◌then◌else◌, List, [], ◌∷◌, length, map, flat_map, filter, take, drop, Less, refl, sym, ap, subst, ◌∙◌, arith, append_assoc, append-nil, length-append}
use Rattle.std.specs.List.{AllByRecursion, list_all}
use Rattle.std.specs.List.Sorted.{IsPermutation}
use Rattle.std.proofs.lemmas.Bool.Decides.{nat_tests}
use Rattle.std.proofs.lemmas.Cmp.{on_total}
use Rattle.std.proofs.lemmas.List.{take-map}
use Rattle.std.proofs.lemmas.Option.{slice_get-map}
use Rattle.sqlite_sql.proofs.QueryLemmas.{key_cmp_total}
use Rattle.sqlite_keyed.proofs.SortLemmas.{sorted_unique}
use Rattle.sqlite_trees.specs.Tree.{IsAscending}
use Rattle.sqlite.specs.Collation.TheVariants.{Binary}
use Rattle.sqlite.specs.declared.types.Value.{Value}
use Rattle.sqlite.specs.declared.types.Value.TheVariants.{Blob, Int, Null, Real, Text}
use Rattle.sqlite.specs.Order.{Row, column}
use Rattle.sqlite.specs.Tree.{Trees}
use Rattle.sqlite.specs.Term.{Term, Env, col, eval, eval_all, holds}
use Rattle.sqlite.specs.Ops.{binary, is_true}
use Rattle.sqlite.specs.Query.{Query, Join, IsAnswer, Output, output, output_cmp, matches, inner, left, end, or_nulls}
use Rattle.sqlite.specs.Program.{overlay}
use Rattle.sqlite_sql.specs.declared.ops.BinaryOp.TheVariants as by
use Rattle.sqlite_sql.specs.declared.ops.CompareOp.TheVariants as compare
use Rattle.sqlite.specs.Command.{Command}
use Rattle.sqlite.specs.Effect.{Database, Reads}
use Rattle.sqlite.specs.State.{State, Shown}
use Rattle.sqlite.proofs.Callers.{reads_as}
use Rattle.oftp_register.specs.LookUps.{numbered}
use Rattle.oftp_register.specs.Register.{Register}
use Rattle.oftp_register.specs.Soundness.{IsSound}
use Rattle.oftp_tables.specs.Schema.{office_schema}
use Rattle.oftp_tables.specs.Tables.{Tables, number_in, number_value, rows_from}
use Rattle.oftp_tables.proofs.QueryLemmas.{no_overlay}
use Rattle.oftp_tables.proofs.SortedLemmas.{ordered_query}
use Rattle.oftp_tables.proofs.SplitLemmas.{HaveNumber, IsAbove, IsSplit, among, pieces_from}
use Rattle.oftp_tables.proofs.TermLemmas.{and_true, equal, equal_numbers}
use Rattle.oftp_store.specs.Reads.{IsPlaced, numbers_of}
use Rattle.oftp_store.specs.Tells.{FindsPages}
use Rattle.oftp_store.proofs.FirstLemmas.{less_number, rising}
use Rattle.oftp_store.proofs.NextNumberLemmas.{above, greater_numbers}
use Rattle.oftp_store.proofs.ReadLemmas.{IsRead}

-- ---- the query

abbrev page_filter : List Term
page_filter = above (col 1 0) (col 0 0) ∷ []

-- what is joined has the number of the entry
abbrev pub page_on : List Term
page_on = equal (col 2 0) (col 1 0) ∷ []

abbrev pub page_query : ℕ → Join → List Term → Query
page_query tree more project = record (ordered_query tree page_filter project ((col 1 0, rising) ∷ []) (col 0 1)) { from = inner tree more }

abbrev pub page_params : ℕ → Row
page_params behind = number_value behind ∷ number_value 128 ∷ []

page_passes : (behind n : ℕ) (r : Row) → column r 0 ≡ number_value n
    → (is_true (binary (by.Compare compare.Gt Binary) (column r 0) (number_value behind)) && true) ≡ nat_lt behind n
page_passes behind n r is =
    ap (λ v. is_true (binary (by.Compare compare.Gt Binary) v (number_value behind)) && true) is ∙ and_true _ ∙ greater_numbers n behind

-- ---- the entries behind a number

abbrev shown_as : Value → Row → Output
shown_as v row = (v ∷ [], row)

-- what is shown of them
abbrev outs : {X : Type 0} → (ℕ → X → Row) → ℕ → ℕ → List X → List Output
outs shows behind n [] = []
outs shows behind n (x ∷ xs) = if nat_lt behind n then shown_as (number_value n) (shows n x) ∷ outs shows behind (n + 1) xs else outs shows behind (n + 1) xs

module _ {X : Type 0} (shows : ℕ → X → Row) (q : Query) (behind : ℕ) (less : (m n : ℕ) (a b : Row) → m < n
    → output_cmp q (shown_as (number_value m) a) (shown_as (number_value n) b) ≡ Less) where
  later_out : (m n : ℕ) (a : Row) (xs : List X) → m < n → AllByRecursion (λ o. output_cmp q (shown_as (number_value m) a) o ≡ Less) (outs shows behind n xs)
  later_out m n a [] h = tt
  later_out m n a (x ∷ xs) h = go (nat_lt behind n) (later_out m (n + 1) a xs (omega (arith, h)))
    where
      go : (b : Bool) → AllByRecursion (λ o. output_cmp q (shown_as (number_value m) a) o ≡ Less) (outs shows behind (n + 1) xs)
          → AllByRecursion (λ o. output_cmp q (shown_as (number_value m) a) o ≡ Less)
          (cond b (shown_as (number_value n) (shows n x) ∷ outs shows behind (n + 1) xs) (outs shows behind (n + 1) xs))
      go true more = (less m n a (shows n x) h, more)
      go false more = more

  rising_outs : (n : ℕ) (xs : List X) → IsAscending (λ a b. output_cmp q a b ≡ Less) (outs shows behind n xs)
  rising_outs n [] = tt
  rising_outs n (x ∷ xs) = go (nat_lt behind n) (later_out n (n + 1) (shows n x) xs (omega arith)) (rising_outs (n + 1) xs)
    where
      go : (b : Bool) → AllByRecursion (λ o. output_cmp q (shown_as (number_value n) (shows n x)) o ≡ Less) (outs shows behind (n + 1) xs)
          → IsAscending (λ a b. output_cmp q a b ≡ Less) (outs shows behind (n + 1) xs)
          → IsAscending (λ a b. output_cmp q a b ≡ Less) (cond b (shown_as (number_value n) (shows n x) ∷ outs shows behind (n + 1) xs) (outs shows behind (n + 1) xs))
      go true above more = (above, more)
      go false above more = more

-- each entry behind the number is found once, with these values of the query's tables
module _ {X : Type 0} (row : ℕ → X → Row) (tree : ℕ) (more : Join) (project : List Term) (db : Trees) (behind : ℕ) (xs : List X) (env : ℕ → X → Env)
    (keyed : (n : ℕ) (x : X) → eval (col 1 0) (env n x) ≡ number_value n)
    (one : (n : ℕ) (before : List X) (x : X) (after : List X) → IsPlaced xs n before x after
    → matches (overlay db []) page_filter more (page_params behind ∷ row n x ∷ []) ≡ cond (nat_lt behind n) (env n x ∷ []) []) where
  abbrev shows : ℕ → X → Row
  shows n x = eval_all project (env n x)

  abbrev all : List Row → List Env
  all = flat_map (λ r. matches (overlay db []) page_filter more (page_params behind ∷ r ∷ []))

  page_shown : (n : ℕ) (before rest : List X) → xs ≡ before ++ rest → n ≡ 1 + length before
      → map (output (page_query tree more project)) (all (rows_from row n rest)) ≡ outs shows behind n rest
  page_shown n before [] is at = refl
  page_shown n before (x ∷ rest) is at =
      ap (λ es. map (output (page_query tree more project)) (es ++ all (rows_from row (n + 1) rest))) (one n before x rest (record { here = is; number = at }))
      ∙ go (nat_lt behind n) (page_shown (n + 1) (before ++ x ∷ []) rest (is ∙ sym (append_assoc before (x ∷ []) rest)) (omega (arith, length-append before (x ∷ []), at)))
    where
      later : List Env
      later = all (rows_from row (n + 1) rest)

      go : (b : Bool) → map (output (page_query tree more project)) later ≡ outs shows behind (n + 1) rest
          → map (output (page_query tree more project)) (cond b (env n x ∷ []) [] ++ later)
          ≡ cond b (shown_as (number_value n) (shows n x) ∷ outs shows behind (n + 1) rest) (outs shows behind (n + 1) rest)
      go true same =
          ap (λ v. shown_as v (shows n x) ∷ map (output (page_query tree more project)) later) (keyed n x) ∙ ap (λ os. shown_as (number_value n) (shows n x) ∷ os) same
      go false same = same

  -- the answer of the query
  page_rows : (rows : List Row) → db tree ≡ rows_from row 1 xs → IsAnswer (page_query tree more project) (overlay db []) (page_params behind) rows
      → rows ≡ take 128 (map (λ (o : Output). o.1) (outs shows behind 1 xs))
  page_rows rows table a =
      let q = page_query tree more project in
      let wanted = outs shows behind 1 xs in
      let staged : a.staged ≡ all (rows_from row 1 xs) = a.grouped ∙ ap all (no_overlay db tree ∙ table) in
      let kept : a.kept ≡ wanted = a.distinct ∙ ap (map (output q)) staged ∙ page_shown 1 [] xs refl refl in
      let there : IsPermutation wanted a.ordered = subst (λ os. IsPermutation os a.ordered) kept a.same in
      let order_is : a.ordered ≡ wanted = sorted_unique (output_cmp q) (on_total (λ (o : Output). o.0) (key_cmp_total (rising ∷ []) 0)) wanted a.ordered
      (rising_outs shows q behind (λ m n a b h. rw (less_number m n h) refl) 1 xs) there a.sorted in
      a.shown ∙ ap (λ (os : List Output). Rattle.sqlite.specs.Query.page q (page_params behind) (map (λ (o : Output). o.1) os)) order_is

  -- and what its rows are read as
  module _ {E : Type 0} (told : Row → E) (entry : ℕ → X → E) (back : (n : ℕ) (before : List X) (x : X) (after : List X) → IsPlaced xs n before x after → told (shows n x) ≡ entry n x) where
    abbrev read : ℕ → List X → List E
    read n rest = map told (map (λ (o : Output). o.1) (outs shows behind n rest))

    told_behind : (n : ℕ) (before rest : List X) → xs ≡ before ++ rest → n ≡ 1 + length before → behind < n → read n rest ≡ numbered entry n rest
    told_behind n before [] is at far = refl
    told_behind n before (x ∷ rest) is at far =
        rw past (ap (λ e. e ∷ read (n + 1) rest) (back n before x rest (record { here = is; number = at }))
        ∙ ap (λ es. entry n x ∷ es)
        (told_behind (n + 1) (before ++ x ∷ []) rest (is ∙ sym (append_assoc before (x ∷ []) rest)) (omega (arith, length-append before (x ∷ []), at)) (omega (arith, far))))
      where
        past : nat_lt behind n ≡ true
        past = grind (arith, nat_tests, far)

    told_from : (n k : ℕ) (before rest : List X) → xs ≡ before ++ rest → n ≡ 1 + length before → n + k ≡ behind + 1 → read n rest ≡ drop k (numbered entry n rest)
    told_from n zero before rest is at far = told_behind n before rest is at (omega (arith, far))
    told_from n (suc k) before [] is at far = refl
    told_from n (suc k) before (x ∷ rest) is at far =
        rw short (told_from (n + 1) k (before ++ x ∷ []) rest (is ∙ sym (append_assoc before (x ∷ []) rest)) (omega (arith, length-append before (x ∷ []), at)) (omega (arith, far)))
      where
        short : nat_lt behind n ≡ false
        short = grind (arith, nat_tests, far)

    pub page_told : (rows : List Row) → db tree ≡ rows_from row 1 xs → IsAnswer (page_query tree more project) (overlay db []) (page_params behind) rows
        → map told rows ≡ take 128 (drop behind (numbered entry 1 xs))
    page_told rows table answer =
        ap (map told) (page_rows rows table answer) ∙ sym (take-map told 128 (map (λ (o : Output). o.1) (outs shows behind 1 xs)))
        ∙ ap (take 128) (told_from 1 behind [] xs refl refl (omega arith))

-- ---- what is found of an entry

module _ {X : Type 0} (row : ℕ → X → Row) (numbers : (n : ℕ) (x : X) → column (row n x) 0 ≡ number_value n) (db : Trees) (behind : ℕ) where
  -- nothing is joined
  pub alone : (n : ℕ) (x : X) → matches (overlay db []) page_filter end (page_params behind ∷ row n x ∷ []) ≡ cond (nat_lt behind n) ((page_params behind ∷ row n x ∷ []) ∷ []) []
  alone n x = ap (λ b. cond b ((page_params behind ∷ row n x ∷ []) ∷ []) []) (page_passes behind n (row n x) (numbers n x))

  -- one row of another table is joined, or a row with no column
  pub joins_one : (n : ℕ) (x : X) (other : ℕ) (on : List Term) (joined : Row)
      → or_nulls (filter (λ s. list_all (holds (page_params behind ∷ row n x ∷ s ∷ [])) on) (db other)) ≡ joined ∷ []
      → matches (overlay db []) page_filter (left other on end) (page_params behind ∷ row n x ∷ [])
      ≡ cond (nat_lt behind n) ((page_params behind ∷ row n x ∷ joined ∷ []) ∷ []) []
  joins_one n x other on joined one =
      ap (λ rows. flat_map filled (or_nulls (filter test rows))) (no_overlay db other) ∙ ap (flat_map filled) one ∙ append-nil (filled joined)
      ∙ ap (λ b. cond b ((page_params behind ∷ row n x ∷ joined ∷ []) ∷ []) []) (page_passes behind n (row n x) (numbers n x))
    where
      filled : Row → List Env
      filled = λ s. matches (overlay db []) page_filter end (page_params behind ∷ row n x ∷ s ∷ [])

      test : Row → Bool
      test = λ s. list_all (holds (page_params behind ∷ row n x ∷ s ∷ [])) on

-- the rows of a number, between those of others
module _ (n : ℕ) (test : Row → Bool) (same : (m : ℕ) (s : Row) → column s 0 ≡ number_value m → test s ≡ (m == n)) where
  unlike : (s : Row) (m : ℕ) → column s 0 ≡ number_value m → (m == n) ≡ false → test s ≡ false
  unlike s m is other = same m s is ∙ other

  none_above : (hi : List Row) → AllByRecursion (IsAbove n) hi → filter test hi ≡ []
  none_above [] h = refl
  none_above (s ∷ hi) h = rw (unlike s h.0.number h.0.is (more_than h.0.number n h.0.above)) (none_above hi h.1)
    where
      more_than : (m n : ℕ) → n < m → (m == n) ≡ false
      more_than m n h = grind (arith, nat_tests, h)

  own : (rows hi : List Row) → HaveNumber n rows → filter test hi ≡ [] → filter test (rows ++ hi) ≡ rows
  own [] hi h none = none
  own (s ∷ rows) hi h none = rw (same n s h.0 ∙ alike) (ap (λ more. s ∷ more) (own rows hi h.1 none))
    where
      alike : (n == n) ≡ true
      alike = grind (arith, nat_tests)

  between : (lo rows hi : List Row) → IsSplit n lo hi → HaveNumber n rows → filter test (lo ++ (rows ++ hi)) ≡ rows
  between [] rows hi split h = own rows hi h (none_above hi split.above)
  between (s ∷ lo) rows hi split h =
      rw (unlike s split.below.0.number split.below.0.is (less_than split.below.0.number n split.below.0.below))
      (between lo rows hi (record { below = split.below.1; above = split.above }) h)
    where
      less_than : (m n : ℕ) → m < n → (m == n) ≡ false
      less_than m n h = grind (arith, nat_tests, h)

-- the row of another table with the entry's number is joined, if there is one, and else a row with no column
module _ {X : Type 0} (row : ℕ → X → Row) (numbers : (n : ℕ) (x : X) → column (row n x) 0 ≡ number_value n) (piece : ℕ → X → List Row)
    (numbered_piece : (n : ℕ) (x : X) → HaveNumber n (piece n x)) (joined : ℕ → X → Row) (single : (n : ℕ) (x : X) → or_nulls (piece n x) ≡ joined n x ∷ [])
    (other : ℕ) (db : Trees) (behind : ℕ) (xs : List X) (table : db other ≡ pieces_from piece 1 xs) where
  pub joins : (n : ℕ) (before : List X) (x : X) (after : List X) → IsPlaced xs n before x after
      → matches (overlay db []) page_filter (left other page_on end) (page_params behind ∷ row n x ∷ [])
      ≡ cond (nat_lt behind n) ((page_params behind ∷ row n x ∷ joined n x ∷ []) ∷ []) []
  joins n before x after placed = joins_one row numbers db behind n x other page_on (joined n x) (ap or_nulls found ∙ single n x)
    where
      test : Row → Bool
      test = λ s. list_all (holds (page_params behind ∷ row n x ∷ s ∷ [])) page_on

      test_is : (m : ℕ) (s : Row) → column s 0 ≡ number_value m → test s ≡ (m == n)
      test_is m s is =
          ap (λ v. is_true (binary (by.Compare compare.Eq Binary) v (column (row n x) 0)) && true) is
          ∙ ap (λ v. is_true (binary (by.Compare compare.Eq Binary) (number_value m) v) && true) (numbers n x) ∙ and_true _ ∙ equal_numbers m n

      found : filter test (db other) ≡ piece n x
      found =
          let place = among piece numbered_piece n before x after placed.number in
          ap (filter test) (table ∙ ap (pieces_from piece 1) placed.here ∙ place.rows)
          ∙ between n test test_is _ (piece n x) _ place.split (numbered_piece n x)

-- ---- the SQL of a page

-- the result of the command of a page is that of its SQL
pub finds_by : {A : Type 0} {text : List ℕ} {command : Command} {told : Register → Row → A} {items : Register → List A} → IsRead text command
    → ((db : Database) (behind : ℕ) (rows : List Row) → Reads command db (page_params behind) rows → (r : Register) → Tables r db.trees → IsSound r
    → map (told r) rows ≡ take 128 (drop behind (items r)))
    → FindsPages text told items
finds_by reading finds = record {
  plain = reading.plain;
  unlisted = reading.unlisted;
  finds = λ db behind rows answer. finds db behind rows (subst (λ command. Reads command db (page_params behind) rows) reading.is answer);
}

-- its rows are told
pub page_found : {A : Type 0} (text : List ℕ) (told : Register → Row → A) (items : Register → List A) (old new : State) (behind : ℕ) (rows : List Row) → FindsPages text told items
    → old.now.schema ≡ office_schema → Shown text (page_params behind) old new rows → (r : Register) → Tables r old.now.trees → IsSound r
    → map (told r) rows ≡ take 128 (drop behind (items r))
page_found text told items old new behind rows by has shown =
    by.finds old.now behind rows (reads_as text (page_params behind) old new office_schema has _ refl by.plain by.unlisted rows shown)

-- the same of other items
pub finds_also : {A : Type 0} {text : List ℕ} {told : Register → Row → A} {items : Register → List A} (others : Register → List A) → FindsPages text told items
    → ((r : Register) → items r ≡ others r) → FindsPages text told others
finds_also others by same = record {
  plain = by.plain;
  unlisted = by.unlisted;
  finds = λ db behind rows answer r kept sound. by.finds db behind rows answer r kept sound ∙ ap (λ es. take 128 (drop behind es)) (same r);
}

-- ---- the numbers of a page

numbers_from : {X E : Type 0} (entry : ℕ → X → E) (n : ℕ) (xs : List X) → numbered (λ (k : ℕ) (x : X). k) n xs ≡ numbered (λ (k : ℕ) (e : E). k) n (numbered entry n xs)
numbers_from entry n [] = refl
numbers_from entry n (x ∷ xs) = ap (λ ns. n ∷ ns) (numbers_from entry (n + 1) xs)

pub numbers_same : {X E : Type 0} (entry : ℕ → X → E) (xs : List X) → numbers_of xs ≡ numbers_of (numbered entry 1 xs)
numbers_same entry xs = numbers_from entry 1 xs

-- ---- one row of a page

taken : {A : Type 0} (m : ℕ) (xs : List A) (i : ℕ) (x : A) → slice_get (take m xs) i ≡ Some x → slice_get xs i ≡ Some x
taken zero xs i x is = absurd (let no_such = is in cc)
taken (suc m) [] i x is = is
taken (suc m) (y ∷ xs) zero x is = is
taken (suc m) (y ∷ xs) (suc i) x is = taken m xs i x is

dropped : {A : Type 0} (m : ℕ) (xs : List A) (i : ℕ) → slice_get (drop m xs) i ≡ slice_get xs (m + i)
dropped zero xs i = let same : 0 + i ≡ i = omega arith in ap (slice_get xs) (sym same)
dropped (suc m) [] i = refl
dropped (suc m) (y ∷ xs) i = let later : suc m + i ≡ suc (m + i) = omega arith in dropped m xs i ∙ ap (slice_get (y ∷ xs)) (sym later)

-- the item that a row of a page is read as
pub item_at : {B : Type 0} (told : Row → B) (rows : List Row) (items : List B) (behind i : ℕ) (row : Row) → map told rows ≡ take 128 (drop behind items) → slice_get rows i ≡ Some row
    → slice_get items (behind + i) ≡ Some (told row)
item_at told rows items behind i row is at =
    sym (dropped behind items i) ∙ taken 128 (drop behind items) i (told row) (sym (ap (λ es. slice_get es i) is) ∙ slice_get-map told rows i ∙ ap (option_map told) at)

numbered_at : {A : Type 0} (n : ℕ) (xs : List A) (i m : ℕ) → slice_get (numbered (λ (k : ℕ) (x : A). k) n xs) i ≡ Some m → (m ≡ n + i) × (i < length xs)
numbered_at n [] i m is = absurd (let no_such = is in cc)
numbered_at n (x ∷ xs) zero m is = let same : n ≡ m = cc in (omega (arith, same), omega arith)
numbered_at n (x ∷ xs) (suc i) m is = let later = numbered_at (n + 1) xs i m is in (omega (arith, later.0), omega (arith, later.1))

number_is : (v : Value) (k : ℕ) → number_in v ≡ suc k → v ≡ number_value (suc k)
number_is (Int (pos n)) k is = ap number_value is
number_is (Int (negsuc n)) k is = absurd (let no_such = is in cc)
number_is Null k is = absurd (let no_such = is in cc)
number_is (Real x) k is = absurd (let no_such = is in cc)
number_is (Text t) k is = absurd (let no_such = is in cc)
number_is (Blob b) k is = absurd (let no_such = is in cc)

-- it has the next number, which is within the entries
pub number_at : {A : Type 0} (column_at : ℕ) (rows : List Row) (items : List A) (behind i last : ℕ) (row : Row)
    → map (λ row. number_in (column row column_at)) rows ≡ take 128 (drop behind (numbers_of items)) → slice_get rows i ≡ Some row → last ≡ behind + i
    → (column row column_at ≡ number_value (last + 1)) × (last < length items)
number_at column_at rows items behind i last row is at last_is =
    let found = numbered_at 1 items (behind + i) (number_in (column row column_at)) (item_at (λ row. number_in (column row column_at)) rows (numbers_of items) behind i row is at) in
    let next : suc (behind + i) ≡ last + 1 = omega (arith, last_is) in
    let same : number_in (column row column_at) ≡ suc (behind + i) = omega (arith, found.0) in
    (number_is (column row column_at) (behind + i) same ∙ ap number_value next, omega (arith, last_is, found.1))
