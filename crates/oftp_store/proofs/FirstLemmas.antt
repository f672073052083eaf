-- What a query for the first number whose row passes a test returns.
use Rattle.std.proofs.Common.{◌≡◌, ◌==◌, ◌+◌, ◌<◌, ◌≤◌, ◌++◌, ℕ, pos, nat_lt, Bool, true, false, cond, if◌then◌else◌, List, [], ◌∷◌, map, take, find, slice_get, is_some, ◌||◌, Option, Some, None, Less, refl, sym, ap, subst, ◌∙◌, arith}
use Rattle.std.specs.List.{AllByRecursion, list_all, list_any}
use Rattle.std.specs.Option.{option_map}
use Rattle.std.proofs.lemmas.Bool.Decides.{nat_tests}
use Rattle.sqlite_trees.specs.Tree.{IsAscending}
use Rattle.sqlite_value.specs.declared.keys.Key.{Key}
use Rattle.sqlite.specs.Collation.TheVariants.{Binary}
use Rattle.sqlite.specs.declared.types.Value.TheVariants.{Int}
use Rattle.sqlite.specs.Order.{Row, column, value_cmp}
use Rattle.sqlite.specs.Tree.{Trees}
use Rattle.sqlite.specs.Term.{Term, lit, col, holds}
use Rattle.sqlite.specs.Query.{Query, IsAnswer, Output, output, output_cmp}
use Rattle.sqlite.specs.Program.{overlay}
use Rattle.std.specs.List.Sorted.{IsPermutation}
use Rattle.std.proofs.lemmas.List.Sorted.{IsPermutation-refl}
use Rattle.oftp_tables.proofs.TermLemmas.{number_cmp}
use Rattle.oftp_register.specs.LookUps.{numbered}
use Rattle.oftp_tables.specs.Tables.{number_value, rows_from}
use Rattle.oftp_tables.proofs.SortedLemmas.{ordered_query, found, answers_in_order}
use Rattle.oftp_store.specs.Numbers.{TellsNo}

abbrev pub rising : Key
rising = record { collation = Binary; descending = false }

abbrev pub first_query : ℕ → List Term → Query
first_query tree filter = ordered_query tree filter (col 1 0 ∷ []) ((col 1 0, rising) ∷ []) (lit (Int (pos 1)))

abbrev pub shown : ℕ → Output
shown n = (number_value n ∷ [], number_value n ∷ [])

pub less_number : (m n : ℕ) → m < n → value_cmp (number_value m) (number_value n) ≡ Less
less_number m n h = number_cmp m n ∙ (let below : nat_lt m n ≡ true = grind (arith, nat_tests, h) in rw below refl)

-- the numbers of the entries that pass a test
abbrev pub passing : {X : Type 0} → (ℕ → X → Bool) → ℕ → List X → List ℕ
passing test n [] = []
passing test n (x ∷ xs) = if test n x then n ∷ passing test (n + 1) xs else passing test (n + 1) xs

-- the row with the first of these numbers
abbrev pub first_row : List ℕ → List Row
first_row [] = []
first_row (n ∷ ns) = (number_value n ∷ []) ∷ []

pub first_shown : (ns : List ℕ) → take 1 (map (λ (o : Output). o.1) (map shown ns)) ≡ first_row ns
first_shown [] = refl
first_shown (n ∷ ns) = refl

module _ {X : Type 0} (filter : List Term) (test : ℕ → X → Bool) where
  later : (tree m n : ℕ) (xs : List X) → m < n → AllByRecursion (λ o. output_cmp (first_query tree filter) (shown m) o ≡ Less) (map shown (passing test n xs))
  later tree m n [] h = tt
  later tree m n (x ∷ xs) h = go (test n x) (later tree m (n + 1) xs (omega (arith, h)))
    where
      go : (b : Bool) → AllByRecursion (λ o. output_cmp (first_query tree filter) (shown m) o ≡ Less) (map shown (passing test (n + 1) xs))
          → AllByRecursion (λ o. output_cmp (first_query tree filter) (shown m) o ≡ Less) (map shown (cond b (n ∷ passing test (n + 1) xs) (passing test (n + 1) xs)))
      go true more = (rw (less_number m n h) refl, more)
      go false more = more

  pub ascending : (tree n : ℕ) (xs : List X) → IsAscending (λ a b. output_cmp (first_query tree filter) a b ≡ Less) (map shown (passing test n xs))
  ascending tree n [] = tt
  ascending tree n (x ∷ xs) = go (test n x) (later tree n (n + 1) xs (omega arith)) (ascending tree (n + 1) xs)
    where
      go : (b : Bool) → AllByRecursion (λ o. output_cmp (first_query tree filter) (shown n) o ≡ Less) (map shown (passing test (n + 1) xs))
          → IsAscending (λ a b. output_cmp (first_query tree filter) a b ≡ Less) (map shown (passing test (n + 1) xs))
          → IsAscending (λ a b. output_cmp (first_query tree filter) a b ≡ Less) (map shown (cond b (n ∷ passing test (n + 1) xs) (passing test (n + 1) xs)))
      go true above more = (above, more)
      go false above more = more

module _ {X : Type 0} (row : ℕ → X → Row) (numbers : (n : ℕ) (x : X) → column (row n x) 0 ≡ number_value n) (filter : List Term) (params : Row) (test : ℕ → X → Bool)
    (passes : (n : ℕ) (x : X) → list_all (holds (params ∷ row n x ∷ [])) filter ≡ test n x) where
  outputs : (tree n : ℕ) (xs : List X) → map (output (first_query tree filter)) (found filter params (rows_from row n xs)) ≡ map shown (passing test n xs)
  outputs tree n [] = refl
  outputs tree n (x ∷ xs) = rw (passes n x) (go (test n x) (outputs tree (n + 1) xs))
    where
      go : (b : Bool) → map (output (first_query tree filter)) (found filter params (rows_from row (n + 1) xs)) ≡ map shown (passing test (n + 1) xs)
          → map (output (first_query tree filter)) (cond b ((params ∷ row n x ∷ []) ∷ []) [] ++ found filter params (rows_from row (n + 1) xs))
          ≡ map shown (cond b (n ∷ passing test (n + 1) xs) (passing test (n + 1) xs))
      go true more = let here : output (first_query tree filter) (params ∷ row n x ∷ []) ≡ shown n = ap (λ v. (v ∷ [], v ∷ [])) (numbers n x) in rw here (ap (λ os. shown n ∷ os) more)
      go false more = more

  pub answers_first : (db : Trees) (tree : ℕ) (rows : List Row) (xs : List X) → db tree ≡ rows_from row 1 xs → IsAnswer (first_query tree filter) (overlay db []) params rows
      → rows ≡ first_row (passing test 1 xs)
  answers_first db tree rows xs is answer =
      let outputs_are : map (output (first_query tree filter)) (found filter params (db tree))
      ≡ map shown (passing test 1 xs) = ap (λ t. map (output (first_query tree filter)) (found filter params t)) is ∙ outputs tree 1 xs in
      answers_in_order db tree filter (col 1 0 ∷ []) ((col 1 0, rising) ∷ []) (lit (Int (pos 1))) params rows (map shown (passing test 1 xs)) answer (ascending filter test tree 1 xs)
      (subst (IsPermutation (map shown (passing test 1 xs))) (sym outputs_are) (IsPermutation-refl _))
      ∙ first_shown (passing test 1 xs)

-- ---- the number that is read

pub number_told : (ns : List ℕ) (rows : List Row) (told : Option ℕ) → rows ≡ first_row ns → TellsNo told (slice_get rows 0) → told ≡ slice_get ns 0
number_told [] rows told is tells = subst (λ rows. TellsNo told (slice_get rows 0) → told ≡ None) (sym is) (none told) tells
  where
    none : (told : Option ℕ) → TellsNo told None → told ≡ None
    none None t = refl
    none (Some n) t = absurd t
number_told (n ∷ ns) rows told is tells = subst (λ rows. TellsNo told (slice_get rows 0) → told ≡ Some n) (sym is) (some told) tells
  where
    some : (told : Option ℕ) → TellsNo told (Some (number_value n ∷ [])) → told ≡ Some n
    some None t = absurd t
    some (Some m) t = cc

module _ {X E : Type 0} (entry : ℕ → X → E) (no : E → ℕ) (same : (n : ℕ) (x : X) → no (entry n x) ≡ n) (wanted : E → Bool) (test : ℕ → X → Bool) (alike : (n : ℕ) (x : X)
    → wanted (entry n x) ≡ test n x) where
  -- it is the number of the first entry that is wanted
  pub first_wanted : (n : ℕ) (xs : List X) → slice_get (passing test n xs) 0 ≡ option_map no (find wanted (numbered entry n xs))
  first_wanted n [] = refl
  first_wanted n (x ∷ xs) = rw (alike n x) (go (test n x) (first_wanted (n + 1) xs))
    where
      go : (b : Bool) → slice_get (passing test (n + 1) xs) 0 ≡ option_map no (find wanted (numbered entry (n + 1) xs))
          → slice_get (cond b (n ∷ passing test (n + 1) xs) (passing test (n + 1) xs)) 0 ≡ option_map no (cond b (Some (entry n x)) (find wanted (numbered entry (n + 1) xs)))
      go true more = ap Some (sym (same n x))
      go false more = more

-- whether there is one
pub any_wanted : {X : Type 0} (wanted : X → Bool) (n : ℕ) (xs : List X) → is_some (slice_get (passing (λ n x. wanted x) n xs) 0) ≡ list_any wanted xs
any_wanted wanted n [] = refl
any_wanted wanted n (x ∷ xs) = go (wanted x) (any_wanted wanted (n + 1) xs)
  where
    go : (b : Bool) → is_some (slice_get (passing (λ n x. wanted x) (n + 1) xs) 0) ≡ list_any wanted xs
        → is_some (slice_get (cond b (n ∷ passing (λ n x. wanted x) (n + 1) xs) (passing (λ n x. wanted x) (n + 1) xs)) 0) ≡ (b || list_any wanted xs)
    go true more = refl
    go false more = more

-- a result with a row
pub any_told : (ns : List ℕ) (rows : List Row) → rows ≡ first_row ns → is_some (slice_get rows 0) ≡ is_some (slice_get ns 0)
any_told [] rows is = ap (λ (rows : List Row). is_some (slice_get rows 0)) is
any_told (n ∷ ns) rows is = ap (λ (rows : List Row). is_some (slice_get rows 0)) is

-- ---- an entry by its number

module _ {X E : Type 0} (entry : ℕ → X → E) (no : E → ℕ) (same : (n : ℕ) (x : X) → no (entry n x) ≡ n) (wanted : E → Bool) where
  none_below : (k n : ℕ) (xs : List X) → option_map no (find wanted (numbered entry n xs)) ≡ Some k → n ≤ k
  none_below k n [] is = absurd (let no_such = is in cc)
  none_below k n (x ∷ xs) is = go (wanted (entry n x)) (none_below k (n + 1) xs) is
    where
      here : Some (no (entry n x)) ≡ Some k → no (entry n x) ≡ k
      here e = cc

      go : (b : Bool) → (option_map no (find wanted (numbered entry (n + 1) xs)) ≡ Some k → n + 1 ≤ k)
          → option_map no (cond b (Some (entry n x)) (find wanted (numbered entry (n + 1) xs))) ≡ Some k → n ≤ k
      go true later is = let at = here is in omega (arith, at, same n x)
      go false later is = let more = later is in omega (arith, more)

  -- the entry that is wanted is the one with its number
  pub same_by_number : (k n : ℕ) (xs : List X) → option_map no (find wanted (numbered entry n xs)) ≡ Some k → find (λ e. no e == k) (numbered entry n xs) ≡ find wanted (numbered entry n xs)
  same_by_number k n [] is = refl
  same_by_number k n (x ∷ xs) is = go (wanted (entry n x)) (none_below k (n + 1) xs) (same_by_number k (n + 1) xs) is
    where
      rest : Option E
      rest = find wanted (numbered entry (n + 1) xs)

      here : Some (no (entry n x)) ≡ Some k → no (entry n x) ≡ k
      here e = cc

      go : (b : Bool) → (option_map no rest ≡ Some k → n + 1 ≤ k) → (option_map no rest ≡ Some k → find (λ e. no e == k) (numbered entry (n + 1) xs) ≡ rest)
          → option_map no (cond b (Some (entry n x)) rest) ≡ Some k
          → cond (no (entry n x) == k) (Some (entry n x)) (find (λ e. no e == k) (numbered entry (n + 1) xs)) ≡ cond b (Some (entry n x)) rest
      go true below later is = let at = here is in let yes : (no (entry n x) == k) ≡ true = grind (arith, nat_tests, at) in rw yes refl
      go false below later is =
          let above = below is in
          let own = same n x in
          let other : (no (entry n x) == k) ≡ false = grind (arith, nat_tests, above, own) in
          rw other (later is)
