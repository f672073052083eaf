-- Rows in order of number: where the row of a number is, or goes.
use Rattle.std.proofs.Common.{◌≡◌, ◌+◌, ◌<◌, ◌≤◌, ℕ, pos, ◌<ℤ◌, List, [], ◌∷◌, ◌++◌, length, refl, sym, ap, subst, ◌∙◌, arith, append_assoc, Equal, Greater}
use Rattle.std.specs.List.{AllByRecursion}
use Rattle.std.proofs.lemmas.Int.{ints}
use Rattle.std.specs.Cmp.{int_cmp_is}
use Rattle.sqlite_keyed.proofs.ListLemmas.{all-append}
use Rattle.sqlite_value.proofs.OrderLemmas.{value_cmp-Int}
use Rattle.sqlite.specs.declared.types.Value.TheVariants.{Int}
use Rattle.sqlite.specs.Order.{Row, column, value_cmp}
use Rattle.sqlite.specs.Tree.{put_row, without_rowid}
use Rattle.sqlite.specs.Term.{Term, col, eval_all}
use Rattle.oftp_tables.proofs.TermLemmas.{equal, equal_numbers}
use Rattle.oftp_tables.proofs.QueryLemmas.{chosen}
use Rattle.oftp_tables.specs.Tables.{number_value, rows_from}
use Rattle.oftp_tables.proofs.OrderedLemmas.{less}
use Rattle.oftp_tables.proofs.NumberLemmas.{unlike, above, alike}

greater : (m n : ℕ) → n < m → value_cmp (Int (pos m)) (Int (pos n)) ≡ Greater
greater m n h =
    let above : pos n <ℤ pos m = omega (arith, ints) in
    value_cmp-Int (pos m) (pos n) ∙ sym (int_cmp_is (pos m) (pos n) Greater above)

same_number : (n : ℕ) → value_cmp (Int (pos n)) (Int (pos n)) ≡ Equal
same_number n = value_cmp-Int (pos n) (pos n) ∙ sym (int_cmp_is (pos n) (pos n) Equal refl)

-- the row has a number below another, or above it

pub record IsBelow (k : ℕ) (r : Row) : Type 0 where
  pub number : ℕ
  pub is : column r 0 ≡ Int (pos number)
  pub below : number < k

pub record IsAbove (k : ℕ) (r : Row) : Type 0 where
  pub number : ℕ
  pub is : column r 0 ≡ Int (pos number)
  pub above : k < number

-- the rows before those of a number, and the rows after
pub record IsSplit (k : ℕ) (lo hi : List Row) : Type 0 where
  pub below : AllByRecursion (IsBelow k) lo
  pub above : AllByRecursion (IsAbove k) hi

-- a new row goes between
pub put_between : (k : ℕ) (new : Row) (lo hi : List Row) → column new 0 ≡ Int (pos k) → IsSplit k lo hi → put_row new (lo ++ hi) ≡ lo ++ new ∷ hi
put_between k new [] [] is split = refl
put_between k new [] (r ∷ hi) is split = rw (split.above.0.is, is, greater split.above.0.number k split.above.0.above) refl
put_between k new (r ∷ lo) hi is split =
    rw (split.below.0.is, is, less split.below.0.number k split.below.0.below) (ap (λ rows. r ∷ rows) (put_between k new lo hi is (record { below = split.below.1; above = split.above })))

-- the row with the number is removed

stays : (k : ℕ) (hi : List Row) → AllByRecursion (IsAbove k) hi → without_rowid (pos k) hi ≡ hi
stays k [] h = refl
stays k (r ∷ hi) h = rw (h.0.is, greater h.0.number k h.0.above) (ap (λ rows. r ∷ rows) (stays k hi h.1))

pub without_between : (k : ℕ) (r : Row) (lo hi : List Row) → column r 0 ≡ Int (pos k) → IsSplit k lo hi → without_rowid (pos k) (lo ++ r ∷ hi) ≡ lo ++ hi
without_between k r [] hi is split = rw (is, same_number k) (stays k hi split.above)
without_between k r (x ∷ lo) hi is split =
    rw (split.below.0.is, less split.below.0.number k split.below.0.below) (ap (λ rows. x ∷ rows) (without_between k r lo hi is (record { below = split.below.1; above = split.above })))

-- ---- what a statement by the number finds

abbrev pub by_number : List Term
by_number = equal (col 1 0) (col 0 0) ∷ []

module _ (project : List Term) (k : ℕ) (more : Row) where
  none_above : (hi : List Row) → AllByRecursion (IsAbove k) hi → chosen by_number project (number_value k ∷ more) hi ≡ []
  none_above [] h = refl
  none_above (r ∷ hi) h = rw (h.0.is, equal_numbers h.0.number k, above h.0.number k h.0.above) (none_above hi h.1)

  pub chosen_none : (lo hi : List Row) → IsSplit k lo hi → chosen by_number project (number_value k ∷ more) (lo ++ hi) ≡ []
  chosen_none [] hi split = none_above hi split.above
  chosen_none (r ∷ lo) hi split =
      rw (split.below.0.is, equal_numbers split.below.0.number k, unlike split.below.0.number k split.below.0.below) (chosen_none lo hi (record { below = split.below.1; above = split.above }))

  pub chosen_one : (r : Row) (lo hi : List Row) → column r 0 ≡ Int (pos k) → IsSplit k lo hi
      → chosen by_number project (number_value k ∷ more) (lo ++ r ∷ hi) ≡ eval_all project ((number_value k ∷ more) ∷ r ∷ []) ∷ []
  chosen_one r [] hi is split = rw (is, equal_numbers k k, alike k) (ap (λ rows. eval_all project ((number_value k ∷ more) ∷ r ∷ []) ∷ rows) (none_above hi split.above))
  chosen_one r (x ∷ lo) hi is split =
      rw (split.below.0.is, equal_numbers split.below.0.number k, unlike split.below.0.number k split.below.0.below) (chosen_one r lo hi is (record { below = split.below.1; above = split.above }))

-- ---- tables in which an entry only has rows of its number

abbrev pub pieces_from : {X : Type 0} → (ℕ → X → List Row) → ℕ → List X → List Row
pieces_from piece n [] = []
pieces_from piece n (x ∷ xs) = piece n x ++ pieces_from piece (n + 1) xs

-- the rows have this number
abbrev pub HaveNumber : ℕ → List Row → Type 0
HaveNumber n = AllByRecursion (λ r. column r 0 ≡ Int (pos n))

all_below : (n k : ℕ) (rows : List Row) → n < k → HaveNumber n rows → AllByRecursion (IsBelow k) rows
all_below n k [] h are = tt
all_below n k (r ∷ rows) h are = (record { number = n; is = are.0; below = h }, all_below n k rows h are.1)

all_above : (n k : ℕ) (rows : List Row) → k < n → HaveNumber n rows → AllByRecursion (IsAbove k) rows
all_above n k [] h are = tt
all_above n k (r ∷ rows) h are = (record { number = n; is = are.0; above = h }, all_above n k rows h are.1)

module _ {X : Type 0} (piece : ℕ → X → List Row) (numbered : (n : ℕ) (x : X) → HaveNumber n (piece n x)) where
  pub pieces_below : (k n : ℕ) (xs : List X) → n + length xs ≤ k → AllByRecursion (IsBelow k) (pieces_from piece n xs)
  pieces_below k n [] h = tt
  pieces_below k n (x ∷ xs) h = all-append (IsBelow k) (piece n x) _ (all_below n k (piece n x) (omega (arith, h)) (numbered n x)) (pieces_below k (n + 1) xs (omega (arith, h)))

  pub pieces_above : (k n : ℕ) (xs : List X) → k < n → AllByRecursion (IsAbove k) (pieces_from piece n xs)
  pieces_above k n [] h = tt
  pieces_above k n (x ∷ xs) h = all-append (IsAbove k) (piece n x) _ (all_above n k (piece n x) h (numbered n x)) (pieces_above k (n + 1) xs (omega (arith, h)))

  pieces_at : (k n : ℕ) (before : List X) (x : X) (after : List X) → k ≡ n + length before
      → pieces_from piece n (before ++ x ∷ after) ≡ pieces_from piece n before ++ (piece k x ++ pieces_from piece (k + 1) after)
  pieces_at k n [] x after is =
      let here : k ≡ n = omega (arith, is) in
      subst (λ m. pieces_from piece m (x ∷ after) ≡ piece k x ++ pieces_from piece (k + 1) after) here refl
  pieces_at k n (y ∷ before) x after is =
      ap (λ rows. piece n y ++ rows) (pieces_at k (n + 1) before x after (omega (arith, is)))
      ∙ sym (append_assoc (piece n y) (pieces_from piece (n + 1) before) (piece k x ++ pieces_from piece (k + 1) after))

  -- the rows of the entry with a number, between the others
  pub record IsAmong (k : ℕ) (before : List X) (x : X) (after : List X) : Type 0 where
    pub rows : pieces_from piece 1 (before ++ x ∷ after) ≡ pieces_from piece 1 before ++ (piece k x ++ pieces_from piece (k + 1) after)
    pub split : IsSplit k (pieces_from piece 1 before) (pieces_from piece (k + 1) after)

  pub among : (k : ℕ) (before : List X) (x : X) (after : List X) → k ≡ 1 + length before → IsAmong k before x after
  among k before x after is = record {
    rows = pieces_at k 1 before x after is;
    split = record { below = pieces_below k 1 before (omega (arith, is)); above = pieces_above k (k + 1) after (omega arith) };
  }

-- a table with one row for each entry is one of these
pub rows_pieces : {X : Type 0} (row : ℕ → X → Row) (n : ℕ) (xs : List X) → rows_from row n xs ≡ pieces_from (λ n x. row n x ∷ []) n xs
rows_pieces row n [] = refl
rows_pieces row n (x ∷ xs) = ap (λ rows. row n x ∷ rows) (rows_pieces row (n + 1) xs)
