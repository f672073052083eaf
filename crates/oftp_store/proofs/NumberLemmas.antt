-- What a query by a number returns from a table that is sorted by number.
use Rattle.std.proofs.Common.{◌≡◌, ◌==◌, ◌+◌, ◌<◌, ◌≤◌, ℕ, zero, suc, pos, true, false, List, [], ◌∷◌, ◌++◌, length, find, Some, None, append-nil, refl, sym, ap, subst, ◌∙◌, arith}
use Rattle.std.specs.List.Sorted.{IsPermutation}
use Rattle.std.proofs.lemmas.Bool.Decides.{nat_tests}
use Rattle.std.proofs.lemmas.List.Sorted.{length_permutation}
use Rattle.sqlite.specs.declared.types.Value.TheVariants.{Int}
use Rattle.sqlite.specs.Order.{Row, column}
use Rattle.sqlite.specs.Term.{Term, eval_all}
use Rattle.sqlite.proofs.Callers.{one_permutation}
use Rattle.oftp_tables.proofs.QueryLemmas.{chosen}
use Rattle.oftp_register.specs.LookUps.{entry_at, numbered}
use Rattle.oftp_tables.specs.Tables.{number_value, rows_from}
use Rattle.oftp_tables.proofs.SplitLemmas.{HaveNumber, IsSplit, by_number, chosen_none, chosen_one, pieces_above, pieces_below, pieces_from, rows_pieces}
use Rattle.oftp_tables.proofs.SpotLemmas.{Spot, entry_past, entry_there, past, spot, there, zeroth}
use Rattle.oftp_store.specs.Reads.{IsPlaced}
use Rattle.oftp_store.proofs.EditLemmas.{between}

pub no_rows : (ys : List Row) → IsPermutation [] ys → ys ≡ []
no_rows [] h = refl
no_rows (y ∷ ys) h = absurd (omega (arith, length_permutation [] (y ∷ ys) h))

-- an entry by its number

pub entry_beyond : {X : Type 0} (k : ℕ) (xs : List X) → 1 + length xs ≤ k → entry_at k xs ≡ None
entry_beyond zero xs h = refl
entry_beyond (suc k) xs h = entry_past k xs (omega (arith, h))

pub entry_placed : {X : Type 0} (k : ℕ) (xs before : List X) (x : X) (after : List X) → IsPlaced xs k before x after → entry_at k xs ≡ Some x
entry_placed k xs before x after placed =
    let number : k ≡ suc (length before) = omega (arith, placed.number) in
    ap (λ m. entry_at m xs) number ∙ ap (entry_at (suc (length before))) placed.here ∙ entry_there before x after

-- what a query by the number of an entry returns
pub data OneRow {X : Type 0} (row : ℕ → X → Row) (xs : List X) (k : ℕ) (project : List Term) (rows : List Row) : Type 0 where
  nowhere : rows ≡ [] → entry_at k xs ≡ None → OneRow row xs k project rows
  somewhere : (before : List X) (x : X) (after : List X) → IsPlaced xs k before x after → rows ≡ eval_all project ((number_value k ∷ []) ∷ row k x ∷ []) ∷ [] → OneRow row xs k project rows

pub one_row : {X : Type 0} (row : ℕ → X → Row) → ((n : ℕ) (x : X) → column (row n x) 0 ≡ Int (pos n)) → (xs : List X) (k : ℕ) (project : List Term) (rows : List Row)
    → IsPermutation (chosen by_number project (number_value k ∷ []) (rows_from row 1 xs)) rows → OneRow row xs k project rows
one_row {X} row numbers xs k project rows perm = go (spot k xs)
  where
    piece : ℕ → X → List Row
    piece n y = row n y ∷ []

    has : (n : ℕ) (y : X) → HaveNumber n (piece n y)
    has n y = (numbers n y, tt)

    none : (lo hi : List Row) → IsSplit k lo hi → rows_from row 1 xs ≡ lo ++ hi → rows ≡ []
    none lo hi split is = no_rows rows (subst (λ all. IsPermutation all rows) (ap (chosen by_number project (number_value k ∷ [])) is ∙ chosen_none project k [] lo hi split) perm)

    go : Spot k xs → OneRow row xs k project rows
    go (zeroth is) =
        nowhere (none [] (rows_from row 1 xs)
        (record {
          below = tt;
          above = subst (Rattle.std.specs.List.AllByRecursion (Rattle.oftp_tables.proofs.SplitLemmas.IsAbove k)) (sym (rows_pieces row 1 xs))
              (pieces_above piece has k 1 xs (omega (arith, is)));
        }) refl)
        (ap (λ m. entry_at m xs) is)
    go (past h) =
        nowhere (none (pieces_from piece 1 xs) [] (record { below = pieces_below piece has k 1 xs (omega (arith, h)); above = tt }) (rows_pieces row 1 xs ∙ sym (append-nil (pieces_from piece 1 xs))))
        (entry_beyond k xs h)
    go (there before x after here at) =
        let place = between row numbers k before x after at in
        somewhere before x after (record { here = here; number = at })
        (one_permutation _ rows (subst (λ all. IsPermutation all rows)
        (ap (chosen by_number project (number_value k ∷ [])) (ap (rows_from row 1) here ∙ place.is x) ∙ chosen_one project k [] (row k x) place.lo place.hi (numbers k x) place.split) perm))

-- ---- entries as an office returns them

module _ {X E : Type 0} (entry : ℕ → X → E) (no : E → ℕ) (same : (n : ℕ) (x : X) → no (entry n x) ≡ n) where
  none_low : (k n : ℕ) (xs : List X) → k < n → find (λ e. no e == k) (numbered entry n xs) ≡ None
  none_low k n [] h = refl
  none_low k n (x ∷ xs) h = let other : (n == k) ≡ false = grind (arith, nat_tests, h) in rw (same n x, other) (none_low k (n + 1) xs (omega (arith, h)))

  none_past : (k n : ℕ) (xs : List X) → n + length xs ≤ k → find (λ e. no e == k) (numbered entry n xs) ≡ None
  none_past k n [] h = refl
  none_past k n (x ∷ xs) h = let other : (n == k) ≡ false = grind (arith, nat_tests, h) in rw (same n x, other) (none_past k (n + 1) xs (omega (arith, h)))

  found_there : (k n : ℕ) (before : List X) (x : X) (after : List X) → k ≡ n + length before → find (λ e. no e == k) (numbered entry n (before ++ x ∷ after)) ≡ Some (entry k x)
  found_there k n [] x after is =
      let here : n ≡ k = omega (arith, is) in
      let yes : (n == k) ≡ true = grind (arith, nat_tests, here) in
      rw (same n x, yes) (ap (λ m. Some (entry m x)) here)
  found_there k n (b ∷ before) x after is = let other : (n == k) ≡ false = grind (arith, nat_tests, is) in rw (same n b, other) (found_there k (n + 1) before x after (omega (arith, is)))

  pub entry_unknown : (k : ℕ) (xs : List X) → entry_at k xs ≡ None → find (λ e. no e == k) (numbered entry 1 xs) ≡ None
  entry_unknown k xs none = go (spot k xs)
    where
      go : Spot k xs → find (λ e. no e == k) (numbered entry 1 xs) ≡ None
      go (zeroth is) = none_low k 1 xs (omega (arith, is))
      go (past h) = none_past k 1 xs (omega (arith, h))
      go (there before x after here at) = absurd (let no_such = sym none ∙ entry_placed k xs before x after (record { here = here; number = at }) in cc)

  pub entry_known : (k : ℕ) (xs before : List X) (x : X) (after : List X) → IsPlaced xs k before x after → find (λ e. no e == k) (numbered entry 1 xs) ≡ Some (entry k x)
  entry_known k xs before x after placed = ap (λ all. find (λ e. no e == k) (numbered entry 1 all)) placed.here ∙ found_there k 1 before x after placed.number
