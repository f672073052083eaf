-- Consecutive numbers as a query returns them, from the last down.
use Rattle.std.proofs.Common.{◌≡◌, ◌+◌, ◌<◌, ◌≤◌, ◌++◌, ℕ, zero, suc, true, List, [], ◌∷◌, map, take, Less, refl, sym, ap, subst, ◌∙◌, arith}
use Rattle.std.specs.List.{AllByRecursion}
use Rattle.std.specs.List.Sorted.{IsPermutation}
use Rattle.std.proofs.lemmas.List.Sorted.{IsPermutation-refl, IsPermutation-trans, IsPermutation-cons, IsPermutation-sym, IsPermutation-to_front}
use Rattle.sqlite_trees.specs.Tree.{IsAscending}
use Rattle.sqlite_value.specs.declared.keys.Key.{Key}
use Rattle.sqlite.specs.Collation.TheVariants.{Binary}
use Rattle.sqlite.specs.Order.{Row}
use Rattle.sqlite.specs.Query.{Query, Output, output_cmp}
use Rattle.oftp_tables.specs.Tables.{number_value}
use Rattle.oftp_store.proofs.FirstLemmas.{shown}

abbrev pub falling : Key
falling = record { collation = Binary; descending = true }

-- the numbers from one on, and the same in descending order

abbrev pub up : ℕ → ℕ → List Output
up n zero = []
up n (suc m) = shown n ∷ up (n + 1) m

abbrev pub down : ℕ → ℕ → List Output
down n zero = []
down n (suc m) = shown (n + m) ∷ down n m

up_last : (n m : ℕ) → up n (suc m) ≡ up n m ++ shown (n + m) ∷ []
up_last n zero = let same : n ≡ n + 0 = omega arith in ap (λ k. shown k ∷ []) same
up_last n (suc m) = let same : (n + 1) + m ≡ n + suc m = omega arith in ap (λ os. shown n ∷ os) (up_last (n + 1) m ∙ ap (λ k. up (n + 1) m ++ shown k ∷ []) same)

pub turned_over : (n m : ℕ) → IsPermutation (down n m) (up n m)
turned_over n zero = IsPermutation-refl []
turned_over n (suc m) =
    IsPermutation-trans _ (shown (n + m) ∷ up n m) _ (IsPermutation-cons (shown (n + m)) _ _ (turned_over n m))
    (subst (IsPermutation (shown (n + m) ∷ up n m)) (sym (up_last n m)) (IsPermutation-sym _ _ (IsPermutation-to_front (up n m) (shown (n + m)))))

-- so they are in the order of a query that sorts descending
pub descends : (query : Query) → ((j k : ℕ) → j < k → output_cmp query (shown k) (shown j) ≡ Less) → (n m : ℕ) → IsAscending (λ a b. output_cmp query a b ≡ Less) (down n m)
descends query before n zero = tt
descends query before n (suc m) = (lower m (omega arith), descends query before n m)
  where
    lower : (k : ℕ) → k ≤ m → AllByRecursion (λ o. output_cmp query (shown (n + m)) o ≡ Less) (down n k)
    lower zero h = tt
    lower (suc k) h = (before (n + k) (n + m) (omega (arith, h)), lower k (omega (arith, h)))

-- the row with the last number
abbrev pub last_row : ℕ → ℕ → List Row
last_row n zero = []
last_row n (suc m) = (number_value (n + m) ∷ []) ∷ []

pub first_down : (n m : ℕ) → take 1 (map (λ (o : Output). o.1) (down n m)) ≡ last_row n m
first_down n zero = refl
first_down n (suc m) = refl
