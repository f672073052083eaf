-- The entry with a number, and what a query by a number finds.
use Rattle.std.proofs.Common.{◌≡◌, ◌==◌, ◌+◌, ◌^◌, ◌<◌, ◌≤◌, ℕ, zero, suc, Bool, false, cond, List, [], ◌∷◌, ◌++◌, length, flat_map, Some, None, Result, Ok, Err, refl, ap, subst, ◌∙◌, arith}
use Rattle.sqlite.specs.Order.{Row}
use Rattle.oftp_register.specs.declared.change.Cause.{Cause}
use Rattle.oftp_register.specs.declared.change.Cause.TheVariants.{Unknown}
use Rattle.oftp_register.specs.Changes.{at_number, mapped}
use Rattle.oftp_register.specs.LookUps.{entry_at}
use Rattle.oftp_tables.specs.Tables.{rows_from}
use Rattle.oftp_tables.proofs.NumberLemmas.{unlike, above, alike}

-- a number has an entry, or not
pub data Spot {X : Type 0} (k : ℕ) (xs : List X) : Type 0 where
  zeroth : k ≡ 0 → Spot k xs
  there : (before : List X) (x : X) (after : List X) → xs ≡ before ++ x ∷ after → k ≡ 1 + length before → Spot k xs
  past : 1 + length xs ≤ k → Spot k xs

from_one : {X : Type 0} (k : ℕ) (xs : List X) → Spot (suc k) xs
from_one k [] = past (omega arith)
from_one {X} zero (x ∷ xs) = let none : List X = [] in there [] x xs refl refl
from_one (suc k) (x ∷ xs) = go (from_one k xs)
  where
    go : Spot (suc k) xs → Spot (suc (suc k)) (x ∷ xs)
    go (zeroth h) = absurd (omega (arith, h))
    go (there before y after is at) = there (x ∷ before) y after (ap (λ ys. x ∷ ys) is) (omega (arith, at))
    go (past h) = past (omega (arith, h))

pub spot : {X : Type 0} (k : ℕ) (xs : List X) → Spot k xs
spot zero xs = zeroth refl
spot (suc k) xs = from_one k xs

again : {A : Type 0} (y : A) (zs : List A) (r : Result A Cause) (before after : List A) → mapped (λ ys. y ∷ ys) (mapped (λ z. before ++ z ∷ after) r) ≡ mapped (λ z. y ∷ before ++ z ∷ after) r
again y zs (Ok z) before after = refl
again y zs (Err cause) before after = refl

-- a change of the entry with a number
pub changed_there : {A : Type 0} (f : A → Result A Cause) (before : List A) (x : A) (after : List A) → at_number f (suc (length before)) (before ++ x ∷ after) ≡ mapped (λ y. before ++ y ∷ after) (f x)
changed_there f [] x after = refl
changed_there f (b ∷ before) x after = ap (mapped (λ ys. b ∷ ys)) (changed_there f before x after) ∙ again b [] (f x) before after

pub changed_past : {A : Type 0} (f : A → Result A Cause) (k : ℕ) (xs : List A) → length xs ≤ k → at_number f (suc k) xs ≡ Err Unknown
changed_past f k [] h = refl
changed_past f zero (x ∷ xs) h = absurd (omega (arith, h))
changed_past f (suc k) (x ∷ xs) h = ap (mapped (λ ys. x ∷ ys)) (changed_past f k xs (omega (arith, h)))

pub entry_there : {A : Type 0} (before : List A) (x : A) (after : List A) → entry_at (suc (length before)) (before ++ x ∷ after) ≡ Some x
entry_there [] x after = refl
entry_there (b ∷ before) x after = entry_there before x after

pub entry_past : {A : Type 0} (k : ℕ) (xs : List A) → length xs ≤ k → entry_at (suc k) xs ≡ None
entry_past k [] h = refl
entry_past zero (x ∷ xs) h = absurd (omega (arith, h))
entry_past (suc k) (x ∷ xs) h = entry_past k xs (omega (arith, h))

-- a number that a column can't hold
pub entry_far : {A : Type 0} (k : ℕ) (xs : List A) → length xs < 2 ^ 63 → 2 ^ 63 ≤ k → entry_at k xs ≡ None
entry_far zero xs few far = refl
entry_far (suc k) xs few far = entry_past k xs (omega (arith, few, far))

-- ---- what a query by the number returns

module _ {X E : Type 0} (row : ℕ → X → Row) (test : Row → Bool) (show : Row → E) (k : ℕ) (same : (n : ℕ) (x : X) → test (row n x) ≡ (n == k)) where
  pub shows_low : (n : ℕ) (xs : List X) → k < n → flat_map (λ r. cond (test r) (show r ∷ []) []) (rows_from row n xs) ≡ []
  shows_low n [] h = refl
  shows_low n (x ∷ xs) h = rw (same n x, above n k h) (shows_low (n + 1) xs (omega (arith, h)))

  pub shows_past : (n : ℕ) (xs : List X) → n + length xs ≤ k → flat_map (λ r. cond (test r) (show r ∷ []) []) (rows_from row n xs) ≡ []
  shows_past n [] h = refl
  shows_past n (x ∷ xs) h = let other : (n == k) ≡ false = unlike n k (omega (arith, h)) in rw (same n x, other) (shows_past (n + 1) xs (omega (arith, h)))

  pub shows_there : (n : ℕ) (before : List X) (x : X) (after : List X) → k ≡ n + length before
      → flat_map (λ r. cond (test r) (show r ∷ []) []) (rows_from row n (before ++ x ∷ after)) ≡ show (row k x) ∷ []
  shows_there n [] x after is =
      let here : k ≡ n = omega (arith, is) in
      subst (λ m. flat_map (λ r. cond (test r) (show r ∷ []) []) (rows_from row m (x ∷ after)) ≡ show (row k x) ∷ []) here
      (rw (same k x, alike k) (ap (λ es. show (row k x) ∷ es) (shows_low (k + 1) after (omega arith))))
  shows_there n (b ∷ before) x after is = let other : (n == k) ≡ false = unlike n k (omega (arith, is)) in rw (same n b, other) (shows_there (n + 1) before x after (omega (arith, is)))
