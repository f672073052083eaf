-- Rows in order of position, from any order.
use Rattle.std.proofs.Common.{◌≡◌, ◌==◌, ℕ, Bool, true, false, not, cond, nat_le, List, [], ◌∷◌, inl, inr, refl, ap, ◌∙◌, arith}
use Rattle.std.specs.List.Sorted.{IsPermutation}
use Rattle.std.proofs.lemmas.Bool.{cases_Bool}
use Rattle.std.proofs.lemmas.Bool.Decides.{nat_tests}
use Rattle.std.proofs.lemmas.List.Sorted.{IsPermutation-refl, IsPermutation-cons, IsPermutation-trans, IsPermutation-insert}
use Rattle.sqlite_keyed.proofs.ListLemmas.{along_permutation}
use Rattle.sqlite_trees.proofs.ListLemmas.{all-permutation}
use Rattle.sqlite_trees.specs.Tree.{IsAscending}
use Rattle.sqlite.specs.Order.{Row, column}
use Rattle.oftp_tables.specs.Tables.{number_in, put_by_place, by_place}

abbrev pub place : Row → ℕ
place row = number_in (column row 1)

-- no two have one position
abbrev pub AreApart : List Row → Type 0
AreApart = IsAscending (λ a b. (place a == place b) ≡ false)

abbrev before : Row → Row → Bool
before a b = nat_le (place a) (place b)

one_before : (m n : ℕ) → (m == n) ≡ false → nat_le n m ≡ not (nat_le m n)
one_before m n h = grind (arith, nat_tests, h)

before_all : (l m n : ℕ) → nat_le l m ≡ true → nat_le n m ≡ false → nat_le n l ≡ false
before_all l m n g h = grind (arith, nat_tests, g, h)

either : (b : Bool) (x y : Row) (s : List Row) (o : Bool) → o ≡ not b → cond b (x ∷ y ∷ s) (y ∷ x ∷ s) ≡ cond o (y ∷ x ∷ s) (x ∷ y ∷ s)
either true x y s o h = rw h refl
either false x y s o h = rw h refl

-- two rows may be inserted in either order
turned : (x y : Row) (s : List Row) → (place x == place y) ≡ false → put_by_place x (put_by_place y s) ≡ put_by_place y (put_by_place x s)
turned x y [] h = either (before x y) x y [] (before y x) (one_before _ _ h)
turned x y (z ∷ s) h =
    let other : before y x ≡ not (before x y) = one_before (place x) (place y) h in
    elim (cases_Bool (before y z)) [
      | inl yz ↦ elim (cases_Bool (before x z)) [
        | inl xz ↦ simp (yz, xz) (either (before x y) x y (z ∷ s) (before y x) other)
        | inr xz ↦
            let xy : before x y ≡ false = before_all (place y) (place z) (place x) yz xz in
            simp (yz, xz, xy)
      ]
      | inr yz ↦ elim (cases_Bool (before x z)) [
        | inl xz ↦
            let yx : before y x ≡ false = before_all (place x) (place z) (place y) xz yz in
            simp (yz, xz, yx)
        | inr xz ↦ simp (yz, xz) (ap (λ (more : List Row). z ∷ more) (turned x y s h))
      ]
    ]

-- these are the same rows, and so in order of position
record Same (xs ys : List Row) : Type 0 where
  rows : IsPermutation xs ys
  apart : AreApart xs → AreApart ys
  placed : AreApart xs → by_place xs ≡ by_place ys

flipped : (m n : ℕ) → (m == n) ≡ false → (n == m) ≡ false
flipped m n h = grind (arith, nat_tests, h)

-- the order of position doesn't depend on the order of the rows
pub by_place_same : (xs ys : List Row) → IsPermutation xs ys → AreApart xs → by_place xs ≡ by_place ys
by_place_same xs ys same apart =
    (along_permutation Same
    (λ xs. record { rows = IsPermutation-refl xs; apart = λ h. h; placed = λ h. refl })
    (λ x xs ys h. record {
      rows = IsPermutation-cons x xs ys h.rows;
      apart = λ a. (all-permutation _ xs ys h.rows a.0, h.apart a.1);
      placed = λ a. ap (put_by_place x) (h.placed a.1);
    })
    (λ x y xs. record {
      rows = IsPermutation-insert (y ∷ xs) 1 x;
      apart = λ a. ((flipped _ _ a.0.0, a.1.0), (a.0.1, a.1.1));
      placed = λ a. turned x y (by_place xs) a.0.0;
    })
    (λ xs ys zs g h. record {
      rows = IsPermutation-trans xs ys zs g.rows h.rows;
      apart = λ a. h.apart (g.apart a);
      placed = λ a. g.placed a ∙ h.placed (g.apart a);
    }) xs ys same).placed apart
