-- The rows of files, among rows with rowids of their own.
use Rattle.std.proofs.Common.{◌≡◌, ◌&&◌, ◌||◌, ℕ, ℤ, Bool, true, false, nat_le, List, [], ◌∷◌, drop, Ordering, Less, Equal, Greater, refl, sym, ◌∙◌}
use Rattle.std.specs.List.{AllByRecursion, list_all}
use Rattle.std.specs.Ordering.{is_eq, match_ordering}
use Rattle.std.specs.List.Sorted.{IsPermutation}
use Rattle.std.proofs.lemmas.Bool.{or_parts}
use Rattle.std.proofs.lemmas.Cmp.{eq_by_cmp_equiv}
use Rattle.std.proofs.lemmas.List.Sorted.{IsPermutation-refl, IsPermutation-cons, IsPermutation-trans, IsPermutation-insert}
use Rattle.sqlite_trees.specs.Tree.{IsAscending}
use Rattle.sqlite_trees.proofs.ListLemmas.{all-permutation}
use Rattle.sqlite_keyed.proofs.ListLemmas.{along_permutation}
use Rattle.sqlite_value.proofs.OrderLemmas.{value_cmp_total}
use Rattle.sqlite.specs.declared.types.Value.{Value}
use Rattle.sqlite.specs.declared.types.Value.TheVariants.{Int}
use Rattle.sqlite.specs.Order.{Row, column, value_cmp}
use Rattle.sqlite.specs.Tree.{put_row, rowid, has_rowid}
use Rattle.sqlite.specs.Term.{Term, col, holds}
use Rattle.sqlite.specs.Ops.{binary, is_true}
use Rattle.sqlite.specs.Edit.{id_in, is_taken}
use Rattle.sqlite_sql.specs.declared.ops.BinaryOp.TheVariants as by
use Rattle.sqlite_sql.specs.declared.ops.CompareOp.TheVariants as compare
use Rattle.sqlite.specs.Collation.TheVariants.{Binary}
use Rattle.oftp_tables.proofs.TermLemmas.{and_true, at_least, at_least_numbers, equal, equal_numbers}
use Rattle.oftp_tables.specs.Tables.{AreNumbered, body_row, has_number, number_value}
use Rattle.oftp_tables.proofs.PlaceLemmas.{place}

-- a new row is somewhere among the others
pub put_fresh : (new : Row) (rows : List Row) → is_taken rows new ≡ false → IsPermutation (new ∷ rows) (put_row new rows)
put_fresh new [] h = IsPermutation-refl (new ∷ [])
put_fresh new (r ∷ rs) h = go (value_cmp (rowid r) (rowid new)) (put_fresh new rs) h
  where
    go : (o : Ordering) → (is_taken rs new ≡ false → IsPermutation (new ∷ rs) (put_row new rs)) → (is_eq o || is_taken rs new) ≡ false
        → IsPermutation (new ∷ r ∷ rs) (match_ordering o (r ∷ put_row new rs) (new ∷ rs) (new ∷ r ∷ rs))
    go Less more h = IsPermutation-trans _ (r ∷ new ∷ rs) _ (IsPermutation-insert (r ∷ rs) 1 new) (IsPermutation-cons r _ _ (more h))
    go Equal more h = absurd (let e = h in cc)
    go Greater more h = IsPermutation-refl (new ∷ r ∷ rs)

-- ---- rowids of their own

abbrev Others : Row → Row → Type 0
Others a b = (has_rowid (id_in (rowid a)) b ≡ false) × (has_rowid (id_in (rowid b)) a ≡ false)

record SameRows (xs ys : List Row) : Type 0 where
  rows : IsPermutation xs ys
  apart : IsAscending Others xs → IsAscending Others ys

apart_along : (xs ys : List Row) → IsPermutation xs ys → SameRows xs ys
apart_along = along_permutation SameRows
    (λ xs. record { rows = IsPermutation-refl xs; apart = λ h. h })
    (λ x xs ys h. record { rows = IsPermutation-cons x xs ys h.rows; apart = λ a. (all-permutation (Others x) xs ys h.rows a.0, h.apart a.1) })
    (λ x y xs. record { rows = IsPermutation-insert (y ∷ xs) 1 x; apart = λ a. (((a.0.0.1, a.0.0.0), a.1.0), (a.0.1, a.1.1)) })
    (λ xs ys zs g h. record { rows = IsPermutation-trans xs ys zs g.rows h.rows; apart = λ a. h.apart (g.apart a) })

numbered_along : (xs ys : List Row) → IsPermutation xs ys → AreNumbered xs → AreNumbered ys
numbered_along xs ys same h = (all-permutation _ xs ys same h.0, (apart_along xs ys same).apart h.1)

alike : (v : Value) → is_eq (value_cmp v v) ≡ true
alike v = (eq_by_cmp_equiv value_cmp_total).refl v

turned : (v w : Value) → is_eq (value_cmp v w) ≡ is_eq (value_cmp w v)
turned v w = (eq_by_cmp_equiv value_cmp_total).symm v w

same_value : (id : ℤ) (r : Row) → has_rowid id r ≡ true → (new : Value) → is_eq (value_cmp (rowid r) new) ≡ false → is_eq (value_cmp new (Int id)) ≡ false
same_value id r h new other = turned new (Int id) ∙ sym ((eq_by_cmp_equiv value_cmp_total).congr (rowid r) (Int id) new h) ∙ other

fresh_apart : (id : ℤ) (more : Row) (rows : List Row) → AllByRecursion (λ r. has_rowid (id_in (rowid r)) r ≡ true) rows
    → is_taken rows (Int id ∷ more) ≡ false → AllByRecursion (Others (Int id ∷ more)) rows
fresh_apart id more [] all h = tt
fresh_apart id more (r ∷ rows) all h =
    let parts = or_parts (is_eq (value_cmp (rowid r) (Int id))) _ h in
    ((parts.0, same_value (id_in (rowid r)) r all.0 (Int id) parts.0), fresh_apart id more rows all.1 parts.1)

pub put_numbered : (id : ℤ) (more : Row) (rows : List Row) → AreNumbered rows → is_taken rows (Int id ∷ more) ≡ false → AreNumbered (put_row (Int id ∷ more) rows)
put_numbered id more rows h fresh =
    numbered_along ((Int id ∷ more) ∷ rows) _ (put_fresh (Int id ∷ more) rows fresh) ((alike (Int id), h.0), (fresh_apart id more rows h.0 fresh, h.1))

-- ---- the rows of a file from a position on

abbrev pub from_filter : List Term
from_filter = equal (col 1 1) (col 0 0) ∷ at_least (col 1 2) (col 0 1) ∷ []

abbrev pub from_test : ℕ → ℕ → Row → Bool
from_test n from row =
    is_true (binary (by.Compare compare.Eq Binary) (column row 0) (number_value n)) && (is_true (binary (by.Compare compare.Ge Binary) (column row 1) (number_value from)) && true)

pub from_passes : (n from : ℕ) (more r : Row) → list_all (holds ((number_value n ∷ number_value from ∷ more) ∷ r ∷ [])) from_filter ≡ from_test n from (drop 1 r)
from_passes n from more [] = refl
from_passes n from more (v ∷ r) = refl

pub from_same : (n from m at : ℕ) (b : List ℕ) → from_test n from (body_row m at b) ≡ (has_number n (body_row m at b) && nat_le from (place (body_row m at b)))
from_same n from m at b = simp (equal_numbers, at_least_numbers, and_true)
