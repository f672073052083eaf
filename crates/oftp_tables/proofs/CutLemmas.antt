-- What a DELETE of the rows that pass a test leaves.
use Rattle.std.proofs.Common.{◌≡◌, ℤ, Bool, true, false, not, cond, ◌&&◌, ◌||◌, List, [], ◌∷◌, map, filter, refl, sym, ap, ◌∙◌}
use Rattle.std.specs.List.{AllByRecursion, list_any}
use Rattle.std.specs.List.Sorted.{IsPermutation}
use Rattle.std.proofs.lemmas.List.Elements.{filter_agree}
use Rattle.std.proofs.lemmas.List.Sorted.{list_any-IsPermutation}
use Rattle.sqlite.specs.Order.{Row}
use Rattle.sqlite.specs.Tree.{rowid, has_rowid, without_rowid}
use Rattle.sqlite.specs.Edit.{without_all, id_in}
use Rattle.oftp_tables.specs.Tables.{AreNumbered}

pub filter-both : (p q : Row → Bool) (rows : List Row) → filter q (filter p rows) ≡ filter (λ r. p r && q r) rows
filter-both p q [] = refl
filter-both p q (r ∷ rows) =
    elim (p r) as (λ b. filter q (cond b (r ∷ filter p rows) (filter p rows)) ≡ cond (b && q r) (r ∷ filter (λ r. p r && q r) rows) (filter (λ r. p r && q r) rows)) [
      | true ↦ ap (λ (more : List Row). cond (q r) (r ∷ more) more) (filter-both p q rows)
      | false ↦ filter-both p q rows
    ]

pub filter_same : (p q : Row → Bool) (rows : List Row) → AllByRecursion (λ r. p r ≡ q r) rows → filter p rows ≡ filter q rows
filter_same p q [] h = refl
filter_same p q (r ∷ rows) h = ap (λ b. cond b (r ∷ filter p rows) (filter p rows)) h.0 ∙ ap (λ (more : List Row). cond (q r) (r ∷ more) more) (filter_same p q rows h.1)

not-or : (a b : Bool) → (not a && not b) ≡ not (a || b)
not-or true b = refl
not-or false b = refl

abbrev is_in : List ℤ → Row → Bool
is_in ids r = list_any (λ id. has_rowid id r) ids

-- removing rowids is one filter
pub without_ids : (ids : List ℤ) (rows : List Row) → without_all rows ids ≡ filter (λ r. not (is_in ids r)) rows
without_ids [] [] = refl
without_ids [] (r ∷ rows) = ap (λ (more : List Row). r ∷ more) (without_ids [] rows)
without_ids (id ∷ ids) rows =
    without_ids ids (without_rowid id rows) ∙ filter-both (λ r. not (has_rowid id r)) (λ r. not (is_in ids r)) rows
    ∙ filter_agree _ _ (λ r. not-or (has_rowid id r) (is_in ids r)) rows

abbrev pub id_of : Row → ℤ
id_of r = id_in (rowid r)

none_at : (test : Row → Bool) (x : Row) (rows : List Row) → AllByRecursion (λ b. (has_rowid (id_of x) b ≡ false) × (has_rowid (id_of b) x ≡ false)) rows
    → is_in (map id_of (filter test rows)) x ≡ false
none_at test x [] h = refl
none_at test x (r ∷ rows) h =
    elim (test r) as (λ b. is_in (map id_of (cond b (r ∷ filter test rows) (filter test rows))) x ≡ false) [
      | true ↦ ap (λ b. b || is_in (map id_of (filter test rows)) x) h.0.1 ∙ none_at test x rows h.1
      | false ↦ none_at test x rows h.1
    ]

later_same : (test : Row → Bool) (x : Row) (rows all : List Row) → AllByRecursion (λ b. (has_rowid (id_of x) b ≡ false) × (has_rowid (id_of b) x ≡ false)) rows
    → AllByRecursion (λ r. is_in (map id_of (filter test all)) r ≡ test r) rows → AllByRecursion (λ r. is_in (map id_of (filter test (x ∷ all))) r ≡ test r) rows
later_same test x [] all h same = tt
later_same test x (r ∷ rows) all h same = (
  elim (test x) as (λ b. is_in (map id_of (cond b (x ∷ filter test all) (filter test all))) r ≡ test r) [
    | true ↦ ap (λ b. b || is_in (map id_of (filter test all)) r) h.0.0 ∙ same.0
    | false ↦ same.0
  ],
  later_same test x rows all h.1 same.1,
)

each_found : (test : Row → Bool) (rows : List Row) → AreNumbered rows → AllByRecursion (λ r. is_in (map id_of (filter test rows)) r ≡ test r) rows
each_found test [] h = tt
each_found test (x ∷ rows) h = (
  first (test x) refl,
  later_same test x rows rows h.1.0 (each_found test rows (h.0.1, h.1.1)),
)
  where
    first : (b : Bool) → test x ≡ b → is_in (map id_of (filter test (x ∷ rows))) x ≡ test x
    first true is = rw is (ap (λ b. b || is_in (map id_of (filter test rows)) x) h.0.0)
    first false is = rw is (none_at test x rows h.1.0)

permuted : (ids found : List ℤ) → IsPermutation found ids → (rows : List Row) (test : Row → Bool) → AllByRecursion (λ r. is_in found r ≡ test r) rows
    → AllByRecursion (λ r. not (is_in ids r) ≡ not (test r)) rows
permuted ids found perm [] test h = tt
permuted ids found perm (r ∷ rows) test h = (ap not (sym (list_any-IsPermutation (λ id. has_rowid id r) found ids perm) ∙ h.0), permuted ids found perm rows test h.1)

-- the rows that pass are deleted, and no others
pub deleted : (test : Row → Bool) (rows : List Row) (ids : List ℤ) → AreNumbered rows → IsPermutation (map id_of (filter test rows)) ids → without_all rows ids ≡ filter (λ r. not (test r)) rows
deleted test rows ids apart perm = without_ids ids rows ∙ filter_same _ _ rows (permuted ids _ perm rows test (each_found test rows apart))
