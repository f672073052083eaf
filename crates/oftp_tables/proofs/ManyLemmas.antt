-- What a query on the rows of one file returns, and what a DELETE of some of them leaves.
use Rattle.std.proofs.Common.{◌≡◌, ◌==◌, ◌&&◌, ◌+◌, ◌-◌, ◌≤◌, ℕ, suc, Bool, true, false, cond, nat_le, List, [], ◌∷◌, ◌++◌, length, map, drop, filter, refl, sym, ap, subst, ◌∙◌, arith, inl, inr}
use Rattle.std.specs.List.{AllByRecursion, list_all}
use Rattle.std.specs.List.Sorted.{IsPermutation}
use Rattle.std.proofs.lemmas.Bool.{cases_Bool}
use Rattle.std.proofs.lemmas.Bool.Decides.{nat_tests}
use Rattle.std.proofs.lemmas.List.{drop_all}
use Rattle.std.proofs.lemmas.List.Elements.{filter-append}
use Rattle.sqlite_keyed.proofs.ListLemmas.{IsPermutation-filter, all-append}
use Rattle.sqlite.specs.Order.{Row}
use Rattle.sqlite.specs.Term.{holds}
use Rattle.sqlite.specs.Query.{Query, Output, output}
use Rattle.oftp_tables.specs.Tables.{has_number, body_row, body_rows, bodies_from, less_rowids}
use Rattle.oftp_tables.proofs.PlaceLemmas.{place}
use Rattle.oftp_tables.proofs.BodyLemmas.{rows_at, none_before, none_kept}
use Rattle.oftp_tables.proofs.CutLemmas.{filter-both, filter_same}
use Rattle.oftp_tables.proofs.SortedLemmas.{found}

-- a query that doesn't use the rowid
pub without_rowids : (q : Query) (params : Row) (test : Row → Bool) (show : Row → Output) → ((r : Row) → list_all (holds (params ∷ r ∷ [])) q.filter ≡ test (drop 1 r))
    → ((r : Row) → output q (params ∷ r ∷ []) ≡ show (drop 1 r)) → (rows : List Row) → map (output q) (found q.filter params rows) ≡ map show (filter test (less_rowids rows))
without_rowids q params test show passes shows [] = refl
without_rowids q params test show passes shows (r ∷ rows) =
    let more = filter test (less_rowids rows) in
    rw (passes r) (elim (test (drop 1 r)) as (λ b. map (output q) (cond b ((params ∷ r ∷ []) ∷ []) [] ++ found q.filter params rows) ≡ map show (cond b (drop 1 r ∷ more) more)) [
      | true ↦ ap (λ o. o ∷ map (output q) (found q.filter params rows)) (shows r) ∙ ap (λ os. show (drop 1 r) ∷ os) (without_rowids q params test show passes shows rows)
      | false ↦ without_rowids q params test show passes shows rows
    ])

-- a fact of each row of each file
body_rows-all : (P : Row → Type 0) → ((n at : ℕ) (b : List ℕ) → P (body_row n at b)) → (n at : ℕ) (bodies : List (List ℕ)) → AllByRecursion P (body_rows n at bodies)
body_rows-all P each n at [] = tt
body_rows-all P each n at (b ∷ bodies) = (each n at b, body_rows-all P each n (at + 1) bodies)

pub bodies_from-all : (P : Row → Type 0) → ((n at : ℕ) (b : List ℕ) → P (body_row n at b)) → (n : ℕ) (files : List (List (List ℕ))) → AllByRecursion P (bodies_from n files)
bodies_from-all P each n [] = tt
bodies_from-all P each n (f ∷ files) = all-append P (body_rows n 0 f) (bodies_from (n + 1) files) (body_rows-all P each n 0 f) (bodies_from-all P each (n + 1) files)

-- the rows of one file from a position on
from_place : (k from at : ℕ) (bodies : List (List ℕ)) → filter (λ r. nat_le from (place r)) (body_rows k at bodies) ≡ body_rows k (at + (from - at)) (drop (from - at) bodies)
from_place k from at [] = ap (body_rows k (at + (from - at))) (sym (drop_all (from - at) [] (omega arith)))
from_place k from at (b ∷ bodies) =
    elim (cases_Bool (nat_le from at)) [
      | inl here ↦
          let none : from - at ≡ 0 = grind (arith, nat_tests, here) in
          let more : from - (at + 1) ≡ 0 = grind (arith, nat_tests, here) in
          let start : at + 0 ≡ at = omega arith in
          let next : (at + 1) + 0 ≡ at + 1 = omega arith in
          let rest = from_place k from (at + 1) bodies ∙ ap (λ m. body_rows k ((at + 1) + m) (drop m bodies)) more ∙ ap (λ m. body_rows k m bodies) next in
          rw (here, none, start) (ap (λ (rows : List Row). body_row k at b ∷ rows) rest)
      | inr below ↦
          let some : from - at ≡ suc (from - (at + 1)) = grind (arith, nat_tests, below) in
          let next : (at + 1) + (from - (at + 1)) ≡ at + suc (from - (at + 1)) = omega arith in
          rw (below, some) (from_place k from (at + 1) bodies ∙ ap (λ m. body_rows k m (drop (from - (at + 1)) bodies)) next)
    ]

pub rows_from_place : (k from : ℕ) (files : List (List (List ℕ))) (bodies : List (List ℕ)) (after : List (List (List ℕ))) → k ≡ 1 + length files
    → filter (λ r. has_number k r && nat_le from (place r)) (bodies_from 1 (files ++ bodies ∷ after)) ≡ body_rows k from (drop from bodies)
rows_from_place k from files bodies after is =
    let whole : from - 0 ≡ from = omega arith in
    let start : 0 + from ≡ from = omega arith in
    sym (filter-both (has_number k) (λ r. nat_le from (place r)) (bodies_from 1 (files ++ bodies ∷ after)))
    ∙ ap (filter (λ r. nat_le from (place r))) (rows_at k 1 files bodies after is)
    ∙ from_place k from 0 bodies ∙ ap (λ m. body_rows k (0 + m) (drop m bodies)) whole ∙ ap (λ m. body_rows k m (drop from bodies)) start

-- no file has the number
number_past : (k n : ℕ) (files : List (List (List ℕ))) → n + length files ≤ k → filter (has_number k) (bodies_from n files) ≡ []
number_past k n [] h = refl
number_past k n (f ∷ files) h =
    let other : (n == k) ≡ false = grind (arith, nat_tests, h) in
    filter-append (has_number k) (body_rows n 0 f) (bodies_from (n + 1) files)
    ∙ ap (λ (rows : List Row). rows ++ filter (has_number k) (bodies_from (n + 1) files)) (none_kept (has_number k) n 0 f (λ at b. other))
    ∙ number_past k (n + 1) files (omega (arith, h))

pub no_rows_past : (k from : ℕ) (files : List (List (List ℕ))) → 1 + length files ≤ k → filter (λ r. has_number k r && nat_le from (place r)) (bodies_from 1 files) ≡ []
no_rows_past k from files h = sym (filter-both (has_number k) (λ r. nat_le from (place r)) (bodies_from 1 files)) ∙ ap (filter (λ r. nat_le from (place r))) (number_past k 1 files h)

pub no_rows_zeroth : (from : ℕ) (files : List (List (List ℕ))) → filter (λ r. has_number 0 r && nat_le from (place r)) (bodies_from 1 files) ≡ []
no_rows_zeroth from files = sym (filter-both (has_number 0) (λ r. nat_le from (place r)) (bodies_from 1 files)) ∙ ap (filter (λ r. nat_le from (place r))) (none_before 0 1 files (omega arith))

-- the rows that pass the statement's test, in any order, are those that pass the test of number and position
pub passing : (test wanted : Row → Bool) → ((n at : ℕ) (b : List ℕ) → test (body_row n at b) ≡ wanted (body_row n at b))
    → (files : List (List (List ℕ))) (rows : List Row) → IsPermutation (bodies_from 1 files) rows → IsPermutation (filter wanted (bodies_from 1 files)) (filter test rows)
passing test wanted same files rows perm =
    let all = bodies_from 1 files in
    subst (λ xs. IsPermutation xs (filter test rows)) (filter_same test wanted all (bodies_from-all (λ r. test r ≡ wanted r) same 1 files)) (IsPermutation-filter test all rows perm)
