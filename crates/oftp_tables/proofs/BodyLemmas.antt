-- The rows of files, in a table that has them in any order.
use Rattle.std.proofs.Common.{◌≡◌, ◌==◌, ◌&&◌, ◌+◌, ◌-◌, ◌<◌, ℕ, suc, Bool, true, false, not, nat_le, List, [], ◌∷◌, ◌++◌, length, map, filter, take, inl, inr, refl, sym, ap, subst, ◌∙◌, arith, append_assoc, append-nil}
use Rattle.std.specs.List.{AllByRecursion}
use Rattle.std.specs.List.Sorted.{IsPermutation}
use Rattle.std.proofs.lemmas.Bool.{cases_Bool}
use Rattle.std.proofs.lemmas.Bool.Decides.{nat_tests}
use Rattle.std.proofs.lemmas.List.{take_all}
use Rattle.std.proofs.lemmas.List.Elements.{filter-append}
use Rattle.std.proofs.lemmas.List.Sorted.{IsPermutation-trans, IsPermutation-append_left, IsPermutation-append_right, IsPermutation-append_comm}
use Rattle.sqlite_keyed.proofs.ListLemmas.{IsPermutation-filter, IsPermutation-same}
use Rattle.sqlite.specs.Order.{Row, column, bytes}
use Rattle.oftp_tables.specs.Tables.{has_number, body_row, body_rows, bodies_from, put_by_place, by_place, bodies_in}
use Rattle.oftp_tables.proofs.PlaceLemmas.{place, AreApart, by_place_same}
use Rattle.oftp_tables.proofs.NumberLemmas.{unlike, above, alike}

-- ---- one file

pub body_rows-append : (n at : ℕ) (bodies more : List (List ℕ)) → body_rows n at (bodies ++ more) ≡ body_rows n at bodies ++ body_rows n (at + length bodies) more
body_rows-append n at [] more = let same : at ≡ at + 0 = omega arith in ap (λ k. body_rows n k more) same
body_rows-append n at (b ∷ bodies) more =
    let same : (at + 1) + length bodies ≡ at + suc (length bodies) = omega arith in
    ap (λ (rows : List Row). body_row n at b ∷ rows) (body_rows-append n (at + 1) bodies more ∙ ap (λ k. body_rows n (at + 1) bodies ++ body_rows n k more) same)

within : (m n : ℕ) → m < n → nat_le m n ≡ true
within m n h = grind (arith, nat_tests, h)

-- they are in order of position
placed : (n at : ℕ) (bodies : List (List ℕ)) → by_place (body_rows n at bodies) ≡ body_rows n at bodies
placed n at [] = refl
placed n at (b ∷ bodies) = ap (put_by_place (body_row n at b)) (placed n (at + 1) bodies) ∙ first bodies
  where
    first : (more : List (List ℕ)) → put_by_place (body_row n at b) (body_rows n (at + 1) more) ≡ body_row n at b ∷ body_rows n (at + 1) more
    first [] = refl
    first (c ∷ more) = rw (within at (at + 1) (omega arith)) refl

later : (n at k : ℕ) (bodies : List (List ℕ)) → at < k → AllByRecursion (λ r. (at == place r) ≡ false) (body_rows n k bodies)
later n at k [] h = tt
later n at k (b ∷ bodies) h = (unlike at k h, later n at (k + 1) bodies (omega arith))

apart : (n at : ℕ) (bodies : List (List ℕ)) → AreApart (body_rows n at bodies)
apart n at [] = tt
apart n at (b ∷ bodies) = (later n at (at + 1) bodies (omega arith), apart n (at + 1) bodies)

bodies_of : (n at : ℕ) (bodies : List (List ℕ)) → map (λ row. bytes (column row 2)) (body_rows n at bodies) ≡ bodies
bodies_of n at [] = refl
bodies_of n at (b ∷ bodies) = ap (λ more. b ∷ more) (bodies_of n (at + 1) bodies)

-- ---- a test that reads the number first

module _ (keep : Row → Bool) where
  pub all_kept : (n at : ℕ) (bodies : List (List ℕ)) → ((at : ℕ) (b : List ℕ) → keep (body_row n at b) ≡ true) → filter keep (body_rows n at bodies) ≡ body_rows n at bodies
  all_kept n at [] h = refl
  all_kept n at (b ∷ bodies) h = rw (h at b) (ap (λ (more : List Row). body_row n at b ∷ more) (all_kept n (at + 1) bodies h))

  pub none_kept : (n at : ℕ) (bodies : List (List ℕ)) → ((at : ℕ) (b : List ℕ) → keep (body_row n at b) ≡ false) → filter keep (body_rows n at bodies) ≡ []
  none_kept n at [] h = refl
  none_kept n at (b ∷ bodies) h = rw (h at b) (none_kept n (at + 1) bodies h)

-- ---- the rows of one file among those of all

pub none_before : (k n : ℕ) (files : List (List (List ℕ))) → k < n → filter (has_number k) (bodies_from n files) ≡ []
none_before k n [] h = refl
none_before k n (f ∷ files) h =
    filter-append (has_number k) (body_rows n 0 f) (bodies_from (n + 1) files)
    ∙ ap (λ (rows : List Row). rows ++ filter (has_number k) (bodies_from (n + 1) files)) (none_kept (has_number k) n 0 f (λ at b. above n k h))
    ∙ none_before k (n + 1) files (omega arith)

pub rows_at : (k n : ℕ) (files : List (List (List ℕ))) (bodies : List (List ℕ)) (after : List (List (List ℕ))) → k ≡ n + length files
    → filter (has_number k) (bodies_from n (files ++ bodies ∷ after)) ≡ body_rows k 0 bodies
rows_at k n [] bodies after is =
    let here : k ≡ n = omega (arith, is) in
    subst (λ m. filter (has_number k) (bodies_from m (bodies ∷ after)) ≡ body_rows k 0 bodies) here
    (filter-append (has_number k) (body_rows k 0 bodies) (bodies_from (k + 1) after)
    ∙ ap (λ (rows : List Row). rows ++ filter (has_number k) (bodies_from (k + 1) after)) (all_kept (has_number k) k 0 bodies (λ at b. alike k))
    ∙ ap (λ (rows : List Row). body_rows k 0 bodies ++ rows) (none_before k (k + 1) after (omega arith))
    ∙ append-nil _)
rows_at k n (f ∷ files) bodies after is =
    filter-append (has_number k) (body_rows n 0 f) (bodies_from (n + 1) (files ++ bodies ∷ after))
    ∙ ap (λ (rows : List Row). rows ++ filter (has_number k) (bodies_from (n + 1) (files ++ bodies ∷ after))) (none_kept (has_number k) n 0 f (λ at b. unlike n k (omega (arith, is))))
    ∙ rows_at k (n + 1) files bodies after (omega (arith, is))

-- a file's rows are read back
pub bodies_back : (k : ℕ) (files : List (List (List ℕ))) (bodies : List (List ℕ)) (after : List (List (List ℕ))) (rows : List Row) → k ≡ 1 + length files
    → IsPermutation (bodies_from 1 (files ++ bodies ∷ after)) rows → bodies_in k rows ≡ bodies
bodies_back k files bodies after rows is same =
    let found : IsPermutation (body_rows k 0 bodies) (filter (has_number k) rows) =
    subst (λ xs. IsPermutation xs (filter (has_number k) rows)) (rows_at k 1 files bodies after is) (IsPermutation-filter (has_number k) _ rows same) in
    ap (map (λ row. bytes (column row 2))) (sym (by_place_same _ _ found (apart k 0 bodies)) ∙ placed k 0 bodies) ∙ bodies_of k 0 bodies

-- ---- more rows of one file

pub bodies_more : (n : ℕ) (files : List (List (List ℕ))) (bodies more : List (List ℕ)) (after : List (List (List ℕ)))
    → IsPermutation (body_rows (n + length files) (length bodies) more ++ bodies_from n (files ++ bodies ∷ after)) (bodies_from n (files ++ (bodies ++ more) ∷ after))
bodies_more n [] bodies more after =
    let here : n + 0 ≡ n = omega arith in
    let M = body_rows n (length bodies) more in
    let B = body_rows n 0 bodies in
    let rest = bodies_from (n + 1) after in
    let from : 0 + length bodies ≡ length bodies = omega arith in
    let two : B ++ M ≡ body_rows n 0 (bodies ++ more) = sym (body_rows-append n 0 bodies more ∙ ap (λ k. B ++ body_rows n k more) from) in
    subst (λ k. IsPermutation (body_rows k (length bodies) more ++ (B ++ rest)) (body_rows n 0 (bodies ++ more) ++ rest)) (sym here)
    (IsPermutation-trans _ ((M ++ B) ++ rest) _ (IsPermutation-same _ _ (sym (append_assoc M B rest)))
    (subst (λ (rows : List Row). IsPermutation ((M ++ B) ++ rest) (rows ++ rest)) two (IsPermutation-append_left rest (M ++ B) (B ++ M) (IsPermutation-append_comm M B))))
bodies_more n (f ∷ files) bodies more after =
    let there : n + suc (length files) ≡ (n + 1) + length files = omega arith in
    let M = body_rows ((n + 1) + length files) (length bodies) more in
    let F = body_rows n 0 f in
    let rest = bodies_from (n + 1) (files ++ bodies ∷ after) in
    subst (λ k. IsPermutation (body_rows k (length bodies) more ++ (F ++ rest)) (F ++ bodies_from (n + 1) (files ++ (bodies ++ more) ∷ after))) (sym there)
    (IsPermutation-trans _ ((M ++ F) ++ rest) _ (IsPermutation-same _ _ (sym (append_assoc M F rest)))
    (IsPermutation-trans _ ((F ++ M) ++ rest) _ (IsPermutation-append_left rest (M ++ F) (F ++ M) (IsPermutation-append_comm M F))
    (IsPermutation-trans _ (F ++ (M ++ rest)) _ (IsPermutation-same _ _ (append_assoc F M rest)) (IsPermutation-append_right F _ _ (bodies_more (n + 1) files bodies more after)))))

-- ---- fewer rows of one file

-- the row is one of the file, from a position on
abbrev pub is_cut : ℕ → ℕ → Row → Bool
is_cut k count row = has_number k row && nat_le count (place row)

cut_one : (k count at : ℕ) (bodies : List (List ℕ)) → filter (λ r. not (is_cut k count r)) (body_rows k at bodies) ≡ body_rows k at (take (count - at) bodies)
cut_one k count at [] = ap (body_rows k at) (sym (take_all (count - at) [] (omega arith)))
cut_one k count at (b ∷ bodies) =
    elim (cases_Bool (nat_le count at)) [
      | inl past ↦
          let none : count - at ≡ 0 = grind (arith, nat_tests, past) in
          let gone : not (is_cut k count (body_row k at b)) ≡ false = rw (alike k, past) refl in
          let more : count - (at + 1) ≡ 0 = grind (arith, nat_tests, past) in
          rw (gone, none) (cut_one k count (at + 1) bodies ∙ ap (λ m. body_rows k (at + 1) (take m bodies)) more)
      | inr first ↦
          let some : count - at ≡ suc (count - (at + 1)) = grind (arith, nat_tests, first) in
          let stays : not (is_cut k count (body_row k at b)) ≡ true = rw (alike k, first) refl in
          rw (stays, some) (ap (λ (more : List Row). body_row k at b ∷ more) (cut_one k count (at + 1) bodies))
    ]

cut_none : (k count n : ℕ) (files : List (List (List ℕ))) → k < n → filter (λ r. not (is_cut k count r)) (bodies_from n files) ≡ bodies_from n files
cut_none k count n [] h = refl
cut_none k count n (f ∷ files) h =
    let keep = λ (r : Row). not (is_cut k count r) in
    let stays : (at : ℕ) (b : List ℕ) → keep (body_row n at b) ≡ true = λ at b. let other : (n == k) ≡ false = above n k h in rw other refl in
    filter-append keep (body_rows n 0 f) (bodies_from (n + 1) files)
    ∙ ap (λ (rows : List Row). rows ++ filter keep (bodies_from (n + 1) files)) (all_kept keep n 0 f stays)
    ∙ ap (λ (rows : List Row). body_rows n 0 f ++ rows) (cut_none k count (n + 1) files (omega arith))

pub bodies_cut : (k count n : ℕ) (files : List (List (List ℕ))) (bodies : List (List ℕ)) (after : List (List (List ℕ))) → k ≡ n + length files
    → filter (λ r. not (is_cut k count r)) (bodies_from n (files ++ bodies ∷ after)) ≡ bodies_from n (files ++ take count bodies ∷ after)
bodies_cut k count n [] bodies after is =
    let keep = λ (r : Row). not (is_cut k count r) in
    let here : k ≡ n = omega (arith, is) in
    let all : count - 0 ≡ count = omega arith in
    subst (λ m. filter keep (bodies_from m (bodies ∷ after)) ≡ bodies_from m (take count bodies ∷ after)) here
    (filter-append keep (body_rows k 0 bodies) (bodies_from (k + 1) after)
    ∙ ap (λ (rows : List Row). rows ++ filter keep (bodies_from (k + 1) after)) (cut_one k count 0 bodies ∙ ap (λ m. body_rows k 0 (take m bodies)) all)
    ∙ ap (λ (rows : List Row). body_rows k 0 (take count bodies) ++ rows) (cut_none k count (k + 1) after (omega arith)))
bodies_cut k count n (f ∷ files) bodies after is =
    let keep = λ (r : Row). not (is_cut k count r) in
    let stays : (at : ℕ) (b : List ℕ) → keep (body_row n at b) ≡ true = λ at b. let other : (n == k) ≡ false = unlike n k (omega (arith, is)) in rw other refl in
    filter-append keep (body_rows n 0 f) (bodies_from (n + 1) (files ++ bodies ∷ after))
    ∙ ap (λ (rows : List Row). rows ++ filter keep (bodies_from (n + 1) (files ++ bodies ∷ after))) (all_kept keep n 0 f stays)
    ∙ ap (λ (rows : List Row). body_rows n 0 f ++ rows) (bodies_cut k count (n + 1) files bodies after (omega (arith, is)))
