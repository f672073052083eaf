-- Rows in order of their numbers.
use Rattle.std.proofs.Common.{◌≡◌, ◌+◌, ◌<◌, ◌≤◌, ℕ, suc, pos, ◌+ℤ◌, List, [], ◌∷◌, ◌++◌, length, fold, refl, sym, ap, ◌∙◌, arith, Less, add-zero}
use Rattle.std.proofs.lemmas.Int.{ints}
use Rattle.std.proofs.Common.{◌<ℤ◌}
use Rattle.std.specs.Cmp.{int_cmp_is}
use Rattle.std.proofs.Math.IntN.{pos-+ℤ-pos}
use Rattle.sqlite_value.proofs.OrderLemmas.{value_cmp-Int}
use Rattle.sqlite.specs.declared.types.Value.TheVariants.{Int}
use Rattle.sqlite.specs.Order.{Row, column, value_cmp}
use Rattle.sqlite.specs.Tree.{put_row, rowid}
use Rattle.sqlite.specs.Edit.{next_rowid, id_in}
use Rattle.oftp_tables.specs.Tables.{rows_from}

pub less : (m n : ℕ) → m < n → value_cmp (Int (pos m)) (Int (pos n)) ≡ Less
less m n h =
    let below : pos m <ℤ pos n = omega (arith, ints) in
    value_cmp-Int (pos m) (pos n) ∙ sym (int_cmp_is (pos m) (pos n) Less below)

module _ {X : Type 0} (row : ℕ → X → Row) (numbered : (n : ℕ) (x : X) → column (row n x) 0 ≡ Int (pos n)) where
  fold_from : (n : ℕ) (xs : List X) → fold (λ _ r. id_in (rowid r) +ℤ pos 1) (pos n) (rows_from row n xs) ≡ pos (n + length xs)
  fold_from n [] = ap pos (sym (add-zero n))
  fold_from n (x ∷ xs) =
      ap (λ v. fold (λ _ r. id_in (rowid r) +ℤ pos 1) (id_in v +ℤ pos 1) (rows_from row (n + 1) xs)) (numbered n x)
      ∙ ap (λ z. fold (λ _ r. id_in (rowid r) +ℤ pos 1) z (rows_from row (n + 1) xs)) (pos-+ℤ-pos n 1)
      ∙ fold_from (n + 1) xs
      ∙ ap pos (omega arith)

  pub next_from : (xs : List X) → next_rowid (rows_from row 1 xs) ≡ pos (1 + length xs)
  next_from xs = fold_from 1 xs

  pub append_from : (n : ℕ) (xs : List X) (x : X) → rows_from row n (xs ++ x ∷ []) ≡ rows_from row n xs ++ row (n + length xs) x ∷ []
  append_from n [] x = ap (λ k. row k x ∷ []) (sym (add-zero n))
  append_from n (y ∷ xs) x =
      let same : (n + 1) + length xs ≡ n + suc (length xs) = omega arith in
      ap (λ rows. row n y ∷ rows) (append_from (n + 1) xs x ∙ ap (λ k. rows_from row (n + 1) xs ++ row k x ∷ []) same)

  pub put_last : (n m : ℕ) (xs : List X) (new : Row) → column new 0 ≡ Int (pos m) → n + length xs ≤ m → put_row new (rows_from row n xs) ≡ rows_from row n xs ++ new ∷ []
  put_last n m [] new is h = refl
  put_last n m (x ∷ xs) new is h =
      let below : n < m = omega arith in
      let rest : (n + 1) + length xs ≤ m = omega arith in
      rw (numbered n x, is, less n m below) (ap (λ rows. row n x ∷ rows) (put_last (n + 1) m xs new is rest))
