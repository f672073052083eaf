-- Rows of a file that come in parts. What is kept of them, cut off anywhere, is a beginning of the file, and what closes it makes it whole.
use Rattle.std.proofs.Common.{◌≡◌, ℕ, zero, suc, ◌+◌, ◌-◌, ◌≤◌, List, [], ◌∷◌, ◌++◌, length, take, drop, ap, sym, ◌∙◌, arith, append_assoc, length-drop}
use Rattle.std.proofs.lemmas.List.{drop-append-le, take-append-drop}
use Rattle.std.proofs.Math.Seq.{drop-append_seam}
use Rattle.oftp_vfile.specs.VirtualFile.{BeginsWith, closed}
use Rattle.oftp_session.proofs.Ends.{closed_drop}

-- dropping in two parts
drop_of_append : {A : Type 0} (n : ℕ) (xs ys : List A) → drop n (xs ++ ys) ≡ drop n xs ++ drop (n - length xs) ys
drop_of_append zero xs ys = ap (λ k. xs ++ drop k ys) (let e : 0 ≡ 0 - length xs = omega arith in e)
drop_of_append (suc n) [] ys = let e : suc n ≡ suc n - 0 = omega arith in ap (λ k. drop k ys) e
drop_of_append (suc n) (x ∷ xs) ys =
    let e : n - length xs ≡ suc n - suc (length xs) = omega arith in
    drop_of_append n xs ys ∙ ap (λ k. drop n xs ++ drop k ys) e

module _ (file kept : List (List ℕ)) (was : BeginsWith file kept) where
  -- the first rows of a beginning are a beginning
  pub cut_begins : (count : ℕ) → BeginsWith file (take count kept)
  cut_begins count =
      let split = ap (λ x. x ++ was.0) (sym (take-append-drop count kept)) in
      (drop count kept ++ was.0, was.1 ∙ split ∙ append_assoc (take count kept) (drop count kept) was.0)

  -- what is carried from a row on, without what is kept of it already, leaves a beginning
  pub keep_begins : (carried : List (List ℕ)) (from : ℕ) → from ≤ length kept → BeginsWith (drop from file) carried
      → BeginsWith file (kept ++ drop (length kept - from) carried)
  keep_begins carried from within now =
      let d = drop from kept in
      let n = length kept - from in
      let seam = ap (λ k. drop k (d ++ was.0)) (sym (length-drop from kept)) ∙ drop-append_seam d was.0 in
      let both : d ++ was.0 ≡ carried ++ now.0 = sym (drop-append-le from kept was.0 within) ∙ ap (drop from) (sym was.1) ∙ now.1 in
      let rest : was.0 ≡ drop n carried ++ drop (n - length carried) now.0 = sym seam ∙ ap (drop n) both ∙ drop_of_append n carried now.0 in
      (drop (n - length carried) now.0, was.1 ∙ ap (λ x. kept ++ x) rest ∙ sym (append_assoc kept (drop n carried) (drop (n - length carried) now.0)))

  -- what is carried to the end from a row on, without what is kept of it already, makes the file whole
  pub close_whole : (rows : List (List ℕ)) (tail : List ℕ) (from : ℕ) → from ≤ length kept → length kept ≤ from + length rows
      → closed rows tail ≡ drop from file → kept ++ closed (drop (length kept - from) rows) tail ≡ file
  close_whole rows tail from within most all =
      let d = drop from kept in
      let n = length kept - from in
      let seam = ap (λ k. drop k (d ++ was.0)) (sym (length-drop from kept)) ∙ drop-append_seam d was.0 in
      let both : drop from file ≡ d ++ was.0 = ap (drop from) was.1 ∙ drop-append-le from kept was.0 within in
      let rest : drop n (drop from file) ≡ was.0 = ap (drop n) both ∙ seam in
      ap (λ x. kept ++ x) (closed_drop n rows tail (omega (arith, most, within)) ∙ ap (drop n) all ∙ rest) ∙ sym was.1
