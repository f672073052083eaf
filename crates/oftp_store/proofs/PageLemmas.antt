-- Rows that are read, and rows that are counted in pages.
use Rattle.std.proofs.Common.{◌≡◌, ◌+◌, ◌*◌, ◌≤◌, ◌<◌, ℕ, zero, suc, List, [], ◌∷◌, length, get_or, take, drop, min, sym, ap, ◌∙◌, arith, take_all, length-append}
use Rattle.std.specs.List.{flat_map}
use Rattle.std.proofs.Math.Seq.{take-add}
use Rattle.std.proofs.lemmas.Grind.{flat_map-append}
use Rattle.std.proofs.lemmas.List.{length-drop, length-take, take_min}
use Rattle.oftp_vfile.specs.VirtualFile.{units_in}
use Rattle.oftp_vfile.specs.declared.format.TheConstants.{MOST_ROWS}
use Rattle.oftp_register.specs.declared.entries.Side.{Side}
use Rattle.oftp_register.specs.Register.{Register}
use Rattle.oftp_register.specs.Soundness.{IsSound}
use Rattle.oftp_register.specs.LookUps.{file_rows, rows_of}
use Rattle.oftp_register.proofs.FileRowLemmas.{few_rows}

-- no more rows are read than a file may have
pub asked_rows : (r : Register) (which : Side) (n from most : ℕ) → IsSound r → take (min most MOST_ROWS) (drop from (file_rows r which n)) ≡ rows_of r which n from most
asked_rows r which n from most sound =
    let rest = drop from (file_rows r which n) in
    let few : length rest ≤ MOST_ROWS = omega (arith, few_rows r which n sound, length-drop from (file_rows r which n)) in
    let same : min (min most MOST_ROWS) (length rest) ≡ min most (length rest) = omega (arith, few) in
    sym (take_min (min most MOST_ROWS) rest) ∙ ap (λ m. take m rest) same ∙ take_min most rest

-- so no more are returned, nor more than follow the first of them
pub few_asked : (r : Register) (which : Side) (n from most count : ℕ) → IsSound r → count ≡ length (take (min most MOST_ROWS) (drop from (file_rows r which n)))
    → (count ≤ most) × (from ≤ MOST_ROWS → from + count ≤ MOST_ROWS)
few_asked r which n from most count sound is =
    let rest = drop from (file_rows r which n) in
    let part = length-take (min most MOST_ROWS) rest in
    let left = length-drop from (file_rows r which n) in
    let few = few_rows r which n sound in
    (omega (arith, is, part), λ within. omega (arith, is, part, left, few, within))

-- one page more
pub page_more : (k : ℕ) (rows : List (List ℕ)) → units_in (take (k * 64) rows) + units_in (take 64 (drop (k * 64) rows)) ≡ units_in (take ((k + 1) * 64) rows)
page_more k rows =
    let more : (k + 1) * 64 ≡ k * 64 + 64 = omega arith in
    sym (ap (λ m. units_in (take m rows)) more ∙ ap units_in (take-add (k * 64) 64 rows) ∙ ap length (flat_map-append (λ (r : List ℕ). r) (take (k * 64) rows) (take 64 (drop (k * 64) rows)))
    ∙ length-append _ _)

-- all pages
pub all_pages : (k : ℕ) (rows : List (List ℕ)) → length rows ≤ k * 64 → units_in (take (k * 64) rows) ≡ units_in rows
all_pages k rows h = ap units_in (take_all (k * 64) rows h)

-- ---- a part of the rows

row_units : (row : List ℕ) (rows : List (List ℕ)) → units_in (row ∷ rows) ≡ length row + units_in rows
row_units row rows = length-append row (flat_map (λ (r : List ℕ). r) rows)

-- has no more octets than all of them
pub units_part : (m : ℕ) (rows : List (List ℕ)) → units_in (take m rows) ≤ units_in rows
units_part zero rows = omega arith
units_part (suc m) [] = omega arith
units_part (suc m) (row ∷ rows) = omega (arith, units_part m rows, row_units row (take m rows), row_units row rows)

-- the first rows and the next one
pub units_with : (rows : List (List ℕ)) (i : ℕ) (row : List ℕ) → i < length rows → row ≡ get_or rows i row → units_in (take i rows) + length row ≤ units_in rows
units_with [] i row h is = absurd (omega (arith, h))
units_with (first ∷ rows) zero row h is = let same : length row ≡ length first = ap length is in omega (arith, same, row_units first rows)
units_with (first ∷ rows) (suc i) row h is = let more = units_with rows i row (omega (arith, h)) is in omega (arith, more, row_units first (take i rows), row_units first rows)
