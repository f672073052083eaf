-- Rows and a tail that have grown can be restored.
use Rattle.std.proofs.Common.{◌≡◌, ℕ, suc, ◌+◌, ◌<◌, ◌≤◌, List, [], ◌∷◌, ◌++◌, length, get_or, take, drop, refl, sym, ap, ◌∙◌, arith, append_assoc, Result, Ok, Err, OnErr}
use Rattle.std.proofs.lemmas.List.{append-nil, take_at, length-append, take-append-le, nil_from_length, same_from_push, get_or_at, get_or_append_left, drop_at, drop-drop}
use Rattle.std.proofs.Math.Seq.{take-append-add}
use Rattle.oftp_vfile.specs.declared.format.TheConstants.{BLOCK}
use Rattle.oftp_vfile.specs.Growth.{HasGrown}

-- nothing was added
pub goes_on_same : (rows : List (List ℕ)) (tail : List ℕ) (rows' : List (List ℕ)) (tail' : List ℕ) → rows' ≡ rows → tail' ≡ tail → HasGrown rows tail rows' tail'
goes_on_same rows tail rows' tail' r t = ([], [], rw (r, t, append-nil) refl)

-- the tail is longer
pub goes_on_longer : (rows : List (List ℕ)) (tail : List ℕ) (rows' : List (List ℕ)) (tail' more : List ℕ) → rows' ≡ rows → tail' ≡ tail ++ more → HasGrown rows tail rows' tail'
goes_on_longer rows tail rows' tail' more r t = (more, [], rw (r, t) refl)

-- the tail became a row
pub goes_on_closed : (rows : List (List ℕ)) (tail : List ℕ) (rows' : List (List ℕ)) (tail' more : List ℕ) → rows' ≡ rows ++ (tail ++ more) ∷ [] → HasGrown rows tail rows' tail'
goes_on_closed rows tail rows' tail' more r = (more, tail' ∷ [], rw (r, append_assoc) refl)

-- a fact is a fact at an error
pub at_error : {T E : Type 0} (r : Result T E) {P : Type 0} → P → OnErr r P
at_error (Ok x) p = tt
at_error (Err e) p = p

-- the old rows, of rows that go on, if none is new
pub rows_before : (old : List (List ℕ)) (front : List ℕ) (rows : List (List ℕ)) (tail : List ℕ) → HasGrown old front rows tail → length rows ≤ length old → (rows ≡ old)
    × (take (length front) tail ≡ front)
rows_before old front rows tail g h =
    let e : rows ++ tail ∷ [] ≡ old ++ (front ++ g.0) ∷ g.1 = g.2 in
    let l : length rows + 1 ≡ length old + suc (length g.1) = sym (length-append rows (tail ∷ [])) ∙ ap length e ∙ length-append old ((front ++ g.0) ∷ g.1) in
    let n : length g.1 ≡ 0 = omega arith in
    let b : g.1 ≡ [] = nil_from_length g.1 n in
    let same : (rows ≡ old) × (tail ≡ front ++ g.0) = same_from_push rows old tail (front ++ g.0) (e ∙ ap (λ (x : List (List ℕ)). old ++ (front ++ g.0) ∷ x) b) in
    (same.0, ap (take (length front)) same.1 ∙ take_at front g.0 (length front) refl)

-- the first new row holds the old tail
pub first_new : (old : List (List ℕ)) (front : List ℕ) (rows : List (List ℕ)) (tail : List ℕ) → HasGrown old front rows tail → length old < length rows
    → (take (length old) rows ≡ old) × ((d : List ℕ) → take (length front) (get_or rows (length old) d) ≡ front)
first_new old front rows tail g h =
    let e : rows ++ tail ∷ [] ≡ old ++ (front ++ g.0) ∷ g.1 = g.2 in
    let l : length old ≤ length rows = omega arith in
    let first : (d : List ℕ) → get_or rows (length old) d ≡ front ++ g.0 =
    λ d. sym (get_or_append_left rows (tail ∷ []) d (length old) h) ∙ ap (λ (x : List (List ℕ)). get_or x (length old) d) e ∙ get_or_at old (front ++ g.0) g.1 d (length old) refl in (
      sym (take-append-le (length old) rows (tail ∷ []) l) ∙ ap (take (length old)) e ∙ take_at old ((front ++ g.0) ∷ g.1) (length old) refl,
      λ d. ap (take (length front)) (first d) ∙ take_at front g.0 (length front) refl,
    )

-- the block that fills up, and what is left
pub filled_block : (tail part : List ℕ) (room : ℕ) → length tail + room ≡ BLOCK → take BLOCK (tail ++ part) ≡ tail ++ take room part
filled_block tail part room e = ap (λ n. take n (tail ++ part)) (sym e) ∙ take-append-add tail part room

pub rest_of_block : (tail part : List ℕ) (room : ℕ) → length tail + room ≡ BLOCK → drop BLOCK (tail ++ part) ≡ drop room part
rest_of_block tail part room e = ap (λ n. drop n (tail ++ part)) (sym e) ∙ sym (drop-drop room (length tail) (tail ++ part)) ∙ ap (drop room) (drop_at tail part (length tail) refl)
