-- Which rows of a file a filler may borrow.
use Rattle.std.proofs.Common.{◌≡◌, ℕ, suc, zero, ◌-◌, ◌<◌, ◌≤◌, Bool, true, false, List, [], ◌∷◌, length, take, drop, refl, sym, subst, arith, All}
use Rattle.std.proofs.lemmas.Bool.{false≢true}
use Rattle.std.proofs.lemmas.List.{length-drop, take-append-drop, drop_all, nil_from_length}
use Rattle.std.proofs.lemmas.List.Elements.{All-cons, All-nil, All-drop, All-take}
use Rattle.oftp_vfile.specs.declared.format.TheConstants.{BLOCK}
use Rattle.oftp_vfile.specs.declared.format.Format.{Format}
use Rattle.oftp_vfile.specs.declared.format.Format.TheVariants.{Fixed, Variable, Unstructured, Text}
use Rattle.oftp_vfile.specs.VirtualFile.{is_stream, AreBlocks, AreRows, IsLongest}
use Rattle.oftp_vfile.specs.Filling.{Filling, AreBehind, AreLent, IsInRows, Sent}

blocks_from : (size c : ℕ) (rows : List (List ℕ)) → AreBlocks size rows → AreBlocks size (drop c rows)
blocks_from size zero rows a = a
blocks_from size (suc c) [] a = tt
blocks_from size (suc c) (r ∷ []) a = subst (AreBlocks size) (sym (drop_all c [] (omega arith))) tt
blocks_from size (suc c) (r ∷ q ∷ rs) a = blocks_from size c (q ∷ rs) a.1

-- the rows of a file from a row on are rows of a file
pub rows_from : (format : Format) (longest c : ℕ) (rows : List (List ℕ)) → AreRows format longest rows → AreRows format longest (drop c rows)
rows_from Fixed longest c rows a = All-drop (λ (r : List ℕ). length r ≡ longest) c rows a
rows_from Variable longest c rows a = All-drop (λ (r : List ℕ). length r ≤ longest) c rows a
rows_from Unstructured longest c rows a = blocks_from BLOCK c rows a
rows_from Text longest c rows a = blocks_from BLOCK c rows a

-- blocks aren't empty
blocks_some : (size : ℕ) (rows : List (List ℕ)) → 0 < size → AreBlocks size rows → All (λ (r : List ℕ). 0 < length r) rows
blocks_some size [] h a = All-nil (λ (r : List ℕ). 0 < length r)
blocks_some size (r ∷ []) h a = All-cons (λ (x : List ℕ). 0 < length x) r [] a.0 (All-nil (λ (x : List ℕ). 0 < length x))
blocks_some size (r ∷ q ∷ rs) h a = All-cons (λ (x : List ℕ). 0 < length x) r (q ∷ rs) (omega (arith, a.0)) (blocks_some size (q ∷ rs) h a.1)

pub stream_some : (format : Format) (longest : ℕ) (rows : List (List ℕ)) → AreRows format longest rows → is_stream format ≡ true → All (λ (r : List ℕ). 0 < length r) rows
stream_some Fixed longest rows a e = absurd (false≢true e)
stream_some Variable longest rows a e = absurd (false≢true e)
stream_some Unstructured longest rows a e = blocks_some BLOCK rows (omega arith) a
stream_some Text longest rows a e = blocks_some BLOCK rows (omega arith) a

-- rows after the given ones
some_behind : (format : Format) (longest : ℕ) (more : List (List ℕ)) → IsLongest format longest → AreRows format longest more → 0 < length more → AreBehind format false more
some_behind format longest [] l a h = absurd (omega arith)
some_behind Fixed longest (r ∷ rs) l a h = let e : length r ≡ longest = a 0 [] (omega arith) in omega (arith, e, l.0)
some_behind Variable longest (r ∷ rs) l a h = tt
some_behind Unstructured longest (r ∷ rs) l a h = blocks_some BLOCK (r ∷ rs) (omega arith) a 0 [] (omega arith)
some_behind Text longest (r ∷ rs) l a h = blocks_some BLOCK (r ∷ rs) (omega arith) a 0 [] (omega arith)

pub behind_lent : (format : Format) (longest : ℕ) (last : Bool) (more : List (List ℕ)) → IsLongest format longest → AreRows format longest more → (last ≡ true → length more ≡ 0)
    → (last ≡ false → 0 < length more) → AreBehind format last more
behind_lent format longest true more l a e h = nil_from_length more (e refl)
behind_lent format longest false more l a e h = some_behind format longest more l a (h refl)

first_lent : (f : Filling) (n : ℕ) (rest : List (List ℕ)) → 0 < n → IsInRows f rest → IsInRows f (take n rest)
first_lent f zero rest h p = absurd (omega arith)
first_lent f (suc n) [] h p = p
first_lent f (suc n) (r ∷ rs) h p = p

-- the filler may borrow rows from its row on, some or the last
pub lends_rows : (f : Filling) (longest size from n : ℕ) (rows payloads : List (List ℕ)) (last : Bool) → IsLongest f.format longest → AreRows f.format longest rows
    → Sent f size from rows payloads → 0 < n
    → (last ≡ true → length (drop (f.row - from) rows) ≤ n) → (last ≡ false → n < length (drop (f.row - from) rows))
    → AreLent f from rows (take n (drop (f.row - from) rows)) last × IsInRows f (take n (drop (f.row - from) rows))
    × (is_stream f.format ≡ true → All (λ (r : List ℕ). 0 < length r) (take n (drop (f.row - from) rows)))
lends_rows f longest size from n rows payloads last l a s h all some =
    let rest : List (List ℕ) = drop (f.row - from) rows in
    let more : List (List ℕ) = drop n rest in
    let left = rows_from f.format longest (f.row - from) rows a in
    let count : length more ≡ length rest - n = length-drop n rest in (
      (
        more,
        sym (take-append-drop n rest),
        behind_lent f.format longest last more l (rows_from f.format longest n rest left) (λ e. let m = all e in
            omega (arith, m, count)) (λ e. let m = some e in omega (arith, m, count)),
      ),
      first_lent f n rest h s.place,
      λ e. All-take (λ (r : List ℕ). 0 < length r) n rest (stream_some f.format longest rest left e),
    )
