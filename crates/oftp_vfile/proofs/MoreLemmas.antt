-- Few rows were given if more are asked for.
use Rattle.std.proofs.Common.{◌≡◌, ℕ, suc, zero, ◌+◌, ◌-◌, ◌<◌, ◌≤◌, Bool, true, false, cond, eqb, List, [], ◌∷◌, ◌++◌, length, get_or, drop, refl, ap, ◌∙◌, subst, arith, All}
use Rattle.std.proofs.lemmas.Bool.{eqb-true, false≢true}
use Rattle.std.proofs.lemmas.List.{length-append, length-drop, length-take-le}
use Rattle.std.proofs.lemmas.List.Elements.{All-drop}
use Rattle.std.proofs.lemmas.List.Concat.{flat_map-append}
use Rattle.oftp_vfile.specs.declared.format.Format.{Format}
use Rattle.oftp_vfile.specs.declared.format.Format.TheVariants.{Fixed, Variable, Unstructured, Text}
use Rattle.oftp_vfile.specs.Subrecord.{Subrecord}
use Rattle.oftp_vfile.specs.VirtualFile.{is_stream, octets_in}
use Rattle.oftp_vfile.specs.Fill.{next_length, behind, weight, Packs}
use Rattle.oftp_vfile.specs.Filling.{Filling, from_offset, left_of, least, IsInRows, Reaches}
use Rattle.oftp_vfile.proofs.PackingLemmas.{needs_some}
use Rattle.oftp_vfile.proofs.FillerLemmas.{left_records, left_stream, packs_nothing}

-- a record goes into a payload with all its octets, and at least one header
behind_weight : (r : List ℕ) (rs : List (List ℕ)) (n : ℕ) (whole : Bool) → eqb n (length r) ≡ whole → n ≤ length r
    → weight (r ∷ rs) ≤ 1 + n + weight (cond whole rs (drop n r ∷ rs))
behind_weight r rs n true h l = omega (arith, eqb-true n (length r) h)
behind_weight r rs n false h l = omega (arith, length-drop n r)

packs_weight : (free : ℕ) (records : List (List ℕ)) (ss : List Subrecord) (left : List (List ℕ)) → Packs free records ss left → weight records ≤ free + weight left
packs_weight free records [] left p = omega (arith, ap weight p.0)
packs_weight free [] (s ∷ ss) left p = absurd p
packs_weight free (r ∷ rs) (s ∷ ss) left p =
    let ih = packs_weight (free - (1 + length s.octets)) (behind r rs free) ss left p.2 in
    let n : length s.octets ≡ next_length r free = ap (λ (x : Subrecord). length x.octets) p.1 ∙ length-take-le (next_length r free) r (omega arith) in
    let some = needs_some r in
    let one = behind_weight r rs (next_length r free) (eqb (next_length r free) (length r)) refl (omega arith) in
    omega (arith, ih, n, some, p.0, one)

weight_length : (records : List (List ℕ)) → length records ≤ weight records
weight_length [] = omega arith
weight_length (r ∷ rs) = let ih = weight_length rs in omega (arith, ih)

offset_length : (n : ℕ) (rows : List (List ℕ)) → length (from_offset n rows) ≡ length rows
offset_length n [] = refl
offset_length n (r ∷ rs) = refl

octets_some : (rows : List (List ℕ)) → All (λ (r : List ℕ). 0 < length r) rows → length rows ≤ length (octets_in rows)
octets_some [] a = omega arith
octets_some (r ∷ rs) a =
    let ih = octets_some rs (All-drop (λ (x : List ℕ). 0 < length x) 1 (r ∷ rs) a) in
    let one : 0 < length r = a 0 [] (omega arith) in
    omega (arith, ih, one, length-append r (octets_in rs))

left_some : (rows : List (List ℕ)) (offset : ℕ) → All (λ (r : List ℕ). 0 < length r) rows → (0 < offset → offset < length (get_or rows 0 [])) → length rows + offset ≤ length (octets_in rows)
left_some rows zero a h = omega (arith, octets_some rows a)
left_some [] (suc k) a h = absurd (let q : suc k < 0 = h (omega arith) in omega arith)
left_some (r ∷ rs) (suc k) a h =
    let q : suc k < length r = h (omega arith) in
    let rest = octets_some rs (All-drop (λ (x : List ℕ). 0 < length x) 1 (r ∷ rs) a) in
    omega (arith, q, rest, length-append r (octets_in rs))

least_some : (format : Format) → is_stream format ≡ true → length (octets_in (least format ∷ [])) ≡ 1
least_some Fixed e = refl
least_some Variable e = absurd (false≢true e)
least_some Unstructured e = refl
least_some Text e = refl

records_few : (f : Filling) (size : ℕ) (rows : List (List ℕ)) → is_stream f.format ≡ false → Reaches size f rows → length rows < size
records_few f size rows e p =
    let all : List (List ℕ) = rows ++ least f.format ∷ [] in
    let w = packs_weight size (left_of f all) p.0 [] p.2 in
    let l = weight_length (left_of f all) in
    let n : length (left_of f all) ≡ length all = ap length (left_records f all e) ∙ offset_length f.offset all in
    omega (arith, w, l, n, length-append rows (least f.format ∷ []))

stream_few : (f : Filling) (size : ℕ) (rows : List (List ℕ)) (done : Bool) → is_stream f.format ≡ true → f.done ≡ done → IsInRows f rows
    → All (λ (r : List ℕ). 0 < length r) rows → Reaches size f rows → length rows < size
stream_few f size rows true e d h a p =
    let all : List (List ℕ) = rows ++ least f.format ∷ [] in
    let none : left_of f all ≡ [] =
    ap (λ (b : Bool). cond b (cond f.done [] (drop f.offset (octets_in all) ∷ [])) (from_offset f.offset all)) e ∙ ap (λ (b : Bool). cond b [] (drop f.offset (octets_in all) ∷ [])) d in
    absurd (packs_nothing size p.0 [] p.1 (subst (λ (x : List (List ℕ)). Packs size x p.0 []) none p.2))
stream_few f size rows false e d h a p =
    let all : List (List ℕ) = rows ++ least f.format ∷ [] in
    let w = packs_weight size (left_of f all) p.0 [] p.2 in
    let n : weight (left_of f all) ≡ weight (drop f.offset (octets_in all) ∷ []) = ap weight (left_stream f all e d) in
    let some = left_some rows f.offset a h in
    let one = least_some f.format e in
    let joined = ap length (flat_map-append (λ r. r) rows (least f.format ∷ [])) in
    let both = length-append (octets_in rows) (octets_in (least f.format ∷ [])) in
    omega (arith, w, n, some, length-drop f.offset (octets_in all), joined, both, one)

-- more rows are asked for only if fewer were given than the payload has octets
pub more_few : (f : Filling) (size : ℕ) (rows : List (List ℕ)) → IsInRows f rows → (is_stream f.format ≡ true → All (λ (r : List ℕ). 0 < length r) rows)
    → Reaches size f rows → length rows < size
more_few f size rows h some p = by (is_stream f.format) refl
  where
    by : (stream : Bool) → is_stream f.format ≡ stream → length rows < size
    by true e = stream_few f size rows f.done e refl h (some e) p
    by false e = records_few f size rows e p
