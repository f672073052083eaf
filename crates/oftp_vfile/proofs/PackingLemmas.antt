-- What the filler's loops write is what the filling rule packs.
use Rattle.std.proofs.Common.{◌≡◌, ℕ, suc, zero, ◌+◌, ◌-◌, ◌<◌, ◌≤◌, Bool, true, false, cond, eqb, min, List, [], ◌∷◌, ◌++◌, length, get_or, set, take, drop, refl, sym, ap, ◌∙◌, subst, arith, append_assoc, ◌⊎◌, inl, inr, All}
use Rattle.std.proofs.lemmas.Bool.{eq-eqb, eqb-false, ne_eqb}
use Rattle.std.proofs.lemmas.List.{append-nil, length-append, length-take-le, length-drop, drop-drop, drop_more, take_more_set, take-append-le, drop-append-le, length-set, drop-set-lt, drop_at, get_or_default}
use Rattle.std.proofs.lemmas.List.Concat.{flat_map-append}
use Rattle.std.proofs.lemmas.Slice.{take-put_mid, take-put_mid_below}
use Rattle.std.proofs.Math.Seq.{take-add}
use borrow.Rule.Slice.PartMut.{put_mid, post_of}
use Rattle.oftp_vfile.specs.Subrecord.{Subrecord, spelled, payload_of}
use Rattle.oftp_vfile.specs.Fill.{needs, next_length, next_subrecord, behind, Packs}
use Rattle.oftp_vfile.specs.Filling.{from_offset}
use Rattle.oftp_vfile.specs.VirtualFile.{octets_in}
use Rattle.oftp_vfile.specs.Packing.{HasPacked, rest_at, IsTail, HasStreamed, HasEnded}

-- the octets of the rows from a row on
pub octets_in-drop : (rows : List (List ℕ)) (i : ℕ) (d : List ℕ) → i < length rows → octets_in (drop i rows) ≡ get_or rows i d ++ octets_in (drop (i + 1) rows)
octets_in-drop rows i d h = ap octets_in (drop_more rows i d h)

-- one part of a row was written
pub gather_step : (rows : List (List ℕ)) (row offset at n k : ℕ) (out all ys octets : List ℕ)
    → row < length rows → octets ≡ get_or rows row octets → offset + n ≤ length octets → at ≤ length out
    → take at out ≡ take at all → drop offset (octets_in (drop row rows)) ≡ drop at all → ys ≡ take n (drop offset octets)
    → (take (at + n) (put_mid at k out ys) ≡ take (at + n) all) × (drop (offset + n) octets ++ octets_in (drop (row + 1) rows) ≡ drop (at + n) all)
    × (drop (offset + n) (octets_in (drop row rows)) ≡ drop (at + n) all) × (at ≤ length all → at + n ≤ length all)
gather_step rows row offset at n k out all ys octets h o w r t e y =
    let next : List ℕ = octets_in (drop (row + 1) rows) in
    let z : octets_in (drop row rows) ≡ octets ++ next = octets_in-drop rows row octets h ∙ ap (λ (x : List ℕ). x ++ next) (sym o) in
    let w1 : offset ≤ length octets = omega arith in
    let d : drop offset octets ++ next ≡ drop at all = sym (drop-append-le offset octets next w1) ∙ ap (drop offset) (sym z) ∙ e in
    let l : length (drop offset octets) ≡ length octets - offset = length-drop offset octets in
    let m : n ≤ length (drop offset octets) = omega arith in
    let part : take n (drop at all) ≡ ys = ap (take n) (sym d) ∙ take-append-le n (drop offset octets) next m ∙ sym y in
    let len : length ys ≡ n = ap length y ∙ length-take-le n (drop offset octets) m in
    let a : take (at + n) (put_mid at k out ys) ≡ take at out ++ ys = take-put_mid at k out ys (at + n) (omega arith) r in
    let q : drop (offset + n) (octets_in (drop row rows)) ≡ drop (at + n) all = sym (drop-drop n offset (octets_in (drop row rows))) ∙ ap (drop n) e ∙ drop-drop n at all in
    let p : drop (offset + n) octets ++ next ≡ drop (at + n) all = sym (drop-append-le (offset + n) octets next w) ∙ ap (drop (offset + n)) (sym z) ∙ q in
    let s : length (drop at all) ≡ length (drop offset octets) + length next = ap length (sym d) ∙ length-append (drop offset octets) next in
    (a ∙ ap (λ (x : List ℕ). x ++ ys) t ∙ ap (λ (x : List ℕ). take at all ++ x) (sym part) ∙ sym (take-add at n all), p, q, λ b. omega (arith, s, length-drop at all, m))

-- a subrecord was written
pub put_step : (out part ys : List ℕ) (at h k : ℕ) → at + 1 + length part ≤ length out → ys ≡ part → take (at + (1 + length part)) (put_mid (at + 1) k (set out at h) ys) ≡ take at out ++ h ∷ part
put_step out part ys at h k r y =
    let l : at < length out = omega arith in
    let s : length (set out at h) ≡ length out = length-set out at h in
    let n : at + (1 + length part) ≡ at + 1 + length ys = omega (arith, ap length y) in
    take-put_mid (at + 1) k (set out at h) ys (at + (1 + length part)) n (omega arith) ∙ ap (λ (x : List ℕ). x ++ ys) (take_more_set out at h l)
    ∙ append_assoc (take at out) (h ∷ []) ys ∙ ap (λ (x : List ℕ). take at out ++ h ∷ x) y

-- the element that was read, at another default
pub get_or_same : (rows : List (List ℕ)) (i : ℕ) (x y : List ℕ) → i < length rows → x ≡ get_or rows i x → y ≡ x → y ≡ get_or rows i y
get_or_same rows i x y h e f = f ∙ e ∙ get_or_default rows i x y h

pub from_offset-zero : (rows : List (List ℕ)) → from_offset 0 rows ≡ rows
from_offset-zero [] = refl
from_offset-zero (r ∷ rs) = refl

-- the rows from a place on
pub from_offset-drop : (rows : List (List ℕ)) (row offset : ℕ) (octets : List ℕ) → row < length rows → octets ≡ get_or rows row octets
    → from_offset offset (drop row rows) ≡ drop offset octets ∷ drop (row + 1) rows
from_offset-drop rows row offset octets h e = ap (from_offset offset) (drop_more rows row octets h ∙ ap (λ (x : List ℕ). x ∷ drop (row + 1) rows) (sym e))

pub needs_le : (octets : List ℕ) (free : ℕ) → (free ≡ 0 → ⊥) → (free ≡ 1 → length octets ≡ 0) → needs octets ≤ free
needs_le [] free a b = omega arith
needs_le (x ∷ xs) free a b = (let c : free ≡ 1 → ⊥ = λ e. (let z : suc (length xs) ≡ 0 = b e in omega arith) in omega arith)

pub needs_gt : (octets : List ℕ) (free : ℕ) → (free ≡ 0) ⊎ ((free ≡ 1) × (0 < length octets)) → free < needs octets
needs_gt [] free (inl a) = omega arith
needs_gt [] free (inr a) = absurd (omega (arith, a.1))
needs_gt (x ∷ xs) free (inl a) = omega arith
needs_gt (x ∷ xs) free (inr a) = omega (arith, a.0)

behind-append : (octets : List ℕ) (records more : List (List ℕ)) (free : ℕ) → behind octets records free ++ more ≡ behind octets (records ++ more) free
behind-append octets records more free =
    let P : Bool → Type 0 = λ b. cond b records (drop (next_length octets free) octets ∷ records) ++ more ≡ cond b (records ++ more) (drop (next_length octets free) octets ∷ (records ++ more)) in
    let both : (b : Bool) → P b = λ b. elim b as P [ true ↦ refl | false ↦ refl ] in
    both (eqb (next_length octets free) (length octets))

pub payload_of-push : (ss : List Subrecord) (s : Subrecord) → payload_of (ss ++ s ∷ []) ≡ payload_of ss ++ spelled s
payload_of-push ss s = flat_map-append spelled ss (s ∷ []) ∙ ap (λ (x : List ℕ). payload_of ss ++ x) (append-nil (spelled s))

next_count-le : (octets : List ℕ) (free : ℕ) → length (take (next_length octets free) octets) ≡ next_length octets free
next_count-le octets free = length-take-le (next_length octets free) octets (omega arith)

-- one more subrecord was written
pub packed_more : (size : ℕ) (records : List (List ℕ)) (octets : List ℕ) (free : ℕ) (r : List ℕ) (rs : List (List ℕ)) → HasPacked size records octets free (r ∷ rs) → needs r ≤ free
    → HasPacked size records (octets ++ spelled (next_subrecord r free)) (free - (1 + next_length r free)) (behind r rs free)
packed_more size records octets free r rs p h =
    let s : Subrecord = next_subrecord r free in
    let n : length s.octets ≡ next_length r free = next_count-le r free in (
      p.0 ++ s ∷ [],
      ap (λ (x : List ℕ). x ++ spelled s) p.1 ∙ sym (payload_of-push p.0 s),
      λ more ss left q.
          let sized = subst (λ (x : ℕ). Packs (free - (1 + x)) (behind r rs free ++ more) ss left) (sym n) q in
          let q' : Packs (free - (1 + length s.octets)) (behind r (rs ++ more) free) ss left =
          subst (λ (x : List (List ℕ)). Packs (free - (1 + length s.octets)) x ss left) (behind-append r rs more free) sized in
          subst (λ (x : List Subrecord). Packs size (records ++ more) x left) (sym (append_assoc p.0 (s ∷ []) ss)) (p.2 more (s ∷ ss) left (h, refl, q')),
    )

pub packed_none : (size : ℕ) (records : List (List ℕ)) → HasPacked size records [] size records
packed_none size records = ([], refl, λ more ss left p. p)

-- in terms of rows and places
packed_ends : (size : ℕ) (start : List (List ℕ)) (octets : List ℕ) (free : ℕ) (rows : List (List ℕ)) (row offset count : ℕ) (r written : List ℕ) (ends : Bool)
    → row < length rows → r ≡ get_or rows row r → HasPacked size start octets free (from_offset offset (drop row rows)) → needs (drop offset r) ≤ free
    → count ≡ next_length (drop offset r) free → ends ≡ eqb count (length (drop offset r)) → written ≡ octets ++ spelled (record { ends = ends; octets = take count (drop offset r) })
    → HasPacked size start written (free - (1 + count)) (cond ends (drop (row + 1) rows) (drop count (drop offset r) ∷ drop (row + 1) rows))
packed_ends size start octets free rows row offset count r written ends h e p f n b w =
    let rest : List ℕ = drop offset r in
    let rs : List (List ℕ) = drop (row + 1) rows in
    let p' : HasPacked size start octets free (rest ∷ rs) = subst (λ (x : List (List ℕ)). HasPacked size start octets free x) (from_offset-drop rows row offset r h e) p in
    let m = packed_more size start octets free rest rs p' f in
    let t : ends ≡ eqb (next_length rest free) (length rest) = b ∙ ap (λ x. eqb x (length rest)) n in
    let v : written ≡ octets ++ spelled (next_subrecord rest free) =
    w ∙ ap (λ (x : Bool). octets ++ spelled (record { ends = x; octets = take count rest })) t
    ∙ ap (λ (x : ℕ). octets ++ spelled (record { ends = eqb (next_length rest free) (length rest); octets = take x rest })) n in
    let m1 : HasPacked size start written (free - (1 + next_length rest free)) (behind rest rs free) =
    subst (λ (x : List ℕ). HasPacked size start x (free - (1 + next_length rest free)) (behind rest rs free)) (sym v) m in
    let m2 : HasPacked size start written (free - (1 + count)) (behind rest rs free) = subst (λ (x : ℕ). HasPacked size start written (free - (1 + x)) (behind rest rs free)) (sym n) m1 in
    let g : behind rest rs free ≡ cond ends rs (drop count rest ∷ rs) = ap (λ (x : Bool). cond x rs (drop (next_length rest free) rest ∷ rs)) (sym t)
    ∙ ap (λ (x : ℕ). cond ends rs (drop x rest ∷ rs)) (sym n) in
    subst (λ (x : List (List ℕ)). HasPacked size start written (free - (1 + count)) x) g m2

packed_done : (size size' at count free : ℕ) (start records records' : List (List ℕ)) (written : List ℕ) → size' ≡ size → free ≡ size - at
    → HasPacked size start written (free - (1 + count)) records → records ≡ records'
    → HasPacked size' start written (size' - (at + (1 + count))) records'
packed_done size size' at count free start records records' written e f p r =
    let n : free - (1 + count) ≡ size - (at + (1 + count)) = omega arith in
    let a : HasPacked size start written (size - (at + (1 + count))) records = subst (λ (x : ℕ). HasPacked size start written x records) n p in
    let b : HasPacked size' start written (size' - (at + (1 + count))) records = subst (λ (x : ℕ). HasPacked x start written (x - (at + (1 + count))) records) (sym e) a in
    subst (λ (x : List (List ℕ)). HasPacked size' start written (size' - (at + (1 + count))) x) r b

-- the loop wrote the next subrecord, which is the first part of what is left of its record
packed_step : (size : ℕ) (start rows : List (List ℕ)) (row offset at count : ℕ) (r rest part out out' : List ℕ)
    → row < length rows → r ≡ get_or rows row r → rest ≡ drop offset r → part ≡ take count rest → length part ≡ count
    → HasPacked size start (take at out) (size - at) (from_offset offset (drop row rows))
    → needs rest ≤ size - at → count ≡ next_length rest (size - at)
    → take (at + (1 + length part)) out' ≡ take at out ++ spelled (record { ends = eqb count (length rest); octets = part })
    → HasPacked size start (take (at + (1 + count)) out') (size - at - (1 + count))
    (cond (eqb count (length rest)) (drop (row + 1) rows) (drop count (drop offset r) ∷ drop (row + 1) rows))
packed_step size start rows row offset at count r rest part out out' h e back front len p f n w =
    let ends : Bool = eqb count (length rest) in
    let sub : List ℕ → List ℕ = λ x. take at out ++ spelled (record { ends = ends; octets = x }) in
    let written : take (at + (1 + count)) out' ≡ sub (take count (drop offset r)) =
    ap (λ x. take (at + (1 + x)) out') (sym len) ∙ w ∙ ap sub front ∙ ap (λ (x : List ℕ). sub (take count x)) back in
    let fits : needs (drop offset r) ≤ size - at = subst (λ (x : List ℕ). needs x ≤ size - at) back f in
    let sized : count ≡ next_length (drop offset r) (size - at) = n ∙ ap (λ (x : List ℕ). next_length x (size - at)) back in
    let last : ends ≡ eqb count (length (drop offset r)) = ap (λ (x : List ℕ). eqb count (length x)) back in
    packed_ends size start (take at out) (size - at) rows row offset count r (take (at + (1 + count)) out') ends h e p fits sized last written

pub needs_some : (octets : List ℕ) → 0 < needs octets
needs_some [] = omega arith
needs_some (x ∷ xs) = omega arith

-- the loop goes on after the subrecord that it wrote: there is room for it, and what is packed then leaves what follows it
pub record GoesOn (start rows : List (List ℕ)) (row offset at count : ℕ) (r rest out : List ℕ) : Type 0 where
  pub room : at + (1 + count) ≤ length out
  pub packed : (left : List (List ℕ)) → cond (eqb count (length rest)) (drop (row + 1) rows) (drop count (drop offset r) ∷ drop (row + 1) rows) ≡ left
      → HasPacked (length out) start (take (at + (1 + count)) out) (length out - (at + (1 + count))) left

pub goes_on : (size : ℕ) (start rows : List (List ℕ)) (row offset at count : ℕ) (r rest part out out' : List ℕ)
    → row < length rows → r ≡ get_or rows row r → rest ≡ drop offset r → part ≡ take count rest → length part ≡ count
    → HasPacked size start (take at out) (size - at) (from_offset offset (drop row rows))
    → needs rest ≤ size - at → count ≡ next_length rest (size - at)
    → take (at + (1 + length part)) out' ≡ take at out ++ spelled (record { ends = eqb count (length rest); octets = part })
    → at ≤ size → length out' ≡ size → GoesOn start rows row offset at count r rest out'
goes_on size start rows row offset at count r rest part out out' h e back front len p fits counted written within same =
    let some = needs_some rest in
    let step = packed_step size start rows row offset at count r rest part out out' h e back front len p fits counted written in
    record {
      room = omega (arith, same, counted, some, fits, within);
      packed = λ left is. packed_done size (length out') at count (size - at) start _ left _ same refl step is;
    }

-- a place in a row is in the row
pub in_row : (offset n : ℕ) → (0 < offset → offset < n) → offset ≤ n
in_row zero n h = omega arith
in_row (suc k) n h = let q : suc k < n = h (omega arith) in omega arith

-- a header before octets that were written
pub header_step : (out new cur : List ℕ) (at count k h : ℕ) → at + 1 ≤ length out → count ≤ length new → take count new ≡ take count cur
    → take (at + (1 + count)) (set (put_mid (at + 1) k out new) at h) ≡ take at out ++ h ∷ take count cur
header_step out new cur at count k h r n e =
    let post : List ℕ = post_of (at + 1) k out in
    let xs : List ℕ = put_mid (at + 1) k out new in
    let front : length (take (at + 1) out) ≡ at + 1 = length-take-le (at + 1) out r in
    let long : length xs ≡ (at + 1) + length (new ++ post) = length-append (take (at + 1) out) (new ++ post) ∙ ap (λ x. x + length (new ++ post)) front in
    let lt : at < length xs = omega arith in
    let n1 : at + (1 + count) ≡ (at + 1) + count = omega arith in
    let a : take (at + 1) (set xs at h) ≡ take at out ++ h ∷ [] = take_more_set xs at h lt ∙ ap (λ (x : List ℕ). x ++ h ∷ []) (take-put_mid_below (at + 1) k out new at (omega arith) r) in
    let b : drop (at + 1) (set xs at h) ≡ new ++ post = drop-set-lt (at + 1) xs at h (omega arith) ∙ drop_at (take (at + 1) out) (new ++ post) (at + 1) front in
    ap (λ x. take x (set xs at h)) n1 ∙ take-add (at + 1) count (set xs at h) ∙ ap (λ (x : List ℕ). x ++ take count (drop (at + 1) (set xs at h))) a
    ∙ append_assoc (take at out) (h ∷ []) (take count (drop (at + 1) (set xs at h)))
    ∙ ap (λ (x : List ℕ). take at out ++ h ∷ x) (ap (take count) b ∙ take-append-le count new post n ∙ e)

below_row : (offset n : ℕ) → 0 < n → (0 < offset → offset < n) → offset < n
below_row zero n s h = s
below_row (suc k) n s h = h (omega arith)

-- if a row is left, octets are
pub rest_some : (rows : List (List ℕ)) (row offset : ℕ) → row < length rows → All (λ (r : List ℕ). 0 < length r) rows → (0 < offset → offset < length (get_or rows row []))
    → 0 < length (rest_at rows row offset)
rest_some rows row offset h a p =
    let r : List ℕ = get_or rows row [] in
    let next : List ℕ = octets_in (drop (row + 1) rows) in
    let e : rest_at rows row offset ≡ drop offset (r ++ next) = ap (drop offset) (octets_in-drop rows row [] h) in
    let some : 0 < length r = a row [] h in
    let q : offset < length r = below_row offset (length r) some p in
    subst (λ (x : List ℕ). 0 < length x) (sym e) (omega (arith, length-drop offset (r ++ next), length-append r next))

pub false_row : (a b : ℕ) → eqb a b ≡ false → a ≤ b → a < b
false_row a b e l = let n : a ≡ b → ⊥ = eqb-false a b e in omega arith

-- two free octets suffice for a subrecord of any record
pub needs_most : (octets : List ℕ) → needs octets ≤ 2
needs_most [] = omega arith
needs_most (x ∷ xs) = omega arith

tail_length : (last : Bool) (cur tail : List ℕ) (count want : ℕ) → IsTail last tail → count ≡ min want (length cur) → (last ≡ false → want ≤ length cur) → count ≡ min want (length (cur ++ tail))
tail_length true cur tail count want t e f = e ∙ ap (λ (x : List ℕ). min want (length x)) (sym (append-nil cur)) ∙ ap (λ (x : List ℕ). min want (length (cur ++ x))) (sym t)
tail_length false cur tail count want t e f = let l = length-append cur tail in let g : want ≤ length cur = f refl in omega (arith, l, g, e)

tail_some : (last : Bool) (cur tail : List ℕ) (count : ℕ) → IsTail last tail → count ≤ length cur → (last ≡ true → 0 < length (drop count cur)) → eqb count (length (cur ++ tail)) ≡ false
tail_some true cur tail count t h f = let l = length-append cur tail in let d = length-drop count cur in let g : 0 < length (drop count cur) = f refl in
    ne_eqb count (length (cur ++ tail)) (λ e. omega (arith, l, d, g, e))
tail_some false cur tail count t h f = let l = length-append cur tail in let s : 0 < length tail = t in ne_eqb count (length (cur ++ tail)) (λ e. omega (arith, l, s, h, e))

-- one more subrecord of a stream was written, and it isn't the last
pub streamed_more : (last : Bool) (size : ℕ) (start octets : List ℕ) (free : ℕ) (cur : List ℕ) (count : ℕ) → HasStreamed last size start octets free cur → 2 ≤ free
    → count ≡ min (min 63 (free - 1)) (length cur) → (last ≡ false → min 63 (free - 1) ≤ length cur) → (last ≡ true → 0 < length (drop count cur))
    → HasStreamed last size start (octets ++ spelled (record { ends = false; octets = take count cur })) (free - (1 + count)) (drop count cur)
streamed_more last size start octets free cur count p f n m g =
    let le : count ≤ length cur = omega (arith, n) in
    let s : Subrecord = record { ends = false; octets = take count cur } in (
      p.0 ++ s ∷ [],
      ap (λ (x : List ℕ). x ++ spelled s) p.1 ∙ sym (payload_of-push p.0 s),
      λ tail ss left t q.
          let all : List ℕ = cur ++ tail in
          let long : count ≡ min (min 63 (free - 1)) (length all) = tail_length last cur tail count (min 63 (free - 1)) t n m in
          let counted : count ≡ next_length all free = omega (arith, long) in
          let b : eqb (next_length all free) (length all) ≡ false = ap (λ x. eqb x (length all)) (sym counted) ∙ tail_some last cur tail count t le g in
          let o : take count cur ≡ take (next_length all free) all = sym (take-append-le count cur tail le) ∙ ap (λ x. take x all) counted in
          let is : s ≡ next_subrecord all free = ap (λ (x : List ℕ). record { ends = false; octets = x }) o
          ∙ ap (λ (x : Bool). record { ends = x; octets = take (next_length all free) all }) (sym b) in
          let rest : drop count cur ++ tail ≡ drop (next_length all free) all = sym (drop-append-le count cur tail le) ∙ ap (λ x. drop x all) counted in
          let is_behind : (drop count cur ++ tail) ∷ [] ≡ behind all [] free = ap (λ (x : List ℕ). x ∷ []) rest ∙ ap (λ (x : Bool). cond x [] (drop (next_length all free) all ∷ [])) (sym b) in
          let len : length s.octets ≡ count = length-take-le count cur le in
          let q1 : Packs (free - (1 + length s.octets)) ((drop count cur ++ tail) ∷ []) ss left = subst (λ (x : ℕ). Packs (free - (1 + x)) ((drop count cur ++ tail) ∷ []) ss left) (sym len) q in
          let q2 : Packs (free - (1 + length s.octets)) (behind all [] free) ss left = subst (λ (x : List (List ℕ)). Packs (free - (1 + length s.octets)) x ss left) is_behind q1 in
          let fits : needs all ≤ free = omega (arith, needs_most all) in
          subst (λ (x : List Subrecord). Packs size ((start ++ tail) ∷ []) x left) (sym (append_assoc p.0 (s ∷ []) ss)) (p.2 tail (s ∷ ss) left t (fits, is, q2)),
    )

-- the last subrecord of a stream was written
pub streamed_end : (size : ℕ) (start octets : List ℕ) (free : ℕ) (cur : List ℕ) (count : ℕ) → HasStreamed true size start octets free cur → 2 ≤ free
    → count ≡ min (min 63 (free - 1)) (length cur) → drop count cur ≡ []
    → HasEnded size start (octets ++ spelled (record { ends = true; octets = take count cur }))
streamed_end size start octets free cur count p f n z =
    let s : Subrecord = record { ends = true; octets = take count cur } in
    let d : length cur - count ≡ 0 = sym (length-drop count cur) ∙ ap length z in
    let le : count ≤ length cur = omega (arith, n) in
    let all : count ≡ length cur = omega (arith, d) in
    let e : cur ++ [] ≡ cur = append-nil cur in
    let counted : count ≡ next_length cur free = omega (arith, n) in
    let b : eqb (next_length cur free) (length cur) ≡ true = eq-eqb (next_length cur free) (length cur) (omega (arith, counted, all)) in
    let is : s ≡ next_subrecord cur free = ap (λ (x : ℕ). record { ends = true; octets = take x cur }) counted
    ∙ ap (λ (x : Bool). record { ends = x; octets = take (next_length cur free) cur }) (sym b) in
    let done : Packs (free - (1 + length s.octets)) (behind cur [] free) [] [] =
    subst (λ (x : Bool). Packs (free - (1 + length s.octets)) (cond x [] (drop (next_length cur free) cur ∷ [])) [] []) (sym b) (refl, tt) in
    let fits : needs cur ≤ free = omega (arith, needs_most cur) in
    let packed : Packs free (cur ∷ []) (s ∷ []) [] = (fits, is, done) in
    let packed' : Packs free ((cur ++ []) ∷ []) (s ∷ []) [] = subst (λ (x : List ℕ). Packs free (x ∷ []) (s ∷ []) []) (sym e) packed in (
      p.0 ++ s ∷ [],
      ap (λ (x : List ℕ). x ++ spelled s) p.1 ∙ sym (payload_of-push p.0 s),
      subst (λ (x : List ℕ). Packs size (x ∷ []) (p.0 ++ s ∷ []) []) (append-nil start) (p.2 [] (s ∷ []) [] refl packed'),
    )

pub streamed_none : (last : Bool) (size : ℕ) (start : List ℕ) → HasStreamed last size start [] size start
streamed_none last size start = ([], refl, λ tail ss left t p. p)

pub streamed_done : (last : Bool) (size size' at count free : ℕ) (start octets written stream stream' : List ℕ) → size' ≡ size → free ≡ size - at
    → HasStreamed last size start octets (free - (1 + count)) stream → written ≡ octets → stream' ≡ stream
    → HasStreamed last size' start written (size' - (at + (1 + count))) stream'
streamed_done last size size' at count free start octets written stream stream' e f p w r =
    let n : free - (1 + count) ≡ size - (at + (1 + count)) = omega arith in
    let a : HasStreamed last size start octets (size - (at + (1 + count))) stream = subst (λ (x : ℕ). HasStreamed last size start octets x stream) n p in
    let b : HasStreamed last size' start octets (size' - (at + (1 + count))) stream = subst (λ (x : ℕ). HasStreamed last x start octets (x - (at + (1 + count))) stream) (sym e) a in
    let d : HasStreamed last size' start written (size' - (at + (1 + count))) stream = subst (λ (x : List ℕ). HasStreamed last size' start x (size' - (at + (1 + count))) stream) (sym w) b in
    subst (λ (x : List ℕ). HasStreamed last size' start written (size' - (at + (1 + count))) x) (sym r) d
