-- What the filler's steps leave.
use Rattle.std.proofs.Common.{◌≡◌, ℕ, suc, zero, ◌+◌, ◌-◌, ◌<◌, ◌≤◌, Bool, true, false, cond, eqb, ◌&&◌, min, List, [], ◌∷◌, ◌++◌, length, get_or, take, drop, refl, sym, ap, ◌∙◌, subst, arith, inl, inr}
use Rattle.std.proofs.lemmas.Bool.{and_parts, cases_lt, eq-eqb, eqb-true, false≢true}
use Rattle.std.proofs.lemmas.List.{append-nil, length-append, length-drop, drop-append-le, drop_all, get_or-drop, nil_from_length}
use Rattle.std.proofs.Math.Bool.{and-false}
use Rattle.std.proofs.lemmas.List.Concat.{flat_map-append}
use Rattle.oftp_vfile.specs.declared.format.Format.{Format}
use Rattle.oftp_vfile.specs.declared.format.Format.TheVariants.{Fixed, Variable, Unstructured, Text}
use Rattle.oftp_vfile.specs.Subrecord.{Subrecord, payload_of}
use Rattle.oftp_vfile.specs.VirtualFile.{is_stream, octets_in, whole_count}
use Rattle.oftp_vfile.specs.Filling.{advanced, Filling, from_offset, left_of, AreBehind, nothing_left, least, Reaches, IsInRows, Moves}
use Rattle.oftp_vfile.specs.Fill.{needs, next_length, next_subrecord, behind, IsFull, Packs}
use Rattle.oftp_vfile.specs.Packing.{HasPacked, rest_at, IsTail, HasStreamed, HasEnded, PacksNext}
use Rattle.oftp_vfile.proofs.PackingLemmas.{from_offset-zero, needs_most}

-- there is only one such payload
pub packs_one : (free : ℕ) (records : List (List ℕ)) (ss tt' : List Subrecord) (l m : List (List ℕ)) → Packs free records ss l → Packs free records tt' m → (ss ≡ tt') × (l ≡ m)
packs_one free records [] [] l m p q = (refl, p.0 ∙ sym q.0)
packs_one free [] [] (t ∷ ts) l m p q = absurd q
packs_one free (r ∷ rs) [] (t ∷ ts) l m p q = let a : free < needs r = p.1 in let b : needs r ≤ free = q.0 in absurd (omega arith)
packs_one free [] (s ∷ ss) ts l m p q = absurd p
packs_one free (r ∷ rs) (s ∷ ss) [] l m p q = let a : free < needs r = q.1 in let b : needs r ≤ free = p.0 in absurd (omega arith)
packs_one free (r ∷ rs) (s ∷ ss) (t ∷ ts) l m p q =
    let same : s ≡ t = p.1 ∙ sym q.1 in
    let q' : Packs (free - (1 + length s.octets)) (behind r rs free) ts m = subst (λ (x : Subrecord). Packs (free - (1 + length x.octets)) (behind r rs free) ts m) (sym same) q.2 in
    let rest = packs_one (free - (1 + length s.octets)) (behind r rs free) ss ts l m p.2 q' in
    (ap (λ (x : Subrecord). x ∷ ss) same ∙ ap (λ (x : List Subrecord). t ∷ x) rest.0, rest.1)

pub from_offset-append : (offset : ℕ) (rows more : List (List ℕ)) → (0 < offset → offset < length (get_or rows 0 [])) → from_offset offset (rows ++ more) ≡ from_offset offset rows ++ more
from_offset-append zero [] more h = from_offset-zero more
from_offset-append (suc k) [] more h = absurd (let q : suc k < 0 = h (omega arith) in omega arith)
from_offset-append offset (r ∷ rs) more h = refl

pub left_records : (f : Filling) (rows : List (List ℕ)) → is_stream f.format ≡ false → left_of f rows ≡ from_offset f.offset rows
left_records f rows e = ap (λ (b : Bool). cond b (cond f.done [] (drop f.offset (octets_in rows) ∷ [])) (from_offset f.offset rows)) e

-- if nothing of the given rows fits, nothing of what follows fits
full_more : (format : Format) (last : Bool) (free : ℕ) (cur more : List (List ℕ)) → IsFull free cur → (cur ≡ [] → last ≡ false → free < needs (least format))
    → AreBehind format last more → IsFull free (cur ++ more)
full_more format last free (x ∷ xs) more f g b = f
full_more format true free [] more f g b = subst (λ (x : List (List ℕ)). IsFull free x) (sym b) tt
full_more format false free [] [] f g b = tt
full_more Fixed false free [] ([] ∷ rs) f g b = absurd (let q : 0 < 0 = b in omega arith)
full_more Fixed false free [] ((y ∷ ys) ∷ rs) f g b = g refl refl
full_more Unstructured false free [] ([] ∷ rs) f g b = absurd (let q : 0 < 0 = b in omega arith)
full_more Unstructured false free [] ((y ∷ ys) ∷ rs) f g b = g refl refl
full_more Text false free [] ([] ∷ rs) f g b = absurd (let q : 0 < 0 = b in omega arith)
full_more Text false free [] ((y ∷ ys) ∷ rs) f g b = g refl refl
full_more Variable false free [] ([] ∷ rs) f g b = g refl refl
full_more Variable false free [] ((y ∷ ys) ∷ rs) f g b = let q : free < 1 = g refl refl in omega arith

some_subs : (ss : List Subrecord) (octets : List ℕ) → octets ≡ payload_of ss → 0 < length octets → 0 < length ss
some_subs [] octets e h = absurd (let q : length octets ≡ 0 = ap length e in omega arith)
some_subs (s ∷ ss) octets e h = omega arith

pub drop_place : (rows : List (List ℕ)) (row offset : ℕ) → (0 < offset → offset < length (get_or rows row [])) → 0 < offset → offset < length (get_or (drop row rows) 0 [])
drop_place rows row offset h o = subst (λ (x : List ℕ). offset < length x) (ap (λ n. get_or rows n []) (omega arith) ∙ sym (get_or-drop row rows 0 [])) (h o)

-- a filler that moves on to a place in the given rows stays within them
pub moves_to : (f : Filling) (rows : List (List ℕ)) (row offset : ℕ) (last : Bool) → row ≤ length rows → (0 < offset → offset < length (get_or rows row []))
    → (is_stream f.format ≡ true → f.done ≡ false) → Moves f (advanced f rows row offset) rows last
moves_to f rows row offset last within place going =
    let gone : f.row + row - f.row ≡ row = omega arith in
    record {
      format = refl;
      ahead = omega arith;
      within = omega (arith, within);
      place = λ o. subst (λ (k : ℕ). offset < length (get_or (drop k rows) 0 [])) (sym gone) (drop_place rows row offset place o);
      mark = ap (λ (k : ℕ). f.mark + whole_count f.format (take k rows)) (sym gone);
      over = λ stream done. absurd (false≢true (sym (going stream) ∙ done));
    }

-- the next payload of records
pub records_next : (size : ℕ) (f : Filling) (rows : List (List ℕ)) (row offset free : ℕ) (octets : List ℕ) (last : Bool) → is_stream f.format ≡ false → IsInRows f rows
    → (0 < offset → offset < length (get_or rows row [])) → HasPacked size (from_offset f.offset rows) octets free (from_offset offset (drop row rows))
    → IsFull free (from_offset offset (drop row rows)) → (from_offset offset (drop row rows) ≡ [] → last ≡ false → free < needs (least f.format)) → 0 < length octets
    → PacksNext size f (advanced f rows row offset) rows last octets
records_next size f rows row offset free octets last e i j p full ends some more b =
    let cur : List (List ℕ) = from_offset offset (drop row rows) in
    let g : Filling = advanced f rows row offset in
    let start : from_offset f.offset rows ++ more ≡ left_of f (rows ++ more) = sym (from_offset-append f.offset rows more i) ∙ sym (left_records f (rows ++ more) e) in
    let n : f.row + row - f.row ≡ row = omega arith in
    let rest : cur ++ more ≡ left_of g (drop (f.row + row - f.row) rows ++ more) =
    sym (from_offset-append offset (drop row rows) more (drop_place rows row offset j)) ∙ ap (λ x. from_offset offset (drop x rows ++ more)) (sym n)
    ∙ sym (left_records g (drop (f.row + row - f.row) rows ++ more) e) in
    let packed : Packs size (from_offset f.offset rows ++ more) (p.0 ++ []) (cur ++ more) = p.2 more [] (cur ++ more) (refl, full_more f.format last free cur more full ends b) in
    let a : Packs size (left_of f (rows ++ more)) (p.0 ++ []) (cur ++ more) = subst (λ (x : List (List ℕ)). Packs size x (p.0 ++ []) (cur ++ more)) start packed in
    let d : Packs size (left_of f (rows ++ more)) p.0 (cur ++ more) = subst (λ (x : List Subrecord). Packs size (left_of f (rows ++ more)) x (cur ++ more)) (append-nil p.0) a in
    (p.0, p.1, some_subs p.0 octets p.1 some, subst (λ (x : List (List ℕ)). Packs size (left_of f (rows ++ more)) p.0 x) rest d)

least_behind : (format : Format) → AreBehind format false (least format ∷ [])
least_behind Fixed = omega arith
least_behind Variable = tt
least_behind Unstructured = omega arith
least_behind Text = omega arith

-- if something is left after the least further row, no such row goes into the payload
pub next_enough : (size : ℕ) (old new : Filling) (rows : List (List ℕ)) (last : Bool) (octets : List ℕ) → PacksNext size old new rows last octets
    → (left_of new (drop (new.row - old.row) rows ++ least old.format ∷ []) ≡ [] → ⊥) → last ≡ false → Reaches size old rows → ⊥
next_enough size old new rows last octets n left e r =
    let b : AreBehind old.format last (least old.format ∷ []) = subst (λ (x : Bool). AreBehind old.format x (least old.format ∷ [])) (sym e) (least_behind old.format) in
    let p = n (least old.format ∷ []) b in
    left ((packs_one size (left_of old (rows ++ least old.format ∷ [])) p.0 r.0 _ [] p.3 r.2).1)

from_offset-some : (offset : ℕ) (xs : List (List ℕ)) (y : List ℕ) → from_offset offset (xs ++ y ∷ []) ≡ [] → ⊥
from_offset-some offset [] y e = cc
from_offset-some offset (x ∷ xs) y e = cc

pub records_left : (f : Filling) (rows : List (List ℕ)) (y : List ℕ) → is_stream f.format ≡ false → left_of f (rows ++ y ∷ []) ≡ [] → ⊥
records_left f rows y e h = from_offset-some f.offset rows y (sym (left_records f (rows ++ y ∷ []) e) ∙ h)

least_count : (g : Format) (free : ℕ) → needs (least g) ≤ free → next_length (least g) free ≡ length (least g)
least_count Fixed free q = omega arith
least_count Variable free q = omega arith
least_count Unstructured free q = omega arith
least_count Text free q = omega arith

least_packs : (format : Format) (free : ℕ) → needs (least format) ≤ free → Packs free (least format ∷ []) (next_subrecord (least format) free ∷ []) []
least_packs format free h =
    let r : List ℕ = least format in
    let b : eqb (next_length r free) (length r) ≡ true = eq-eqb _ _ (least_count format free h) in
    (h, refl, subst (λ (x : Bool). Packs (free - (1 + length (next_subrecord r free).octets)) (cond x [] (drop (next_length r free) r ∷ [])) [] []) (sym b) (refl, tt))

-- the given rows ended before the payload was full
pub records_more : (size : ℕ) (f : Filling) (rows : List (List ℕ)) (row offset free : ℕ) (octets : List ℕ) → is_stream f.format ≡ false → IsInRows f rows
    → row ≡ length rows → HasPacked size (from_offset f.offset rows) octets free (from_offset offset (drop row rows)) → needs (least f.format) ≤ free → Reaches size f rows
records_more size f rows row offset free octets e i n p h =
    let r : List ℕ = least f.format in
    let gone : from_offset offset (drop row rows) ≡ [] = ap (from_offset offset) (drop_all row rows (omega arith)) in
    let one : Packs free (from_offset offset (drop row rows) ++ r ∷ []) (next_subrecord r free ∷ []) [] =
    subst (λ (x : List (List ℕ)). Packs free (x ++ r ∷ []) (next_subrecord r free ∷ []) []) (sym gone) (least_packs f.format free h) in
    let all : Packs size (from_offset f.offset rows ++ r ∷ []) (p.0 ++ next_subrecord r free ∷ []) [] = p.2 (r ∷ []) (next_subrecord r free ∷ []) [] one in
    let start : from_offset f.offset rows ++ r ∷ [] ≡ left_of f (rows ++ r ∷ []) = sym (from_offset-append f.offset rows (r ∷ []) i) ∙ sym (left_records f (rows ++ r ∷ []) e) in
    (p.0 ++ next_subrecord r free ∷ [], omega (arith, length-append p.0 (next_subrecord r free ∷ [])), subst (λ (x : List (List ℕ)). Packs size x (p.0 ++ next_subrecord r free ∷ []) []) start all)

from_offset-none : (offset : ℕ) (rows : List (List ℕ)) → from_offset offset rows ≡ [] → rows ≡ []
from_offset-none offset [] e = refl
from_offset-none offset (r ∷ rs) e = cc

pub full_none : (free : ℕ) (records : List (List ℕ)) → 2 ≤ free → IsFull free records → records ≡ []
full_none free [] h f = refl
full_none free (r ∷ rs) h f = absurd (let n = needs_most r in let q : free < needs r = f in omega arith)

no_subs : (ss : List Subrecord) → length (payload_of ss) ≡ 0 → ss ≡ []
no_subs [] e = refl
no_subs (s ∷ ss) e = absurd (omega arith)

-- nothing was written only if nothing is left
pub records_done : (size : ℕ) (offset free : ℕ) (rows records' : List (List ℕ)) (octets : List ℕ) → HasPacked size (from_offset offset rows) octets free records'
    → length octets ≡ 0 → free ≡ size → 2 ≤ size → IsFull free records' → rows ≡ []
records_done size offset free rows records' octets p n f h full =
    let sofar : p.0 ≡ [] = no_subs p.0 (sym (ap length p.1) ∙ n) in
    let gone : records' ≡ [] = full_none free records' (omega arith) full in
    let last : Packs free (records' ++ []) [] [] = subst (λ (x : List (List ℕ)). Packs free (x ++ []) [] []) (sym gone) (refl, tt) in
    let all : Packs size (from_offset offset rows ++ []) (p.0 ++ []) [] = p.2 [] [] [] last in
    let none : Packs size (from_offset offset rows ++ []) [] [] = subst (λ (x : List Subrecord). Packs size (from_offset offset rows ++ []) (x ++ []) []) sofar all in
    from_offset-none offset rows (sym (append-nil (from_offset offset rows)) ∙ sym none.0)

-- no subrecords are packed of no records
pub packs_nothing : (free : ℕ) (ss : List Subrecord) (left : List (List ℕ)) → 0 < length ss → Packs free [] ss left → ⊥
packs_nothing free [] left s p = omega arith
packs_nothing free (x ∷ xs) left s p = p

-- something was written only if something is left
pub records_some : (size : ℕ) (f : Filling) (new : Filling) (rows : List (List ℕ)) (octets : List ℕ) (last : Bool) → is_stream f.format ≡ false
    → PacksNext size f new rows last octets → nothing_left f rows last ≡ true → ⊥
records_some size f new rows octets last e n h =
    let t : (eqb (length rows) 0 && last) ≡ true = sym (ap (λ (b : Bool). cond b f.done (eqb (length rows) 0 && last)) e) ∙ h in
    let both = and_parts (eqb (length rows) 0) last t in
    let none : rows ≡ [] = nil_from_length rows (eqb-true _ _ both.0) in
    let p = n [] (subst (λ (x : Bool). AreBehind f.format x []) (sym both.1) refl) in
    let a : Packs size (left_of f ([] ++ [])) p.0 (left_of new (drop (new.row - f.row) rows ++ [])) =
    subst (λ (x : List (List ℕ)). Packs size (left_of f (x ++ [])) p.0 (left_of new (drop (new.row - f.row) rows ++ []))) none p.3 in
    let b : Packs size [] p.0 (left_of new (drop (new.row - f.row) rows ++ [])) =
    subst (λ (x : List (List ℕ)). Packs size x p.0 (left_of new (drop (new.row - f.row) rows ++ []))) (left_records f [] e) a in
    packs_nothing size p.0 (left_of new (drop (new.row - f.row) rows ++ [])) p.2 b

pub nothing_records : (f : Filling) (rows : List (List ℕ)) (last : Bool) → is_stream f.format ≡ false → rows ≡ [] → last ≡ true → nothing_left f rows last ≡ true
nothing_records f rows last e n t = ap (λ (b : Bool). cond b f.done (eqb (length rows) 0 && last)) e ∙ ap (λ (x : Bool). x && last) (eq-eqb (length rows) 0 (ap length n)) ∙ t

pub coming_some : (f : Filling) (rows : List (List ℕ)) (last : Bool) → is_stream f.format ≡ false → last ≡ false → nothing_left f rows last ≡ false
coming_some f rows last e t = ap (λ (b : Bool). cond b f.done (eqb (length rows) 0 && last)) e ∙ ap (λ (x : Bool). eqb (length rows) 0 && x) t ∙ and-false (eqb (length rows) 0)

pub going_some : (f : Filling) (rows : List (List ℕ)) (last : Bool) → is_stream f.format ≡ true → f.done ≡ false → nothing_left f rows last ≡ false
going_some f rows last e going = ap (λ (b : Bool). cond b f.done (eqb (length rows) 0 && last)) e ∙ going

pub full_all : (rows : List (List ℕ)) (row offset free : ℕ) → row ≤ length rows → (row < length rows → IsFull free (from_offset offset (drop row rows)))
    → IsFull free (from_offset offset (drop row rows))
full_all rows row offset free h f =
    elim (cases_lt row (length rows)) [ inl l ↦ f l | inr g ↦ subst (λ (x : List (List ℕ)). IsFull free (from_offset offset x)) (sym (drop_all row rows g)) tt ]

pub row_left : (rows : List (List ℕ)) (row offset : ℕ) → row ≤ length rows → (row ≡ length rows → ⊥) → from_offset offset (drop row rows) ≡ [] → ⊥
row_left rows row offset h n e =
    let none : drop row rows ≡ [] = from_offset-none offset (drop row rows) e in
    let z : length rows - row ≡ 0 = sym (length-drop row rows) ∙ ap length none in
    n (omega arith)

pub left_stream : (f : Filling) (rows : List (List ℕ)) → is_stream f.format ≡ true → f.done ≡ false → left_of f rows ≡ drop f.offset (octets_in rows) ∷ []
left_stream f rows e d =
    ap (λ (b : Bool). cond b (cond f.done [] (drop f.offset (octets_in rows) ∷ [])) (from_offset f.offset rows)) e ∙ ap (λ (b : Bool). cond b [] (drop f.offset (octets_in rows) ∷ [])) d

pub in_octets : (rows : List (List ℕ)) (offset : ℕ) → (0 < offset → offset < length (get_or rows 0 [])) → offset ≤ length (octets_in rows)
in_octets rows zero h = omega arith
in_octets [] (suc k) h = absurd (let q : suc k < 0 = h (omega arith) in omega arith)
in_octets (r ∷ rs) (suc k) h = let q : suc k < length r = h (omega arith) in omega (arith, q, length-append r (octets_in rs))

rest_append : (rows : List (List ℕ)) (row offset : ℕ) (more : List (List ℕ)) → (0 < offset → offset < length (get_or rows row []))
    → rest_at rows row offset ++ octets_in more ≡ drop offset (octets_in (drop row rows ++ more))
rest_append rows row offset more h =
    sym (drop-append-le offset (octets_in (drop row rows)) (octets_in more) (in_octets (drop row rows) offset (drop_place rows row offset h)))
    ∙ ap (drop offset) (sym (flat_map-append (λ r. r) (drop row rows) more))

behind_tail : (format : Format) (last : Bool) (more : List (List ℕ)) → is_stream format ≡ true → AreBehind format last more → IsTail last (octets_in more)
behind_tail format true more e b = ap octets_in b
behind_tail format false [] e b = absurd b
behind_tail Fixed false (r ∷ rs) e b = absurd (false≢true e)
behind_tail Variable false (r ∷ rs) e b = absurd (false≢true e)
behind_tail Unstructured false (r ∷ rs) e b = omega (arith, b, length-append r (octets_in rs))
behind_tail Text false (r ∷ rs) e b = omega (arith, b, length-append r (octets_in rs))

full_stream : (last : Bool) (free : ℕ) (cur tail : List ℕ) → free < 2 → IsTail last tail → (last ≡ true → 0 < length cur) → free < needs (cur ++ tail)
full_stream last free (x ∷ xs) tail f t h = f
full_stream true free [] tail f t h = absurd (let q : 0 < 0 = h refl in omega arith)
full_stream false free [] [] f t h = absurd (let q : 0 < 0 = t in omega arith)
full_stream false free [] (y ∷ ys) f t h = f

pub stream_next : (size : ℕ) (f : Filling) (rows : List (List ℕ)) (row offset free : ℕ) (octets : List ℕ) (last : Bool) → is_stream f.format ≡ true → f.done ≡ false → IsInRows f rows
    → (0 < offset → offset < length (get_or rows row [])) → HasStreamed last size (rest_at rows 0 f.offset) octets free (rest_at rows row offset)
    → free < 2 → (last ≡ true → 0 < length (rest_at rows row offset)) → 0 < length octets
    → PacksNext size f (advanced f rows row offset) rows last octets
stream_next size f rows row offset free octets last e d i j p full goes some more b =
    let cur : List ℕ = rest_at rows row offset in
    let tail : List ℕ = octets_in more in
    let g : Filling = advanced f rows row offset in
    let t : IsTail last tail = behind_tail f.format last more e b in
    let n : f.row + row - f.row ≡ row = omega arith in
    let start : (rest_at rows 0 f.offset ++ tail) ∷ [] ≡ left_of f (rows ++ more) = ap (λ (x : List ℕ). x ∷ []) (rest_append rows 0 f.offset more i) ∙ sym (left_stream f (rows ++ more) e d) in
    let rest : (cur ++ tail) ∷ [] ≡ left_of g (drop (f.row + row - f.row) rows ++ more) =
    ap (λ (x : List ℕ). x ∷ []) (rest_append rows row offset more j) ∙ ap (λ x. drop offset (octets_in (drop x rows ++ more)) ∷ []) (sym n)
    ∙ sym (left_stream g (drop (f.row + row - f.row) rows ++ more) e d) in
    let packed : Packs size ((rest_at rows 0 f.offset ++ tail) ∷ []) (p.0 ++ []) ((cur ++ tail) ∷ []) = p.2 tail [] ((cur ++ tail) ∷ []) t (refl, full_stream last free cur tail full t goes) in
    let a : Packs size (left_of f (rows ++ more)) (p.0 ++ []) ((cur ++ tail) ∷ []) = subst (λ (x : List (List ℕ)). Packs size x (p.0 ++ []) ((cur ++ tail) ∷ [])) start packed in
    let c : Packs size (left_of f (rows ++ more)) p.0 ((cur ++ tail) ∷ []) = subst (λ (x : List Subrecord). Packs size (left_of f (rows ++ more)) x ((cur ++ tail) ∷ [])) (append-nil p.0) a in
    (p.0, p.1, some_subs p.0 octets p.1 some, subst (λ (x : List (List ℕ)). Packs size (left_of f (rows ++ more)) p.0 x) rest c)

ended_some : (size : ℕ) (stream : List ℕ) (ss : List Subrecord) → Packs size (stream ∷ []) ss [] → 0 < length ss
ended_some size stream [] p = cc
ended_some size stream (s ∷ ss) p = omega arith

pub stream_ended : (size : ℕ) (f : Filling) (rows : List (List ℕ)) (row offset : ℕ) (octets : List ℕ) (last : Bool) → is_stream f.format ≡ true → f.done ≡ false → last ≡ true
    → HasEnded size (rest_at rows 0 f.offset) octets → PacksNext size f (advanced (record f { done = true }) rows row offset) rows last octets
stream_ended size f rows row offset octets last e d l p more b =
    let g : Filling = advanced (record f { done = true }) rows row offset in
    let none : more ≡ [] = subst (λ (x : Bool). AreBehind f.format x more) l b in
    let start : rest_at rows 0 f.offset ∷ [] ≡ left_of f (rows ++ more) =
    ap (λ (x : List (List ℕ)). drop f.offset (octets_in x) ∷ []) (sym (append-nil rows) ∙ ap (λ (x : List (List ℕ)). rows ++ x) (sym none)) ∙ sym (left_stream f (rows ++ more) e d) in
    let rest : [] ≡ left_of g (drop (f.row + row - f.row) rows ++ more) = ap (λ (b : Bool). cond b [] (from_offset offset (drop (f.row + row - f.row) rows ++ more))) (sym e) in (
      p.0,
      p.1,
      ended_some size (rest_at rows 0 f.offset) p.0 p.2,
      subst (λ (x : List (List ℕ)). Packs size (left_of f (rows ++ more)) p.0 x) rest (subst (λ (x : List (List ℕ)). Packs size x p.0 []) start p.2),
    )

pub stream_left : (f : Filling) (rows : List (List ℕ)) → is_stream f.format ≡ true → f.done ≡ false → left_of f rows ≡ [] → ⊥
stream_left f rows e d h = let q : drop f.offset (octets_in rows) ∷ [] ≡ [] = sym (left_stream f rows e d) ∙ h in cc

least_stream : (format : Format) → is_stream format ≡ true → least format ≡ 0 ∷ []
least_stream Fixed e = refl
least_stream Variable e = absurd (false≢true e)
least_stream Unstructured e = refl
least_stream Text e = refl

-- one octet after octets that fit
one_packs : (free : ℕ) (cur : List ℕ) → length cur < min 63 (free - 1) → Packs free ((cur ++ 0 ∷ []) ∷ []) (next_subrecord (cur ++ 0 ∷ []) free ∷ []) []
one_packs free cur h =
    let r : List ℕ = cur ++ 0 ∷ [] in
    let n : length r ≡ length cur + 1 = length-append cur (0 ∷ []) in
    let two : 2 ≤ free = omega arith in
    let c : next_length r free ≡ length r = omega (arith, n) in
    let b : eqb (next_length r free) (length r) ≡ true = eq-eqb _ _ c in
    (omega (arith, needs_most r), refl, subst (λ (x : Bool). Packs (free - (1 + length (next_subrecord r free).octets)) (cond x [] (drop (next_length r free) r ∷ [])) [] []) (sym b) (refl, tt))

pub stream_more : (size : ℕ) (f : Filling) (rows : List (List ℕ)) (row offset free : ℕ) (octets : List ℕ) (last : Bool) → is_stream f.format ≡ true → f.done ≡ false → IsInRows f rows
    → last ≡ false → length (rest_at rows row offset) < min 63 (free - 1) → HasStreamed last size (rest_at rows 0 f.offset) octets free (rest_at rows row offset) → Reaches size f rows
stream_more size f rows row offset free octets last e d i l h p =
    let cur : List ℕ = rest_at rows row offset in
    let s : Subrecord = next_subrecord (cur ++ 0 ∷ []) free in
    let t : IsTail last (0 ∷ []) = subst (λ (x : Bool). IsTail x (0 ∷ [])) (sym l) (omega arith) in
    let all : Packs size ((rest_at rows 0 f.offset ++ 0 ∷ []) ∷ []) (p.0 ++ s ∷ []) [] = p.2 (0 ∷ []) (s ∷ []) [] t (one_packs free cur h) in
    let start : (rest_at rows 0 f.offset ++ 0 ∷ []) ∷ [] ≡ left_of f (rows ++ least f.format ∷ []) =
    ap (λ (x : List ℕ). x ∷ []) (rest_append rows 0 f.offset ((0 ∷ []) ∷ []) i)
    ∙ ap (λ (x : List ℕ). drop f.offset (octets_in (rows ++ x ∷ [])) ∷ []) (sym (least_stream f.format e)) ∙ sym (left_stream f (rows ++ least f.format ∷ []) e d) in
    (p.0 ++ s ∷ [], omega (arith, length-append p.0 (s ∷ [])), subst (λ (x : List (List ℕ)). Packs size x (p.0 ++ s ∷ []) []) start all)

-- what was written of a stream from an offset
pub streamed_from : (last : Bool) (size x y : ℕ) (rows : List (List ℕ)) (octets : List ℕ) (free : ℕ) (left : List ℕ) → x ≡ y
    → HasStreamed last size (rest_at rows 0 x) octets free left → HasStreamed last size (rest_at rows 0 y) octets free left
streamed_from last size x y rows octets free left e p = subst (λ (k : ℕ). HasStreamed last size (rest_at rows 0 k) octets free left) e p

-- what was written of records, the first from an offset
pub packed_from : (size x y : ℕ) (rows : List (List ℕ)) (octets : List ℕ) (free : ℕ) (left : List (List ℕ)) → x ≡ y
    → HasPacked size (from_offset x rows) octets free left → HasPacked size (from_offset y rows) octets free left
packed_from size x y rows octets free left e p = subst (λ (k : ℕ). HasPacked size (from_offset k rows) octets free left) e p
