-- The local form is read back as the file that it represents.
use Rattle.std.proofs.Common.{◌≡◌, ℕ, suc, zero, ◌+◌, ◌-◌, ◌*◌, ◌%◌, ◌<◌, ◌≤◌, Bool, true, false, eqb, min, List, [], ◌∷◌, ◌++◌, length, take, drop, refl, sym, ap, ◌∙◌, subst, arith, append_assoc, ◌⊎◌, inl, inr, All, fold}
use Rattle.std.proofs.Math.Nat.{add-mod_left, mod-eq_of_lt, mul-mod_right}
use Rattle.std.proofs.lemmas.Bool.{cases_lt, eqb-false, eqb-true}
use Rattle.std.proofs.lemmas.List.{append-nil, length-append, length-drop, length-take-le, take-append-drop, nil_from_length}
use Rattle.std.proofs.lemmas.List.Elements.{All-cons, All-nil, All-push}
use Rattle.std.proofs.lemmas.List.Concat.{flat_map-append}
use Rattle.oftp_vfile.specs.declared.format.TheConstants.{BLOCK}
use Rattle.oftp_vfile.specs.declared.format.Format.{Format}
use Rattle.oftp_vfile.specs.declared.format.Format.TheVariants.{Fixed, Variable, Unstructured, Text}
use Rattle.oftp_vfile.specs.VirtualFile.{octets_in, AreBlocks, IsLongest}
use Rattle.oftp_vfile.specs.LocalForm.{IsFirstRecord, IsLocal, digit_of, digits_of, local_of, local_row}
use Rattle.oftp_vfile.proofs.CarriesLemmas.{same_lengths, octets_in-push}

-- a decimal digit, as a character
abbrev pub IsDigit : ℕ → Type 0
IsDigit d = (48 ≤ d) × (d ≤ 57)

-- the number of decimal digits
abbrev pub number_of : List ℕ → ℕ
number_of digits = fold (λ n d. n * 10 + (d - 48)) 0 digits

-- the number of its five digits
pub number_digits : (n : ℕ) → n < 100000 → number_of (digits_of n) ≡ n
number_digits n h = omega arith

pub digits_same : (m n : ℕ) → m < 100000 → n < 100000 → digits_of m ≡ digits_of n → m ≡ n
digits_same m n h k e = sym (number_digits m h) ∙ ap number_of e ∙ number_digits n k

first_digit : (v a r : ℕ) → v ≡ (a - 48) * 10000 + r → r < 10000 → 48 ≤ a → a ≤ 57 → digit_of v 10000 ≡ a
first_digit v a r e h l m = omega arith

second_digit : (v q a r : ℕ) → v ≡ q * 10000 + (a - 48) * 1000 + r → r < 1000 → 48 ≤ a → a ≤ 57 → digit_of v 1000 ≡ a
second_digit v q a r e h l m = omega arith

third_digit : (v q a r : ℕ) → v ≡ q * 1000 + (a - 48) * 100 + r → r < 100 → 48 ≤ a → a ≤ 57 → digit_of v 100 ≡ a
third_digit v q a r e h l m = omega arith

fourth_digit : (v q a r : ℕ) → v ≡ q * 100 + (a - 48) * 10 + r → r < 10 → 48 ≤ a → a ≤ 57 → digit_of v 10 ≡ a
fourth_digit v q a r e h l m = omega arith

last_digit : (v q a : ℕ) → v ≡ q * 10 + (a - 48) → 48 ≤ a → a ≤ 57 → digit_of v 1 ≡ a
last_digit v q a e l m = omega arith

-- the digits of the number of five digits
pub digits_number : (ds : List ℕ) → length ds ≡ 5 → All IsDigit ds → (number_of ds < 100000) × (digits_of (number_of ds) ≡ ds)
digits_number [] l h = absurd (omega arith)
digits_number (a ∷ []) l h = absurd (omega arith)
digits_number (a ∷ b ∷ []) l h = absurd (omega arith)
digits_number (a ∷ b ∷ c ∷ []) l h = absurd (omega arith)
digits_number (a ∷ b ∷ c ∷ d ∷ []) l h = absurd (omega arith)
digits_number (a ∷ b ∷ c ∷ d ∷ e ∷ f ∷ fs) l h = absurd (omega arith)
digits_number (a ∷ b ∷ c ∷ d ∷ e ∷ []) l h =
    let A : IsDigit a = h 0 0 (omega arith) in
    let B : IsDigit b = h 1 0 (omega arith) in
    let C : IsDigit c = h 2 0 (omega arith) in
    let D : IsDigit d = h 3 0 (omega arith) in
    let E : IsDigit e = h 4 0 (omega arith) in
    let v : ℕ = number_of (a ∷ b ∷ c ∷ d ∷ e ∷ []) in
    let is : v ≡ (a - 48) * 10000 + ((b - 48) * 1000 + ((c - 48) * 100 + ((d - 48) * 10 + (e - 48)))) = omega arith in
    let d1 : digit_of v 10000 ≡ a = first_digit v a ((b - 48) * 1000 + ((c - 48) * 100 + ((d - 48) * 10 + (e - 48)))) is (omega arith) A.0 A.1 in
    let d2 : digit_of v 1000 ≡ b = second_digit v (a - 48) b ((c - 48) * 100 + ((d - 48) * 10 + (e - 48))) (omega arith) (omega arith) B.0 B.1 in
    let d3 : digit_of v 100 ≡ c = third_digit v ((a - 48) * 10 + (b - 48)) c ((d - 48) * 10 + (e - 48)) (omega arith) (omega arith) C.0 C.1 in
    let d4 : digit_of v 10 ≡ d = fourth_digit v ((a - 48) * 100 + (b - 48) * 10 + (c - 48)) d (e - 48) (omega arith) (omega arith) D.0 D.1 in
    let d5 : digit_of v 1 ≡ e = last_digit v ((a - 48) * 1000 + (b - 48) * 100 + (c - 48) * 10 + (d - 48)) e (omega arith) E.0 E.1 in (
      omega arith,
      ap (λ (x : ℕ). x ∷ digit_of v 1000 ∷ digit_of v 100 ∷ digit_of v 10 ∷ digit_of v 1 ∷ []) d1
          ∙ ap (λ (x : ℕ). a ∷ x ∷ digit_of v 100 ∷ digit_of v 10 ∷ digit_of v 1 ∷ []) d2 ∙ ap (λ (x : ℕ). a ∷ b ∷ x ∷ digit_of v 10 ∷ digit_of v 1 ∷ []) d3
          ∙ ap (λ (x : ℕ). a ∷ b ∷ c ∷ x ∷ digit_of v 1 ∷ []) d4 ∙ ap (λ (x : ℕ). a ∷ b ∷ c ∷ d ∷ x ∷ []) d5,
    )

-- the number of the digits so far, where one is to come
pub number_small : (ds : List ℕ) → length ds ≤ 4 → All IsDigit ds → number_of ds < 10000
number_small [] l h = omega arith
number_small (a ∷ []) l h = let A : IsDigit a = h 0 0 (omega arith) in omega arith
number_small (a ∷ b ∷ []) l h = let A : IsDigit a = h 0 0 (omega arith) in let B : IsDigit b = h 1 0 (omega arith) in omega arith
number_small (a ∷ b ∷ c ∷ []) l h = let A : IsDigit a = h 0 0 (omega arith) in let B : IsDigit b = h 1 0 (omega arith) in let C : IsDigit c = h 2 0 (omega arith) in omega arith
number_small (a ∷ b ∷ c ∷ d ∷ []) l h = let A : IsDigit a = h 0 0 (omega arith) in let B : IsDigit b = h 1 0 (omega arith) in let C : IsDigit c = h 2 0 (omega arith) in
    let D : IsDigit d = h 3 0 (omega arith) in omega arith
number_small (a ∷ b ∷ c ∷ d ∷ e ∷ ds) l h = absurd (omega arith)

-- where a record begins
pub first_found : (content ds behind : List ℕ) (n : ℕ) → content ≡ ds ++ behind → digits_of n ≡ ds → n ≤ length behind → content ≡ local_row Variable (take n behind) ++ drop n behind
first_found content ds behind n e d h =
    let l : length (take n behind) ≡ n = length-take-le n behind h in
    e ∙ ap (λ (x : List ℕ). x ++ behind) (sym d ∙ ap digits_of (sym l)) ∙ ap (λ (x : List ℕ). digits_of (length (take n behind)) ++ x) (sym (take-append-drop n behind))
    ∙ sym (append_assoc (digits_of (length (take n behind))) (take n behind) (drop n behind))

-- a record's digits, and what follows them
pub first_split : (content ds behind row rest : List ℕ) → content ≡ ds ++ behind → length ds ≡ 5 → content ≡ local_row Variable row ++ rest → (ds ≡ digits_of (length row)) × (behind ≡ row ++ rest)
first_split content ds behind row rest e l r =
    same_lengths ds (digits_of (length row)) behind (row ++ rest) l (sym e ∙ r ∙ append_assoc (digits_of (length row)) row rest)

-- a content begins with only one record
pub one_first : (longest : ℕ) (content row rest row' rest' : List ℕ) → longest < 100000 → IsFirstRecord longest content row rest → IsFirstRecord longest content row' rest'
    → (row ≡ row') × (rest ≡ rest')
one_first longest content row rest row' rest' h a b =
    let s = first_split content (digits_of (length row)) (row ++ rest) row' rest' (a.0 ∙ append_assoc (digits_of (length row)) row rest) refl b.0 in
    let n : length row ≡ length row' = digits_same (length row) (length row') (omega (arith, a.1)) (omega (arith, b.1)) s.0 in
    same_lengths row row' rest rest' n s.1

-- a part of a content was read, and this is the rest: together they are the local form of a V file
pub record GoesTo (longest : ℕ) (content rest : List ℕ) : Type 0 where
  pub all : (rows : List (List ℕ)) → IsLocal Variable longest rest rows → (file : List (List ℕ)) × IsLocal Variable longest content file
  pub only : (file : List (List ℕ)) → IsLocal Variable longest content file → (rows : List (List ℕ)) × IsLocal Variable longest rest rows

pub goes_none : (longest : ℕ) (content : List ℕ) → GoesTo longest content content
goes_none longest content = record { all = λ rows i. (rows, i); only = λ file i. (file, i) }

-- the records after the first
others : (longest : ℕ) (rest row behind : List ℕ) (rows : List (List ℕ)) → longest < 100000 → IsFirstRecord longest rest row behind → IsLocal Variable longest rest rows
    → (left : List (List ℕ)) × IsLocal Variable longest behind left
others longest rest row behind [] h f i = absurd (let e : [] ≡ digits_of (length row) ++ row ++ behind = sym i.1 ∙ f.0 in omega (arith, ap length e))
others longest rest row behind (r ∷ rs) h f i =
    let g : IsFirstRecord longest rest r (local_of Variable rs) = (i.1, i.0 0 [] (omega arith)) in
    let s = one_first longest rest row behind r (local_of Variable rs) h f g in
    (rs, ((λ k d l. i.0 (suc k) d (omega arith)), s.1))

pub goes_on : (longest : ℕ) (content rest row behind : List ℕ) → longest < 100000 → GoesTo longest content rest → IsFirstRecord longest rest row behind → GoesTo longest content behind
goes_on longest content rest row behind h g f =
    record {
      all = λ rows i. g.all (row ∷ rows) (All-cons (λ (r : List ℕ). length r ≤ longest) row rows f.1 i.0, f.0 ∙ ap (λ (x : List ℕ). local_row Variable row ++ x) i.1);
      only = λ file i. (let r = g.only file i in others longest rest row behind r.0 h f r.1);
    }

-- at the end of a content all of it is records
pub goes_end : (longest : ℕ) (content rest : List ℕ) → GoesTo longest content rest → rest ≡ [] → (file : List (List ℕ)) × IsLocal Variable longest content file
goes_end longest content rest g e = g.all [] (All-nil (λ (r : List ℕ). length r ≤ longest), e)

-- if no record begins, and more octets are left, the content isn't records
pub goes_wrong : (longest : ℕ) (content rest : List ℕ) → GoesTo longest content rest → 0 < length rest → ((row behind : List ℕ) → IsFirstRecord longest rest row behind → ⊥)
    → (file : List (List ℕ)) → IsLocal Variable longest content file → ⊥
goes_wrong longest content rest g h n file i = let r = g.only file i in wrong r.0 r.1
  where
    wrong : (rows : List (List ℕ)) → IsLocal Variable longest rest rows → ⊥
    wrong [] j = omega (arith, ap length j.1)
    wrong (r ∷ rs) j = n r (local_of Variable rs) (j.1, j.0 0 [] (omega arith))

-- one more record was read
pub read_more : (longest : ℕ) (content rest row behind : List ℕ) (rows : List (List ℕ)) → content ≡ local_of Variable rows ++ rest → rest ≡ local_row Variable row ++ behind
    → content ≡ local_of Variable (rows ++ row ∷ []) ++ behind
read_more longest content rest row behind rows e f =
    e ∙ ap (λ (x : List ℕ). local_of Variable rows ++ x) f ∙ sym (append_assoc (local_of Variable rows) (local_row Variable row) behind)
    ∙ ap (λ (x : List ℕ). x ++ behind) (ap (λ (x : List ℕ). local_of Variable rows ++ x) (sym (append-nil (local_row Variable row))) ∙ sym (flat_map-append (local_row Variable) rows (row ∷ [])))

-- a block after full ones
pub blocks_push : (size : ℕ) (rows : List (List ℕ)) (r : List ℕ) → All (λ (x : List ℕ). length x ≡ size) rows → 0 < length r → length r ≤ size → AreBlocks size (rows ++ r ∷ [])
blocks_push size [] r a h k = (h, k)
blocks_push size (x ∷ []) r a h k = (a 0 [] (omega arith), (h, k))
blocks_push size (x ∷ y ∷ xs) r a h k = (a 0 [] (omega arith), blocks_push size (y ∷ xs) r (λ i d l. a (suc i) d (omega arith)) h k)

-- octets can be cut into blocks
some_blocks : (fuel size : ℕ) (octets : List ℕ) → 0 < size → length octets ≤ fuel → (rows : List (List ℕ)) × AreBlocks size rows × (octets ≡ octets_in rows)
some_blocks fuel size [] h l = ([], tt, refl)
some_blocks zero size (x ∷ xs) h l = absurd (omega arith)
some_blocks (suc fuel) size (x ∷ xs) h l =
    let octets : List ℕ = x ∷ xs in
    elim (cases_lt size (length octets)) [
      | inl m ↦ (let b = some_blocks fuel size (drop size octets) h (omega (arith, length-drop size octets)) in (
        take size octets ∷ b.0,
        more b.0 (take size octets) (length-take-le size octets (omega arith)) b.1 (λ e. omega (
          arith,
          length-drop size octets,
          ap length b.2,
          ap (λ (z : List (List ℕ)). length (octets_in z)) e,
        )),
        sym (take-append-drop size octets) ∙ ap (λ (z : List ℕ). take size octets ++ z) b.2,
      ))
      | inr m ↦ (octets ∷ [], (omega arith, m), sym (append-nil octets))
    ]
  where
    more : (rows : List (List ℕ)) (r : List ℕ) → length r ≡ size → AreBlocks size rows → (rows ≡ [] → ⊥) → AreBlocks size (r ∷ rows)
    more [] r e b n = absurd (n refl)
    more (q ∷ rs) r e b n = (e, b)

-- blocks that leave no part are full
full_blocks : (size : ℕ) (rows : List (List ℕ)) → 0 < size → AreBlocks size rows → length (octets_in rows) % size ≡ 0 → All (λ (r : List ℕ). length r ≡ size) rows
full_blocks size [] h b e = All-nil (λ (r : List ℕ). length r ≡ size)
full_blocks size (r ∷ []) h b e =
    All-cons (λ (x : List ℕ). length x ≡ size) r [] (elim (cases_lt (length r) size) [
      | inl m ↦
          absurd (let s : length (r ++ []) % size ≡ length r = ap (λ (x : List ℕ). length x % size) (append-nil r) ∙ mod-eq_of_lt m in omega (arith, s, e, b.0))
      | inr m ↦
          omega (arith, b.1)
    ]) (All-nil (λ (x : List ℕ). length x ≡ size))
full_blocks size (r ∷ q ∷ rs) h b e =
    let l : length (octets_in (r ∷ q ∷ rs)) ≡ size + length (octets_in (q ∷ rs)) = length-append r (octets_in (q ∷ rs)) ∙ ap (λ n. n + length (octets_in (q ∷ rs))) b.0 in
    let rest : length (octets_in (q ∷ rs)) % size ≡ 0 = sym (add-mod_left size (length (octets_in (q ∷ rs)))) ∙ ap (λ n. n % size) (sym l) ∙ e in
    All-cons (λ (x : List ℕ). length x ≡ size) r (q ∷ rs) b.0 (full_blocks size (q ∷ rs) h b.1 rest)

-- full rows leave no part
full_length : (size : ℕ) (rows : List (List ℕ)) → All (λ (r : List ℕ). length r ≡ size) rows → length (octets_in rows) ≡ size * length rows
full_length size [] a = omega arith
full_length size (r ∷ rs) a =
    let one : length r ≡ size = a 0 [] (omega arith) in
    let more = full_length size rs (λ k d h. a (suc k) d (omega arith)) in
    length-append r (octets_in rs) ∙ ap (λ n. n + length (octets_in rs)) one ∙ ap (λ n. size + n) more ∙ sum size (length rs)
  where
    sum : (m n : ℕ) → m + m * n ≡ m * suc n
    sum m n = omega arith

-- F and U, T: where blocks are a local form
pub fixed_yes : (longest : ℕ) (content : List ℕ) → 0 < longest → length content % longest ≡ 0 → (rows : List (List ℕ)) × IsLocal Fixed longest content rows
fixed_yes longest content h e =
    let b = some_blocks (length content) longest content h (omega arith) in
    (b.0, (full_blocks longest b.0 h b.1 (ap (λ (x : List ℕ). length x % longest) (sym b.2) ∙ e), b.2))

pub fixed_no : (longest : ℕ) (content : List ℕ) (rows : List (List ℕ)) → IsLocal Fixed longest content rows → length content % longest ≡ 0
fixed_no longest content rows i = ap (λ (x : List ℕ). length x % longest) i.1 ∙ ap (λ n. n % longest) (full_length longest rows i.0) ∙ mul-mod_right longest (length rows)

some_octets : (size : ℕ) (rows : List (List ℕ)) → 0 < size → AreBlocks size rows → 0 < length rows → 0 < length (octets_in rows)
some_octets size [] h a l = absurd (omega arith)
some_octets size (r ∷ []) h a l = omega (arith, a.0, length-append r [])
some_octets size (r ∷ q ∷ rs) h a l = omega (arith, a.0, length-append r (octets_in (q ∷ rs)))

-- octets are cut into blocks in only one way
one_blocks : (size : ℕ) (rows rows' : List (List ℕ)) → 0 < size → AreBlocks size rows → AreBlocks size rows' → octets_in rows ≡ octets_in rows' → rows ≡ rows'
one_blocks size [] [] h a b e = refl
one_blocks size [] (r ∷ rs) h a b e = absurd (omega (arith, ap length e, some_octets size (r ∷ rs) h b (omega arith)))
one_blocks size (r ∷ rs) [] h a b e = absurd (omega (arith, ap length e, some_octets size (r ∷ rs) h a (omega arith)))
one_blocks size (r ∷ []) (x ∷ []) h a b e = ap (λ (z : List ℕ). z ∷ []) (sym (append-nil r) ∙ e ∙ append-nil x)
one_blocks size (r ∷ []) (x ∷ y ∷ ys) h a b e = absurd (omega (arith, ap length e, a.1, b.0, some_octets size (y ∷ ys) h b.1 (omega arith), length-append r [], length-append x (octets_in (y ∷ ys))))
one_blocks size (r ∷ q ∷ rs) (x ∷ []) h a b e = absurd (omega (arith, ap length e, b.1, a.0, some_octets size (q ∷ rs) h a.1 (omega arith), length-append x [], length-append r (octets_in (q ∷ rs))))
one_blocks size (r ∷ q ∷ rs) (x ∷ y ∷ ys) h a b e =
    let s = same_lengths r x (octets_in (q ∷ rs)) (octets_in (y ∷ ys)) (omega (arith, a.0, b.0)) e in
    ap (λ (z : List ℕ). z ∷ q ∷ rs) s.0 ∙ ap (λ (z : List (List ℕ)). x ∷ z) (one_blocks size (q ∷ rs) (y ∷ ys) h a.1 b.1 s.1)

-- rows of one length, above 0, are blocks
pub full_are_blocks : (size : ℕ) (rows : List (List ℕ)) → 0 < size → All (λ (r : List ℕ). length r ≡ size) rows → AreBlocks size rows
full_are_blocks size [] h a = tt
full_are_blocks size (r ∷ []) h a = let e : length r ≡ size = a 0 [] (omega arith) in (omega arith, omega arith)
full_are_blocks size (r ∷ q ∷ rs) h a = (a 0 [] (omega arith), full_are_blocks size (q ∷ rs) h (λ k d l. a (suc k) d (omega arith)))

one_records : (longest : ℕ) (rows rows' : List (List ℕ)) → longest < 100000 → All (λ (r : List ℕ). length r ≤ longest) rows → All (λ (r : List ℕ). length r ≤ longest) rows'
    → local_of Variable rows ≡ local_of Variable rows' → rows ≡ rows'
one_records longest [] [] h a b e = refl
one_records longest [] (r ∷ rs) h a b e = absurd (omega (arith, ap length e))
one_records longest (r ∷ rs) [] h a b e = absurd (omega (arith, ap length e))
one_records longest (r ∷ rs) (q ∷ qs) h a b e =
    let s = one_first longest (local_of Variable (r ∷ rs)) r (local_of Variable rs) q (local_of Variable qs) h (refl, a 0 [] (omega arith)) (e, b 0 [] (omega arith)) in
    ap (λ (z : List ℕ). z ∷ rs) s.0 ∙ ap (λ (z : List (List ℕ)). q ∷ z) (one_records longest rs qs h (λ k d l. a (suc k) d (omega arith)) (λ k d l. b (suc k) d (omega arith)) s.1)

-- a content is the local form of only one file
pub one_file : (format : Format) (longest : ℕ) (content : List ℕ) (rows rows' : List (List ℕ)) → IsLongest format longest → IsLocal format longest content rows
    → IsLocal format longest content rows' → rows ≡ rows'
one_file Fixed longest content rows rows' h a b = one_blocks longest rows rows' h.0 (full_are_blocks longest rows h.0 a.0) (full_are_blocks longest rows' h.0 b.0) (sym a.1 ∙ b.1)
one_file Variable longest content rows rows' h a b = one_records longest rows rows' (omega (arith, h.1)) a.0 b.0 (sym a.1 ∙ b.1)
one_file Unstructured longest content rows rows' h a b = one_blocks BLOCK rows rows' (omega arith) a.0 b.0 (sym a.1 ∙ b.1)
one_file Text longest content rows rows' h a b = one_blocks BLOCK rows rows' (omega arith) a.0 b.0 (sym a.1 ∙ b.1)

-- a test says that something is left, or that nothing is
pub some_left : (xs : List ℕ) (b : Bool) → b ≡ eqb (length xs) 0 → b ≡ false → 0 < length xs
some_left xs b e f = let n : length xs ≡ 0 → ⊥ = eqb-false (length xs) 0 (sym e ∙ f) in omega arith

pub none_left : (xs : List ℕ) (b : Bool) → b ≡ eqb (length xs) 0 → b ≡ true → xs ≡ []
none_left xs b e f = nil_from_length xs (eqb-true (length xs) 0 (sym e ∙ f))

-- one more block was read
pub block_more : (size n : ℕ) (content rest row behind : List ℕ) (rows rows' : List (List ℕ)) → rows' ≡ rows ++ row ∷ [] → row ≡ take n rest → behind ≡ drop n rest
    → n ≡ min size (length rest) → 0 < size → 0 < length rest
    → octets_in rows ++ rest ≡ content → All (λ (r : List ℕ). length r ≡ size) rows
    → (octets_in rows' ++ behind ≡ content) × AreBlocks size rows' × (0 < length behind → All (λ (r : List ℕ). length r ≡ size) rows')
block_more size n content rest row behind rows rows' e f g m h l j a =
    let k : length row ≡ n = ap length f ∙ length-take-le n rest (omega arith) in (
      ap (λ (x : List (List ℕ)). octets_in x ++ behind) e ∙ ap (λ (x : List ℕ). x ++ behind) (octets_in-push rows row) ∙ append_assoc (octets_in rows) row behind
          ∙ ap (λ (x : List ℕ). octets_in rows ++ (x ++ behind)) f ∙ ap (λ (x : List ℕ). octets_in rows ++ (take n rest ++ x)) g
          ∙ ap (λ (x : List ℕ). octets_in rows ++ x) (take-append-drop n rest) ∙ j,
      subst (AreBlocks size) (sym e) (blocks_push size rows row a (omega arith) (omega arith)),
      λ s. subst (λ (x : List (List ℕ)). All (λ (r : List ℕ). length r ≡ size) x) (sym e) (All-push (λ (r : List ℕ). length r ≡ size) rows row a (omega (
        arith,
        k,
        m,
        s,
        ap length g,
        length-drop n rest,
      ))),
    )

-- the blocks of a content are its file
pub blocks_local : (format : Format) (longest : ℕ) (content : List ℕ) (rows : List (List ℕ)) → (format ≡ Unstructured) ⊎ (format ≡ Text) → AreBlocks BLOCK rows
    → octets_in rows ≡ content → IsLocal format longest content rows
blocks_local format longest content rows (inl u) a e = subst (λ (x : Format). IsLocal x longest content rows) (sym u) (a, sym e)
blocks_local format longest content rows (inr t) a e = subst (λ (x : Format). IsLocal x longest content rows) (sym t) (a, sym e)

-- each content is a stream
pub stream_local : (format : Format) (longest : ℕ) (content : List ℕ) → (format ≡ Unstructured) ⊎ (format ≡ Text) → (rows : List (List ℕ)) × IsLocal format longest content rows
stream_local format longest content s =
    let b = some_blocks (length content) BLOCK content (omega arith) (omega arith) in
    (b.0, blocks_local format longest content b.0 s b.1 (sym b.2))

pub fixed_local : (longest : ℕ) (content : List ℕ) (rows : List (List ℕ)) → 0 < longest → length content % longest ≡ 0 → AreBlocks longest rows → octets_in rows ≡ content
    → IsLocal Fixed longest content rows
fixed_local longest content rows h m a e = (full_blocks longest rows h a (ap (λ (x : List ℕ). length x % longest) e ∙ m), sym e)
