-- Entries with their numbers.
use Rattle.std.proofs.Common.{◌≡◌, ℕ, zero, suc, ◌+◌, ◌<◌, ◌≤◌, ◌⊎◌, ◌==◌, Bool, true, false, cond, not, ◌&&◌, nat_le, nat_lt, List, [], ◌∷◌, ◌++◌, length, map, get_or, take, drop, find, Option, Some, None, slice_get, All, refl, ap, sym, subst, ◌∙◌, inl, inr, arith}
use Rattle.std.specs.List.{filter_map, list_any, position, position_or_len, cons_option}
use Rattle.std.proofs.lemmas.Bool.{cases_Bool, cond-true, cond-false, and_cases, eq-eqb, leb-false, ltb-false, ltb-true, ne_eqb, or_parts}
use Rattle.std.proofs.lemmas.List.{drop_more, drop_all, length-map, length-take-le, map-append, take_more}
use Rattle.std.proofs.lemmas.List.Elements.{All-head, All-tail, filter_map-append}
use Rattle.std.specs.Option.{option_map, option_to_list}
use Rattle.std.proofs.lemmas.List.Folds.{find_at}
use Rattle.std.specs.Prelude.{Vec}
use Rattle.std.specs.Vec.{vec_len}
use Rattle.oftp_register.specs.declared.entry.Identity.{Identity}
use Rattle.oftp_register.specs.Register.{same_identity}
use Rattle.oftp_register.specs.LookUps.{entry_at, numbered}
use Rattle.oftp_register.specs.Lists.{IsPlace}
use Rattle.oftp_register.proofs.Places.{above}
use Rattle.oftp_register.proofs.PlainStarts.{position-None}

-- the entry at a place
pub numbered-at : {S A B : Type 0} (view : S → A) (entry : ℕ → A → B) (n : ℕ) (xs : List S) (i : ℕ) (x : S) → i < length xs → x ≡ get_or xs i x
    → slice_get (numbered entry n (map view xs)) i ≡ Some (entry (n + i) (view x))
numbered-at view entry n [] i x within is = absurd (omega arith)
numbered-at view entry n (z ∷ xs) zero x within is = let e : n ≡ n + 0 = omega arith in ap (λ y. Some (entry n (view y))) (sym is) ∙ ap (λ k. Some (entry k (view x))) e
numbered-at view entry n (z ∷ xs) (suc i) x within is =
    let e : n + 1 + i ≡ n + suc i = omega arith in
    numbered-at view entry (n + 1) xs i x (omega arith) is ∙ ap (λ k. Some (entry k (view x))) e

-- one more entry at the end
pub numbered-push : {A B : Type 0} (entry : ℕ → A → B) (n : ℕ) (xs : List A) (x : A) → numbered entry n (xs ++ x ∷ []) ≡ numbered entry n xs ++ entry (n + length xs) x ∷ []
numbered-push entry n [] x = let e : n ≡ n + 0 = omega arith in ap (λ k. entry k x ∷ []) e
numbered-push entry n (y ∷ xs) x =
    let e : n + 1 + length xs ≡ n + suc (length xs) = omega arith in
    ap (λ ys. entry n y ∷ ys) (numbered-push entry (n + 1) xs x ∙ ap (λ k. numbered entry (n + 1) xs ++ entry k x ∷ []) e)

-- a test that doesn't use the number passes at the same place
numbered_place : {S A B : Type 0} (view : S → A) (entry : ℕ → A → B) (p : B → Bool) (q : S → Bool) → ((n : ℕ) (x : S) → p (entry n (view x)) ≡ q x) → (n : ℕ) (xs : List S)
    → position_or_len p (numbered entry n (map view xs)) ≡ position_or_len q xs
numbered_place view entry p q same n [] = refl
numbered_place view entry p q same n (x ∷ xs) =
    ap (λ b. cond (not b) (1 + position_or_len p (numbered entry (n + 1) (map view xs))) 0) (same n x)
    ∙ ap (λ k. cond (not (q x)) (1 + k) 0) (numbered_place view entry p q same (n + 1) xs)

-- the place that was found
place_found : {X : Type 0} (p : X → Bool) (xs : List X) (i : ℕ) → position p xs ≡ Some i → position_or_len p xs ≡ i
place_found p xs i h =
    let at = position_or_len p xs in
    elim (cases_Bool (nat_lt at (length xs))) [
      | inl e ↦ (let same : Some at ≡ Some i = sym (cond-true (nat_lt at (length xs)) (Some at) None e) ∙ h in cc)
      | inr e ↦ (let none : None ≡ Some i = sym (cond-false (nat_lt at (length xs)) (Some at) None e) ∙ h in absurd (cc))
    ]

-- it is within the list
place_within : {X : Type 0} (p : X → Bool) (xs : List X) (i : ℕ) → position p xs ≡ Some i → i < length xs
place_within p xs i h =
    let at = position_or_len p xs in
    elim (cases_Bool (nat_lt at (length xs))) [
      | inl e ↦ omega (arith, ltb-true at (length xs) e, place_found p xs i h)
      | inr e ↦ (let none : None ≡ Some i = sym (cond-false (nat_lt at (length xs)) (Some at) None e) ∙ h in absurd (cc))
    ]

-- what is found by such a test
pub find-numbered : {S A B : Type 0} (view : S → A) (entry : ℕ → A → B) (p : B → Bool) (q : S → Bool) → ((n : ℕ) (x : S) → p (entry n (view x)) ≡ q x) → (n : ℕ) (xs : List S) (i : ℕ)
    → position q xs ≡ Some i → find p (numbered entry n (map view xs)) ≡ slice_get (numbered entry n (map view xs)) i
find-numbered view entry p q same n xs i h =
    find_at p (numbered entry n (map view xs)) ∙ ap (slice_get (numbered entry n (map view xs))) (numbered_place view entry p q same n xs ∙ place_found q xs i h)

pub find-numbered-none : {S A B : Type 0} (view : S → A) (entry : ℕ → A → B) (p : B → Bool) (q : S → Bool) → ((n : ℕ) (x : S) → p (entry n (view x)) ≡ q x) → (n : ℕ) (xs : List S)
    → list_any q xs ≡ false → find p (numbered entry n (map view xs)) ≡ None
find-numbered-none view entry p q same n [] h = refl
find-numbered-none view entry p q same n (x ∷ xs) h =
    let parts = or_parts (q x) (list_any q xs) h in
    cond-false (p (entry n (view x))) _ _ (same n x ∙ parts.0) ∙ find-numbered-none view entry p q same (n + 1) xs parts.1

-- what an identity finds is at the place where the first of a borrowed list has it
pub looked_at : {S A B : Type 0} (view : S → A) (entry : ℕ → A → B) (named : B → Identity) (name : S → Identity) → ((n : ℕ) (x : S) → named (entry n (view x)) ≡ name x) → (identity : Identity)
    (lent xs : List S) (told : Option ℕ) (i : ℕ) → lent ≡ xs → told ≡ position (λ x. same_identity (name x) identity) lent → told ≡ Some i
    → find (λ b. same_identity (named b) identity) (numbered entry 1 (map view xs)) ≡ slice_get (numbered entry 1 (map view xs)) i
looked_at {S = S} view entry named name same identity lent xs told i lent_is told_is place =
    let has = λ (x : S). same_identity (name x) identity in
    find-numbered view entry (λ b. same_identity (named b) identity) has (λ n x. ap (λ z. same_identity z identity) (same n x)) 1 xs i
    (ap (position has) (sym lent_is) ∙ sym told_is ∙ place)

pub looked_nowhere : {S A B : Type 0} (view : S → A) (entry : ℕ → A → B) (named : B → Identity) (name : S → Identity) → ((n : ℕ) (x : S) → named (entry n (view x)) ≡ name x)
    → (identity : Identity) (lent xs : List S) (told : Option ℕ) → lent ≡ xs → told ≡ position (λ x. same_identity (name x) identity) lent → told ≡ None
    → find (λ b. same_identity (named b) identity) (numbered entry 1 (map view xs)) ≡ None
looked_nowhere {S = S} view entry named name same identity lent xs told lent_is told_is none =
    let has = λ (x : S). same_identity (name x) identity in
    find-numbered-none view entry (λ b. same_identity (named b) identity) has (λ n x. ap (λ z. same_identity z identity) (same n x)) 1 xs
    (position-None has xs (ap (position has) (sym lent_is) ∙ sym told_is ∙ none))

-- the number of the entry at a place
number_at : {A B : Type 0} (entry : ℕ → A → B) (number : B → ℕ) → ((n : ℕ) (x : A) → number (entry n x) ≡ n) → (n : ℕ) (xs : List A) (i : ℕ) → i < length xs
    → option_map number (slice_get (numbered entry n xs) i) ≡ Some (n + i)
number_at entry number same n [] i within = absurd (omega arith)
number_at entry number same n (x ∷ xs) zero within = let e : number (entry n x) ≡ n + 0 = omega (arith, same n x) in ap Some e
number_at entry number same n (x ∷ xs) (suc i) within =
    let e : n + 1 + i ≡ n + suc i = omega arith in
    number_at entry number same (n + 1) xs i (omega arith) ∙ ap Some e

-- the number of what an identity finds is the one after its place
pub looked_number : {S A B : Type 0} (view : S → A) (entry : ℕ → A → B) (named : B → Identity) (name : S → Identity) → ((n : ℕ) (x : S) → named (entry n (view x)) ≡ name x)
    → (number : B → ℕ) → ((n : ℕ) (x : A) → number (entry n x) ≡ n) → (identity : Identity)
    (lent xs : List S) (told : Option ℕ) (i : ℕ) → lent ≡ xs → told ≡ position (λ x. same_identity (name x) identity) lent → told ≡ Some i
    → Some (i + 1) ≡ option_map number (find (λ b. same_identity (named b) identity) (numbered entry 1 (map view xs)))
looked_number {S = S} view entry named name same number same_no identity lent xs told i lent_is told_is place =
    let has = λ (x : S). same_identity (name x) identity in
    let within : i < length xs = place_within has xs i (ap (position has) (sym lent_is) ∙ sym told_is ∙ place) in
    let e : 1 + i ≡ i + 1 = omega arith in
    sym (ap (option_map number) (looked_at view entry named name same identity lent xs told i lent_is told_is place)
    ∙ number_at entry number same_no 1 (map view xs) i (omega (arith, within, length-map xs view)) ∙ ap Some e)

-- what is found by its number
pub find-number : {A B : Type 0} (entry : ℕ → A → B) (number : B → ℕ) → ((n : ℕ) (x : A) → number (entry n x) ≡ n) → (n : ℕ) (xs : List A) (i : ℕ) → i < length xs
    → find (λ b. number b == (n + i)) (numbered entry n xs) ≡ slice_get (numbered entry n xs) i
find-number entry number same n [] i within = absurd (omega arith)
find-number entry number same n (x ∷ xs) zero within = cond-true (number (entry n x) == (n + 0)) _ _ (eq-eqb (number (entry n x)) (n + 0) (omega (arith, same n x)))
find-number entry number same n (x ∷ xs) (suc i) within =
    let e : n + 1 + i ≡ n + suc i = omega arith in
    cond-false (number (entry n x) == (n + suc i)) _ _ (ne_eqb (number (entry n x)) (n + suc i) (λ h. absurd (omega (arith, same n x, h))))
    ∙ ap (λ k. find (λ b. number b == k) (numbered entry (n + 1) xs)) (sym e)
    ∙ find-number entry number same (n + 1) xs i (omega arith)

pub find-number-none : {A B : Type 0} (entry : ℕ → A → B) (number : B → ℕ) → ((n : ℕ) (x : A) → number (entry n x) ≡ n) → (n m : ℕ) (xs : List A) → (m < n) ⊎ (n + length xs ≤ m)
    → find (λ b. number b == m) (numbered entry n xs) ≡ None
find-number-none entry number same n m [] outside = refl
find-number-none entry number same n m (x ∷ xs) outside =
    elim outside [
      | inl below ↦ cond-false (number (entry n x) == m) _ _ (ne_eqb (number (entry n x)) m (λ h. absurd (omega (arith, same n x, h))))
          ∙ find-number-none entry number same (n + 1) m xs (inl (omega arith))
      | inr past ↦ cond-false (number (entry n x) == m) _ _ (ne_eqb (number (entry n x)) m (λ h. absurd (omega (arith, same n x, h))))
          ∙ find-number-none entry number same (n + 1) m xs (inr (omega arith))
    ]

-- what is found from a place on
abbrev pub found_from : {S A B : Type 0} → (S → A) → (ℕ → A → B) → (B → Bool) → ℕ → List S → Option B
found_from view entry p i xs = find p (numbered entry (1 + i) (map view (drop i xs)))

pub found-hit : {S A B : Type 0} (view : S → A) (entry : ℕ → A → B) (p : B → Bool) (i : ℕ) (xs : List S) (x : S) → i < length xs → x ≡ get_or xs i x → p (entry (i + 1) (view x)) ≡ true
    → found_from view entry p i xs ≡ Some (entry (i + 1) (view x))
found-hit view entry p i xs x within is passes =
    let e : 1 + i ≡ i + 1 = omega arith in
    ap (λ ys. find p (numbered entry (1 + i) (map view ys))) (drop_more xs i x within ∙ ap (λ y. y ∷ drop (i + 1) xs) (sym is))
    ∙ ap (λ k. find p (numbered entry k (view x ∷ map view (drop (i + 1) xs)))) e
    ∙ cond-true (p (entry (i + 1) (view x))) _ _ passes

pub found-miss : {S A B : Type 0} (view : S → A) (entry : ℕ → A → B) (p : B → Bool) (i : ℕ) (xs : List S) (x : S) → i < length xs → x ≡ get_or xs i x → p (entry (i + 1) (view x)) ≡ false
    → found_from view entry p i xs ≡ found_from view entry p (i + 1) xs
found-miss view entry p i xs x within is fails =
    let e : 1 + i ≡ i + 1 = omega arith in
    let d : i + 1 + 1 ≡ 1 + (i + 1) = omega arith in
    ap (λ ys. find p (numbered entry (1 + i) (map view ys))) (drop_more xs i x within ∙ ap (λ y. y ∷ drop (i + 1) xs) (sym is))
    ∙ ap (λ k. find p (numbered entry k (view x ∷ map view (drop (i + 1) xs)))) e
    ∙ cond-false (p (entry (i + 1) (view x))) _ _ fails
    ∙ ap (λ k. find p (numbered entry k (map view (drop (i + 1) xs)))) d

pub found-end : {S A B : Type 0} (view : S → A) (entry : ℕ → A → B) (p : B → Bool) (i : ℕ) (xs : List S) → length xs ≤ i → found_from view entry p i xs ≡ None
found-end view entry p i xs past = ap (λ ys. find p (numbered entry (1 + i) (map view ys))) (drop_all i xs past)

-- the same of all entries
abbrev pub issued_from : {S A B : Type 0} → (S → A) → (ℕ → A → Option B) → (B → Bool) → ℕ → List S → Option B
issued_from view entry p i xs = find p (filter_map (λ e. e) (numbered entry (1 + i) (map view (drop i xs))))

issued-here : {S A B : Type 0} (view : S → A) (entry : ℕ → A → Option B) (p : B → Bool) (i : ℕ) (xs : List S) (x : S) → i < length xs → x ≡ get_or xs i x
    → issued_from view entry p i xs ≡ find p (cons_option (entry (i + 1) (view x)) (filter_map (λ e. e) (numbered entry (1 + (i + 1)) (map view (drop (i + 1) xs)))))
issued-here view entry p i xs x within is =
    let e : 1 + i ≡ i + 1 = omega arith in
    let d : i + 1 + 1 ≡ 1 + (i + 1) = omega arith in
    ap (λ ys. find p (filter_map (λ o. o) (numbered entry (1 + i) (map view ys)))) (drop_more xs i x within ∙ ap (λ y. y ∷ drop (i + 1) xs) (sym is))
    ∙ ap (λ k. find p (filter_map (λ o. o) (numbered entry k (view x ∷ map view (drop (i + 1) xs))))) e
    ∙ ap (λ k. find p (cons_option (entry (i + 1) (view x)) (filter_map (λ o. o) (numbered entry k (map view (drop (i + 1) xs)))))) d

-- an option passes a test
abbrev pub passes : {B : Type 0} → (B → Bool) → Option B → Bool
passes p None = false
passes p (Some b) = p b

found_first : {B : Type 0} (p : B → Bool) (first : Option B) (rest : List B) → passes p first ≡ true → find p (cons_option first rest) ≡ first
found_first p None rest h = absurd (cc)
found_first p (Some b) rest h = cond-true (p b) (Some b) (find p rest) h

found_later : {B : Type 0} (p : B → Bool) (first : Option B) (rest : List B) → passes p first ≡ false → find p (cons_option first rest) ≡ find p rest
found_later p None rest h = refl
found_later p (Some b) rest h = cond-false (p b) (Some b) (find p rest) h

pub issued-hit : {S A B : Type 0} (view : S → A) (entry : ℕ → A → Option B) (p : B → Bool) (i : ℕ) (xs : List S) (x : S) → i < length xs → x ≡ get_or xs i x → passes p (entry (i + 1) (view x)) ≡ true
    → issued_from view entry p i xs ≡ entry (i + 1) (view x)
issued-hit view entry p i xs x within is h = issued-here view entry p i xs x within is ∙ found_first p (entry (i + 1) (view x)) _ h

pub issued-miss : {S A B : Type 0} (view : S → A) (entry : ℕ → A → Option B) (p : B → Bool) (i : ℕ) (xs : List S) (x : S) → i < length xs → x ≡ get_or xs i x
    → passes p (entry (i + 1) (view x)) ≡ false
    → issued_from view entry p i xs ≡ issued_from view entry p (i + 1) xs
issued-miss view entry p i xs x within is h = issued-here view entry p i xs x within is ∙ found_later p (entry (i + 1) (view x)) _ h

pub issued-end : {S A B : Type 0} (view : S → A) (entry : ℕ → A → Option B) (p : B → Bool) (i : ℕ) (xs : List S) → length xs ≤ i → issued_from view entry p i xs ≡ None
issued-end view entry p i xs past = ap (λ ys. find p (filter_map (λ e. e) (numbered entry (1 + i) (map view ys)))) (drop_all i xs past)

-- the entry at a place of a list that is borrowed
pub lent_place : {S : Type 0} (lent xs : List S) (i : ℕ) (x : S) → lent ≡ xs → i < length lent → x ≡ get_or lent i x → (i < length xs) × (x ≡ get_or xs i x)
lent_place lent xs i x same within is = (subst (λ ys. i < length ys) same within, subst (λ ys. x ≡ get_or ys i x) same is)

-- a fact of each view, at a place
pub fact_at : {S A : Type 0} (view : S → A) (P : A → Type 0) (xs : List S) (i : ℕ) (x : S) → All P (map view xs) → i < length xs → x ≡ get_or xs i x → P (view x)
fact_at view P [] i x all within is = absurd (omega arith)
fact_at view P (z ∷ xs) zero x all within is = subst (λ y. P (view y)) (sym is) (All-head P (view z) (map view xs) all)
fact_at view P (z ∷ xs) (suc i) x all within is = fact_at view P xs i x (All-tail P (view z) (map view xs) all) (omega arith) is

-- a fact of each view, at a place of a list that is borrowed
pub fact_lent : {S A : Type 0} (view : S → A) (P : A → Type 0) (lent xs : List S) (i : ℕ) (x : S) → All P (map view xs) → lent ≡ xs → i < length lent → x ≡ get_or lent i x → P (view x)
fact_lent view P lent xs i x all same within is =
    let at = lent_place lent xs i x same within is in
    fact_at view P xs i x all at.0 at.1

-- the entry at a place is the one that it was made from
pub made_at : {S A B Z : Type 0} (view : S → A) (entry : ℕ → A → B) (xs : Vec S Z) (i : ℕ) (x : S) (made : B) → i < vec_len xs → x ≡ get_or xs.items i x
    → made ≡ entry (i + 1) (view x) → Some made ≡ slice_get (numbered entry 1 (map view xs.items)) i
made_at view entry xs i x made within is told =
    let e : i + 1 ≡ 1 + i = omega arith in
    ap Some (told ∙ ap (λ n. entry n (view x)) e) ∙ sym (numbered-at view entry 1 xs.items i x (omega (arith, within, xs.ok.0)) is)

-- one more entry is listed
pub listed_more : {S A B : Type 0} (view : S → A) (entry : ℕ → A → B) (xs : List S) (i : ℕ) (x : S) (before after : List B) (b : B) → i < length xs → x ≡ get_or xs i x
    → before ≡ numbered entry 1 (map view (take i xs)) → b ≡ entry (i + 1) (view x) → after ≡ before ++ b ∷ [] → after ≡ numbered entry 1 (map view (take (i + 1) xs))
listed_more view entry xs i x before after b within is so_far made pushed =
    let front = take i xs in
    let counted : length (map view front) ≡ i = length-map front view ∙ length-take-le i xs (omega arith) in
    let e : i + 1 ≡ 1 + length (map view front) = omega arith in
    pushed ∙ ap (λ bs. bs ++ b ∷ []) so_far
    ∙ ap (λ c. numbered entry 1 (map view front) ++ c ∷ []) (made ∙ ap (λ k. entry k (view x)) e)
    ∙ sym (numbered-push entry 1 (map view front) (view x))
    ∙ ap (numbered entry 1) (sym (map-append view front (x ∷ [])))
    ∙ ap (λ ys. numbered entry 1 (map view ys)) (ap (λ y. front ++ y ∷ []) is ∙ sym (take_more xs i x within))

-- the same, where the list is borrowed
pub listed_lent : {S A B : Type 0} (view : S → A) (entry : ℕ → A → B) (lent xs : List S) (i : ℕ) (x : S) (before after : List B) (b : B) → lent ≡ xs → i < length lent → x ≡ get_or lent i x
    → before ≡ numbered entry 1 (map view (take i xs)) → b ≡ entry (i + 1) (view x) → after ≡ before ++ b ∷ [] → after ≡ numbered entry 1 (map view (take (i + 1) xs))
listed_lent view entry lent xs i x before after b same within is =
    let at = lent_place lent xs i x same within is in
    listed_more view entry xs i x before after b at.0 at.1

-- one more entry, or none, is listed
pub listed_option : {S A B : Type 0} (view : S → A) (entry : ℕ → A → Option B) (xs : List S) (i : ℕ) (x : S) (before after : List B) (b : Option B) → i < length xs → x ≡ get_or xs i x
    → before ≡ filter_map (λ e. e) (numbered entry 1 (map view (take i xs))) → b ≡ entry (i + 1) (view x) → after ≡ before ++ option_to_list b
    → after ≡ filter_map (λ e. e) (numbered entry 1 (map view (take (i + 1) xs)))
listed_option {B = B} view entry xs i x before after b within is so_far made pushed =
    let front = take i xs in
    let all = numbered entry 1 (map view front) in
    pushed ∙ ap (λ bs. bs ++ option_to_list b) so_far
    ∙ ap (λ bs. filter_map (λ e. e) all ++ bs) (one b)
    ∙ sym (filter_map-append (λ e. e) all (b ∷ []))
    ∙ ap (filter_map (λ e. e)) (listed_more view entry xs i x all (all ++ b ∷ []) b within is refl made refl)
  where
    one : (o : Option B) → option_to_list o ≡ filter_map (λ e. e) (o ∷ [])
    one None = refl
    one (Some c) = refl

-- what a number finds
pub found_at_place : {S A B Z : Type 0} (view : S → A) (entry : ℕ → A → B) (number : B → ℕ) → ((n : ℕ) (x : A) → number (entry n x) ≡ n) → (xs : Vec S Z) (n i len : ℕ) → len ≡ vec_len xs
    → IsPlace n len (Some i) → find (λ b. number b == n) (numbered entry 1 (map view xs.items)) ≡ slice_get (numbered entry 1 (map view xs.items)) i
found_at_place view entry number same xs n i len length_is place =
    let counted : length (map view xs.items) ≡ len = length-map xs.items view ∙ sym (length_is ∙ xs.ok.0) in
    let e : n ≡ 1 + i = omega (arith, place.0) in
    ap (λ k. find (λ b. number b == k) (numbered entry 1 (map view xs.items))) e ∙ find-number entry number same 1 (map view xs.items) i (omega (arith, place.1))

pub found_nowhere : {S A B Z : Type 0} (view : S → A) (entry : ℕ → A → B) (number : B → ℕ) → ((n : ℕ) (x : A) → number (entry n x) ≡ n) → (xs : Vec S Z) (n len : ℕ) → len ≡ vec_len xs
    → IsPlace n len None → find (λ b. number b == n) (numbered entry 1 (map view xs.items)) ≡ None
found_nowhere view entry number same xs n len length_is place =
    let counted : length (map view xs.items) ≡ len = length-map xs.items view ∙ sym (length_is ∙ xs.ok.0) in
    find-number-none entry number same 1 n (map view xs.items)
    (elim (and_cases (nat_lt 0 n) (nat_le n len) place) [ inl e ↦ inl (omega (arith, ltb-false 0 n e)) | inr e ↦ inr (omega (arith, leb-false n len e)) ])

-- what a number finds by place
pub entry_at-place : {S A B : Type 0} (view : S → A) (g : A → B) (xs : List S) (i : ℕ) (x : S) → i < length xs → x ≡ get_or xs i x → entry_at (suc i) (map g (map view xs)) ≡ Some (g (view x))
entry_at-place view g [] i x within is = absurd (omega arith)
entry_at-place view g (z ∷ xs) zero x within is = ap (λ y. Some (g (view y))) (sym is)
entry_at-place view g (z ∷ xs) (suc i) x within is = entry_at-place view g xs i x (omega arith) is

entry_past : {B : Type 0} (xs : List B) (i : ℕ) → length xs ≤ i → slice_get xs i ≡ None
entry_past [] i past = refl
entry_past (x ∷ xs) zero past = absurd (omega arith)
entry_past (x ∷ xs) (suc i) past = entry_past xs i (omega arith)

pub entry_at-nowhere : {B : Type 0} (xs : List B) (n : ℕ) → (nat_lt 0 n && nat_le n (length xs)) ≡ false → entry_at n xs ≡ None
entry_at-nowhere xs zero h = refl
entry_at-nowhere xs (suc i) h = entry_past xs i (omega (arith, above i (length xs) h))
