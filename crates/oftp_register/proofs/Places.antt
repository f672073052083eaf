-- A change of the entry with a number, as a write at its place.
use Rattle.std.proofs.Common.{◌≡◌, ℕ, zero, suc, ◌+◌, ◌<◌, ◌&&◌, false, List, [], ◌∷◌, length, map, set, get_or, Result, Ok, Err, refl, ap, sym, ◌∙◌, arith, add-one, nat_lt, nat_le, inl, inr}
use Rattle.std.proofs.lemmas.Bool.{ltb-false, lt-leb, leb-false, and_cases, and_right}
use Rattle.std.proofs.lemmas.List.{map-set, set-get_or}
use Rattle.oftp_register.specs.declared.change.Cause.{Cause}
use Rattle.oftp_register.specs.declared.change.Cause.TheVariants.{Unknown}
use Rattle.oftp_register.specs.declared.office.OfficeFault.{OfficeFault}
use Rattle.oftp_register.specs.declared.office.OfficeFault.TheVariants.{Store, Memory, Refused}
use Rattle.oftp_register.specs.Changes.{mapped, at_number}
use Rattle.oftp_register.specs.Lists.{CarriesOut}

-- a mapped result, mapped again
pub mapped-mapped : {A B C : Type 0} (g : B → C) (f : A → B) (r : Result A Cause) → mapped g (mapped f r) ≡ mapped (λ x. g (f x)) r
mapped-mapped g f (Ok x) = refl
mapped-mapped g f (Err cause) = refl

-- a number within the list names the place before it
pub at_number-within : {S A : Type 0} (view : S → A) (f : A → Result A Cause) (xs : List S) (i : ℕ) (x : S) → i < length xs → x ≡ get_or xs i x
    → at_number f (suc i) (map view xs) ≡ mapped (λ y. set (map view xs) i y) (f (view x))
at_number-within view f [] i x within is = absurd (omega arith)
at_number-within view f (z ∷ xs) zero x within is = ap (λ w. mapped (λ y. y ∷ map view xs) (f (view w))) (sym is)
at_number-within view f (z ∷ xs) (suc i) x within is =
    ap (mapped (λ ys. view z ∷ ys)) (at_number-within view f xs i x (omega arith) is) ∙ mapped-mapped (λ ys. view z ∷ ys) (λ y. set (map view xs) i y) (f (view x))

-- a number above 0 without an entry is beyond the list
pub above : (n m : ℕ) → (nat_lt 0 (suc n) && nat_le (suc n) m) ≡ false → m < suc n
above n m h = elim (and_cases (nat_lt 0 (suc n)) (nat_le (suc n) m) h) [ inl e ↦ absurd (omega (arith, ltb-false 0 (suc n) e)) | inr e ↦ leb-false (suc n) m e ]

-- and so is the number before it beyond the rest of the list
pub above_again : (n m : ℕ) → (nat_lt 0 (suc (suc n)) && nat_le (suc (suc n)) (suc m)) ≡ false → (nat_lt 0 (suc n) && nat_le (suc n) m) ≡ false
above_again n m h = and_right (nat_lt 0 (suc n)) (nat_le (suc n) m) (lt-leb (suc n) m (omega (arith, above (suc n) (suc m) h)))

-- a number outside the list has no entry
pub at_number-outside : {A : Type 0} (f : A → Result A Cause) (n : ℕ) (xs : List A) → (nat_lt 0 n && nat_le n (length xs)) ≡ false → at_number f n xs ≡ Err Unknown
at_number-outside f zero xs h = refl
at_number-outside f (suc n) [] h = refl
at_number-outside f (suc zero) (x ∷ xs) h = absurd (omega (arith, above 0 (suc (length xs)) h))
at_number-outside f (suc (suc n)) (x ∷ xs) h =
    ap (mapped (λ ys. x ∷ ys)) (at_number-outside f (suc n) xs (above_again n (length xs) h))

-- a write of the same value changes nothing
pub set_same : {X : Type 0} (xs : List X) (i : ℕ) (x : X) → x ≡ get_or xs i x → set xs i x ≡ xs
set_same xs i x is = ap (set xs i) is ∙ set-get_or xs i x

-- a write of an entry with the same view changes no view
pub map-set_same : {S A : Type 0} (view : S → A) (xs : List S) (i : ℕ) (x y : S) → x ≡ get_or xs i x → view y ≡ view x → map view (set xs i y) ≡ map view xs
map-set_same view xs i x y is same =
    map-set view xs i y ∙ ap (set (map view xs) i) same ∙ sym (map-set view xs i x) ∙ ap (map view) (set_same xs i x is)

-- what a change does to an entry, it does to the list
pub makes_at : {S A T : Type 0} (view : S → A) (wanted : Result A Cause) (xs : List S) (i : ℕ) (x y : S) (result : Result T OfficeFault) → x ≡ get_or xs i x
    → CarriesOut view wanted x y result → CarriesOut (map view) (mapped (λ z. set (map view xs) i z) wanted) xs (set xs i y) result
makes_at view wanted xs i x y (Ok u) is h = ap (mapped (λ z. set (map view xs) i z)) h ∙ ap Ok (sym (map-set view xs i y))
makes_at view wanted xs i x y (Err Store) is h = h
makes_at view wanted xs i x y (Err Memory) is h = map-set_same view xs i x y is h
makes_at view wanted xs i x y (Err (Refused cause)) is h = (ap (mapped (λ z. set (map view xs) i z)) h.0, map-set_same view xs i x y is h.1)

-- a change of the entry with a number
pub makes_at_number : {S A T : Type 0} (view : S → A) (f : A → Result A Cause) (xs : List S) (n i : ℕ) (x y : S) (result : Result T OfficeFault) → n ≡ i + 1 → i < length xs
    → x ≡ get_or xs i x → CarriesOut view (f (view x)) x y result → CarriesOut (map view) (at_number f n (map view xs)) xs (set xs i y) result
makes_at_number view f xs n i x y result number within is h =
    let e : at_number f n (map view xs) ≡ mapped (λ z. set (map view xs) i z) (f (view x)) = ap (λ k. at_number f k (map view xs)) (number ∙ add-one i) ∙ at_number-within view f xs i x within is in
    rw e (makes_at view (f (view x)) xs i x y result is h)

-- what a change does to a part, it does to the whole
pub makes_part : {S A B C T : Type 0} (part : S → A) (whole : B → C) (place : A → C) (wanted : Result A Cause) (old new : S) (was is : B) (result : Result T OfficeFault)
    → whole was ≡ place (part old) → whole is ≡ place (part new) → CarriesOut part wanted old new result → CarriesOut whole (mapped place wanted) was is result
makes_part part whole place wanted old new was is (Ok u) before after h = ap (mapped place) h ∙ ap Ok (sym after)
makes_part part whole place wanted old new was is (Err Store) before after h = h
makes_part part whole place wanted old new was is (Err Memory) before after h = after ∙ ap place h ∙ sym before
makes_part part whole place wanted old new was is (Err (Refused cause)) before after h = (ap (mapped place) h.0, after ∙ ap place h.1 ∙ sym before)
