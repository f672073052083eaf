-- The digits of a number, and the number of digits.
use Rattle.std.proofs.Common.{◌≡◌, ℕ, zero, suc, ◌+◌, ◌-◌, ◌*◌, ◌/◌, ◌%◌, ◌^◌, ◌<◌, true, ◌&&◌, leb, List, [], ◌∷◌, ◌++◌, length, get_or, take, refl, sym, ap, ◌∙◌, arith}
use Rattle.std.specs.List.{list_all}
use Rattle.std.proofs.lemmas.Bool.{and_parts, and_from, le-leb}
use Rattle.std.proofs.lemmas.List.{length-take, length-append, take_more, take_all, nil_from_length}
use Rattle.std.proofs.lemmas.List.Sums.{fold-append}
use Rattle.std.proofs.lemmas.List.Folds.{list_all-append}
use Rattle.oftp_wire.specs.Octets.{is_digit, decimal, number}
use Rattle.oftp_wire.proofs.Numbers.{digit_at}

-- a number fills its field
pub length-decimal : (n v : ℕ) → length (decimal n v) ≡ n
unfolding decimal
length-decimal zero v = refl
length-decimal (suc n) v = omega (arith, length-append (decimal n (v / 10)) ((48 + v % 10) ∷ []), length-decimal n (v / 10))

-- a number below ten gives a digit
digit_of : (d : ℕ) → d < 10 → is_digit (48 + d) ≡ true
digit_of d h = and_from (leb 48 (48 + d)) (leb (48 + d) 57) (le-leb 48 (48 + d) (omega arith)) (le-leb (48 + d) 57 (omega arith))

-- a number is encoded in digits
pub decimal_digits : (n v : ℕ) → list_all is_digit (decimal n v) ≡ true
unfolding decimal
decimal_digits zero v = refl
decimal_digits (suc n) v =
    list_all-append is_digit (decimal n (v / 10)) ((48 + v % 10) ∷ [])
    ∙ and_from (list_all is_digit (decimal n (v / 10))) (is_digit (48 + v % 10) && true) (decimal_digits n (v / 10)) (and_from (is_digit (48 + v % 10)) true (digit_of (v % 10) (omega arith)) refl)

-- one more digit
number_push : (w : List ℕ) (c : ℕ) → number (w ++ c ∷ []) ≡ number w * 10 + (c - 48)
number_push w c = fold-append (λ n d. n * 10 + (d - 48)) 0 w (c ∷ [])

-- the number that a number's digits stand for
pub number-decimal : (n v : ℕ) → v < 10 ^ n → number (decimal n v) ≡ v
unfolding decimal
number-decimal zero v h = omega arith
number-decimal (suc n) v h =
    let small : v / 10 < 10 ^ n = omega arith in
    let e = number-decimal n (v / 10) small in
    number_push (decimal n (v / 10)) (48 + v % 10) ∙ omega (arith, e)

-- the last of n + 1 octets
last_split : (n : ℕ) (w : List ℕ) → length w ≡ suc n → w ≡ take n w ++ get_or w n 0 ∷ []
last_split n w h = sym (take_all (n + 1) w (omega arith)) ∙ take_more w n 0 (omega arith)

-- n digits are their number in n digits
pub record NumberIs (n : ℕ) (w : List ℕ) : Type 0 where
  pub again : decimal n (number w) ≡ w
  pub small : number w < 10 ^ n

-- n digits are their number in n digits
pub number_is : (n : ℕ) (w : List ℕ) → length w ≡ n → list_all is_digit w ≡ true → NumberIs n w
unfolding decimal
number_is zero w len h = let e = nil_from_length w len in record { again = sym e; small = rw e (omega arith) }
number_is (suc n) w len h =
    let c = get_or w n 0 in
    let e : w ≡ take n w ++ c ∷ [] = last_split n w len in
    let d = digit_at w n h (omega arith) in
    let front_digits : list_all is_digit (take n w) ≡ true =
    (and_parts (list_all is_digit (take n w)) (list_all is_digit (c ∷ []))
    (sym (list_all-append is_digit (take n w) (c ∷ [])) ∙ ap (list_all is_digit) (sym e) ∙ h)).0 in
    let m = number (take n w) in
    let ih = number_is n (take n w) (omega (arith, length-take n w)) front_digits in
    let value : number w ≡ m * 10 + (c - 48) = ap number e ∙ number_push (take n w) c in
    let tens : number w / 10 ≡ m = omega arith in
    let ones : 48 + number w % 10 ≡ c = omega arith in
    record {
      again = rw (tens, ones) (ap (λ (x : List ℕ). x ++ c ∷ []) ih.again ∙ sym e);
      small = omega (arith, ih.small);
    }
