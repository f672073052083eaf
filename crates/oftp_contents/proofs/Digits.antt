-- The digits of the number of an entry, one after another.
use Rattle.std.proofs.Common.{◌≡◌, ◌+◌, ◌-◌, ◌*◌, ◌<◌, ◌≤◌, ◌^◌, ℕ, true, false, List, None, Some, length, take, get_or, nat_lt, arith}
use Rattle.std.specs.Char.{is_ascii_digit}
use Rattle.std.specs.List.{list_all}
use Rattle.std.specs.Str.Parse.{digits_value}
use Rattle.std.proofs.lemmas.Bool.Decides.{nat_tests}
use Rattle.std.proofs.lemmas.Int.Digits.{digits_value_more}
use Rattle.std.proofs.lemmas.List.{take_all}
use Rattle.std.proofs.lemmas.List.Folds.{list_all_more}
use Rattle.std.proofs.lemmas.Str.{digit_value_digit}
use Rattle.std.proofs.lemmas.Str.Parse.{digits_value-take-le}
use Rattle.oftp_contents.specs.Places.{entry_number}

-- one digit more
pub more : (text : List ℕ) (i : ℕ) → i < length text → is_ascii_digit (get_or text i 0) ≡ true
    → digits_value 10 (take (i + 1) text) ≡ digits_value 10 (take i text) * 10 + (get_or text i 0 - 48)
more text i within digit = grind (arith, nat_tests, digits_value_more 10 text i within, digit_value_digit (get_or text i 0))

-- a number that is too great so far is too great
pub too_great : (text : List ℕ) (i : ℕ) → i < length text → is_ascii_digit (get_or text i 0) ≡ true
    → 2 ^ 64 ≤ digits_value 10 (take i text) * 10 + (get_or text i 0 - 48) → entry_number text ≡ None
unfolding entry_number
too_great text i within digit great =
    let so_far = more text i within digit in
    let whole = digits_value-take-le 10 text (i + 1) in
    let other : nat_lt (digits_value 10 text) (2 ^ 64) ≡ false = grind (arith, nat_tests, so_far, whole, great) in
    grind (arith, nat_tests, other)

-- digits, and one more
pub all : (text : List ℕ) (i : ℕ) → i < length text → list_all is_ascii_digit (take i text) ≡ true → is_ascii_digit (get_or text i 0) ≡ true
    → list_all is_ascii_digit (take (i + 1) text) ≡ true
all text i within digits digit = grind (arith, list_all_more is_ascii_digit text i 0 within)

-- the number of digits that are all there are
pub whole : (text : List ℕ) (i n : ℕ) → n ≡ digits_value 10 (take i text) → list_all is_ascii_digit (take i text) ≡ true
    → length text ≤ i → 0 < length text → n < 2 ^ 64 → Some n ≡ entry_number text
unfolding entry_number
whole text i n value digits passed some below =
    let whole = take_all i text passed in
    let value' : n ≡ digits_value 10 text = grind (arith, value, whole) in
    let digits' : list_all is_ascii_digit text ≡ true = grind (arith, digits, whole) in
    let small : nat_lt (digits_value 10 text) (2 ^ 64) ≡ true = grind (arith, nat_tests, value', below) in
    let long : nat_lt 0 (length text) ≡ true = grind (arith, nat_tests, some) in
    grind (arith, value', digits', small, long)
