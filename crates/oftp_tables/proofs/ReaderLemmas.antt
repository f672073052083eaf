-- What a comparison of texts says of a state, and a reason and its two digits.
use Rattle.std.proofs.Common.{◌≡◌, ◌∙◌, ◌≤◌, ◌<◌, ◌+◌, ◌*◌, ◌-◌, ℕ, List, [], ◌∷◌, Bool, true, length, get_or, refl, sym, ap, arith}
use Rattle.std.specs.List.{list_all}
use Rattle.std.proofs.lemmas.Bool.Decides.{nat_tests}
use Rattle.std.specs.Str.{bytes_eq}
use Rattle.oftp_wire.specs.Octets.{IsDigits, decimal, is_digit, number}
use Rattle.oftp_wire.proofs.Decimals.{decimal_digits, length-decimal, number_is}

-- a text that is known, compared with a word
pub compared : (text known slice word : List ℕ) (b answer : Bool) → b ≡ answer → b ≡ bytes_eq text slice → slice ≡ word → text ≡ known → answer ≡ bytes_eq known word
compared text known slice word b answer was is said here = sym was ∙ is ∙ ap (λ t. bytes_eq t slice) here ∙ ap (bytes_eq known) said

-- a reason has two digits
pub two_digits : (n : ℕ) → IsDigits 2 (decimal 2 n)
two_digits n = (length-decimal 2 n, decimal_digits 2 n)

-- two digits are those of the number that they make
pub digits_back : (text : List ℕ) (tens units reason : ℕ) → length text ≡ 2 → 48 ≤ get_or text 0 0 → get_or text 0 0 < 58 → 48 ≤ get_or text 1 0 → get_or text 1 0 < 58
    → tens ≡ get_or text 0 0 - 48 → units ≡ get_or text 1 0 - 48 → reason ≡ tens * 10 + units → text ≡ decimal 2 reason
digits_back [] tens units reason size low high low' high' first last is = absurd (omega (arith, size))
digits_back (a ∷ []) tens units reason size low high low' high' first last is = absurd (omega (arith, size))
digits_back (a ∷ b ∷ []) tens units reason size low high low' high' first last is =
    let digits : list_all is_digit (a ∷ b ∷ []) ≡ true = grind (arith, nat_tests, low, high, low', high') in
    let made : reason ≡ number (a ∷ b ∷ []) = omega (arith, first, last, is) in
    sym (ap (decimal 2) made ∙ (number_is 2 (a ∷ b ∷ []) refl digits).again)
digits_back (a ∷ b ∷ c ∷ more) tens units reason size low high low' high' first last is = absurd (omega (arith, size))
