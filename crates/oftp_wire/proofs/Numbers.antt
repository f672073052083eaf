-- Each octet of digits is a digit.
use Rattle.std.proofs.Common.{◌≡◌, ℕ, zero, suc, ◌<◌, ◌≤◌, true, List, [], ◌∷◌, length, get_or, leb, arith}
use Rattle.std.specs.List.{list_all}
use Rattle.std.proofs.lemmas.Bool.{and_parts}
use Rattle.std.proofs.lemmas.Bool.Decides.{nat_tests}
use Rattle.oftp_wire.specs.Octets.{is_digit}

-- a digit's code
pub digit_is : (c : ℕ) → is_digit c ≡ true → (48 ≤ c) × (c ≤ 57)
digit_is c h = let p = and_parts (leb 48 c) (leb c 57) h in (grind (arith, nat_tests), grind (arith, nat_tests))

-- each octet of digits is one
pub digit_at : (w : List ℕ) (i : ℕ) → list_all is_digit w ≡ true → i < length w → (48 ≤ get_or w i 0) × (get_or w i 0 ≤ 57)
digit_at [] i h lt = absurd (omega arith)
digit_at (c ∷ cs) zero h lt = digit_is c (and_parts (is_digit c) (list_all is_digit cs) h).0
digit_at (c ∷ cs) (suc i) h lt = digit_at cs i (and_parts (is_digit c) (list_all is_digit cs) h).1 (omega arith)
