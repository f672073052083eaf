-- The octets of a field, and how a value is encoded (RFC 5024, section 5.3).
use Rattle.std.specs.Prelude.{◌≡◌, ℕ, zero, suc, ◌+◌, ◌-◌, ◌*◌, ◌/◌, ◌%◌, ◌≤◌, Bool, true, ◌&&◌, ◌||◌, List, [], ◌∷◌, ◌++◌, length, take, drop, replicate, nat_le, ◌==◌, fold}
use Rattle.std.specs.List.{list_all, prefix_len, take_while}

-- the octet of a letter or a digit
abbrev pub letter : List ℕ → ℕ
letter [] = 0
letter (c ∷ cs) = c

-- n octets from an offset on
abbrev pub part : ℕ → ℕ → List ℕ → List ℕ
part at n o = take n (drop at o)

-- 0 to 9
abbrev pub is_digit : ℕ → Bool
is_digit c = nat_le 48 c && nat_le c 57

-- 0 to 9, A to Z, / - . & ( )
unfoldable pub is_allowed : ℕ → Bool
is_allowed c = (((((((nat_le 48 c && nat_le c 57) || (nat_le 65 c && nat_le c 90)) || c == 47) || c == 45) || c == 46) || c == 38) || c == 40) || c == 41

-- n spaces
abbrev pub spaces : ℕ → List ℕ
spaces n = replicate n 32

-- a value, and then spaces up to n octets
abbrev pub padded : ℕ → List ℕ → List ℕ
padded n v = v ++ spaces (n - length v)

-- the value in a field X(n): the octets before the first that isn't allowed
abbrev pub value_of : List ℕ → List ℕ
value_of w = take_while is_allowed w

-- whether only spaces follow the allowed octets at the beginning
abbrev pub is_padded : List ℕ → Bool
is_padded w = list_all (λ c. c == 32) (drop (prefix_len is_allowed w) w)

-- a number in n digits, with leading zeros
unfoldable pub decimal : ℕ → ℕ → List ℕ
decimal zero v = []
decimal (suc n) v = decimal n (v / 10) ++ (48 + v % 10) ∷ []

-- the number that digits stand for
abbrev pub number : List ℕ → ℕ
number w = fold (λ n c. n * 10 + (c - 48)) 0 w

-- a value of a field X(n): at most n allowed characters
abbrev pub IsName : ℕ → List ℕ → Type 0
IsName n v = (length v ≤ n) × (list_all is_allowed v ≡ true)

-- a value of a field 9(n) that is kept as digits: n digits
abbrev pub IsDigits : ℕ → List ℕ → Type 0
IsDigits n v = (length v ≡ n) × (list_all is_digit v ≡ true)

-- octets written over others from an offset on
abbrev pub put : ℕ → List ℕ → List ℕ → List ℕ
put at w o = take at o ++ (w ++ drop (at + length w) o)
