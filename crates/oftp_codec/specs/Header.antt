-- The stream header of RFC 5024, section 8. It is the octet 10 in hexadecimal (version 1, no flags), then the length of the frame in
-- three octets.
use Rattle.std.specs.Prelude.{ℕ, ◌+◌, ◌*◌, ◌/◌, ◌%◌, ◌≤◌, List, [], ◌∷◌, ◌++◌, length}

-- the header of a frame of n octets
abbrev pub header_of : ℕ → List ℕ
header_of n = 16 ∷ (n / 65536) ∷ (n / 256 % 256) ∷ (n % 256) ∷ []

-- a command as it is in the stream
abbrev pub frame : List ℕ → List ℕ
frame m = header_of (length m + 4) ++ m

-- a command whose frame has at most `limit` octets
abbrev pub IsCommand : ℕ → List ℕ → Type 0
IsCommand limit m = (1 ≤ length m) × (length m + 4 ≤ limit)

-- the length in a header's three octets, the most significant first; it includes the header
abbrev pub length_in : ℕ → ℕ → ℕ → ℕ
length_in high middle low = high * 65536 + middle * 256 + low
