-- The ranges of codes, passwords, addresses and the station's numbers.
use Rattle.std.specs.Prelude.{ℕ, ◌≤◌, Bool, ◌&&◌, List, length, nat_le}
use Rattle.std.specs.List.{list_all}
use Rattle.oftp_wire.specs.Octets.{is_allowed, IsName}

-- an Identification Code: 1 to 25 allowed characters (RFC 5024, section 5.4)
abbrev pub IsCode : List ℕ → Type 0
IsCode v = (1 ≤ length v) × IsName 25 v

-- a password: 0 to 8 allowed characters (RFC 5024, section 5.3.2)
abbrev pub IsPassword : List ℕ → Type 0
IsPassword v = IsName 8 v

-- an address: 1 to 255 octets
abbrev pub IsAddress : List ℕ → Type 0
IsAddress v = (1 ≤ length v) × (length v ≤ 255)

-- the station's Data Exchange Buffer size in octets; RFC 5024 allows 99,999 (section 5.3.2)
abbrev pub IsBufferSize : ℕ → Type 0
IsBufferSize n = (128 ≤ n) × (n ≤ 16384)

-- the Credit that the station offers, in DATA commands; RFC 5024 allows 999 (section 5.3.2)
abbrev pub IsCredit : ℕ → Type 0
IsCredit n = (1 ≤ n) × (n ≤ 99)

-- whether a text may be the value of a field X(n)
unfoldable pub is_name : ℕ → List ℕ → Bool
is_name n v = nat_le (length v) n && list_all is_allowed v

-- whether a text is a code
unfoldable pub is_code : List ℕ → Bool
is_code v = nat_le 1 (length v) && is_name 25 v

-- whether a text is an address
unfoldable pub is_address : List ℕ → Bool
is_address v = nat_le 1 (length v) && nat_le (length v) 255
