-- Registers that differ only in the content of files.
use Rattle.std.specs.Prelude.{◌≡◌, ℕ, List, map}
use Rattle.oftp_register.specs.Register.{Register, Incoming, Outgoing}

-- each octet is 0
abbrev pub blank_octets : List ℕ → List ℕ
blank_octets row = map (λ (octet : ℕ). 0) row

-- as many rows of the same lengths
abbrev pub blank_rows : List (List ℕ) → List (List ℕ)
blank_rows rows = map blank_octets rows

abbrev pub blank_incoming : Incoming → Incoming
blank_incoming file = record file { rows = blank_rows file.rows }

abbrev pub blank_outgoing : Outgoing → Outgoing
blank_outgoing file = record file { rows = blank_rows file.rows }

-- the register without the content of its files
abbrev pub blank : Register → Register
blank r = record r { incoming = map blank_incoming r.incoming; outgoing = map blank_outgoing r.outgoing }

-- both have the same files, except the octets of their rows
abbrev pub IsAlike : Register → Register → Type 0
IsAlike r s = blank r ≡ blank s
