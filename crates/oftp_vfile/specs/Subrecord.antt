-- Subrecords and their header octets (RFC 5024, section 7.2).
use Rattle.std.specs.Prelude.{ℕ, Bool, List, [], ◌∷◌, ◌+◌, ◌%◌, ◌<◌, nat_le, length, if◌then◌else◌}
use Rattle.std.specs.List.{flat_map}

-- a subrecord: whether it ends a record, and its octets (RFC 5024, section 7.2)
pub record Subrecord : Type 0 where
  pub ends : Bool
  pub octets : List ℕ

-- whether a header has the end flag, its highest bit (RFC 5024, section 7.2)
abbrev pub has_end : ℕ → Bool
has_end header = nat_le 128 header

-- whether a header has the compression flag, its next bit (RFC 5024, section 7.2)
abbrev pub has_compression : ℕ → Bool
has_compression header = nat_le 64 (header % 128)

-- how many octets follow a header: its low six bits (RFC 5024, section 7.2)
abbrev pub count_in : ℕ → ℕ
count_in header = header % 64

-- the header without compression: the end flag, and how many octets follow
abbrev pub header_octet : Bool → ℕ → ℕ
header_octet ends count = if ends then 128 + count else count

-- the header of a subrecord
abbrev pub header : Subrecord → ℕ
header s = header_octet s.ends (length s.octets)

-- the octets of a subrecord in a payload
abbrev pub spelled : Subrecord → List ℕ
spelled s = header s ∷ s.octets

-- the payload that has these subrecords
abbrev pub payload_of : List Subrecord → List ℕ
payload_of subs = flat_map spelled subs

-- the octets of all of them, without the headers
abbrev pub octets_of : List Subrecord → List ℕ
octets_of subs = flat_map (λ s. s.octets) subs

-- each has at most the 63 octets that a header can count
abbrev pub AreShort : List Subrecord → Type 0
AreShort [] = Unit {0}
AreShort (s ∷ ss) = (length s.octets < 64) × AreShort ss
