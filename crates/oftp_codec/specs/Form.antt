-- The forms of fields (RFC 5024, section 5.3): the length, the octets that are allowed, and the fault of others.
use Rattle.std.specs.Prelude.{ℕ, ◌+◌, Bool, true, ◌&&◌, ◌||◌, List, [], ◌∷◌, length, nat_lt, ◌==◌, if◌then◌else◌, Option, Some, None}
use Rattle.std.specs.List.{list_all, list_any}
use Rattle.std.specs.Str.{is_utf8, bytes_eq}
use Rattle.oftp_wire.specs.declared.fault.WireFault.{WireFault}
use Rattle.oftp_wire.specs.declared.fault.WireFault.TheVariants.{WrongLength, BadField, BadText}
use Rattle.oftp_wire.specs.Octets.{part, is_digit, is_padded, number}

-- the forms of fields
pub data Form : Type 0 where
  Name : ℕ → Form  -- 0 to n allowed characters, and then spaces
  Digits : ℕ → Form  -- n digits
  OneOf : ℕ → List (List ℕ) → Form  -- one of these, of n octets
  DigitsIf : Bool → ℕ → Form  -- n digits, which are 0 unless b
  Reserved : ℕ → Form  -- any n octets
  Return : Form  -- CR, 0D or 8D
  Any : ℕ → Form  -- any n octets, kept
  Utf8 : ℕ → Form  -- n octets of UTF-8

-- the length of a field
abbrev pub size : Form → ℕ
size (Name n) = n
size (Digits n) = n
size (OneOf n ws) = n
size (DigitsIf b n) = n
size (Reserved n) = n
size Return = 1
size (Any n) = n
size (Utf8 n) = n

-- whether octets are a field of this form
abbrev pub allows : Form → List ℕ → Bool
allows (Name n) w = is_padded w
allows (Digits n) w = list_all is_digit w
allows (OneOf n ws) w = list_any (bytes_eq w) ws
allows (DigitsIf b n) w = list_all is_digit w && (b || number w == 0)
allows (Reserved n) w = true
allows Return w = bytes_eq w (13 ∷ []) || bytes_eq w (141 ∷ [])
allows (Any n) w = true
allows (Utf8 n) w = is_utf8 w

-- the fault of a field whose octets aren't of this form
abbrev pub complaint : Form → ℕ → WireFault
complaint (Name n) at = BadField at
complaint (Digits n) at = BadField at
complaint (OneOf n ws) at = BadField at
complaint (DigitsIf b n) at = BadField at
complaint (Reserved n) at = BadField at
complaint Return at = BadField at
complaint (Any n) at = BadField at
complaint (Utf8 n) at = BadText

-- the fault of the field at an offset, if it has one: it extends past the end, or its value is invalid
unfoldable pub fault_of : Form → ℕ → List ℕ → Option WireFault
fault_of form at o = if nat_lt (length o) (at + size form) then Some WrongLength else (if allows form (part at (size form) o) then None else Some (complaint form at))

-- the fault after the last field, if there is one: octets are left
unfoldable pub end_fault : ℕ → List ℕ → Option WireFault
end_fault end o = if length o == end then None else Some WrongLength
