-- The table of a kind: each field's offset, its form, and the part of the command that it encodes.
use Rattle.std.specs.Prelude.{◌≡◌, ℕ, ◌^◌, ◌<◌, ◌≤◌, ◌⊎◌, Bool, true, false, List, [], ◌∷◌, ◌++◌, length, Option, Some, None}
use Rattle.std.specs.List.{list_any}
use Rattle.std.specs.Str.{IsUtf8, bytes_eq}
use Rattle.oftp_wire.specs.declared.fault.WireFault.{WireFault}
use Rattle.oftp_wire.specs.Octets.{part, padded, decimal, spaces, IsName, IsDigits}
use Rattle.oftp_codec.specs.Form.{Form, Name, Digits, OneOf, DigitsIf, Any, Reserved, Return, Utf8, size, fault_of, end_fault}

-- a field of the commands of S: its offset, its length and the part of the command that it encodes
pub data Row (S : Type 0) : Type 0 where
  word : ℕ → List ℕ → Row S  -- these octets
  name : ℕ → ℕ → (S → List ℕ) → Row S  -- X(n)
  digits : ℕ → ℕ → (S → List ℕ) → Row S  -- 9(n), kept as digits
  count : ℕ → ℕ → (S → ℕ) → Row S  -- 9(n), a number
  choice : ℕ → ℕ → List (List ℕ) → (S → List ℕ) → Row S  -- one of these words of n octets
  longest : ℕ → Bool → ℕ → (S → ℕ) → Row S  -- 9(n), a number that is 0 unless b
  reserved : ℕ → ℕ → Row S  -- any n octets are read, spaces are written
  return : ℕ → Row S  -- 0D or 8D is read, 0D is written
  payload : ℕ → ℕ → (S → List ℕ) → Row S  -- any n octets, kept
  text : ℕ → ℕ → (S → List ℕ) → Row S  -- n octets of UTF-8

-- a field's offset
abbrev pub at_of : {S : Type 0} → Row S → ℕ
at_of (word k w) = k
at_of (name k n f) = k
at_of (digits k n f) = k
at_of (count k n f) = k
at_of (choice k n ws f) = k
at_of (longest k b n f) = k
at_of (reserved k n) = k
at_of (return k) = k
at_of (payload k n f) = k
at_of (text k n f) = k

-- a field's form
abbrev pub form_of : {S : Type 0} → Row S → Form
form_of (word k w) = OneOf (length w) (w ∷ [])
form_of (name k n f) = Name n
form_of (digits k n f) = Digits n
form_of (count k n f) = Digits n
form_of (choice k n ws f) = OneOf n ws
form_of (longest k b n f) = DigitsIf b n
form_of (reserved k n) = Reserved n
form_of (return k) = Return
form_of (payload k n f) = Any n
form_of (text k n f) = Utf8 n

-- the canonical octets of the field
abbrev pub spelled : {S : Type 0} → Row S → S → List ℕ
spelled (word k w) s = w
spelled (name k n f) s = padded n (f s)
spelled (digits k n f) s = f s
spelled (count k n f) s = decimal n (f s)
spelled (choice k n ws f) s = f s
spelled (longest k b n f) s = decimal n (f s)
spelled (reserved k n) s = spaces n
spelled (return k) s = 13 ∷ []
spelled (payload k n f) s = f s
spelled (text k n f) s = f s

-- the octets are one of some words of n octets
abbrev pub IsWord : ℕ → List (List ℕ) → List ℕ → Type 0
IsWord n ws w = (length w ≡ n) × (list_any (bytes_eq w) ws ≡ true)

-- the value is in the field's range
abbrev pub Fits : {S : Type 0} → Row S → S → Type 0
Fits (word k w) s = Unit {0}
Fits (name k n f) s = IsName n (f s)
Fits (digits k n f) s = IsDigits n (f s)
Fits (count k n f) s = f s < 10 ^ n
Fits (choice k n ws f) s = IsWord n ws (f s)
Fits (longest k b n f) s = (f s < 10 ^ n) × (b ≡ false → f s ≡ 0)
Fits (reserved k n) s = Unit {0}
Fits (return k) s = Unit {0}
Fits (payload k n f) s = length (f s) ≡ n
Fits (text k n f) s = (length (f s) ≡ n) × (n ≤ 999) × IsUtf8 (f s)

-- the octets of the field encode the value
abbrev pub Says : {S : Type 0} → Row S → S → List ℕ → Type 0
Says (reserved k n) s w = Unit {0}
Says (return k) s w = (w ≡ 13 ∷ []) ⊎ (w ≡ 141 ∷ [])
Says (word k v) s w = w ≡ v
Says (name k n f) s w = w ≡ padded n (f s)
Says (digits k n f) s w = w ≡ f s
Says (count k n f) s w = w ≡ decimal n (f s)
Says (choice k n ws f) s w = w ≡ f s
Says (longest k b n f) s w = w ≡ decimal n (f s)
Says (payload k n f) s w = w ≡ f s
Says (text k n f) s w = w ≡ f s

-- a kind's fields from left to right, and its length in octets
pub record Table (S : Type 0) : Type 0 where
  pub rows : List (Row S)
  pub end : ℕ

-- the slice of octets at each field's offset encodes the field's value, which is in its range
abbrev pub EachSays : {S : Type 0} → List (Row S) → S → List ℕ → Type 0
EachSays [] s o = Unit {0}
EachSays (r ∷ rs) s o = (Fits r s × Says r s (part (at_of r) (size (form_of r)) o)) × EachSays rs s o

-- each field is encoded by the slice at its offset, and no octet is left
pub record IsSpelled {S : Type 0} (t : Table S) (s : S) (o : List ℕ) : Type 0 where
  pub whole : length o ≡ t.end
  pub fields : EachSays t.rows s o

-- each field's value is in its range
abbrev pub EachFits : {S : Type 0} → List (Row S) → S → Type 0
EachFits [] s = Unit {0}
EachFits (r ∷ rs) s = Fits r s × EachFits rs s

-- the canonical encoding: the canonical octets of the fields, one after the other
abbrev pub canon_of : {S : Type 0} → List (Row S) → S → List ℕ
canon_of [] s = []
canon_of (r ∷ rs) s = spelled r s ++ canon_of rs s

-- the first of two faults
abbrev pub or_else : Option WireFault → Option WireFault → Option WireFault
or_else None d = d
or_else (Some e) d = Some e

-- the first fault from the left
abbrev pub first_fault : {S : Type 0} → List (Row S) → ℕ → List ℕ → Option WireFault
first_fault [] end o = end_fault end o
first_fault (r ∷ rs) end o = or_else (fault_of (form_of r) (at_of r) o) (first_fault rs end o)

-- the first fault of octets by a table
abbrev pub fault_in : {S : Type 0} → Table S → List ℕ → Option WireFault
fault_in t o = first_fault t.rows t.end o
