-- What is wrong with the values of fields whose form is right (RFC 5024, sections 5.3 and 7.3).
use Rattle.std.specs.Prelude.{ℕ, ◌-◌, Bool, ◌&&◌, not, nat_lt, List, [], ◌∷◌, codes, ◌==◌, if◌then◌else◌, take, drop, length, Option, Some, None}
use Rattle.std.specs.Str.{bytes_eq}
use Rattle.oftp_wire.specs.Octets.{part, number}
use Rattle.oftp_codec.specs.Form.{size}
use Rattle.oftp_telling.specs.Names.{Entry}
use Rattle.oftp_conformance.specs.declared.value_rule.ValueRule.{ValueRule}
use Rattle.oftp_conformance.specs.declared.value_rule.ValueRule.TheVariants.{Level, Buffer, Credit, Authentication, Counter, Sizes, Security, Cipher, Compression, Envelope, SignedResponse, Overrun, Compressed}
use Rattle.oftp_conformance.specs.declared.values.TheConstants.{LEAST_BUFFER}
use Rattle.oftp_conformance.specs.Walks.{first_walk, walk_over}
use Rattle.oftp_conformance.specs.ValueRules.{value_rules, value_field}

-- ---- other fields

-- the octets of the field of a command with this name, none if it has no such field
abbrev pub octets_of : List ℕ → List Entry → List ℕ → List ℕ
octets_of name [] o = []
octets_of name (e ∷ es) o = if bytes_eq e.name name then part e.at (size e.form) o else octets_of name es o

-- whether a field has these octets
abbrev pub has : List ℕ → List ℕ → List Entry → List ℕ → Bool
has name w es o = bytes_eq (octets_of name es o) w

-- whether a file is sent as it is: without security, compression and envelope
abbrev pub is_plain_file : List Entry → List ℕ → Bool
is_plain_file es o = (has (codes "SFIDSEC") (codes "00") es o && has (codes "SFIDCOMP") (codes "0") es o) && has (codes "SFIDENV") (codes "0") es o

-- ---- the rules

-- whether octets end with others
abbrev pub ends_with : List ℕ → List ℕ → Bool
ends_with w end = bytes_eq (drop (length w - length end) w) end

-- whether the octets of its field break a rule
abbrev pub breaks : ValueRule → List ℕ → List Entry → List ℕ → Bool
breaks Level w es o = not (bytes_eq w (codes "5"))
breaks Buffer w es o = nat_lt (number (take 5 w)) LEAST_BUFFER
breaks Credit w es o = bytes_eq w (codes "000")
breaks Authentication w es o = bytes_eq w (codes "Y")
breaks Counter w es o = ends_with w (codes "0000")
breaks Sizes w es o = is_plain_file es o && not (bytes_eq w (octets_of (codes "SFIDFSIZ") es o))
breaks Security w es o = not (bytes_eq w (codes "00"))
breaks Cipher w es o = not (bytes_eq w (codes "00"))
breaks Compression w es o = not (bytes_eq w (codes "0"))
breaks Envelope w es o = not (bytes_eq w (codes "0"))
breaks SignedResponse w es o = bytes_eq w (codes "Y")
breaks Overrun w es o = not ((walk_over first_walk w).due == 0)
breaks Compressed w es o = (walk_over first_walk w).compressed

-- whether a field breaks a rule
abbrev pub is_broken : List Entry → Entry → List ℕ → ValueRule → Bool
is_broken es e o r = bytes_eq e.name (value_field r) && breaks r (part e.at (size e.form) o) es o

-- the first of these rules that a field breaks
abbrev pub first_broken : List Entry → Entry → List ℕ → List ValueRule → Option ValueRule
first_broken es e o [] = None
first_broken es e o (r ∷ rs) = if is_broken es e o r then Some r else first_broken es e o rs

-- the first rule on its value that a field breaks
abbrev pub broken_value : List Entry → Entry → List ℕ → Option ValueRule
broken_value es e o = first_broken es e o value_rules
