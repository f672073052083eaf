-- What is wrong with the form of a field (RFC 5024, section 5.3), and with the end of a command.
use Rattle.std.specs.Prelude.{ℕ, ◌+◌, ◌-◌, ◌*◌, Bool, false, ◌&&◌, ◌||◌, not, nat_lt, List, [], ◌∷◌, length, codes, ◌==◌, if◌then◌else◌, Option, Some, None}
use Rattle.std.specs.List.{list_all}
use Rattle.std.specs.Str.{bytes_eq}
use Rattle.oftp_wire.specs.Octets.{part, is_digit}
use Rattle.oftp_codec.specs.Form.{Form, Name, Digits, OneOf, DigitsIf, Any, Reserved, Return, Utf8, size, allows}
use Rattle.oftp_codec.specs.Tables.{zero16}
use Rattle.oftp_telling.specs.declared.kind.CommandKind.{CommandKind}
use Rattle.oftp_telling.specs.declared.kind.CommandKind.TheVariants as kinds
use Rattle.oftp_telling.specs.Names.{Entry}
use Rattle.oftp_conformance.specs.declared.form_rule.FormRule.{FormRule}
use Rattle.oftp_conformance.specs.declared.form_rule.FormRule.TheVariants as rules
use Rattle.oftp_conformance.specs.declared.forms.TheConstants.{OLD_END, OLD_RESPONSE}

-- ---- fields

-- whether a field has the length of a hash or of a signature (RFC 5024, sections 5.3.13 and 5.3.14)
abbrev pub is_hash_length : List ℕ → Bool
is_hash_length name = bytes_eq name (codes "EERPHSHL") || bytes_eq name (codes "NERPHSHL")

-- whether a field has the length of a signature, where there is no hash
abbrev pub is_signature_length : List ℕ → Bool
is_signature_length name = bytes_eq name (codes "EERPSIGL") || bytes_eq name (codes "NERPSIGL")

-- how many octets a hash has, of whose length these are the octets
abbrev pub length16 : List ℕ → ℕ
length16 [] = 0
length16 (high ∷ []) = 0
length16 (high ∷ low ∷ rest) = high * 256 + low

-- the rule of a response with a hash: whether the length of its signature, behind the hash, is 0
abbrev pub hash_rule : List ℕ → FormRule
hash_rule w = if bytes_eq w zero16 then rules.HashAlone else rules.Signed

-- the rule that octets break which aren't of the field's form: a word, or a letter
abbrev pub word_rule : List ℕ → List ℕ → FormRule
word_rule name w =
    if bytes_eq name (codes "SSRMMSG") then rules.Greeting else (
    if bytes_eq name (codes "SSIDAUTH") && bytes_eq w (codes " ") then rules.OldLevel else rules.Letter)

-- the rule that octets break which aren't of the field's form
abbrev pub form_rule : Entry → Form → List ℕ → FormRule
form_rule e (Name n) w = rules.Characters
form_rule e (Digits n) w = rules.Digits
form_rule e (DigitsIf b n) w = if list_all is_digit w then rules.Records else rules.Digits
form_rule e (OneOf n ws) w = word_rule e.name w
form_rule e Return w = rules.Return
form_rule e (Utf8 n) w = rules.Utf8
form_rule e (Reserved n) w = rules.Letter
form_rule e (Any n) w = rules.Letter

-- the rule that a command breaks which ends within a field; some lengths are those of OFTP 1
abbrev pub cut_rule : CommandKind → ℕ → FormRule
cut_rule kinds.Esid n = if n == OLD_END then rules.OldEnd else rules.Short
cut_rule kinds.Eerp n = if n == OLD_RESPONSE then rules.OldResponse else rules.Short
cut_rule _ n = rules.Short

-- the rule that a field breaks which is whole
abbrev pub whole_rule : Entry → List ℕ → List ℕ → Option FormRule
whole_rule e w o =
    if allows e.form w then None else (
    if is_hash_length e.name then Some (hash_rule (part (e.at + 2 + length16 w) 2 o)) else (
    if is_signature_length e.name then (if bytes_eq (part (e.at - 2) 2 o) zero16 then Some rules.Signed else None) else
    Some (form_rule e e.form w)))

-- the rule on its form that a field of a command breaks, if it does; the command may have ended before it, or within it
unfoldable pub broken_form : CommandKind → Entry → List ℕ → Option FormRule
broken_form k e o =
    if nat_lt (length o) e.at then None else (
    if nat_lt (length o) (e.at + size e.form) then Some (cut_rule k (length o)) else
    whole_rule e (part e.at (size e.form) o) o)

-- ---- the end

-- whether octets behind the last field are those of a hash and a signature
abbrev pub has_trailer : CommandKind → ℕ → List ℕ → Bool
has_trailer kinds.Eerp end o = not (bytes_eq (part (end - 4) 4 o) (0 ∷ 0 ∷ 0 ∷ 0 ∷ []))
has_trailer kinds.Nerp end o = not (bytes_eq (part (end - 4) 4 o) (0 ∷ 0 ∷ 0 ∷ 0 ∷ []))
has_trailer _ end o = false

-- whether octets are left behind the last field
abbrev pub is_long : CommandKind → ℕ → List ℕ → Bool
is_long k end o = nat_lt end (length o) && not (has_trailer k end o)
