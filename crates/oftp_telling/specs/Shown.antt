-- How octets of a partner are shown: what can be seen as it is, all else as an escape.
use Rattle.std.specs.Prelude.{ℕ, ◌/◌, ◌%◌, Bool, true, false, ◌&&◌, ◌||◌, not, nat_le, List, ◌++◌, codes, encode_utf8, ◌==◌, if◌then◌else◌}
use Rattle.std.specs.List.{flat_map}
use Rattle.std.specs.Str.{chars, is_utf8}
use Rattle.std.specs.Fmt.{digits}
use Rattle.ucd_category.specs.GeneralCategory.{general_category}
use Rattle.ucd_category.specs.declared.GeneralCategory.{GeneralCategory}
use Rattle.ucd_category.specs.declared.GeneralCategory.TheVariants as categories
use Rattle.ucd_derived.specs.Binary.{is_default_ignorable_code_point}

-- whether characters of a general category can be seen; of the spaces only U+0020
abbrev pub is_seen_in : GeneralCategory → ℕ → Bool
is_seen_in categories.SpaceSeparator c = c == 32
is_seen_in categories.LineSeparator c = false
is_seen_in categories.ParagraphSeparator c = false
is_seen_in categories.Control c = false
is_seen_in categories.Format c = false
is_seen_in categories.Surrogate c = false
is_seen_in categories.PrivateUse c = false
is_seen_in categories.Unassigned c = false
is_seen_in _ c = true

-- whether a character can be seen: by its general category, and not if programs that show texts may leave it out
unfoldable pub is_seen : ℕ → Bool
is_seen c = is_seen_in (general_category c) c && not (is_default_ignorable_code_point c)

-- a character between quotes
unfoldable pub shown_char : ℕ → List ℕ
shown_char c = if c == 34 || c == 92 then codes "\\" ++ encode_utf8 c else (if is_seen c then encode_utf8 c else codes "\\u{" ++ (digits 16 false c ++ codes "}"))

-- an octet in hexadecimal
unfoldable pub hex_octet : ℕ → List ℕ
hex_octet b = digits 16 false (b / 16) ++ digits 16 false (b % 16)

-- whether an octet is a character of ASCII that stands for itself between quotes
abbrev pub is_plain : ℕ → Bool
is_plain b = ((nat_le 32 b && nat_le b 126) && not (b == 34)) && not (b == 92)

-- an octet between quotes, where the octets aren't UTF-8
unfoldable pub shown_octet : ℕ → List ℕ
shown_octet b = if is_plain b then encode_utf8 b else codes "\\x" ++ hex_octet b

-- octets in hexadecimal
abbrev pub hex_text : List ℕ → List ℕ
hex_text w = flat_map hex_octet w

-- octets in hexadecimal, in brackets
unfoldable pub hexadecimal_text : List ℕ → List ℕ
hexadecimal_text w = codes " (hexadecimal " ++ (hex_text w ++ codes ")")

-- characters between quotes
abbrev pub shown_chars : List ℕ → List ℕ
shown_chars cs = flat_map shown_char cs

-- octets between quotes: characters, or octets where they aren't UTF-8
unfoldable pub shown : List ℕ → List ℕ
shown w = if is_utf8 w then shown_chars (chars w) else flat_map shown_octet w

-- octets in quotes
unfoldable pub quoted : List ℕ → List ℕ
quoted w = codes "\"" ++ (shown w ++ codes "\"")
