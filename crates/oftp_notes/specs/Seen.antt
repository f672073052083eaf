-- Lines of which each character can be seen.
use Rattle.std.specs.Prelude.{◌≡◌, ℕ, ◌==◌, Bool, true, false, not, ◌&&◌, ◌||◌, nat_le, nat_lt, if◌then◌else◌, List, [], ◌∷◌, ◌++◌, length, codes, encode_utf8, fold}
use Rattle.std.specs.Fmt.{digits}
use Rattle.std.specs.List.{list_all}
use Rattle.std.specs.Str.{chars}
use Rattle.std.specs.Char.Unicode.Alphabetic.{is_alphabetic}
use Rattle.std.specs.Char.Unicode.Numeric.{is_numeric}

-- a character that can be seen: printable and of ASCII, but no backslash; or a letter or a digit of any script
unfoldable pub is_seen : ℕ → Bool
is_seen c = not (c == 92) && ((nat_le 32 c && nat_le c 126) || (nat_le 160 c && (is_alphabetic c || is_numeric c)))

-- a character as it stands in a line: another than one that can be seen as an escape with its number in hexadecimal digits
abbrev pub seen_of : ℕ → List ℕ
seen_of c = if is_seen c then encode_utf8 c else (codes "\\u{" ++ (digits 16 false c ++ codes "}"))

-- a line with one more character, if it has fewer than 2,000 octets
abbrev pub with_seen : List ℕ → ℕ → List ℕ
with_seen line c = if nat_lt (length line) 2000 then line ++ seen_of c else line

-- the line of a text, with its end
abbrev pub seen_line : List ℕ → List ℕ
seen_line text = fold with_seen [] (chars text) ++ codes "\n"

-- octets of which none is below 32, as ASCII's control characters are, and a line feed behind them
abbrev pub IsOneLine : List ℕ → Type 0
IsOneLine octets = (text : List ℕ) × (octets ≡ text ++ codes "\n") × (list_all (nat_le 32) text ≡ true)
