-- The spelling of a character by its number in the text of a book, and what a record has in the place of a string's characters.
use Rattle.std.specs.Prelude.{◌≡◌, ℕ, ◌+◌, ◌-◌, ◌*◌, ◌==◌, ◌&&◌, ◌||◌, Bool, not, true, List, [], ◌∷◌, ◌++◌, Option, None, Some, fold, map, min, nat_le, if◌then◌else◌}
use Rattle.std.specs.List.{list_all}
use Rattle.oftp_wire.specs.Octets.{is_allowed}
use Rattle.oftp_contents.specs.declared.escapes.Escape.{Escape}
use Rattle.oftp_contents.specs.declared.escapes.Escape.TheVariants.{Backslash, Digits, Outside}
use Rattle.oftp_contents.specs.declared.escapes.EscapeDigits.{EscapeDigits}
use Rattle.oftp_contents.specs.declared.escapes.EscapeStep.{EscapeStep}
use Rattle.oftp_contents.specs.declared.escapes.EscapeStep.TheVariants.{Begins, Goes, Plain, Spells}

-- the number of a hexadecimal digit: 0 to 9, A to F, a to f
abbrev pub hex_value : ℕ → Option ℕ
hex_value c = if nat_le 48 c && nat_le c 57 then Some (c - 48)
    else if nat_le 65 c && nat_le c 70 then Some (c - 55)
    else if nat_le 97 c && nat_le c 102 then Some (c - 87)
    else None

-- a number with one digit more; 255 stands for each greater one, since no character that a password may have is so far behind
abbrev pub with_digit : ℕ → ℕ → ℕ
with_digit value digit = min (value * 16 + digit) 255

-- a backslash (92) begins a spelling, any other octet is a character of its own
abbrev pub begun_by : ℕ → EscapeStep
begun_by octet = if octet == 92 then Begins else Plain

-- behind a backslash: two digits follow an x (120), four a u (117), eight a U (85)
abbrev pub letter_step : ℕ → EscapeStep
letter_step octet = if octet == 120 then Goes (Digits (record { left = 2; value = 0 }))
    else if octet == 117 then Goes (Digits (record { left = 4; value = 0 }))
    else if octet == 85 then Goes (Digits (record { left = 8; value = 0 }))
    else Plain

-- with a digit more it goes on, or is whole with the last one
abbrev pub next_digit : EscapeDigits → ℕ → EscapeStep
next_digit digits digit = if nat_le digits.left 1 then Spells (with_digit digits.value digit)
    else Goes (Digits (record { left = digits.left - 1; value = with_digit digits.value digit }))

abbrev pub if_digit : EscapeDigits → ℕ → Option ℕ → EscapeStep
if_digit digits octet (Some digit) = next_digit digits digit
if_digit digits octet None = begun_by octet

unfoldable pub digit_step : EscapeDigits → ℕ → EscapeStep
digit_step digits octet = if_digit digits octet (hex_value octet)

-- what an octet is, by how far a spelling is read
abbrev pub escape_step : Escape → ℕ → EscapeStep
escape_step Outside octet = begun_by octet
escape_step Backslash octet = letter_step octet
escape_step (Digits digits) octet = digit_step digits octet

-- what a record has for a character of a password: X (88) if a password may have it
unfoldable pub hidden_octet : ℕ → ℕ
hidden_octet octet = if is_allowed octet then 88 else octet

abbrev pub hidden_all : List ℕ → List ℕ → List ℕ
hidden_all before octets = before ++ map hidden_octet octets

-- what a record has of a string so far, what was read of a spelling, and how far that is
pub record Hiding : Type 0 where
  pub done : List ℕ
  pub held : List ℕ
  pub escape : Escape

-- A spelling ends: X is for a character that a password may have. Any other one stays as it is spelled
abbrev pub with_spelled : Hiding → ℕ → ℕ → Hiding
with_spelled h character octet = record {
  done = if is_allowed character then h.done ++ 88 ∷ [] else h.done ++ h.held ++ octet ∷ [];
  held = [];
  escape = Outside;
}

abbrev pub by_step : Hiding → ℕ → EscapeStep → Hiding
by_step h octet Plain = record { done = hidden_all h.done h.held ++ hidden_octet octet ∷ []; held = []; escape = Outside }
by_step h octet Begins = record { done = hidden_all h.done h.held; held = octet ∷ []; escape = Backslash }
by_step h octet (Goes escape) = record { done = h.done; held = h.held ++ octet ∷ []; escape = escape }
by_step h octet (Spells character) = with_spelled h character octet

-- one octet more
unfoldable pub next_hidden : Hiding → ℕ → Hiding
next_hidden h octet = by_step h octet (escape_step h.escape octet)

-- nothing was read
abbrev pub none_hidden : Hiding
none_hidden = record { done = []; held = []; escape = Outside }

-- Each octet of a spelling that isn't whole is a character of its own
abbrev pub all_hidden : Hiding → List ℕ
all_hidden h = hidden_all h.done h.held

-- what a record has in the place of a string in double quotes
unfoldable pub hidden_string : List ℕ → List ℕ
hidden_string octets = all_hidden (fold next_hidden none_hidden octets)

-- a character of a string: its octets, and what they spell by a number, if they do
pub record Character : Type 0 where
  pub octets : List ℕ
  pub spelled : Option ℕ

-- the characters that are whole, what was read of a spelling, and how far that is
pub record Characters : Type 0 where
  pub whole : List Character
  pub held : List ℕ
  pub escape : Escape

abbrev pub plain : ℕ → Character
plain octet = record { octets = octet ∷ []; spelled = None }

-- each octet of a spelling that goes on no more is a character
abbrev pub with_held : Characters → List Character
with_held c = c.whole ++ map plain c.held

abbrev pub character_by_step : Characters → ℕ → EscapeStep → Characters
character_by_step c octet Plain = record { whole = with_held c ++ plain octet ∷ []; held = []; escape = Outside }
character_by_step c octet Begins = record { whole = with_held c; held = octet ∷ []; escape = Backslash }
character_by_step c octet (Goes escape) = record { whole = c.whole; held = c.held ++ octet ∷ []; escape = escape }
character_by_step c octet (Spells character) = record { whole = c.whole ++ record { octets = c.held ++ octet ∷ []; spelled = Some character } ∷ []; held = []; escape = Outside }

unfoldable pub next_character : Characters → ℕ → Characters
next_character c octet = character_by_step c octet (escape_step c.escape octet)

abbrev pub no_characters : Characters
no_characters = record { whole = []; held = []; escape = Outside }

-- the characters of a string in double quotes
unfoldable pub characters_in : List ℕ → List Character
characters_in octets = with_held (fold next_character no_characters octets)

-- What a record has for one. X is for a character that a password may have, and any other one stays as it is written
abbrev pub hidden_number : List ℕ → Option ℕ → List ℕ
hidden_number octets None = map hidden_octet octets
hidden_number octets (Some number) = if is_allowed number then 88 ∷ [] else octets

abbrev pub hidden_character : Character → List ℕ
hidden_character c = hidden_number c.octets c.spelled

-- what is neither a character that a password may have, nor X
abbrev pub is_untold : ℕ → Bool
is_untold octet = octet == 88 || not (is_allowed octet)

-- What a record has of a character doesn't tell which one a password has: no octet is one that it may have but X, and a number of one is replaced by X
abbrev pub TellsNothing : List ℕ → Option ℕ → Type 0
TellsNothing hidden None = list_all is_untold hidden ≡ true
TellsNothing hidden (Some number) = is_allowed number ≡ true → hidden ≡ 88 ∷ []
