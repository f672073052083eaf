-- The text of a partner book as it is read for its passwords: strings behind the key of a password, and the text between them.
use Rattle.std.specs.Prelude.{ℕ, ◌+◌, ◌-◌, ◌*◌, ◌%◌, ◌^◌, ◌==◌, ◌&&◌, ◌||◌, Bool, true, false, List, [], ◌∷◌, ◌++◌, drop, fold, length, nat_le, nat_lt, take, if◌then◌else◌}
use Rattle.oftp_contents.specs.Escapes.{escape_step}
use Rattle.oftp_contents.specs.declared.books.BookPlace.{BookPlace}
use Rattle.oftp_contents.specs.declared.books.BookPlace.TheVariants.{Before, Behind, Closed, Equals, Line, LineBackslash, Lines, LinesBackslash, Opened, OpenedTwice}
use Rattle.oftp_contents.specs.declared.books.KeyLetters.{KeyLetters}
use Rattle.oftp_contents.specs.declared.books.LinesPlace.{LinesPlace}
use Rattle.oftp_contents.specs.declared.books.Quote.{Quote}
use Rattle.oftp_contents.specs.declared.books.Quote.TheVariants.{Double, Single}
use Rattle.oftp_contents.specs.declared.books.TheConstants.{EXPECTS, SENDS}
use Rattle.oftp_contents.specs.declared.escapes.Escape.{Escape}
use Rattle.oftp_contents.specs.declared.escapes.Escape.TheVariants.{Backslash, Outside}
use Rattle.oftp_contents.specs.declared.escapes.EscapeStep.{EscapeStep}
use Rattle.oftp_contents.specs.declared.escapes.EscapeStep.TheVariants.{Begins, Goes, Plain, Spells}

abbrev pub quote_octet : Quote → ℕ
quote_octet Double = 34
quote_octet Single = 39

-- a string of a password has begun, which isn't over
abbrev pub is_string : BookPlace → Bool
is_string (Before letters) = false
is_string Behind = false
is_string Equals = false
is_string (Opened quote) = true
is_string (OpenedTwice quote) = true
is_string (Line quote) = true
is_string LineBackslash = true
is_string (Closed quote) = true
is_string (Lines place) = true
is_string LinesBackslash = true

abbrev pub before : ℕ → Escape → BookPlace
before letters escape = Before (record { letters = letters; escape = escape })

-- a blank, a tab, or a quote (32, 9, 34, 39), which may stand round the letters of a key
abbrev pub is_passed_over : ℕ → Bool
is_passed_over octet = octet == 32 || octet == 9 || octet == 34 || octet == 39

-- the last seven letters are `expects`, or the last five `sends`
abbrev pub is_key : ℕ → Bool
is_key letters = letters == EXPECTS || letters % 2 ^ 40 == SENDS

-- with one letter more, of which the last seven are kept
abbrev pub with_letter : ℕ → ℕ → BookPlace
with_letter letters letter =
    let now = letters % 2 ^ 48 * 256 + letter in
    if is_key now then Behind else before now Outside

abbrev pub by_escape : ℕ → ℕ → EscapeStep → BookPlace
by_escape letters octet Plain = if is_passed_over octet then before letters Outside else with_letter letters octet
by_escape letters octet Begins = before letters Backslash
by_escape letters octet (Goes escape) = before letters escape
by_escape letters octet (Spells letter) = with_letter letters letter

-- an octet before a key, whose letters may be spelled by their numbers
unfoldable pub letters_step : KeyLetters → ℕ → BookPlace
letters_step key octet = by_escape key.letters octet (escape_step key.escape octet)

abbrev pub fresh_step : ℕ → BookPlace
fresh_step octet = letters_step (record { letters = 0; escape = Outside }) octet

-- behind the key, which may go on: an equals sign (61) follows, or a line end (10) or a comma (44) ends what was none
abbrev pub key_step : ℕ → BookPlace
key_step octet = if octet == 61 then Equals else if octet == 10 || octet == 44 then before 0 Outside else Behind

-- behind the equals sign: blanks, and the first quote of a string
abbrev pub equals_step : ℕ → BookPlace
equals_step octet = if octet == 32 || octet == 9 then Equals
    else if octet == 34 then Opened Double
    else if octet == 39 then Opened Single
    else fresh_step octet

-- a backslash (92) has a meaning in double quotes alone
abbrev pub if_double : Quote → BookPlace → BookPlace → BookPlace
if_double Double there other = there
if_double Single there other = other

-- in a string of one line, which ends with its quote, or with the line
abbrev pub line_step : Quote → ℕ → BookPlace
line_step quote octet = if octet == quote_octet quote then Closed quote
    else if octet == 10 then fresh_step octet
    else if octet == 92 then if_double quote LineBackslash (Line quote)
    else Line quote

-- in a string of several lines: it ends with three quotes in a row, before which up to two more may stand
abbrev pub lines_step : LinesPlace → ℕ → BookPlace
lines_step place octet = if octet == quote_octet place.quote && nat_lt place.quotes 5 then Lines (record { quote = place.quote; quotes = place.quotes + 1 })
    else if nat_le 3 place.quotes then fresh_step octet
    else if octet == 92 then if_double place.quote LinesBackslash (Lines (record { quote = place.quote; quotes = 0 }))
    else Lines (record { quote = place.quote; quotes = 0 })

-- where an octet leads
abbrev pub place_step : BookPlace → ℕ → BookPlace
place_step (Before letters) octet = letters_step letters octet
place_step Behind octet = key_step octet
place_step Equals octet = equals_step octet
place_step (Opened quote) octet = if octet == quote_octet quote then OpenedTwice quote else line_step quote octet
place_step (OpenedTwice quote) octet = if octet == quote_octet quote then Lines (record { quote = quote; quotes = 0 }) else fresh_step octet
place_step (Line quote) octet = line_step quote octet
place_step LineBackslash octet = if octet == 10 then fresh_step octet else Line Double
place_step (Closed quote) octet = fresh_step octet
place_step (Lines place) octet = lines_step place octet
place_step LinesBackslash octet = Lines (record { quote = Double; quotes = 0 })

-- the quotes round the string that has begun
abbrev pub quote_of : BookPlace → Quote
quote_of (Before letters) = Double
quote_of Behind = Double
quote_of Equals = Double
quote_of (Opened quote) = quote
quote_of (OpenedTwice quote) = quote
quote_of (Line quote) = quote
quote_of LineBackslash = Double
quote_of (Closed quote) = quote
quote_of (Lines place) = place.quote
quote_of LinesBackslash = Double

-- how many quotes are before the password
abbrev pub opening_quotes : BookPlace → ℕ
opening_quotes (Before letters) = 0
opening_quotes Behind = 0
opening_quotes Equals = 0
opening_quotes (Opened quote) = 1
opening_quotes (OpenedTwice quote) = 1
opening_quotes (Line quote) = 1
opening_quotes LineBackslash = 1
opening_quotes (Closed quote) = 1
opening_quotes (Lines place) = 3
opening_quotes LinesBackslash = 3

-- how many quotes are behind it
abbrev pub closing_quotes : BookPlace → ℕ
closing_quotes (Before letters) = 0
closing_quotes Behind = 0
closing_quotes Equals = 0
closing_quotes (Opened quote) = 0
closing_quotes (OpenedTwice quote) = 1
closing_quotes (Line quote) = 0
closing_quotes LineBackslash = 0
closing_quotes (Closed quote) = 1
closing_quotes (Lines place) = if nat_le 3 place.quotes then place.quotes else 0
closing_quotes LinesBackslash = 0

-- a part of the text, and how far it is read with it: a string with its quotes, or the text before, between and behind such strings
pub record Part : Type 0 where
  pub place : BookPlace
  pub octets : List ℕ

-- the parts that are over, the octets of the next one, and how far the text is read
pub record Reading : Type 0 where
  pub parts : List Part
  pub octets : List ℕ
  pub place : BookPlace

-- a part is over
abbrev pub ended : Reading → Reading
ended r = record { parts = r.parts ++ record { place = r.place; octets = r.octets } ∷ []; octets = []; place = r.place }

-- a part is over where a string begins or is over
abbrev pub ended_before : BookPlace → Reading → Reading
ended_before place r = if is_string r.place then (if is_string place then r else ended r) else (if is_string place then ended r else r)

abbrev pub with_octet : Reading → ℕ → BookPlace → Reading
with_octet r octet place = record { parts = r.parts; octets = r.octets ++ octet ∷ []; place = place }

-- one octet more
unfoldable pub next_read : Reading → ℕ → Reading
next_read r octet = let place = place_step r.place octet in with_octet (ended_before place r) octet place

-- nothing was read
abbrev pub unread : Reading
unread = record { parts = []; octets = []; place = before 0 Outside }

-- the parts of the text of a book
unfoldable pub parts_of : List ℕ → List Part
parts_of text = (ended (fold next_read unread text)).parts

-- a string behind its first quotes
abbrev pub behind_opening : Part → List ℕ
behind_opening part = drop (opening_quotes part.place) part.octets

-- the length of the password
abbrev pub password_length : Part → ℕ
password_length part = length (behind_opening part) - closing_quotes part.place

-- the password as it is written between the quotes
abbrev pub password_in : Part → List ℕ
password_in part = take (password_length part) (behind_opening part)

-- a string with other octets in the place of the password
abbrev pub instead_in : Part → List ℕ → List ℕ
instead_in part other = take (opening_quotes part.place) part.octets ++ (other ++ drop (password_length part) (behind_opening part))
