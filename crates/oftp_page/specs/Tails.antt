-- Which lines at the end of the events the page is told.
use Rattle.std.specs.Prelude.{ℕ, List, [], ◌∷◌, ◌+◌, ◌-◌, drop, if◌then◌else◌, length, nat_le, ◌==◌}
use Rattle.oftp_page.specs.declared.tail.TheConstants.{LINE_FEED, MOST_OF_EVENTS}

-- what stands behind the first line feed; nothing if there is none
abbrev pub behind_line : List ℕ → List ℕ
behind_line [] = []
behind_line (octet ∷ text) = if octet == LINE_FEED then text else behind_line text

-- an octet before lines; before none it stays only if it ends one
abbrev pub before_lines : ℕ → List ℕ → List ℕ
before_lines octet [] = if octet == LINE_FEED then octet ∷ [] else []
before_lines octet (first ∷ lines) = octet ∷ first ∷ lines

-- the text up to its last line feed, with that; nothing if there is none
abbrev pub ended_lines : List ℕ → List ℕ
ended_lines [] = []
ended_lines (octet ∷ text) = before_lines octet (ended_lines text)

-- the last octets of a text, so many at most
abbrev pub last_octets : ℕ → List ℕ → List ℕ
last_octets most text = drop (length text - most) text

-- The whole lines among the last octets of a file, as many of these as are told at most. The octet before them tells whether a line begins
-- with the first.
abbrev pub lines_told : List ℕ → List ℕ
lines_told file =
    ended_lines (if nat_le (length file) MOST_OF_EVENTS then file else behind_line (last_octets (MOST_OF_EVENTS + 1) file))
