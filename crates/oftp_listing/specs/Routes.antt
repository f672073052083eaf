-- The route of a request's target.
use Rattle.std.specs.Prelude.{ℕ, ◌==◌, ◌&&◌, Bool, false, not, nat_le, if◌then◌else◌, List, [], ◌∷◌, codes, length, Option, Some, None}
use Rattle.std.specs.List.{list_all}
use Rattle.std.specs.Option.{option_map}
use Rattle.oftp_wire.specs.Octets.{is_digit, number}
use Rattle.oftp_listing.specs.declared.route.TheConstants.{MOST_DIGITS}
use Rattle.oftp_listing.specs.declared.route.Route.{Route}
use Rattle.oftp_listing.specs.declared.route.Route.TheVariants.{Incoming, IncomingFile, Outgoing, OutgoingFile, Responses}

-- the text doesn't begin with 0
abbrev pub is_unpadded : List ℕ → Bool
is_unpadded [] = false
is_unpadded (c ∷ text) = not (c == 48)

-- the number that a text of digits without a leading zero stands for, unless it is empty or they are too many
unfoldable pub number_of : List ℕ → Option ℕ
number_of text = if is_unpadded text && (nat_le (length text) MOST_DIGITS && list_all is_digit text) then Some (number text) else None

-- the rest of the text after a word, if it begins with that word
abbrev pub behind : List ℕ → List ℕ → Option (List ℕ)
behind [] text = Some text
behind (c ∷ word) [] = None
behind (c ∷ word) (x ∷ text) = if c == x then behind word text else None

-- all of a table, or, after a slash, one entry by its number
abbrev pub table_at : Route → (ℕ → Route) → Option (List ℕ) → Option Route
table_at all one None = None
table_at all one (Some []) = Some all
table_at all one (Some (c ∷ text)) = if c == 47 then option_map one (number_of text) else None

-- a table that is only shown as a whole
abbrev pub whole_at : Route → Option (List ℕ) → Option Route
whole_at all None = None
whole_at all (Some []) = Some all
whole_at all (Some (c ∷ text)) = None

-- the first one that exists
abbrev pub either : Option Route → Option Route → Option Route
either None other = other
either (Some route) other = Some route

-- the route of a target: /in, /in/{id}, /out, /out/{id} or /responses
unfoldable pub route_at : List ℕ → Option Route
route_at target =
    either (table_at Incoming IncomingFile (behind (codes "/in") target))
    (either (table_at Outgoing OutgoingFile (behind (codes "/out") target))
    (whole_at Responses (behind (codes "/responses") target)))
