-- Which texts match a pattern.
use Rattle.std.specs.Prelude.{ℕ, Bool, List, [], ◌∷◌, false, true, if◌then◌else◌, ◌==◌, ◌||◌}
use Rattle.oftp_filters.specs.declared.pattern.TheConstants.{ANY, ONE}

-- an ending of the text has the property: the text itself, what comes behind its first octet, and so on, up to the empty one
abbrev pub an_ending : (List ℕ → Bool) → List ℕ → Bool
an_ending has [] = has []
an_ending has (octet ∷ text) = has (octet ∷ text) || an_ending has text

-- the first octet is as the sign says, and what comes behind it has the property
abbrev pub begins_with : ℕ → (List ℕ → Bool) → List ℕ → Bool
begins_with sign has [] = false
begins_with sign has (octet ∷ text) = if sign == ONE || sign == octet then has text else false

-- `*` stands for any octets, however many, `?` for one octet, and each other octet for itself
abbrev pub matches : List ℕ → List ℕ → Bool
matches [] [] = true
matches [] (octet ∷ text) = false
matches (sign ∷ pattern) text = if sign == ANY then an_ending (matches pattern) text else begins_with sign (matches pattern) text
