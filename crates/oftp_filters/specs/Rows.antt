-- Which rows are told.
use Rattle.std.specs.Prelude.{ℕ, Bool, List, [], ◌∷◌, Option, None, Some, false, true, if◌then◌else◌, length, nat_le, nat_lt, not, slice_get, ◌==◌, ◌&&◌}
use Rattle.std.specs.List.{list_all}
use Rattle.std.specs.Str.{bytes_eq}
use Rattle.oftp_filters.specs.declared.rows.Condition.{Condition}
use Rattle.oftp_filters.specs.declared.rows.Test.{Test}
use Rattle.oftp_filters.specs.declared.rows.Test.TheVariants.{Is, Since}

-- the first text comes before the other one in the order of their octets, and of their lengths where these are the same
abbrev pub is_before : List ℕ → List ℕ → Bool
is_before text [] = false
is_before [] (second ∷ other) = true
is_before (first ∷ text) (second ∷ other) = if first == second then is_before text other else nat_lt first second

-- the field is as the test says
abbrev pub is_met : Test → List ℕ → Bool
is_met (Is text) field = bytes_eq field text.now
is_met (Since text) field = not (is_before field text.now)

-- the field that is there is as the test says
abbrev pub is_met_by : Test → Option (List ℕ) → Bool
is_met_by test None = false
is_met_by test (Some field) = is_met test field

-- a row with these fields meets the condition
abbrev pub meets : List (List ℕ) → Condition → Bool
meets fields condition = is_met_by condition.test (slice_get fields condition.field)

-- 0 to 9
abbrev pub is_digit : ℕ → Bool
is_digit c = nat_le 48 c && nat_le c 57

-- the text is a date stamp (RFC 5024, section 5.3.3), or the beginning of one
abbrev pub begins_date : List ℕ → Bool
begins_date text = nat_le (length text) 8 && list_all is_digit text
