-- The order of the entries of a record, and the texts that name them.
use Rattle.std.specs.Prelude.{◌≡◌, ◌≤◌, ◌^◌, ◌==◌, ◌&&◌, ℕ, List, Option, None, Some, drop, get_or, length, nat_lt, option_and_then, option_map, take, if◌then◌else◌}
use Rattle.std.specs.Char.{is_ascii_digit}
use Rattle.std.specs.List.{list_all}
use Rattle.std.specs.Str.Parse.{digits_value}
use Rattle.oftp_contents.specs.Days.{number_of_day}
use Rattle.oftp_contents.specs.declared.places.EntryPlace.{EntryPlace}
use Rattle.oftp_contents.specs.declared.places.RecordPart.{RecordPart}

-- an entry is this one or before it: its day isn't later, and on the same day its number isn't greater
pub record IsUpTo (place last : EntryPlace) : Type 0 where
  pub day : place.day ≤ last.day
  pub number : place.day ≡ last.day → place.number ≤ last.number

-- the number of an entry that a text is: one digit or more, of a number of 64 bits
unfoldable pub entry_number : List ℕ → Option ℕ
entry_number text = if nat_lt 0 (length text) && (list_all is_ascii_digit text && nat_lt (digits_value 10 text) (2 ^ 64)) then Some (digits_value 10 text) else None

-- the place of the entry with this number, on a day
abbrev pub place_on : Option ℕ → ℕ → Option EntryPlace
place_on number day = option_map (λ number. record { day = day; number = number }) number

-- the place that a text names: the eight digits of a day, a colon, and the number
unfoldable pub place_of : List ℕ → Option EntryPlace
place_of text = if get_or text 8 0 == 58 then option_and_then (place_on (entry_number (drop 9 text))) (number_of_day (take 8 text)) else None

-- the place that a text names, if there is one; `None` if that is no place
abbrev pub place_named : Option (List ℕ) → Option (Option EntryPlace)
place_named None = Some None
place_named (Some text) = option_map Some (place_of text)

-- the part of a record with no first entry named, and no last one
abbrev pub whole_part : RecordPart
whole_part = record { from = None; to = None }

-- the part between two places, each named or not
abbrev pub part_between : Option (Option EntryPlace) → Option (Option EntryPlace) → Option RecordPart
part_between None to = None
part_between (Some from) None = None
part_between (Some from) (Some to) = Some (record { from = from; to = to })

-- the part that two texts name, each if there is one
abbrev pub part_of : Option (List ℕ) → Option (List ℕ) → Option RecordPart
part_of from to = part_between (place_named from) (place_named to)
