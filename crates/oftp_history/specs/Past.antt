-- What a line tells of an event, and of which file.
use Rattle.std.specs.Prelude.{ℕ, Bool, false, ◌==◌, ◌&&◌, if◌then◌else◌, List, length, nat_lt, Option, None, Some, is_some, codes, option_and_then, unwrap_or, String, string_bytes}
use Rattle.std.specs.List.{list_any}
use Rattle.std.specs.Str.{bytes_eq, is_utf8}
use Rattle.std.specs.declared.alloc.Global.{Global}
use Rattle.serde_json.specs.Data.{Data, null}
use Rattle.serde_json.specs.Read.{read}
use Rattle.oftp_events.specs.Events.{direction_text}
use Rattle.oftp_events.specs.declared.direction.Direction.{Direction}
use Rattle.oftp_history.specs.Values.{number_at, text_at}
use Rattle.oftp_history.specs.declared.past.TheConstants.{LONGEST_LINE}

-- an event that a line tells: the line
pub record Past : Type 0 where
  pub text : List ℕ

abbrev pub past_of : String Global → Past
past_of line = record { text = string_bytes line }

-- the value of JSON that its line is
abbrev pub past_value : Past → Data
past_value p = unwrap_or (read p.text) null

-- the value has a time and the words of an event
abbrev pub is_event : Data → Bool
is_event value = is_some (text_at (codes "at") value) && is_some (text_at (codes "event") value)

-- the event of a line with this value, if that is an event's
abbrev pub past_with : List ℕ → Data → Option Past
past_with line value = if is_event value then Some (record { text = line }) else None

-- a line as a text: one that isn't too long, and is UTF-8
abbrev pub line_in : List ℕ → Option (List ℕ)
line_in line = if nat_lt LONGEST_LINE (length line) then None else (if is_utf8 line then Some line else None)

-- the event of a text that is a value of JSON with a time and the words of an event
abbrev pub past_of_text : List ℕ → Option Past
past_of_text text = option_and_then (past_with text) (read text)

-- the event of a line
abbrev pub past_in : List ℕ → Option Past
past_in line = option_and_then past_of_text (line_in line)

-- both texts are there and the same
abbrev pub is_same : Option (List ℕ) → Option (List ℕ) → Bool
is_same None other = false
is_same (Some text) None = false
is_same (Some text) (Some other) = bytes_eq text other

-- both events have this text
abbrev pub has_same : List ℕ → Past → Past → Bool
has_same key p q = is_same (text_at key (past_value p)) (text_at key (past_value q))

-- both tell of a file with the same dataset name, date, time and stations
abbrev pub has_same_name : Past → Past → Bool
has_same_name p q = has_same (codes "dataset") p q && (has_same (codes "date") p q && (has_same (codes "time") p q
    && (has_same (codes "originator") p q && has_same (codes "destination") p q)))

-- the event is of a file that goes this way
abbrev pub has_way : Direction → Past → Bool
has_way way p = is_same (text_at (codes "way") (past_value p)) (Some (direction_text way))

-- its number is this one; where it tells none, it has the name of one of these events
abbrev pub has_number : ℕ → List Past → Past → Option ℕ → Bool
has_number n events p None = list_any (has_same_name p) events
has_number n events p (Some other) = other == n

-- the event is of the file that goes this way under this number, and of which these events told before
abbrev pub is_about : Direction → ℕ → List Past → Past → Bool
is_about way n events p = has_way way p && has_number n events p (number_at (codes "no") (past_value p))
