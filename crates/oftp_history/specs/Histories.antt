-- What a file of events, however damaged, tells of one file.
use Rattle.std.specs.Prelude.{ℕ, ◌+◌, ◌-◌, ◌^◌, ◌==◌, if◌then◌else◌, List, [], ◌∷◌, ◌++◌, length, nat_le, fold, min, Option, None, Some}
use Rattle.oftp_events.specs.declared.direction.Direction.{Direction}
use Rattle.oftp_history.specs.Past.{Past, is_about, past_in}
use Rattle.oftp_history.specs.declared.past.TheConstants.{LONGEST_LINE}

-- the file that is asked for, the octets of the line so far, the events of the file, and how many lines were no events
pub record HistoryRead : Type 0 where
  pub way : Direction
  pub no : ℕ
  pub line : List ℕ
  pub events : List Past
  pub passed : ℕ

-- nothing was read
abbrev pub new_history : Direction → ℕ → HistoryRead
new_history way n = record { way = way; no = n; line = []; events = []; passed = 0 }

-- after an event, which is kept if it is of the file, or after a line that is none
abbrev pub with_past : Option Past → HistoryRead → HistoryRead
with_past None h = record h { passed = min (h.passed + 1) (2 ^ 64 - 1) }
with_past (Some p) h = if is_about h.way h.no h.events p then record h { events = h.events ++ p ∷ [] } else h

-- after the end of a line
abbrev pub with_line : HistoryRead → HistoryRead
with_line h = with_past (past_in h.line) (record h { line = [] })

-- with one more octet of a line. Of one that is too long no more than one octet above is kept
abbrev pub with_part : HistoryRead → ℕ → HistoryRead
with_part h octet = if nat_le (length h.line) LONGEST_LINE then record h { line = h.line ++ octet ∷ [] } else h

-- after one more octet: a line feed (10) ends a line
abbrev pub with_octet : HistoryRead → ℕ → HistoryRead
with_octet h octet = if octet == 10 then with_line h else with_part h octet

-- after the end of the octets, which ends a line too
abbrev pub with_end : HistoryRead → HistoryRead
with_end h = if length h.line == 0 then h else with_line h

-- what all octets tell of a file
abbrev pub history_of : Direction → ℕ → List ℕ → HistoryRead
history_of way n octets = with_end (fold with_octet (new_history way n) octets)
