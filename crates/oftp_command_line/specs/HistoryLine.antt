-- The command line of `history`, which tells what the events say of a file.
use Rattle.std.specs.Prelude.{ℕ, Bool, true, false, List, [], ◌∷◌, codes}
use Rattle.clap.specs.Words.{App, Row, Text}
use Rattle.oftp_command_line.specs.Arguments.{app_with, file_number, flag, given, has_flag, needed, number}
use Rattle.oftp_command_line.specs.declared.line.commands.history.History.{History}
use Rattle.oftp_command_line.specs.declared.line.commands.history.Ways.{Ways}
use Rattle.oftp_command_line.specs.declared.line.commands.history.Ways.TheVariants.{In, Out, Both}

-- the options and words of `history`
pub record HistorySaid : Type 0 where
  pub events : Text
  pub ways : Ways
  pub json : Bool
  pub no : ℕ

-- those of the command that was read
abbrev pub history_said : History → HistorySaid
history_said h = record { events = h.events.now; ways = h.ways; json = h.json; no = h.no }

-- the declaration of `history` to the parser
unfoldable pub history_app : App
history_app = app_with (codes "history") (needed (codes "events") ∷ flag (codes "in") ∷ flag (codes "out") ∷ flag (codes "json") ∷ file_number ∷ [])

-- the ways that are asked for: one by its own option alone, else both
abbrev pub ways_of : Bool → Bool → Ways
ways_of true false = In
ways_of false true = Out
ways_of true true = Both
ways_of false false = Both

-- the command `history` with these values
abbrev pub history_with : List Row → HistorySaid
history_with rows = record {
  events = given (codes "events") rows;
  ways = ways_of (has_flag (codes "in") rows) (has_flag (codes "out") rows);
  json = has_flag (codes "json") rows;
  no = number (codes "no") rows;
}
