-- The command lines of `status`, `health` and `settled`, which tell how the station and its files stand.
use Rattle.std.specs.Prelude.{ℕ, Bool, List, [], ◌∷◌, codes}
use Rattle.clap.specs.Words.{App, Row, Rule, Text}
use Rattle.oftp_command_line.specs.Arguments.{app_with, defaulted, flag, given, has_flag, number, numbered, own_database}
use Rattle.oftp_command_line.specs.declared.line.arguments.TheConstants.{MOST_HOURS}
use Rattle.oftp_command_line.specs.declared.line.commands.standings.Health.{Health}
use Rattle.oftp_command_line.specs.declared.line.commands.standings.Status.{Status}

-- the options of `status`
pub record StatusSaid : Type 0 where
  pub database : Text
  pub json : Bool

-- those of the command that was read
abbrev pub status_said : Status → StatusSaid
status_said s = record { database = s.database.now; json = s.json }

-- the declaration of `status` to the parser
unfoldable pub status_app : App
status_app = app_with (codes "status") (own_database ∷ flag (codes "json") ∷ [])

-- the command `status` with these values
abbrev pub status_with : List Row → StatusSaid
status_with rows = record { database = given (codes "db") rows; json = has_flag (codes "json") rows }

-- the options of `health`
pub record HealthSaid : Type 0 where
  pub database : Text
  pub warn : ℕ
  pub critical : ℕ

-- those of the command that was read
abbrev pub health_said : Health → HealthSaid
health_said h = record { database = h.database.now; warn = h.warn; critical = h.critical }

-- an option for hours
abbrev pub own_hours : Text → Text → Rule
own_hours id hours = numbered 0 MOST_HOURS (defaulted id hours)

-- the declaration of `health` to the parser
unfoldable pub health_app : App
health_app = app_with (codes "health") (own_database ∷ own_hours (codes "warn") (codes "24") ∷ own_hours (codes "critical") (codes "48") ∷ [])

-- the command `health` with these values
abbrev pub health_with : List Row → HealthSaid
health_with rows = record {
  database = given (codes "db") rows;
  warn = number (codes "warn") rows;
  critical = number (codes "critical") rows;
}

-- the declaration of `settled` to the parser
abbrev pub settled_app : App
settled_app = app_with (codes "settled") (own_database ∷ [])
