-- The command line of `evidence`, which writes a folder of what proves a file's delivery.
use Rattle.std.specs.Prelude.{ℕ, Bool, true, false, List, [], ◌∷◌, Option, None, Some, codes, option_map}
use Rattle.clap.specs.Words.{App, Row, Text}
use Rattle.oftp_register.specs.declared.entries.Side.{Side}
use Rattle.oftp_register.specs.declared.entries.Side.TheVariants.{Incoming, Outgoing}
use Rattle.oftp_command_line.specs.Arguments.{app_with, file_number, flag, given, has_flag, needed, number, own_database}
use Rattle.oftp_command_line.specs.declared.line.commands.evidence.Evidence.{Evidence}

-- the options and words of `evidence`
pub record EvidenceSaid : Type 0 where
  pub folder : Text
  pub database : Text
  pub side : Side
  pub no : ℕ
  pub to : Text

-- those of the command that was read
abbrev pub evidence_said : Evidence → EvidenceSaid
evidence_said e = record { folder = e.folder.now; database = e.database.now; side = e.side; no = e.no; to = e.to.now }

-- the declaration of `evidence` to the parser
unfoldable pub evidence_app : App
evidence_app = app_with (codes "evidence") (needed (codes "record") ∷ own_database ∷ flag (codes "in") ∷ flag (codes "out") ∷ needed (codes "to")
    ∷ file_number ∷ [])

-- which way the file goes, by one of the two options alone
abbrev pub side_of : Bool → Bool → Option Side
side_of true false = Some Incoming
side_of false true = Some Outgoing
side_of true true = None
side_of false false = None

-- the command `evidence` with these values, for a file that goes this way
abbrev pub evidence_with : List Row → Side → EvidenceSaid
evidence_with rows side = record {
  folder = given (codes "record") rows;
  database = given (codes "db") rows;
  side = side;
  no = number (codes "no") rows;
  to = given (codes "to") rows;
}

-- the command `evidence` with these values; `None` if they don't say which way the file goes, or say both
abbrev pub evidence_in : List Row → Option EvidenceSaid
evidence_in rows = option_map (evidence_with rows) (side_of (has_flag (codes "in") rows) (has_flag (codes "out") rows))
