-- The command line of `explain`.
use Rattle.std.specs.Prelude.{ℕ, List, [], ◌∷◌, Option, None, Some, codes, option_map}
use Rattle.clap.specs.Words.{App, Row, Text, first_of}
use Rattle.oftp_command_line.specs.Arguments.{app_with, last_word, optional_number, own_record, own_session}
use Rattle.oftp_command_line.specs.declared.line.commands.explain.Explain.{Explain}
use Rattle.oftp_command_line.specs.declared.line.commands.explain.Explain.TheVariants.{Octets, Recorded}

-- what is explained: the octets of one session, or of a record the sessions with a number; `None` is each session
pub data ExplainSaid : Type 0 where
  of_octets : (input : Text) (output : Option Text) → ExplainSaid
  of_record : (folder : Text) (session : Option ℕ) → ExplainSaid

-- that of the command that was read
abbrev pub explain_said : Explain → ExplainSaid
explain_said (Octets input output) = of_octets input.now (option_map (λ s. s.now) output)
explain_said (Recorded folder session) = of_record folder.now session

-- the declaration of `explain` to the parser
unfoldable pub explain_app : App
explain_app = app_with (codes "explain") (own_record ∷ own_session ∷ last_word (codes "in") ∷ last_word (codes "out") ∷ [])

-- a record, or else what the partner sent, and what the station sent if that is given; `None` if both are named, or neither, or a number of a session
-- without a record
abbrev pub explained_of : Option Text → Option Text → Option Text → Option ℕ → Option ExplainSaid
explained_of (Some folder) None None session = Some (of_record folder session)
explained_of None (Some input) output None = Some (of_octets input output)
explained_of folder input output session = None

-- the command `explain` with these values; `None` if they name no one thing to explain
abbrev pub explain_in : List Row → Option ExplainSaid
explain_in rows =
    explained_of (first_of (codes "record") rows) (first_of (codes "in") rows) (first_of (codes "out") rows) (optional_number (codes "session") rows)
