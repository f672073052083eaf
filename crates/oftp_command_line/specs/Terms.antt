-- The options that services over sockets share: where they listen, and the limits of sessions.
use Rattle.std.specs.Prelude.{ℕ, List, Option, codes, option_map}
use Rattle.clap.specs.Words.{Row, Text, first_of}
use Rattle.oftp_command_line.specs.Arguments.{given, number}
use Rattle.oftp_command_line.specs.declared.line.commands.terms.Entrance.{Entrance}
use Rattle.oftp_command_line.specs.declared.line.commands.terms.SessionTerms.{SessionTerms}

-- where a service listens, and how long a caller has to be admitted
pub record EntranceSaid : Type 0 where
  pub port : ℕ
  pub address : Text
  pub admission : ℕ

-- those that were read
abbrev pub entrance_said : Entrance → EntranceSaid
entrance_said e = record { port = e.port; address = e.address.now; admission = e.admission }

-- those with these values
abbrev pub entrance_with : List Row → EntranceSaid
entrance_with rows = record {
  port = number (codes "port") rows;
  address = given (codes "address") rows;
  admission = number (codes "admission") rows;
}

-- the limits and the trace of sessions
pub record TermsSaid : Type 0 where
  pub patience : ℕ
  pub longest : ℕ
  pub trace : Option Text

-- those that were read
abbrev pub terms_said : SessionTerms → TermsSaid
terms_said t = record { patience = t.patience; longest = t.longest; trace = option_map (λ s. s.now) t.trace }

-- those with these values
abbrev pub terms_with : List Row → TermsSaid
terms_with rows = record {
  patience = number (codes "patience") rows;
  longest = number (codes "longest") rows;
  trace = first_of (codes "trace") rows;
}
