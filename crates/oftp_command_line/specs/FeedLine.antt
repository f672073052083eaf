-- The command line of `feed`.
use Rattle.std.specs.Prelude.{Bool, List, [], ◌∷◌, Option, None, Some, codes, false, if◌then◌else◌, option_map, true}
use Rattle.clap.specs.Words.{App, Row, Text, first_of}
use Rattle.oftp_command_line.specs.Arguments.{app_with, defaulted, given, named, optional, own_book, own_record, own_trace, word}
use Rattle.oftp_command_line.specs.declared.line.commands.feed.Feed.{Feed}
use Rattle.oftp_command_line.specs.declared.line.commands.feed.FeedRole.{FeedRole}
use Rattle.oftp_command_line.specs.declared.line.commands.feed.FeedRole.TheVariants.{Initiator, Responder}

-- the options and words of `feed`
pub record FeedSaid : Type 0 where
  pub database : Option Text
  pub book : Text
  pub role : FeedRole
  pub partner : Option Text
  pub trace : Option Text
  pub «record» : Option Text
  pub input : Text
  pub output : Text

-- those of the command that was read
abbrev pub feed_said : Feed → FeedSaid
feed_said f = record {
  database = option_map (λ s. s.now) f.database;
  book = f.book.now;
  role = f.role;
  partner = option_map (λ s. s.now) f.partner;
  trace = option_map (λ s. s.now) f.trace;
  «record» = option_map (λ s. s.now) f.«record»;
  input = f.input.now;
  output = f.output.now;
}

-- the declaration of `feed` to the parser
unfoldable pub feed_app : App
feed_app = app_with (codes "feed") (optional (codes "db") ∷ own_book ∷ defaulted (codes "role") (codes "responder")
    ∷ optional (codes "partner") ∷ own_trace ∷ own_record ∷ word (codes "in") ∷ word (codes "out") ∷ [])

-- the side with this name
abbrev pub side_of : Text → Option FeedRole
side_of = named ((codes "responder", Responder) ∷ (codes "initiator", Initiator) ∷ [])

-- a record needs a database: of a register in memory nothing is left
abbrev pub may_record : Option Text → Option Text → Bool
may_record None (Some folder) = false
may_record database folder = true

-- the command `feed` with these values, on a side
abbrev pub feed_with : FeedRole → List Row → FeedSaid
feed_with role rows = record {
  database = first_of (codes "db") rows;
  book = given (codes "book") rows;
  role = role;
  partner = first_of (codes "partner") rows;
  trace = first_of (codes "trace") rows;
  «record» = first_of (codes "record") rows;
  input = given (codes "in") rows;
  output = given (codes "out") rows;
}

-- the command `feed` with these values; `None` if they name no side, or a record without a database
abbrev pub feed_in : List Row → Option FeedSaid
feed_in rows = if may_record (first_of (codes "db") rows) (first_of (codes "record") rows)
    then option_map (λ role. feed_with role rows) (side_of (given (codes "role") rows))
    else None
