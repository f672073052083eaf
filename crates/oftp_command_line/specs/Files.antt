-- The files that most commands name.
use Rattle.std.specs.Prelude.{List, Option, codes, option_map}
use Rattle.clap.specs.Words.{Row, Text, first_of}
use Rattle.oftp_command_line.specs.Arguments.{given}
use Rattle.oftp_command_line.specs.declared.line.commands.files.Files.{Files}

-- the database, the book, the file of the events, and the folder of the record
pub record FilesSaid : Type 0 where
  pub database : Text
  pub book : Text
  pub events : Option Text
  pub «record» : Option Text

-- those of the files that were read
abbrev pub files_said : Files → FilesSaid
files_said f = record {
  database = f.database.now;
  book = f.book.now;
  events = option_map (λ s. s.now) f.events;
  «record» = option_map (λ s. s.now) f.«record»;
}

-- the files with these values
abbrev pub files_with : List Row → FilesSaid
files_with rows = record {
  database = given (codes "db") rows;
  book = given (codes "book") rows;
  events = first_of (codes "events") rows;
  «record» = first_of (codes "record") rows;
}
