-- The option `record-sync` of `run`, and the command line of `replay`.
use Rattle.std.specs.Prelude.{List, [], ◌∷◌, Option, codes, option_map}
use Rattle.clap.specs.Words.{App, Row, Text, first_of}
use Rattle.oftp_command_line.specs.Arguments.{app_with, given, named, needed, optional, own_database}
use Rattle.oftp_command_line.specs.declared.line.commands.recording.RecordSync.{RecordSync}
use Rattle.oftp_command_line.specs.declared.line.commands.recording.RecordSync.TheVariants.{Synced, Unsynced}
use Rattle.oftp_command_line.specs.declared.line.commands.recording.Replay.{Replay}

-- whether a record is synced, by its name
abbrev pub record_sync_of : Text → Option RecordSync
record_sync_of = named ((codes "yes", Synced) ∷ (codes "no", Unsynced) ∷ [])

-- the options of `replay`
pub record ReplaySaid : Type 0 where
  pub folder : Text
  pub database : Text
  pub book : Option Text
  pub from : Option Text
  pub to : Option Text

-- those of the command that was read
abbrev pub replay_said : Replay → ReplaySaid
replay_said r = record {
  folder = r.folder.now;
  database = r.database.now;
  book = option_map (λ s. s.now) r.book;
  from = option_map (λ s. s.now) r.from;
  to = option_map (λ s. s.now) r.to;
}

-- the declaration of `replay` to the parser
unfoldable pub replay_app : App
replay_app = app_with (codes "replay") (needed (codes "record") ∷ own_database ∷ optional (codes "book")
    ∷ optional (codes "from") ∷ optional (codes "to") ∷ [])

-- the command `replay` with these values
abbrev pub replay_with : List Row → ReplaySaid
replay_with rows = record {
  folder = given (codes "record") rows;
  database = given (codes "db") rows;
  book = first_of (codes "book") rows;
  from = first_of (codes "from") rows;
  to = first_of (codes "to") rows;
}
