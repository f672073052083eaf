-- The command lines of `run`, `listen`, `call` and `http`, which are services over sockets, and of `stop`, which ends one.
use Rattle.std.specs.Prelude.{ℕ, Bool, List, [], ◌∷◌, Option, codes, option_map}
use Rattle.clap.specs.Words.{App, Row, Text, first_of}
use Rattle.oftp_command_line.specs.Arguments.{app_with, callers, flag, given, has_flag, needed, number, own_address, own_admission, own_book, own_database, own_duration, own_events, own_host, own_http_port, own_interval, own_jobs, own_patience, own_port, own_record, own_record_sync, own_trace}
use Rattle.oftp_command_line.specs.Files.{FilesSaid, files_said, files_with}
use Rattle.oftp_command_line.specs.RecordLines.{record_sync_of}
use Rattle.oftp_command_line.specs.Terms.{EntranceSaid, TermsSaid, entrance_said, entrance_with, terms_said, terms_with}
use Rattle.oftp_command_line.specs.declared.line.commands.recording.RecordSync.{RecordSync}
use Rattle.oftp_command_line.specs.declared.line.commands.services.Call.{Call}
use Rattle.oftp_command_line.specs.declared.line.commands.services.Http.{Http}
use Rattle.oftp_command_line.specs.declared.line.commands.services.Listen.{Listen}
use Rattle.oftp_command_line.specs.declared.line.commands.services.Run.{Run}
use Rattle.oftp_command_line.specs.declared.line.commands.services.Stop.{Stop}

-- the options of `run`
pub record RunSaid : Type 0 where
  pub files : FilesSaid
  pub entrance : EntranceSaid
  pub http_port : ℕ
  pub host : Option Text
  pub interval : ℕ
  pub terms : TermsSaid
  pub jobs : ℕ
  pub sync : RecordSync

-- those of the command that was read
abbrev pub run_said : Run → RunSaid
run_said r = record {
  files = files_said r.files;
  entrance = entrance_said r.entrance;
  http_port = r.http_port;
  host = option_map (λ s. s.now) r.host;
  interval = r.interval;
  terms = terms_said r.terms;
  jobs = r.jobs;
  sync = r.sync;
}

-- the declaration of `run` to the parser
unfoldable pub run_app : App
run_app = app_with (codes "run") (own_database ∷ own_book ∷ own_port (codes "3305") ∷ own_address ∷ own_http_port
    ∷ own_host ∷ own_interval ∷ own_admission ∷ own_patience ∷ own_duration ∷ own_trace ∷ own_events ∷ own_record
    ∷ own_record_sync ∷ own_jobs ∷ [])

-- the command `run` with these values, and a record that is synced or not
abbrev pub run_with : RecordSync → List Row → RunSaid
run_with sync rows = record {
  files = files_with rows;
  entrance = entrance_with rows;
  http_port = number (codes "http-port") rows;
  host = first_of (codes "host") rows;
  interval = number (codes "call-every") rows;
  terms = terms_with rows;
  jobs = number (codes "jobs") rows;
  sync = sync;
}

-- the command `run` with these values; `None` if they don't say whether its record is synced
abbrev pub run_in : List Row → Option RunSaid
run_in rows = option_map (λ sync. run_with sync rows) (record_sync_of (given (codes "record-sync") rows))

-- the options of `stop`
pub record StopSaid : Type 0 where
  pub database : Text
  pub now : Bool

-- those of the command that was read
abbrev pub stop_said : Stop → StopSaid
stop_said s = record { database = s.database.now; now = s.now }

-- the declaration of `stop` to the parser
unfoldable pub stop_app : App
stop_app = app_with (codes "stop") (own_database ∷ flag (codes "now") ∷ [])

-- the command `stop` with these values
abbrev pub stop_with : List Row → StopSaid
stop_with rows = record { database = given (codes "db") rows; now = has_flag (codes "now") rows }

-- the options of `listen`
pub record ListenSaid : Type 0 where
  pub files : FilesSaid
  pub entrance : EntranceSaid
  pub sessions : ℕ
  pub terms : TermsSaid

-- those of the command that was read
abbrev pub listen_said : Listen → ListenSaid
listen_said l = record {
  files = files_said l.files;
  entrance = entrance_said l.entrance;
  sessions = l.sessions;
  terms = terms_said l.terms;
}

-- the declaration of `listen` to the parser
unfoldable pub listen_app : App
listen_app = app_with (codes "listen") (own_database ∷ own_book ∷ own_port (codes "3305") ∷ own_address
    ∷ callers (codes "sessions") ∷ own_admission ∷ own_patience ∷ own_duration ∷ own_trace ∷ own_events ∷ own_record ∷ [])

-- the command `listen` with these values
abbrev pub listen_with : List Row → ListenSaid
listen_with rows = record {
  files = files_with rows;
  entrance = entrance_with rows;
  sessions = number (codes "sessions") rows;
  terms = terms_with rows;
}

-- the options of `call`
pub record CallSaid : Type 0 where
  pub files : FilesSaid
  pub partner : Text
  pub fails : Bool
  pub terms : TermsSaid

-- those of the command that was read
abbrev pub call_said : Call → CallSaid
call_said c = record {
  files = files_said c.files;
  partner = c.partner.now;
  fails = c.fails;
  terms = terms_said c.terms;
}

-- the declaration of `call` to the parser
unfoldable pub call_app : App
call_app = app_with (codes "call") (own_database ∷ own_book ∷ needed (codes "partner") ∷ flag (codes "fail")
    ∷ own_patience ∷ own_duration ∷ own_trace ∷ own_events ∷ own_record ∷ [])

-- the command `call` with these values
abbrev pub call_with : List Row → CallSaid
call_with rows = record {
  files = files_with rows;
  partner = given (codes "partner") rows;
  fails = has_flag (codes "fail") rows;
  terms = terms_with rows;
}

-- the options of `http`
pub record HttpSaid : Type 0 where
  pub database : Text
  pub port : ℕ
  pub address : Text
  pub requests : ℕ

-- those of the command that was read
abbrev pub http_said : Http → HttpSaid
http_said h = record {
  database = h.database.now;
  port = h.port;
  address = h.address.now;
  requests = h.requests;
}

-- the declaration of `http` to the parser
unfoldable pub http_app : App
http_app = app_with (codes "http") (own_database ∷ own_port (codes "8080") ∷ own_address ∷ callers (codes "requests") ∷ [])

-- the command `http` with these values
abbrev pub http_with : List Row → HttpSaid
http_with rows = record {
  database = given (codes "db") rows;
  port = number (codes "port") rows;
  address = given (codes "address") rows;
  requests = number (codes "requests") rows;
}
