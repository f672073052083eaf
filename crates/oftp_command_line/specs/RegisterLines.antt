-- The command lines of `fetch`, `report`, `backup` and `audit`, which read the database.
use Rattle.std.specs.Prelude.{ℕ, Bool, List, [], ◌∷◌, Option, codes, option_map}
use Rattle.clap.specs.Words.{App, Row, Text, first_of}
use Rattle.oftp_listing.specs.declared.reports.ReportKind.{ReportKind}
use Rattle.oftp_listing.specs.declared.reports.ReportKind.TheVariants.{Incoming, Outgoing, Issued, Received}
use Rattle.oftp_command_line.specs.Arguments.{app_with, file_number, flag, given, has_flag, named, number, optional, own_database, own_events, own_record, word}
use Rattle.oftp_command_line.specs.declared.line.commands.audit.Audit.{Audit}
use Rattle.oftp_command_line.specs.declared.line.commands.registers.Backup.{Backup}
use Rattle.oftp_command_line.specs.declared.line.commands.registers.Fetch.{Fetch}
use Rattle.oftp_command_line.specs.declared.line.commands.registers.Report.{Report}

-- the options and words of `fetch`
pub record FetchSaid : Type 0 where
  pub database : Text
  pub no : ℕ
  pub file : Text

-- those of the command that was read
abbrev pub fetch_said : Fetch → FetchSaid
fetch_said f = record { database = f.database.now; no = f.no; file = f.file.now }

-- the declaration of `fetch` to the parser
unfoldable pub fetch_app : App
fetch_app = app_with (codes "fetch") (own_database ∷ file_number ∷ word (codes "file") ∷ [])

-- the command `fetch` with these values
abbrev pub fetch_with : List Row → FetchSaid
fetch_with rows = record {
  database = given (codes "db") rows;
  no = number (codes "no") rows;
  file = given (codes "file") rows;
}

-- the options and words of `report`
pub record ReportSaid : Type 0 where
  pub database : Text
  pub kind : ReportKind
  pub state : Option Text
  pub partner : Option Text
  pub since : Option Text
  pub json : Bool

-- those of the command that was read
abbrev pub report_said : Report → ReportSaid
report_said r = record {
  database = r.database.now;
  kind = r.kind;
  state = option_map (λ s. s.now) r.state;
  partner = option_map (λ s. s.now) r.partner;
  since = option_map (λ s. s.now) r.since;
  json = r.json;
}

-- the declaration of `report` to the parser
unfoldable pub report_app : App
report_app = app_with (codes "report") (own_database ∷ optional (codes "state") ∷ optional (codes "partner")
    ∷ optional (codes "since") ∷ flag (codes "json") ∷ word (codes "kind") ∷ [])

-- the kind of report with this name
abbrev pub kind_of : Text → Option ReportKind
kind_of = named ((codes "in", Incoming) ∷ (codes "out", Outgoing)
    ∷ (codes "issued", Issued) ∷ (codes "received", Received) ∷ [])

-- the command `report` with these values, for a kind
abbrev pub report_with : ReportKind → List Row → ReportSaid
report_with kind rows = record {
  database = given (codes "db") rows;
  kind = kind;
  state = first_of (codes "state") rows;
  partner = first_of (codes "partner") rows;
  since = first_of (codes "since") rows;
  json = has_flag (codes "json") rows;
}

-- the command `report` with these values; `None` if they name no kind
abbrev pub report_in : List Row → Option ReportSaid
report_in rows = option_map (λ kind. report_with kind rows) (kind_of (given (codes "kind") rows))

-- the options and words of `backup`
pub record BackupSaid : Type 0 where
  pub database : Text
  pub events : Option Text
  pub «record» : Option Text
  pub to : Text

-- those of the command that was read
abbrev pub backup_said : Backup → BackupSaid
backup_said b = record {
  database = b.database.now;
  events = option_map (λ s. s.now) b.events;
  «record» = option_map (λ s. s.now) b.«record»;
  to = b.to.now;
}

-- the declaration of `backup` to the parser
unfoldable pub backup_app : App
backup_app = app_with (codes "backup") (own_database ∷ own_events ∷ own_record ∷ word (codes "to") ∷ [])

-- the command `backup` with these values
abbrev pub backup_with : List Row → BackupSaid
backup_with rows = record {
  database = given (codes "db") rows;
  events = first_of (codes "events") rows;
  «record» = first_of (codes "record") rows;
  to = given (codes "to") rows;
}

-- the options of `audit`
pub record AuditSaid : Type 0 where
  pub database : Text
  pub old : Option Text
  pub «record» : Option Text

-- those of the command that was read
abbrev pub audit_said : Audit → AuditSaid
audit_said a = record {
  database = a.database.now;
  old = option_map (λ s. s.now) a.old;
  «record» = option_map (λ s. s.now) a.«record»;
}

-- the declaration of `audit` to the parser
unfoldable pub audit_app : App
audit_app = app_with (codes "audit") (own_database ∷ optional (codes "old") ∷ own_record ∷ [])

-- the command `audit` with these values
abbrev pub audit_with : List Row → AuditSaid
audit_with rows = record {
  database = given (codes "db") rows;
  old = first_of (codes "old") rows;
  «record» = first_of (codes "record") rows;
}
