-- The command line that the words make.
use Rattle.std.specs.Prelude.{Bool, List, [], ◌∷◌, None, Option, Some, codes, false, option_and_then, option_map, true}
use Rattle.std.specs.Option.{option_or}
use Rattle.clap.specs.Words.{App, Row, Text}
use Rattle.oftp_command_line.specs.Arguments.{given, named, taken}
use Rattle.oftp_command_line.specs.EvidenceLine.{EvidenceSaid, evidence_app, evidence_in, evidence_said}
use Rattle.oftp_command_line.specs.ExplainLine.{ExplainSaid, explain_app, explain_in, explain_said}
use Rattle.oftp_command_line.specs.FeedLine.{FeedSaid, feed_app, feed_in, feed_said}
use Rattle.oftp_command_line.specs.FileLines.{check_app, init_app, migrate_app, reload_app, show_app}
use Rattle.oftp_command_line.specs.FolderLines.{CollectSaid, OfferSaid, collect_app, collect_said, collect_with, offer_app, offer_in, offer_said}
use Rattle.oftp_command_line.specs.HistoryLine.{HistorySaid, history_app, history_said, history_with}
use Rattle.oftp_command_line.specs.OperatorLines.{RefuseSaid, ReleaseSaid, ResendSaid, SubmitSaid, refuse_app, refuse_said, refuse_with, release_app, release_said, release_with, resend_app, resend_said, resend_with, submit_app, submit_in, submit_said}
use Rattle.oftp_command_line.specs.RecordLines.{ReplaySaid, replay_app, replay_said, replay_with}
use Rattle.oftp_command_line.specs.RegisterLines.{AuditSaid, BackupSaid, FetchSaid, ReportSaid, audit_app, audit_said, audit_with, backup_app, backup_said, backup_with, fetch_app, fetch_said, fetch_with, report_app, report_in, report_said}
use Rattle.oftp_command_line.specs.ServiceLines.{CallSaid, HttpSaid, ListenSaid, RunSaid, StopSaid, call_app, call_said, call_with, http_app, http_said, http_with, listen_app, listen_said, listen_with, run_app, run_in, run_said, stop_app, stop_said, stop_with}
use Rattle.oftp_command_line.specs.StandingLines.{HealthSaid, StatusSaid, health_app, health_said, health_with, settled_app, status_app, status_said, status_with}
use Rattle.oftp_command_line.specs.declared.line.Line.{Line}
use Rattle.oftp_command_line.specs.declared.line.Line.TheVariants as line
use Rattle.oftp_command_line.specs.declared.line.commands.Name.{Name}
use Rattle.oftp_command_line.specs.declared.line.commands.Name.TheVariants as name

-- a command with its options and words, as plain values
pub data Said : Type 0 where
  said_help : Said
  said_version : Said
  said_init : Text → Said
  said_migrate : Text → Said
  said_check : Text → Said
  said_submit : SubmitSaid → Said
  said_offer : OfferSaid → Said
  said_resend : ResendSaid → Said
  said_release : ReleaseSaid → Said
  said_refuse : RefuseSaid → Said
  said_fetch : FetchSaid → Said
  said_collect : CollectSaid → Said
  said_report : ReportSaid → Said
  said_status : StatusSaid → Said
  said_health : HealthSaid → Said
  said_settled : Text → Said
  said_backup : BackupSaid → Said
  said_stop : StopSaid → Said
  said_reload : Text → Said
  said_show : Text → Said
  said_explain : ExplainSaid → Said
  said_feed : FeedSaid → Said
  said_audit : AuditSaid → Said
  said_history : HistorySaid → Said
  said_evidence : EvidenceSaid → Said
  said_run : RunSaid → Said
  said_replay : ReplaySaid → Said
  said_listen : ListenSaid → Said
  said_call : CallSaid → Said
  said_http : HttpSaid → Said

-- those of the command that was read
abbrev pub said : Line → Said
said line.Help = said_help
said line.Version = said_version
said (line.Init database) = said_init database.now
said (line.Migrate database) = said_migrate database.now
said (line.Check book) = said_check book.now
said (line.Submit s) = said_submit (submit_said s)
said (line.Offer o) = said_offer (offer_said o)
said (line.Resend r) = said_resend (resend_said r)
said (line.Release r) = said_release (release_said r)
said (line.Refuse r) = said_refuse (refuse_said r)
said (line.Fetch f) = said_fetch (fetch_said f)
said (line.Collect c) = said_collect (collect_said c)
said (line.Report r) = said_report (report_said r)
said (line.Status s) = said_status (status_said s)
said (line.Health h) = said_health (health_said h)
said (line.Settled database) = said_settled database.now
said (line.Backup b) = said_backup (backup_said b)
said (line.Stop s) = said_stop (stop_said s)
said (line.Reload database) = said_reload database.now
said (line.Show input) = said_show input.now
said (line.Explain e) = said_explain (explain_said e)
said (line.Feed f) = said_feed (feed_said f)
said (line.Audit a) = said_audit (audit_said a)
said (line.History h) = said_history (history_said h)
said (line.Evidence e) = said_evidence (evidence_said e)
said (line.Run r) = said_run (run_said r)
said (line.Replay r) = said_replay (replay_said r)
said (line.Listen l) = said_listen (listen_said l)
said (line.Call c) = said_call (call_said c)
said (line.Http h) = said_http (http_said h)

-- what the first word asks of the program itself, whatever words follow it; `None` if it is another word
abbrev pub asked_by : Text → Option Said
asked_by = named ((codes "help", said_help) ∷ (codes "--help", said_help) ∷ (codes "-h", said_help)
    ∷ (codes "version", said_version) ∷ (codes "--version", said_version) ∷ (codes "-V", said_version) ∷ [])

-- all commands, by their names
abbrev pub command_names : List (Text × Name)
command_names = (codes "init", name.Init) ∷ (codes "migrate", name.Migrate)
    ∷ (codes "check", name.Check) ∷ (codes "submit", name.Submit) ∷ (codes "offer", name.Offer)
    ∷ (codes "resend", name.Resend) ∷ (codes "release", name.Release) ∷ (codes "refuse", name.Refuse)
    ∷ (codes "fetch", name.Fetch) ∷ (codes "collect", name.Collect) ∷ (codes "report", name.Report)
    ∷ (codes "status", name.Status) ∷ (codes "health", name.Health) ∷ (codes "settled", name.Settled)
    ∷ (codes "backup", name.Backup) ∷ (codes "stop", name.Stop) ∷ (codes "reload", name.Reload) ∷ (codes "show", name.Show)
    ∷ (codes "explain", name.Explain) ∷ (codes "feed", name.Feed) ∷ (codes "audit", name.Audit) ∷ (codes "history", name.History) ∷ (codes "evidence", name.Evidence)
    ∷ (codes "run", name.Run) ∷ (codes "replay", name.Replay)
    ∷ (codes "listen", name.Listen) ∷ (codes "call", name.Call) ∷ (codes "http", name.Http) ∷ []

-- the command with this name
abbrev pub name_of : Text → Option Name
name_of = named command_names

-- the declaration of the command with this name to the parser
abbrev pub app_named : Name → App
app_named name.Init = init_app
app_named name.Migrate = migrate_app
app_named name.Check = check_app
app_named name.Submit = submit_app
app_named name.Offer = offer_app
app_named name.Resend = resend_app
app_named name.Release = release_app
app_named name.Refuse = refuse_app
app_named name.Fetch = fetch_app
app_named name.Collect = collect_app
app_named name.Report = report_app
app_named name.Status = status_app
app_named name.Health = health_app
app_named name.Settled = settled_app
app_named name.Backup = backup_app
app_named name.Stop = stop_app
app_named name.Reload = reload_app
app_named name.Show = show_app
app_named name.Explain = explain_app
app_named name.Feed = feed_app
app_named name.Audit = audit_app
app_named name.History = history_app
app_named name.Evidence = evidence_app
app_named name.Run = run_app
app_named name.Replay = replay_app
app_named name.Listen = listen_app
app_named name.Call = call_app
app_named name.Http = http_app

-- the command with this name and these values; `None` if one of them isn't among the names for its argument
abbrev pub said_by : Name → List Row → Option Said
said_by name.Init rows = Some (said_init (given (codes "db") rows))
said_by name.Migrate rows = Some (said_migrate (given (codes "db") rows))
said_by name.Check rows = Some (said_check (given (codes "book") rows))
said_by name.Submit rows = option_map said_submit (submit_in rows)
said_by name.Offer rows = option_map said_offer (offer_in rows)
said_by name.Resend rows = Some (said_resend (resend_with rows))
said_by name.Release rows = Some (said_release (release_with rows))
said_by name.Refuse rows = Some (said_refuse (refuse_with rows))
said_by name.Fetch rows = Some (said_fetch (fetch_with rows))
said_by name.Collect rows = Some (said_collect (collect_with rows))
said_by name.Report rows = option_map said_report (report_in rows)
said_by name.Status rows = Some (said_status (status_with rows))
said_by name.Health rows = Some (said_health (health_with rows))
said_by name.Settled rows = Some (said_settled (given (codes "db") rows))
said_by name.Backup rows = Some (said_backup (backup_with rows))
said_by name.Stop rows = Some (said_stop (stop_with rows))
said_by name.Reload rows = Some (said_reload (given (codes "db") rows))
said_by name.Show rows = Some (said_show (given (codes "in") rows))
said_by name.Explain rows = option_map said_explain (explain_in rows)
said_by name.Feed rows = option_map said_feed (feed_in rows)
said_by name.Audit rows = Some (said_audit (audit_with rows))
said_by name.History rows = Some (said_history (history_with rows))
said_by name.Evidence rows = option_map said_evidence (evidence_in rows)
said_by name.Run rows = option_map said_run (run_in rows)
said_by name.Replay rows = Some (said_replay (replay_with rows))
said_by name.Listen rows = Some (said_listen (listen_with rows))
said_by name.Call rows = Some (said_call (call_with rows))
said_by name.Http rows = Some (said_http (http_with rows))

-- the command with this name and the words after the first; the parser skips the first
unfoldable pub line_named : Name → List Text → Option Said
line_named name words = option_and_then (said_by name) (taken (app_named name) words)

-- What the first word asks of the program itself, or the command that it names, with the words after it. `None` if there is no word, no
-- command has this name, or the command doesn't accept the words.
abbrev pub line_of_words : List Text → Option Said
line_of_words [] = None
line_of_words (first ∷ rest) = option_or (asked_by first) (option_and_then (λ name. line_named name (first ∷ rest)) (name_of first))

-- the command changes nothing but what its output says
abbrev pub only_prints : Said → Bool
only_prints said_help = true
only_prints said_version = true
only_prints (said_check book) = true
only_prints (said_report report) = true
only_prints (said_status status) = true
only_prints (said_health health) = true
only_prints (said_settled database) = true
only_prints (said_show input) = true
only_prints (said_explain explain) = true
only_prints (said_audit audit) = true
only_prints (said_history history) = true
only_prints command = false
