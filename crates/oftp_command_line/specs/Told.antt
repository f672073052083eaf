-- The declarations of the code to the parser, and the names of values. Of the public functions only `declarations` cites it.
use Rattle.std.specs.Prelude.{◌≡◌, ⊤, ℕ, Bool, IsSome, List, Option, None, Some, codes, false, fold, map, true}
use Rattle.std.specs.Borrow.{Bor}
use Rattle.clap.specs.Words.{App, Row, Rule, Text, first_of, new_app, with_rule}
use Rattle.clap.specs.declared.builder.ArgAction.{ArgAction}
use Rattle.clap.specs.declared.builder.ArgAction.TheVariants.{Set, SetTrue}
use Rattle.oftp_command_line.specs.Arguments as spec
use Rattle.oftp_command_line.specs.Arguments.{IsNumber}
use Rattle.oftp_command_line.specs.EvidenceLine.{evidence_app}
use Rattle.oftp_command_line.specs.ExplainLine.{explain_app}
use Rattle.oftp_command_line.specs.FeedLine.{feed_app}
use Rattle.oftp_command_line.specs.FolderLines.{collect_app, offer_app}
use Rattle.oftp_command_line.specs.HistoryLine.{history_app}
use Rattle.oftp_command_line.specs.Line.{app_named}
use Rattle.oftp_command_line.specs.OperatorLines.{refuse_app, release_app, resend_app, submit_app}
use Rattle.oftp_command_line.specs.RecordLines.{replay_app}
use Rattle.oftp_command_line.specs.RegisterLines.{audit_app, backup_app, fetch_app, report_app}
use Rattle.oftp_command_line.specs.ServiceLines.{call_app, http_app, listen_app, run_app, stop_app}
use Rattle.oftp_command_line.specs.StandingLines.{health_app, status_app}
use Rattle.oftp_command_line.specs.declared.line.arguments.Argument.{Argument}
use Rattle.oftp_command_line.specs.declared.line.arguments.Kind.{Kind}
use Rattle.oftp_command_line.specs.declared.line.arguments.Kind.TheVariants.{Word, Last, Needed, Optional, Flag, Defaulted}
use Rattle.oftp_command_line.specs.declared.line.arguments.TheConstants.{MOST_ADMISSION, MOST_DURATION, MOST_PATIENCE, MOST_PORT}
use Rattle.oftp_command_line.specs.declared.line.commands.Name.{Name}
use Rattle.oftp_command_line.specs.declared.line.commands.Name.TheVariants as name
use Rattle.oftp_command_line.specs.declared.line.table.Declaration.{Declaration}

-- whether an argument of a kind is required
abbrev pub is_required : Kind → Bool
is_required Word = true
is_required Last = false
is_required Needed = true
is_required Optional = false
is_required Flag = false
is_required (Defaulted value) = false

-- what the parser does when an argument of a kind is given
abbrev pub action_of : Kind → ArgAction
action_of Word = Set
action_of Last = Set
action_of Needed = Set
action_of Optional = Set
action_of Flag = SetTrue
action_of (Defaulted value) = Set

-- an argument of a kind, without the range of its numbers
abbrev pub rule_of_kind : Kind → Text → Rule
rule_of_kind Word id = spec.word id
rule_of_kind Last id = spec.last_word id
rule_of_kind Needed id = spec.needed id
rule_of_kind Optional id = spec.optional id
rule_of_kind Flag id = spec.flag id
rule_of_kind (Defaulted value) id = spec.defaulted id value.now

-- the argument, restricted to these numbers, if there are any
abbrev pub within : Option (ℕ × ℕ) → Rule → Rule
within None rule = rule
within (Some ends) rule = spec.numbered ends.0 ends.1 rule

-- the declaration of an argument
abbrev pub told : Argument → Rule
told argument = within argument.numbers (rule_of_kind argument.kind argument.id.now)

-- the command with one more argument
abbrev pub with_one : App → Argument → App
with_one app argument = with_rule app (told argument)

-- the command with this name and these arguments
abbrev pub app_told : Text → List Argument → App
app_told name arguments = fold with_one (new_app name) arguments

-- the name of a command
abbrev pub word_of : Name → Text
word_of name.Init = codes "init"
word_of name.Migrate = codes "migrate"
word_of name.Check = codes "check"
word_of name.Submit = codes "submit"
word_of name.Offer = codes "offer"
word_of name.Resend = codes "resend"
word_of name.Release = codes "release"
word_of name.Refuse = codes "refuse"
word_of name.Fetch = codes "fetch"
word_of name.Collect = codes "collect"
word_of name.Report = codes "report"
word_of name.Status = codes "status"
word_of name.Health = codes "health"
word_of name.Settled = codes "settled"
word_of name.Backup = codes "backup"
word_of name.Stop = codes "stop"
word_of name.Reload = codes "reload"
word_of name.Show = codes "show"
word_of name.Explain = codes "explain"
word_of name.Feed = codes "feed"
word_of name.Audit = codes "audit"
word_of name.History = codes "history"
word_of name.Evidence = codes "evidence"
word_of name.Run = codes "run"
word_of name.Replay = codes "replay"
word_of name.Listen = codes "listen"
word_of name.Call = codes "call"
word_of name.Http = codes "http"

-- what a proof unfolds to compute the declaration of a command that reads or changes the register
unfoldable pub register_app : ⊤
unfolding audit_app backup_app collect_app fetch_app offer_app refuse_app release_app report_app resend_app submit_app
register_app = tt

-- what it unfolds to compute that of a service, of what ends one, or of what plays its record
unfoldable pub service_app : ⊤
unfolding call_app http_app listen_app replay_app run_app stop_app
service_app = tt

-- what it unfolds to compute that of any command
unfoldable pub each_app : ⊤
unfolding evidence_app explain_app feed_app health_app history_app register_app service_app status_app
each_app = tt

-- a command of the table, with its name
abbrev pub with_name : Declaration → Text × Name
with_name declaration = (declaration.word.now, declaration.name)

-- a command of the table is declared to the parser as the command with its name
abbrev pub IsTold : Declaration → Type 0
IsTold declaration = app_told declaration.word.now declaration.arguments.now ≡ app_named declaration.name

-- names with their values, as texts
abbrev pub names_in : {X : Type 0} → List (Bor Text × X) → List (Text × X)
names_in names = map (λ n. (n.0.now, n.1)) names

-- there is a value for each option of an entrance
pub record HasEntrance (rows : List Row) : Type 0 where
  pub port : IsNumber 1 MOST_PORT (codes "port") rows
  pub address : IsSome (first_of (codes "address") rows)
  pub admission : IsNumber 1 MOST_ADMISSION (codes "admission") rows

-- there is a value for each of the terms that always have one
pub record HasTerms (rows : List Row) : Type 0 where
  pub patience : IsNumber 0 MOST_PATIENCE (codes "patience") rows
  pub longest : IsNumber 1 MOST_DURATION (codes "longest") rows
