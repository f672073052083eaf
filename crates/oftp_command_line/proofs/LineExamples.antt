-- Worked command lines, in a table for each command: a line, and the command that it gives.
use Rattle.std.proofs.Common.{◌≡◌, ◌==◌, ◌++◌, ℕ, Bool, List, Option, refl, [], ◌∷◌, Some, None, codes, false, if◌then◌else◌, map, true}
use Rattle.clap.proofs.OnLiterals.{clap_on_literals}
use Rattle.oftp_listing.specs.declared.reports.ReportKind.{ReportKind}
use Rattle.oftp_listing.specs.declared.reports.ReportKind.TheVariants.{Incoming, Issued, Outgoing, Received}
use Rattle.oftp_vfile.specs.declared.format.Format.{Format}
use Rattle.oftp_vfile.specs.declared.format.Format.TheVariants as format
use Rattle.oftp_command_line.specs.Arguments.{taken}
use Rattle.oftp_command_line.specs.EvidenceLine.{evidence_app}
use Rattle.oftp_command_line.specs.ExplainLine.{explain_app, of_octets, of_record}
use Rattle.oftp_command_line.specs.FeedLine.{feed_app}
use Rattle.oftp_command_line.specs.Files.{FilesSaid}
use Rattle.oftp_command_line.specs.FolderLines.{collect_app, offer_app}
use Rattle.oftp_command_line.specs.Line.{Said, line_named, line_of_words, said_audit, said_backup, said_call, said_check, said_collect, said_evidence, said_explain, said_feed, said_fetch, said_health, said_help, said_history, said_http, said_init, said_listen, said_migrate, said_offer, said_refuse, said_release, said_reload, said_replay, said_report, said_resend, said_run, said_settled, said_show, said_status, said_stop, said_submit, said_version}
use Rattle.oftp_command_line.specs.HistoryLine.{history_app}
use Rattle.oftp_command_line.specs.OperatorLines.{refuse_app, release_app, resend_app, submit_app}
use Rattle.oftp_command_line.specs.RecordLines.{replay_app}
use Rattle.oftp_command_line.specs.RegisterLines.{audit_app, backup_app, fetch_app, report_app}
use Rattle.oftp_command_line.specs.ServiceLines.{call_app, http_app, listen_app, run_app, stop_app}
use Rattle.oftp_command_line.specs.StandingLines.{health_app, status_app}
use Rattle.oftp_command_line.specs.Terms.{EntranceSaid, TermsSaid}
use Rattle.oftp_register.specs.declared.entries.Side.{Side}
use Rattle.oftp_register.specs.declared.entries.Side.TheVariants as side
use Rattle.oftp_command_line.specs.declared.line.commands.history.Ways.{Ways}
use Rattle.oftp_command_line.specs.declared.line.commands.history.Ways.TheVariants as ways
use Rattle.oftp_command_line.specs.declared.line.commands.feed.FeedRole.TheVariants.{Initiator, Responder}
use Rattle.oftp_command_line.specs.declared.line.commands.recording.RecordSync.TheVariants.{Synced, Unsynced}

-- the words with this octet before the first of them
abbrev begun : ℕ → List (List ℕ) → List (List ℕ)
begun octet [] = (octet ∷ []) ∷ []
begun octet (word ∷ words) = (octet ∷ word) ∷ words

-- the words of a line, separated by single spaces
abbrev words_of : List ℕ → List (List ℕ)
words_of [] = [] ∷ []
words_of (octet ∷ octets) = if octet == 32 then [] ∷ words_of octets else begun octet (words_of octets)

-- the words of a line with the command that they give
abbrev Example : Type 0
Example = List (List ℕ) × Option Said

-- the line gives this command
abbrev asks : List ℕ → Said → Example
asks line said = (words_of line, Some said)

-- the line is invalid
abbrev bad : List ℕ → Example
bad line = (words_of line, None)

-- each line gives its command
abbrev AreRead : List Example → Type 0
AreRead examples = map (λ (e : Example). line_of_words e.0) examples ≡ map (λ (e : Example). e.1) examples

-- the database d and the book b
abbrev d_and_b : FilesSaid
d_and_b = record { database = codes "d"; book = codes "b"; events = None; «record» = None }

-- the same, and events go to e
abbrev e_beside : FilesSaid
e_beside = record { database = codes "d"; book = codes "b"; events = Some (codes "e"); «record» = None }

-- the same without events, and the record is folder r
abbrev r_beside : FilesSaid
r_beside = record { database = codes "d"; book = codes "b"; events = None; «record» = Some (codes "r") }

-- both
abbrev e_and_r : FilesSaid
e_and_r = record { database = codes "d"; book = codes "b"; events = Some (codes "e"); «record» = Some (codes "r") }

-- lines about the program itself
program_lines : AreRead (
    -- `help` asks for the usage of all commands
    asks (codes "help") said_help
    -- so does the option
    ∷ asks (codes "--help") said_help
    -- and its letter, whatever follows
    ∷ asks (codes "-h submit --nothing") said_help
    -- `version` asks for the version
    ∷ asks (codes "version") said_version
    -- so does the option
    ∷ asks (codes "--version") said_version
    -- and its letter, whatever follows
    ∷ asks (codes "-V --db d --help") said_version
    -- the words are in small letters
    ∷ bad (codes "Help")
    -- the letter of the version is large
    ∷ bad (codes "-v")
    -- an option has two minuses
    ∷ bad (codes "-help")
    -- a part of a word is no word
    ∷ bad (codes "vers")
    -- a word is required
    ∷ ([], None)
    ∷ [])
unfolding line_named
program_lines = refl

-- lines of `init`
init_lines : AreRead (
    -- `init` takes the database
    asks (codes "init --db d") (said_init (codes "d"))
    -- the database is required
    ∷ bad (codes "init")
    -- it takes no word
    ∷ bad (codes "init --db=d w")
    ∷ [])
unfolding clap_on_literals line_named taken
init_lines = refl

-- lines of `migrate`
migrate_lines : AreRead (
    -- `migrate` takes the database
    asks (codes "migrate --db=d") (said_migrate (codes "d"))
    -- an option may only be given once
    ∷ bad (codes "migrate --db=d --db=d")
    ∷ [])
unfolding clap_on_literals line_named taken
migrate_lines = refl

-- lines of `check`
check_lines : AreRead (
    -- `check` takes the book
    asks (codes "check --book b") (said_check (codes "b"))
    -- the book is required
    ∷ bad (codes "check")
    -- it takes no word
    ∷ bad (codes "check --book=b w")
    ∷ [])
unfolding clap_on_literals line_named taken
check_lines = refl

-- a line of `submit` with its required options, and then these words
abbrev submit_line : List ℕ → List ℕ
submit_line more = codes "submit --db=d --book=b --dataset=n --date=20240131 --time=1015300001 --to=p" ++ more

-- the command that it gives, with this format and record length
abbrev submit_asked : Format → ℕ → Said
submit_asked f longest = said_submit (record {
  files = d_and_b;
  dataset = codes "n";
  date = Some (codes "20240131");
  time = Some (codes "1015300001");
  to = codes "p";
  format = f;
  longest = longest;
  description = [];
  file = codes "f";
})

-- a submission with this date and time
abbrev submit_at : Option (List ℕ) → Option (List ℕ) → Said
submit_at date time = said_submit (record {
  files = d_and_b;
  dataset = codes "n";
  date = date;
  time = time;
  to = codes "p";
  format = format.Unstructured;
  longest = 0;
  description = [];
  file = codes "f";
})

-- lines of `submit`
submit_lines : AreRead (
    -- by default the record length is 0 and the description is empty
    asks (submit_line (codes " --format=U f")) (submit_asked format.Unstructured 0)
    -- options and words come in any order
    ∷ asks (codes "submit f --description=x --longest=99999 --format=V --to=p --time=t --date=e --dataset=n --book=b --db=d")
    (said_submit (record {
      files = d_and_b;
      dataset = codes "n";
      date = Some (codes "e");
      time = Some (codes "t");
      to = codes "p";
      format = format.Variable;
      longest = 99999;
      description = codes "x";
      file = codes "f";
    }))
    -- a length may have leading zeros and a plus
    ∷ asks (submit_line (codes " --format=F f --longest=+007")) (submit_asked format.Fixed 7)
    -- T is a format
    ∷ asks (submit_line (codes " --format=T f")) (submit_asked format.Text 0)
    -- its events go to a file
    ∷ asks (codes "submit --db=d --book=b --events=e --dataset=n --date=20240131 --time=1015300001 --to=p --format=U f")
    (said_submit (record {
      files = e_beside;
      dataset = codes "n";
      date = Some (codes "20240131");
      time = Some (codes "1015300001");
      to = codes "p";
      format = format.Unstructured;
      longest = 0;
      description = [];
      file = codes "f";
    }))
    -- it takes a record
    ∷ asks (codes "submit --db=d --book=b --record=r --dataset=n --date=20240131 --time=1015300001 --to=p --format=U f")
    (said_submit (record {
      files = r_beside;
      dataset = codes "n";
      date = Some (codes "20240131");
      time = Some (codes "1015300001");
      to = codes "p";
      format = format.Unstructured;
      longest = 0;
      description = [];
      file = codes "f";
    }))
    -- no format has this letter
    ∷ bad (submit_line (codes " --format=u f"))
    -- a length has an upper limit
    ∷ bad (submit_line (codes " --format=U f --longest=100000"))
    -- a length isn't negative
    ∷ bad (submit_line (codes " --format=U f --longest=-1"))
    -- the date and the time may be missing
    ∷ asks (codes "submit --db=d --book=b --dataset=n --to=p --format=U f") (submit_at None None)
    -- either of them may
    ∷ asks (codes "submit --db=d --book=b --dataset=n --time=1 --to=p --format=U f") (submit_at None (Some (codes "1")))
    -- so may the other
    ∷ asks (codes "submit --db=d --book=b --dataset=n --date=2 --to=p --format=U f") (submit_at (Some (codes "2")) None)
    -- the date has a value
    ∷ bad (codes "submit --db=d --book=b --dataset=n --to=p --format=U f --date")
    -- the dataset name has no default
    ∷ bad (codes "submit --db=d --book=b --date=20240131 --time=1015300001 --to=p --format=U f")
    ∷ [])
unfolding clap_on_literals submit_app line_named taken
submit_lines = refl

-- an offer to p, with this format and record length
abbrev offer_asked : Format → ℕ → Said
offer_asked f longest = said_offer (record {
  files = d_and_b;
  to = codes "p";
  folder = codes "f";
  dataset = None;
  description = [];
  describes = false;
  format = f;
  longest = longest;
})

-- an offer to p of unstructured files, with this dataset name, description, and whether they are described by their names
abbrev offer_named : Option (List ℕ) → List ℕ → Bool → Said
offer_named dataset description describes = said_offer (record {
  files = d_and_b;
  to = codes "p";
  folder = codes "f";
  dataset = dataset;
  description = description;
  describes = describes;
  format = format.Unstructured;
  longest = 0;
})

-- lines of `offer`
offer_lines : AreRead (
    -- by default the files are unstructured
    asks (codes "offer --db=d --book=b --to=p --from=f") (offer_asked format.Unstructured 0)
    -- options come in any order
    ∷ asks (codes "offer --longest 80 --from f --format=F --to p --book=b --db d") (offer_asked format.Fixed 80)
    -- V is a format
    ∷ asks (codes "offer --db=d --book=b --to=p --from=f --format=V --longest=99999") (offer_asked format.Variable 99999)
    -- T is a format
    ∷ asks (codes "offer --db=d --book=b --to=p --from=f --format=T") (offer_asked format.Text 0)
    -- its events go to a file
    ∷ asks (codes "offer --db=d --book=b --to=p --from=f --events=e")
    (said_offer (record {
      files = e_beside;
      to = codes "p";
      folder = codes "f";
      dataset = None;
      description = [];
      describes = false;
      format = format.Unstructured;
      longest = 0;
    }))
    -- it takes a record
    ∷ asks (codes "offer --record r --db=d --book=b --to=p --from=f")
    (said_offer (record {
      files = r_beside;
      to = codes "p";
      folder = codes "f";
      dataset = None;
      description = [];
      describes = false;
      format = format.Unstructured;
      longest = 0;
    }))
    -- no format has this letter
    ∷ bad (codes "offer --db=d --book=b --to=p --from=f --format=u")
    -- a length has an upper limit
    ∷ bad (codes "offer --db=d --book=b --to=p --from=f --longest=100000")
    -- the partner is required
    ∷ bad (codes "offer --db=d --book=b --from=f")
    -- the folder is required
    ∷ bad (codes "offer --db=d --book=b --to=p")
    -- the book is required
    ∷ bad (codes "offer --db=d --to=p --from=f")
    -- it takes no word
    ∷ bad (codes "offer --db=d --book=b --to=p --from=f w")
    -- it takes a dataset name for each file
    ∷ asks (codes "offer --db=d --book=b --to=p --from=f --dataset=n") (offer_named (Some (codes "n")) [] false)
    -- it takes a description for each
    ∷ asks (codes "offer --db=d --book=b --to=p --from=f --description=x") (offer_named None (codes "x") false)
    -- with `--describe` it takes the name of each, beside a dataset name and a description
    ∷ asks (codes "offer --describe --description=x --dataset=n --db=d --book=b --to=p --from=f") (offer_named (Some (codes "n")) (codes "x") true)
    -- `--describe` takes no value
    ∷ bad (codes "offer --db=d --book=b --to=p --from=f --describe=x")
    -- an option's name is whole
    ∷ bad (codes "offer --db=d --book=b --to=p --from=f --desc")
    -- it takes no date
    ∷ bad (codes "offer --db=d --book=b --to=p --from=f --date=20240131")
    ∷ [])
unfolding clap_on_literals offer_app line_named taken
offer_lines = refl

-- lines of `resend`
resend_lines : AreRead (
    -- `resend` takes a number
    asks (codes "resend --db=d --book=b 7") (said_resend (record { files = d_and_b; date = None; time = None; no = 7 }))
    -- and a date and a time
    ∷ asks (codes "resend --db=d --book=b --date 20240131 --time=1015300001 7")
    (said_resend (record { files = d_and_b; date = Some (codes "20240131"); time = Some (codes "1015300001"); no = 7 }))
    -- it takes a record
    ∷ asks (codes "resend --db=d --book=b --record r 7") (said_resend (record { files = r_beside; date = None; time = None; no = 7 }))
    -- no file has the number 0
    ∷ bad (codes "resend --db=d --book=b 0")
    -- the last number is 9999999
    ∷ bad (codes "resend --db=d --book=b 10000000")
    -- the number is required
    ∷ bad (codes "resend --db=d --book=b --date 20240131")
    -- the book is required
    ∷ bad (codes "resend --db=d 7")
    ∷ [])
unfolding clap_on_literals resend_app line_named taken
resend_lines = refl

-- lines of `release`
release_lines : AreRead (
    -- `release` takes a number
    asks (codes "release --db=d --book=b 7") (said_release (record { files = d_and_b; no = 7 }))
    -- the first number is 1
    ∷ asks (codes "release --db=d --book=b 1") (said_release (record { files = d_and_b; no = 1 }))
    -- the last is 9999999
    ∷ asks (codes "release --db=d --book=b 9999999") (said_release (record { files = d_and_b; no = 9999999 }))
    -- its events go to a file
    ∷ asks (codes "release --db=d --book=b --events=e 7") (said_release (record { files = e_beside; no = 7 }))
    -- it takes a record, beside them
    ∷ asks (codes "release --record=r --db=d --book=b --events=e 7") (said_release (record { files = e_and_r; no = 7 }))
    -- a record has one folder
    ∷ bad (codes "release --record=r --record=r --db=d --book=b 7")
    -- 0 is too small
    ∷ bad (codes "release --db=d --book=b 0")
    -- 10000000 is too large
    ∷ bad (codes "release --db=d --book=b 10000000")
    -- a number has only digits
    ∷ bad (codes "release --db=d --book=b 7a")
    -- the number is required
    ∷ bad (codes "release --db=d --book=b")
    -- the book is required
    ∷ bad (codes "release --db=d 7")
    ∷ [])
unfolding clap_on_literals release_app line_named taken
release_lines = refl

-- lines of `refuse`
refuse_lines : AreRead (
    -- `refuse` takes a number, a reason and a text
    asks (codes "refuse --db=d --book=b 7 99 x") (said_refuse (record { files = d_and_b; no = 7; reason = 99; text = codes "x" }))
    -- the first reason is 0, and the text may be empty
    ∷ (words_of (codes "refuse --db=d --book=b 7 0") ++ [] ∷ [], Some (said_refuse (record { files = d_and_b; no = 7; reason = 0; text = [] })))
    -- its events go to a file
    ∷ asks (codes "refuse --events e --db=d --book=b 7 99 x") (said_refuse (record { files = e_beside; no = 7; reason = 99; text = codes "x" }))
    -- it takes a record
    ∷ asks (codes "refuse --record r --db=d --book=b 7 99 x") (said_refuse (record { files = r_beside; no = 7; reason = 99; text = codes "x" }))
    -- a reason has two digits at most
    ∷ bad (codes "refuse --db=d --book=b 7 100 x")
    -- no file has the number 0
    ∷ bad (codes "refuse --db=d --book=b 0 99 x")
    -- the text is required
    ∷ bad (codes "refuse --db=d --book=b 7 99")
    ∷ [])
unfolding clap_on_literals refuse_app line_named taken
refuse_lines = refl

-- lines of `fetch`
fetch_lines : AreRead (
    -- `fetch` takes a number and a file
    asks (codes "fetch --db=d 7 f") (said_fetch (record { database = codes "d"; no = 7; file = codes "f" }))
    -- the words have this order
    ∷ bad (codes "fetch --db=d f 7")
    -- it takes no book
    ∷ bad (codes "fetch --db=d --book=b 7 f")
    -- and no record, since it changes nothing
    ∷ bad (codes "fetch --db=d --record=r 7 f")
    ∷ [])
unfolding clap_on_literals fetch_app line_named taken
fetch_lines = refl

-- files are collected in a folder: those from a partner, with a pattern for their dataset names, and released or not
abbrev collect_those : Option (List ℕ) → Option (List ℕ) → Bool → Said
collect_those from dataset releases = said_collect (record {
  files = d_and_b;
  folder = codes "f";
  from = from;
  dataset = dataset;
  releases = releases;
})

-- all files are collected, and released or not
abbrev collect_asked : Bool → Said
collect_asked releases = collect_those None None releases

-- lines of `collect`
collect_lines : AreRead (
    -- by default `collect` releases nothing
    asks (codes "collect --db=d --book=b --to=f") (collect_asked false)
    -- with `--release` it releases
    ∷ asks (codes "collect --db=d --book=b --to=f --release") (collect_asked true)
    -- options come in any order
    ∷ asks (codes "collect --release --to f --book b --db d") (collect_asked true)
    -- it takes a partner
    ∷ asks (codes "collect --db=d --book=b --to=f --from=p") (collect_those (Some (codes "p")) None false)
    -- it takes a pattern, beside a partner and `--release`
    ∷ asks (codes "collect --db=d --book=b --to=f --dataset=INV.* --release --from p") (collect_those (Some (codes "p")) (Some (codes "INV.*")) true)
    -- a pattern may be given once
    ∷ bad (codes "collect --db=d --book=b --to=f --dataset=* --dataset=?")
    -- its events go to a file
    ∷ asks (codes "collect --events=e --db=d --book=b --to=f")
    (said_collect (record { files = e_beside; folder = codes "f"; from = None; dataset = None; releases = false }))
    -- it takes a record
    ∷ asks (codes "collect --record=r --db=d --book=b --to=f")
    (said_collect (record { files = r_beside; folder = codes "f"; from = None; dataset = None; releases = false }))
    -- `--release` takes no value
    ∷ bad (codes "collect --db=d --book=b --to=f --release=true")
    -- it takes no word
    ∷ bad (codes "collect --db=d --book=b --to=f --release true")
    -- a flag may only be given once
    ∷ bad (codes "collect --db=d --book=b --to=f --release --release")
    -- the folder is required
    ∷ bad (codes "collect --db=d --book=b")
    -- the book is required
    ∷ bad (codes "collect --db=d --to=f")
    -- the database is required
    ∷ bad (codes "collect --book=b --to=f")
    -- it takes no file number
    ∷ bad (codes "collect --db=d --book=b --to=f 7")
    ∷ [])
unfolding clap_on_literals collect_app line_named taken
collect_lines = refl

-- a report of a kind, with this state, partner and first date, and whether it is told as JSON
abbrev report_those : ReportKind → Option (List ℕ) → Option (List ℕ) → Option (List ℕ) → Bool → Said
report_those kind state partner since json = said_report (record {
  database = codes "d";
  kind = kind;
  state = state;
  partner = partner;
  since = since;
  json = json;
})

-- a whole report of a kind
abbrev report_asked : ReportKind → Said
report_asked kind = report_those kind None None None false

-- lines of `report`
report_lines : AreRead (
    -- `report` takes a kind
    asks (codes "report --db=d in") (report_asked Incoming)
    -- `out` is a kind
    ∷ asks (codes "report --db=d out") (report_asked Outgoing)
    -- `issued` is a kind
    ∷ asks (codes "report --db=d issued") (report_asked Issued)
    -- `received` is a kind
    ∷ asks (codes "report --db=d received") (report_asked Received)
    -- it takes a state
    ∷ asks (codes "report --db=d --state whole in") (report_those Incoming (Some (codes "whole")) None None false)
    -- it takes a partner
    ∷ asks (codes "report --db=d --partner=p out") (report_those Outgoing None (Some (codes "p")) None false)
    -- it takes a date, beside the others and `--json`
    ∷ asks (codes "report --json --since=20240131 --partner=p --state=s --db=d in")
    (report_those Incoming (Some (codes "s")) (Some (codes "p")) (Some (codes "20240131")) true)
    -- `--json` takes no value
    ∷ bad (codes "report --db=d --json=in")
    -- a state has a value
    ∷ bad (codes "report --db=d in --state")
    -- a kind is in small letters
    ∷ bad (codes "report --db=d In")
    -- the kind is required
    ∷ bad (codes "report --db=d")
    ∷ [])
unfolding clap_on_literals report_app line_named taken
report_lines = refl

-- lines of `status`
status_lines : AreRead (
    -- `status` takes the database
    asks (codes "status --db=d") (said_status (record { database = codes "d"; json = false }))
    -- it takes `--json`
    ∷ asks (codes "status --json --db d") (said_status (record { database = codes "d"; json = true }))
    -- `--json` takes no value
    ∷ bad (codes "status --db=d --json=true")
    -- the database is required
    ∷ bad (codes "status --json")
    -- it takes no book
    ∷ bad (codes "status --db=d --book=b")
    ∷ [])
unfolding clap_on_literals status_app line_named taken
status_lines = refl

-- lines of `health`
health_lines : AreRead (
    -- by default a day is overdue, and two are critical
    asks (codes "health --db=d") (said_health (record { database = codes "d"; warn = 24; critical = 48 }))
    -- all options in another order
    ∷ asks (codes "health --critical 87600 --warn=0 --db=d") (said_health (record { database = codes "d"; warn = 0; critical = 87600 }))
    -- an hour more is too many
    ∷ bad (codes "health --db=d --critical=87601")
    -- hours are digits
    ∷ bad (codes "health --db=d --warn=1h")
    -- the database is required
    ∷ bad (codes "health --warn=1")
    ∷ [])
unfolding clap_on_literals health_app line_named taken
health_lines = refl

-- lines of `settled`
settled_lines : AreRead (
    -- `settled` takes the database
    asks (codes "settled --db=d") (said_settled (codes "d"))
    -- the database is required
    ∷ bad (codes "settled")
    -- it takes no word
    ∷ bad (codes "settled --db=d in")
    ∷ [])
unfolding clap_on_literals line_named taken
settled_lines = refl

-- lines of `backup`
backup_lines : AreRead (
    -- `backup` takes the database and a file
    asks (codes "backup --db=d f") (said_backup (record { database = codes "d"; events = None; «record» = None; to = codes "f" }))
    -- they come in any order
    ∷ asks (codes "backup f --db d") (said_backup (record { database = codes "d"; events = None; «record» = None; to = codes "f" }))
    -- its event goes to a file
    ∷ asks (codes "backup --db=d --events=e f") (said_backup (record { database = codes "d"; events = Some (codes "e"); «record» = None; to = codes "f" }))
    -- it takes a record
    ∷ asks (codes "backup --record r --db=d f") (said_backup (record { database = codes "d"; events = None; «record» = Some (codes "r"); to = codes "f" }))
    -- the file is required
    ∷ bad (codes "backup --db=d")
    -- the database is required
    ∷ bad (codes "backup f")
    -- it takes only one file
    ∷ bad (codes "backup --db=d f g")
    -- it takes no book
    ∷ bad (codes "backup --db=d --book=b f")
    ∷ [])
unfolding clap_on_literals backup_app line_named taken
backup_lines = refl

-- lines of `stop`
stop_lines : AreRead (
    -- `stop` takes the database
    asks (codes "stop --db=d") (said_stop (record { database = codes "d"; now = false }))
    -- with `--now` it cuts the session off
    ∷ asks (codes "stop --now --db d") (said_stop (record { database = codes "d"; now = true }))
    -- `--now` takes no value
    ∷ bad (codes "stop --db=d --now=true")
    -- the database is required
    ∷ bad (codes "stop --now")
    -- it takes no book
    ∷ bad (codes "stop --db=d --book=b")
    ∷ [])
unfolding clap_on_literals stop_app line_named taken
stop_lines = refl

-- lines of `reload`
reload_lines : AreRead (
    -- `reload` takes the database
    asks (codes "reload --db=d") (said_reload (codes "d"))
    -- it takes no book, since the station has the path of its own
    ∷ bad (codes "reload --db=d --book=b")
    -- the database is required
    ∷ bad (codes "reload")
    ∷ [])
unfolding clap_on_literals line_named taken
reload_lines = refl

-- lines of `show`
show_lines : AreRead (
    -- `show` takes the file
    asks (codes "show i") (said_show (codes "i"))
    ∷ [])
unfolding clap_on_literals line_named taken
show_lines = refl

-- lines of `feed`
feed_lines : AreRead (
    -- by default `feed` is a responder with any partner and a register in memory
    asks (codes "feed --book=b i o")
    (said_feed (record { database = None; book = codes "b"; role = Responder; partner = None; trace = None; «record» = None; input = codes "i"; output = codes "o" }))
    -- options and words come in any order
    ∷ asks (codes "feed i --role initiator --db=d o --partner=p --trace=t --book b")
    (said_feed (record {
      database = Some (codes "d");
      book = codes "b";
      role = Initiator;
      partner = Some (codes "p");
      trace = Some (codes "t");
      «record» = None;
      input = codes "i";
      output = codes "o";
    }))
    -- what is done to a database may be recorded
    ∷ asks (codes "feed --db=d --book=b --record=r i o")
    (said_feed (record { database = Some (codes "d"); book = codes "b"; role = Responder; partner = None; trace = None; «record» = Some (codes "r"); input = codes "i"; output = codes "o" }))
    -- after `--` a word may begin with a minus
    ∷ asks (codes "feed --book=b -- -i --role")
    (said_feed (record { database = None; book = codes "b"; role = Responder; partner = None; trace = None; «record» = None; input = codes "-i"; output = codes "--role" }))
    -- of a register in memory there is no record
    ∷ bad (codes "feed --book=b --record=r i o")
    -- `--record-sync` is an option of `run` alone
    ∷ bad (codes "feed --db=d --book=b --record=r --record-sync=no i o")
    -- no side has this name
    ∷ bad (codes "feed --book=b --role=listener i o")
    -- an option may only be given once
    ∷ bad (codes "feed --book=b --book=c i o")
    -- a word is missing
    ∷ bad (codes "feed --book=b i")
    -- there is a word too many
    ∷ bad (codes "feed --book=b i o x")
    -- `--help` gives no command
    ∷ bad (codes "feed --help")
    ∷ [])
unfolding clap_on_literals feed_app line_named taken
feed_lines = refl

-- lines of `explain`
explain_lines : AreRead (
    -- `explain` takes what the partner sent alone
    asks (codes "explain i") (said_explain (of_octets (codes "i") None))
    -- or what the station sent, too
    ∷ asks (codes "explain i o") (said_explain (of_octets (codes "i") (Some (codes "o"))))
    -- or a record, and a session of it
    ∷ asks (codes "explain --record r") (said_explain (of_record (codes "r") None))
    ∷ asks (codes "explain --session=7 --record=r") (said_explain (of_record (codes "r") (Some 7)))
    -- the first session has the number 0
    ∷ asks (codes "explain --record r --session 0") (said_explain (of_record (codes "r") (Some 0)))
    -- either is required, and not both
    ∷ bad (codes "explain")
    ∷ bad (codes "explain i --record r")
    -- only a record has sessions
    ∷ bad (codes "explain i --session 1")
    ∷ bad (codes "explain i o --session 0")
    -- there is a word too many
    ∷ bad (codes "explain i o w")
    ∷ [])
unfolding clap_on_literals explain_app line_named taken
explain_lines = refl

-- lines of `audit`
audit_lines : AreRead (
    -- `audit` takes the database alone
    asks (codes "audit --db=d") (said_audit (record { database = codes "d"; old = None; «record» = None }))
    -- or with an older one
    ∷ asks (codes "audit --old o --db=d") (said_audit (record { database = codes "d"; old = Some (codes "o"); «record» = None }))
    -- and a record
    ∷ asks (codes "audit --record r --db=d") (said_audit (record { database = codes "d"; old = None; «record» = Some (codes "r") }))
    -- the database is required
    ∷ bad (codes "audit --old=o")
    -- it takes no word
    ∷ bad (codes "audit --db=d o")
    ∷ [])
unfolding clap_on_literals audit_app line_named taken
audit_lines = refl

-- the history of file 7, these ways
abbrev history_asked : Ways → Bool → Said
history_asked w json = said_history (record { events = codes "e"; ways = w; json = json; no = 7 })

-- lines of `history`
history_lines : AreRead (
    -- `history` takes the events and a number, and tells of both ways
    asks (codes "history --events=e 7") (history_asked ways.Both false)
    -- or of the incoming file
    ∷ asks (codes "history --in 7 --events e") (history_asked ways.In false)
    -- or of the outgoing one
    ∷ asks (codes "history --events=e --out --json 7") (history_asked ways.Out true)
    -- both options are both ways
    ∷ asks (codes "history --events=e --out --in 7") (history_asked ways.Both false)
    -- the events are required
    ∷ bad (codes "history 7")
    -- so is the number
    ∷ bad (codes "history --events=e --in")
    -- which is at least 1
    ∷ bad (codes "history --events=e 0")
    -- and at most 9999999
    ∷ bad (codes "history --events=e 10000000")
    ∷ [])
unfolding clap_on_literals history_app line_named taken
history_lines = refl

-- the evidence of file 7, which goes this way
abbrev evidence_asked : Side → Said
evidence_asked s = said_evidence (record { folder = codes "r"; database = codes "d"; side = s; no = 7; to = codes "t" })

-- lines of `evidence`
evidence_lines : AreRead (
    -- `evidence` takes the record, the database, the way of the file, its number and a folder
    asks (codes "evidence --record=r --db=d --in --to=t 7") (evidence_asked side.Incoming)
    -- the other way, with the words in another order
    ∷ asks (codes "evidence 7 --to t --out --db d --record r") (evidence_asked side.Outgoing)
    -- one way is required
    ∷ bad (codes "evidence --record=r --db=d --to=t 7")
    -- and not both
    ∷ bad (codes "evidence --record=r --db=d --in --out --to=t 7")
    -- the record is required
    ∷ bad (codes "evidence --db=d --in --to=t 7")
    -- so are the database
    ∷ bad (codes "evidence --record=r --in --to=t 7")
    -- the folder
    ∷ bad (codes "evidence --record=r --db=d --in 7")
    -- and the number
    ∷ bad (codes "evidence --record=r --db=d --in --to=t")
    -- which is at least 1
    ∷ bad (codes "evidence --record=r --db=d --in --to=t 0")
    -- and at most 9999999
    ∷ bad (codes "evidence --record=r --db=d --in --to=t 10000000")
    ∷ [])
unfolding clap_on_literals evidence_app line_named taken
evidence_lines = refl

-- listening on this port of this address, with this many seconds for an admission
abbrev entrance_at : ℕ → List ℕ → ℕ → EntranceSaid
entrance_at port address admission = record { port = port; address = address; admission = admission }

-- a partner may be idle and a session may take this many seconds, and this is the trace
abbrev terms_of : ℕ → ℕ → Option (List ℕ) → TermsSaid
terms_of patience longest trace = record { patience = patience; longest = longest; trace = trace }

-- lines of `run`
run_lines : AreRead (
    -- by default `run` listens on port 3305 of the loopback address, and has no end
    asks (codes "run --db=d --book=b")
    (said_run (record {
      files = d_and_b;
      entrance = entrance_at 3305 (codes "127.0.0.1") 30;
      http_port = 0;
      host = None;
      interval = 0;
      terms = terms_of 300 86400 None;
      jobs = 0;
      sync = Synced;
    }))
    -- a record that isn't synced
    ∷ asks (codes "run --record-sync no --db=d --book=b --record r")
    (said_run (record {
      files = r_beside;
      entrance = entrance_at 3305 (codes "127.0.0.1") 30;
      http_port = 0;
      host = None;
      interval = 0;
      terms = terms_of 300 86400 None;
      jobs = 0;
      sync = Unsynced;
    }))
    -- options come in any order
    ∷ asks (codes "run --patience 0 --longest=1 --jobs=1000000 --trace=t --call-every=9 --host h --book=b --http-port=8 --address ::1 --admission 7 --db=d --port=6")
    (said_run (record {
      files = d_and_b;
      entrance = entrance_at 6 (codes "::1") 7;
      http_port = 8;
      host = Some (codes "h");
      interval = 9;
      terms = terms_of 0 1 (Some (codes "t"));
      jobs = 1000000;
      sync = Synced;
    }))
    -- its events go to a file
    ∷ asks (codes "run --db=d --book=b --events=e")
    (said_run (record {
      files = e_beside;
      entrance = entrance_at 3305 (codes "127.0.0.1") 30;
      http_port = 0;
      host = None;
      interval = 0;
      terms = terms_of 300 86400 None;
      jobs = 0;
      sync = Synced;
    }))
    -- a record is synced, or it isn't
    ∷ bad (codes "run --db=d --book=b --record=r --record-sync=maybe")
    -- the interval is a day at most
    ∷ bad (codes "run --db=d --book=b --call-every=86401")
    -- the HTTP port has an upper limit
    ∷ bad (codes "run --db=d --book=b --http-port=65536")
    -- the port isn't 0
    ∷ bad (codes "run --db=d --book=b --port=0")
    -- a million jobs are the most
    ∷ bad (codes "run --db=d --book=b --jobs=1000001")
    -- the patience is a day at most
    ∷ bad (codes "run --db=d --book=b --patience=86401")
    -- an admission takes a second at least
    ∷ bad (codes "run --db=d --book=b --admission=0")
    -- a session takes a second at least
    ∷ bad (codes "run --db=d --book=b --longest=0")
    -- it takes no number of sessions
    ∷ bad (codes "run --db=d --book=b --sessions=1")
    -- the book is required
    ∷ bad (codes "run --db=d")
    -- it takes no word
    ∷ bad (codes "run --db=d --book=b w")
    ∷ [])
unfolding clap_on_literals run_app line_named taken
run_lines = refl

-- lines of `replay`
replay_lines : AreRead (
    -- options come in any order, and all entries are played by default
    asks (codes "replay --book b --record=r --db=d") (said_replay (record { folder = codes "r"; database = codes "d"; book = Some (codes "b"); from = None; to = None }))
    -- or those from one to another
    ∷ asks (codes "replay --to=20240201:9 --from 20240131:7 --book b --record=r --db=d")
    (said_replay (record { folder = codes "r"; database = codes "d"; book = Some (codes "b"); from = Some (codes "20240131:7"); to = Some (codes "20240201:9") }))
    -- either of them may be missing
    ∷ asks (codes "replay --from=x --book b --record=r --db=d") (said_replay (record { folder = codes "r"; database = codes "d"; book = Some (codes "b"); from = Some (codes "x"); to = None }))
    -- so may the other
    ∷ asks (codes "replay --to=y --book b --record=r --db=d") (said_replay (record { folder = codes "r"; database = codes "d"; book = Some (codes "b"); from = None; to = Some (codes "y") }))
    -- it appends no events
    ∷ bad (codes "replay --events=e --book b --record=r --db=d")
    -- the folder is required
    ∷ bad (codes "replay --db=d --book=b")
    -- the book may be missing
    ∷ asks (codes "replay --record=r --db=d") (said_replay (record { folder = codes "r"; database = codes "d"; book = None; from = None; to = None }))
    -- the database is required
    ∷ bad (codes "replay --record=r --book=b")
    -- it takes no word
    ∷ bad (codes "replay --record=r --db=d --book=b w")
    ∷ [])
unfolding clap_on_literals replay_app line_named taken
replay_lines = refl

-- lines of `listen`
listen_lines : AreRead (
    -- by default `listen` serves one session on port 3305 of the loopback address
    asks (codes "listen --db=d --book=b")
    (said_listen (record { files = d_and_b; entrance = entrance_at 3305 (codes "127.0.0.1") 30; sessions = 1; terms = terms_of 300 86400 None }))
    -- options come in any order
    ∷ asks (codes "listen --patience 0 --longest=1 --sessions=1000000 --trace=t --book=b --address ::1 --admission 86400 --db=d --port=65535")
    (said_listen (record { files = d_and_b; entrance = entrance_at 65535 (codes "::1") 86400; sessions = 1000000; terms = terms_of 0 1 (Some (codes "t")) }))
    -- its events go to a file
    ∷ asks (codes "listen --db=d --book=b --events=e")
    (said_listen (record { files = e_beside; entrance = entrance_at 3305 (codes "127.0.0.1") 30; sessions = 1; terms = terms_of 300 86400 None }))
    -- it takes a record
    ∷ asks (codes "listen --db=d --book=b --record=r")
    (said_listen (record { files = r_beside; entrance = entrance_at 3305 (codes "127.0.0.1") 30; sessions = 1; terms = terms_of 300 86400 None }))
    -- which is always synced
    ∷ bad (codes "listen --db=d --book=b --record=r --record-sync=no")
    -- the port isn't 0
    ∷ bad (codes "listen --db=d --book=b --port=0")
    -- the port has an upper limit
    ∷ bad (codes "listen --db=d --book=b --port=65536")
    -- one session is the least
    ∷ bad (codes "listen --db=d --book=b --sessions=0")
    -- a million sessions are the most
    ∷ bad (codes "listen --db=d --book=b --sessions=1000001")
    -- the patience is a day at most
    ∷ bad (codes "listen --db=d --book=b --patience=86401")
    -- an admission takes a second at least
    ∷ bad (codes "listen --db=d --book=b --admission=0")
    -- an admission takes a day at most
    ∷ bad (codes "listen --db=d --book=b --admission=86401")
    -- a session takes a second at least
    ∷ bad (codes "listen --db=d --book=b --longest=0")
    -- a session takes a day at most
    ∷ bad (codes "listen --db=d --book=b --longest=86401")
    -- it takes no word
    ∷ bad (codes "listen --db=d --book=b w")
    -- it takes no partner
    ∷ bad (codes "listen --db=d --book=b --partner=p")
    ∷ [])
unfolding clap_on_literals listen_app line_named taken
listen_lines = refl

-- a call of p, which is a failure or not where it ends otherwise than by 00
abbrev call_asked : Bool → TermsSaid → Said
call_asked fails terms = said_call (record { files = d_and_b; partner = codes "p"; fails = fails; terms = terms })

-- lines of `call`
call_lines : AreRead (
    -- `call` takes a partner
    asks (codes "call --db=d --book=b --partner=p")
    (call_asked false (terms_of 300 86400 None))
    -- with `--fail` another end than 00 is a failure
    ∷ asks (codes "call --fail --db=d --book=b --partner=p") (call_asked true (terms_of 300 86400 None))
    -- `--fail` takes no value
    ∷ bad (codes "call --db=d --book=b --partner=p --fail=true")
    -- it takes a patience, a session length and a trace
    ∷ asks (codes "call --db=d --book=b --longest 1 --patience 86400 --trace t --partner p")
    (call_asked false (terms_of 86400 1 (Some (codes "t"))))
    -- its events go to a file
    ∷ asks (codes "call --db=d --book=b --events=e --partner=p")
    (said_call (record { files = e_beside; partner = codes "p"; fails = false; terms = terms_of 300 86400 None }))
    -- it takes a record
    ∷ asks (codes "call --db=d --book=b --record=r --partner=p")
    (said_call (record { files = r_beside; partner = codes "p"; fails = false; terms = terms_of 300 86400 None }))
    -- the partner is required
    ∷ bad (codes "call --db=d --book=b")
    -- it takes no admission
    ∷ bad (codes "call --db=d --book=b --partner=p --admission=30")
    -- a session takes a second at least
    ∷ bad (codes "call --db=d --book=b --partner=p --longest=0")
    -- it takes no port, since the book has the address
    ∷ bad (codes "call --db=d --book=b --partner=p --port=3305")
    ∷ [])
unfolding clap_on_literals call_app line_named taken
call_lines = refl

-- lines of `http`
http_lines : AreRead (
    -- by default `http` answers one request on port 8080 of the loopback address
    asks (codes "http --db=d") (said_http (record { database = codes "d"; port = 8080; address = codes "127.0.0.1"; requests = 1 }))
    -- options come in any order
    ∷ asks (codes "http --requests=1000000 --address=a --db=d --port 1")
    (said_http (record { database = codes "d"; port = 1; address = codes "a"; requests = 1000000 }))
    -- one request is the least
    ∷ bad (codes "http --db=d --requests=0")
    -- it takes no book
    ∷ bad (codes "http --db=d --book=b")
    ∷ [])
unfolding clap_on_literals http_app line_named taken
http_lines = refl

-- lines without a command
no_lines : AreRead (
    -- no command has this name
    bad (codes "feeds --book=b i o")
    -- there is no word
    ∷ ([], None)
    ∷ [])
unfolding clap_on_literals line_named taken
no_lines = refl
