-- Requests as typed values, and the words that stand for each.
use Rattle.std.specs.Prelude.{ℕ, ◌<◌, ◌^◌, List, [], ◌∷◌, map}
use Rattle.std.specs.Global.{Vec}
use Rattle.std.specs.Int.{w64, to_be_bytes}
use Rattle.std.specs.Str.{IsUtf8}
use Rattle.oftp_vfile.specs.declared.format.Format.{Format}
use Rattle.oftp_vfile.specs.declared.format.Format.TheVariants as formats
use Rattle.oftp_engine.specs.declared.operating.Operator.{Operator}
use Rattle.oftp_engine.specs.declared.operating.Operator.TheVariants as operator
use Rattle.oftp_engine.specs.declared.submitting.Submission.{Submission}
use Rattle.oftp_listing.specs.declared.reports.ReportKind.{ReportKind}
use Rattle.oftp_listing.specs.declared.reports.ReportKind.TheVariants as reports
use Rattle.oftp_channel.specs.declared.asking.Form.{Form}
use Rattle.oftp_channel.specs.declared.asking.Form.TheVariants as forms
use Rattle.oftp_channel.specs.declared.asking.Haste.{Haste}
use Rattle.oftp_channel.specs.declared.asking.Haste.TheVariants as hastes
use Rattle.oftp_channel.specs.declared.asking.Request.{Request}
use Rattle.oftp_channel.specs.declared.asking.Request.TheVariants as requests
use Rattle.oftp_channel.specs.declared.asking.Tracing.{Tracing}
use Rattle.oftp_channel.specs.declared.asking.Tracing.TheVariants as tracings
use Rattle.oftp_channel.specs.declared.codes.RequestKind.{RequestKind}
use Rattle.oftp_channel.specs.declared.codes.RequestKind.TheVariants as kinds
use Rattle.oftp_channel.specs.declared.request.Word.{Word}
use Rattle.oftp_channel.specs.declared.request.Word.TheVariants as words

-- a word of one octet
abbrev pub octet_word : ℕ → List ℕ
octet_word octet = octet ∷ []

-- a number as a word: eight octets, the most significant first
abbrev pub number_word : ℕ → List ℕ
number_word number = to_be_bytes w64 number

-- the octets of a word that is written
abbrev pub octets_in : Word → List ℕ
octets_in (words.Octet octet) = octet_word octet
octets_in (words.Number number) = number_word number
octets_in (words.Octets octets) = octets.now

-- the octets of words that are written
abbrev pub written_words : List Word → List (List ℕ)
written_words words = map (λ word. octets_in word) words

-- the octets of words that were read
abbrev pub read_words : List (Vec ℕ) → List (List ℕ)
read_words words = map (λ word. word.items) words

-- the octet that encodes the kind of a request
abbrev pub request_code : RequestKind → ℕ
request_code kinds.Submit = 1
request_code kinds.Release = 2
request_code kinds.Refuse = 3
request_code kinds.Call = 4
request_code kinds.Report = 5
request_code kinds.Unanswered = 6
request_code kinds.Outgoing = 7
request_code kinds.Fetch = 8
request_code kinds.Holds = 9
request_code kinds.Backup = 10
request_code kinds.Init = 11
request_code kinds.Stop = 12
request_code kinds.Reload = 13
request_code kinds.Resend = 14
request_code kinds.Status = 15
request_code kinds.Health = 16
request_code kinds.Settled = 17

-- the octet that encodes a format: its letter, F, V, U or T (RFC 5024, section 5.3.3)
abbrev pub format_code : Format → ℕ
format_code formats.Fixed = 70
format_code formats.Variable = 86
format_code formats.Unstructured = 85
format_code formats.Text = 84

-- the octet that encodes the subject of a report
abbrev pub report_code : ReportKind → ℕ
report_code reports.Incoming = 1
report_code reports.Outgoing = 2
report_code reports.Issued = 3
report_code reports.Received = 4

-- the octet that encodes whether a trace is wanted
abbrev pub tracing_code : Tracing → ℕ
tracing_code tracings.None = 0
tracing_code tracings.Kept = 1

-- the octet that encodes when a station ends
abbrev pub haste_code : Haste → ℕ
haste_code hastes.InTurn = 0
haste_code hastes.AtOnce = 1

-- the octet that encodes how a station's status is told
abbrev pub form_code : Form → ℕ
form_code forms.Lines = 0
form_code forms.Json = 1

-- the kind of the request for an operator's call
abbrev pub call_kind : Operator → RequestKind
call_kind (operator.Submit submission) = kinds.Submit
call_kind (operator.Release number) = kinds.Release
call_kind (operator.Refuse number reason text) = kinds.Refuse

abbrev pub request_kind : Request → RequestKind
request_kind (requests.Operate book call) = call_kind call
request_kind (requests.Call partner patience longest tracing) = kinds.Call
request_kind (requests.Report kind) = kinds.Report
request_kind requests.Unanswered = kinds.Unanswered
request_kind (requests.Outgoing to) = kinds.Outgoing
request_kind (requests.Fetch number) = kinds.Fetch
request_kind (requests.Holds number content) = kinds.Holds
request_kind (requests.Backup to) = kinds.Backup
request_kind requests.Init = kinds.Init
request_kind (requests.Stop haste) = kinds.Stop
request_kind requests.Reload = kinds.Reload
request_kind (requests.Resend book number date time) = kinds.Resend
request_kind (requests.Status form) = kinds.Status
request_kind (requests.Health warn critical) = kinds.Health
request_kind requests.Settled = kinds.Settled

-- the fields of a submission, as words
abbrev pub submission_fields : Submission → List (List ℕ)
submission_fields s = s.dataset.now ∷ s.date.now ∷ s.time.now ∷ s.to.now ∷ octet_word (format_code s.format) ∷ number_word s.longest
    ∷ s.description.now ∷ s.content.now ∷ []

-- the fields of an operator's call, as words
abbrev pub call_fields : Operator → List (List ℕ)
call_fields (operator.Submit submission) = submission_fields submission
call_fields (operator.Release number) = number_word number ∷ []
call_fields (operator.Refuse number reason text) = number_word number ∷ number_word reason ∷ text.now ∷ []

-- the fields of a request, as words
abbrev pub request_fields : Request → List (List ℕ)
request_fields (requests.Operate book call) = book.now ∷ call_fields call
request_fields (requests.Call partner patience longest tracing) = partner.now ∷ number_word patience ∷ number_word longest
    ∷ octet_word (tracing_code tracing) ∷ []
request_fields (requests.Report kind) = octet_word (report_code kind) ∷ []
request_fields requests.Unanswered = []
request_fields (requests.Outgoing to) = to.now ∷ []
request_fields (requests.Fetch number) = number_word number ∷ []
request_fields (requests.Holds number content) = number_word number ∷ content.now ∷ []
request_fields (requests.Backup to) = to.now ∷ []
request_fields requests.Init = []
request_fields (requests.Stop haste) = octet_word (haste_code haste) ∷ []
request_fields requests.Reload = []
request_fields (requests.Resend book number date time) = book.now ∷ number_word number ∷ date.now ∷ time.now ∷ []
request_fields (requests.Status form) = octet_word (form_code form) ∷ []
request_fields (requests.Health warn critical) = number_word warn ∷ number_word critical ∷ []
request_fields requests.Settled = []

-- the words of a request: its kind, and then its fields in their order
abbrev pub words_of : Request → List (List ℕ)
words_of request = octet_word (request_code (request_kind request)) ∷ request_fields request

-- the texts of a submission are UTF-8, and the length of its longest record has 32 bits
pub record IsWellTyped (s : Submission) : Type 0 where
  pub dataset : IsUtf8 s.dataset.now
  pub date : IsUtf8 s.date.now
  pub time : IsUtf8 s.time.now
  pub to : IsUtf8 s.to.now
  pub description : IsUtf8 s.description.now
  pub longest : s.longest < 2 ^ 32

-- the same of an operator's call
abbrev pub IsCallable : Operator → Type 0
IsCallable (operator.Submit submission) = IsWellTyped submission
IsCallable (operator.Release number) = Unit {0}
IsCallable (operator.Refuse number reason text) = IsUtf8 text.now

-- A request that a command can make: its texts are UTF-8, and the length of its longest record has 32 bits.
abbrev pub IsAskable : Request → Type 0
IsAskable (requests.Operate book call) = IsCallable call
IsAskable (requests.Call partner patience longest tracing) = IsUtf8 partner.now
IsAskable (requests.Report kind) = Unit {0}
IsAskable requests.Unanswered = Unit {0}
IsAskable (requests.Outgoing to) = IsUtf8 to.now
IsAskable (requests.Fetch number) = Unit {0}
IsAskable (requests.Holds number content) = Unit {0}
IsAskable (requests.Backup to) = IsUtf8 to.now
IsAskable requests.Init = Unit {0}
IsAskable (requests.Stop haste) = Unit {0}
IsAskable requests.Reload = Unit {0}
IsAskable (requests.Resend book number date time) = IsUtf8 date.now × IsUtf8 time.now
IsAskable (requests.Status form) = Unit {0}
IsAskable (requests.Health warn critical) = Unit {0}
IsAskable requests.Settled = Unit {0}
