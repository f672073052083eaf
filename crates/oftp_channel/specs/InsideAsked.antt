-- The fields of each kind of request, and what no request of a kind has for its fields.
use Rattle.std.specs.Prelude.{◌≡◌, ℕ, ◌<◌, ◌^◌, List, [], ◌∷◌}
use Rattle.std.specs.Str.{IsUtf8}
use Rattle.oftp_vfile.specs.declared.format.Format.{Format}
use Rattle.oftp_listing.specs.declared.reports.ReportKind.{ReportKind}
use Rattle.oftp_channel.specs.Asked.{form_code, format_code, haste_code, number_word, octet_word, report_code, request_fields, request_kind, tracing_code}
use Rattle.oftp_channel.specs.declared.asking.Form.{Form}
use Rattle.oftp_channel.specs.declared.asking.Haste.{Haste}
use Rattle.oftp_channel.specs.declared.asking.Request.{Request}
use Rattle.oftp_channel.specs.declared.asking.Tracing.{Tracing}
use Rattle.oftp_channel.specs.declared.codes.RequestKind.{RequestKind}
use Rattle.oftp_channel.specs.declared.codes.RequestKind.TheVariants as kinds
use Rattle.oftp_channel.specs.declared.stamp.Stamp.{Stamp}

-- a request is of this kind, and has these fields
pub record IsFor (kind : RequestKind) (fields : List (List ℕ)) (request : Request) : Type 0 where
  pub sort : request_kind request ≡ kind
  pub words : request_fields request ≡ fields

-- these words spell a stamp
pub record IsStampOf (dataset date time : List ℕ) (stamp : Stamp) : Type 0 where
  pub name : stamp.dataset.now ≡ dataset
  pub day : stamp.date.now ≡ date
  pub hour : stamp.time.now ≡ time

-- no text has these octets
abbrev pub IsNoText : List ℕ → Type 0
IsNoText word = IsUtf8 word → ⊥

-- no number is spelled by this word
abbrev pub IsNoNumber : List ℕ → Type 0
IsNoNumber word = (number : ℕ) → number_word number ≡ word → ⊥

-- no submission has these fields
abbrev pub IsNoSubmission : List (List ℕ) → Type 0
IsNoSubmission fields = (dataset date time to description content : List ℕ) (format : Format) (longest : ℕ) → IsUtf8 dataset → IsUtf8 date → IsUtf8 time
    → IsUtf8 to → IsUtf8 description → longest < 2 ^ 32 → fields ≡ dataset ∷ date ∷ time ∷ to ∷ octet_word (format_code format) ∷ number_word longest
    ∷ description ∷ content ∷ [] → ⊥

-- no request of this kind has these fields
abbrev pub IsNoRequest : RequestKind → List (List ℕ) → Type 0
IsNoRequest kinds.Submit fields = (book : List ℕ) (others : List (List ℕ)) → fields ≡ book ∷ others → IsNoSubmission others
IsNoRequest kinds.Release fields = (book : List ℕ) (number : ℕ) → fields ≡ book ∷ number_word number ∷ [] → ⊥
IsNoRequest kinds.Refuse fields = (book text : List ℕ) (number reason : ℕ) → IsUtf8 text → fields ≡ book ∷ number_word number ∷ number_word reason ∷ text ∷ [] → ⊥
IsNoRequest kinds.Call fields = (partner : List ℕ) (patience longest : ℕ) (tracing : Tracing) → IsUtf8 partner
    → fields ≡ partner ∷ number_word patience ∷ number_word longest ∷ octet_word (tracing_code tracing) ∷ [] → ⊥
IsNoRequest kinds.Report fields = (kind : ReportKind) → fields ≡ octet_word (report_code kind) ∷ [] → ⊥
IsNoRequest kinds.Unanswered fields = fields ≡ [] → ⊥
IsNoRequest kinds.Outgoing fields = (to : List ℕ) → IsUtf8 to → fields ≡ to ∷ [] → ⊥
IsNoRequest kinds.Fetch fields = (number : ℕ) → fields ≡ number_word number ∷ [] → ⊥
IsNoRequest kinds.Holds fields = (number : ℕ) (content : List ℕ) → fields ≡ number_word number ∷ content ∷ [] → ⊥
IsNoRequest kinds.Backup fields = (to : List ℕ) → IsUtf8 to → fields ≡ to ∷ [] → ⊥
IsNoRequest kinds.Init fields = fields ≡ [] → ⊥
IsNoRequest kinds.Stop fields = (haste : Haste) → fields ≡ octet_word (haste_code haste) ∷ [] → ⊥
IsNoRequest kinds.Reload fields = fields ≡ [] → ⊥
IsNoRequest kinds.Resend fields = (book date time : List ℕ) (number : ℕ) → IsUtf8 date → IsUtf8 time → fields ≡ book ∷ number_word number ∷ date ∷ time ∷ [] → ⊥
IsNoRequest kinds.Status fields = (form : Form) → fields ≡ octet_word (form_code form) ∷ [] → ⊥
IsNoRequest kinds.Health fields = (warn critical : ℕ) → fields ≡ number_word warn ∷ number_word critical ∷ [] → ⊥
IsNoRequest kinds.Settled fields = fields ≡ [] → ⊥
