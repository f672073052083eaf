-- What an operator's call does to a register, and the line that it writes.
use Rattle.std.specs.Prelude.{◌≡◌, ℕ, ◌+◌, ◌<◌, ◌≤◌, ◌⊎◌, Bool, ◌&&◌, ◌||◌, nat_le, nat_lt, is_some, if◌then◌else◌, List, [], ◌++◌, length, codes, Option, None, Some, Result, Ok, Err}
use Rattle.std.specs.Fmt.{decimal}
use Rattle.oftp_wire.specs.Octets.{IsDigits, IsName}
use Rattle.oftp_vfile.specs.LocalForm.{IsLocal}
use Rattle.oftp_vfile.specs.VirtualFile.{IsLongest, units_in}
use Rattle.oftp_vfile.specs.declared.limits.Limits.{Limits}
use Rattle.oftp_vfile.specs.declared.format.TheConstants.{MOST_ROWS}
use Rattle.oftp_partners.specs.Book.{BookData, partner_at}
use Rattle.oftp_register.specs.declared.change.Cause.{Cause}
use Rattle.oftp_register.specs.declared.change.Cause.TheVariants as cause
use Rattle.oftp_register.specs.declared.change.Change.{Change}
use Rattle.oftp_register.specs.declared.change.Change.TheVariants as change
use Rattle.oftp_register.specs.declared.entry.Identity.{Identity}
use Rattle.oftp_register.specs.declared.entry.ResponseKind.TheVariants.{EndResponse, NegativeEndResponse}
use Rattle.oftp_register.specs.Register.{Register}
use Rattle.oftp_register.specs.Changes.{apply, is_outgoing}
use Rattle.oftp_engine.specs.declared.limits.TheConstants.{HIGHEST_REASON, LONGEST_TEXT}
use Rattle.oftp_engine.specs.declared.operating.Operator.{Operator}
use Rattle.oftp_engine.specs.declared.operating.Operator.TheVariants as operator
use Rattle.oftp_engine.specs.declared.operating.Refusal.{Refusal}
use Rattle.oftp_engine.specs.declared.operating.Refusal.TheVariants as refusal
use Rattle.oftp_engine.specs.declared.submitting.Submission.{Submission}
use Rattle.oftp_engine.specs.declared.operating.Told.{Told}
use Rattle.oftp_engine.specs.declared.operating.Told.TheVariants as told

-- the effect of a call: its change, if it makes one, its result and its line
pub record Deed : Type 0 where
  pub change : Option Change
  pub told : Told
  pub line : List ℕ

-- a refusal in words
abbrev pub refusal_phrase : Refusal → List ℕ
refusal_phrase refusal.Duplicate = codes "refused: 1 duplicate"
refusal_phrase refusal.Unknown = codes "refused: 2 unknown"
refusal_phrase refusal.State = codes "refused: 3 state"
refusal_phrase refusal.Limit = codes "refused: 4 limit"
refusal_phrase refusal.Field = codes "refused: 5 field"

-- the line of a refusal
abbrev pub refusal_line : Refusal → List ℕ
refusal_line refusal = refusal_phrase refusal ++ codes "\n"

abbrev pub refuses : Refusal → Deed
refuses refusal = record { change = None; told = told.Refused refusal; line = refusal_line refusal }

-- the line of a call that was carried out, which ends with the number of its file
abbrev pub done_line : List ℕ → ℕ → List ℕ
done_line verb n = verb ++ decimal n ++ codes "\n"

-- the refusal that the operator gets for a register's cause
abbrev pub refusal_of : Cause → Refusal
refusal_of cause.Duplicate = refusal.Duplicate
refusal_of cause.Unknown = refusal.Unknown
refusal_of cause.State = refusal.State
refusal_of cause.Full = refusal.Limit

-- a change of the file with a number is made, or refused as the register refuses it
abbrev pub decided : List ℕ → ℕ → Change → Result Register Cause → Deed
decided verb n change (Ok after) = record { change = Some change; told = told.Done n; line = done_line verb n }
decided verb n change (Err cause) = refuses (refusal_of cause)

abbrev pub makes : List ℕ → ℕ → Change → Register → Deed
makes verb n change r = decided verb n change (apply r change)

-- outgoing files

-- the fields of a submission are in their ranges, except its content (RFC 5024, section 5.3.3)
pub record AreInRange (s : Submission) : Type 0 where
  pub named : 0 < length s.dataset.now
  pub dataset : IsName 26 s.dataset.now
  pub date : IsDigits 8 s.date.now
  pub time : IsDigits 10 s.time.now
  pub longest : IsLongest s.format s.longest
  pub description : length s.description.now ≤ LONGEST_TEXT

-- what is submitted is the virtual file of these rows: the content is their local form
pub record IsFileOf (s : Submission) (rows : List (List ℕ)) : Type 0 where
  pub fields : AreInRange s
  pub content : IsLocal s.format s.longest s.content.now rows

-- what is submitted isn't a virtual file
abbrev pub IsNoFile : Submission → Type 0
IsNoFile s = (rows : List (List ℕ)) → IsFileOf s rows → ⊥

-- the identity of a file that the station sends
abbrev pub identity_of : BookData → Submission → Identity
identity_of book s = record { dataset = s.dataset.now; date = s.date.now; time = s.time.now; originator = book.station.code; destination = s.to.now }

-- the file has more octets or more rows than the limits allow
abbrev pub is_too_big : Limits → List (List ℕ) → Bool
is_too_big limits rows = nat_lt limits.octets (units_in rows) || nat_lt MOST_ROWS (length rows)

-- a file of these rows is registered, to be sent. Its number is one more than the number of outgoing files.
abbrev pub registered : Identity → Submission → List (List ℕ) → Register → Deed
registered identity s rows r = makes (codes "done: submit ") (1 + length r.outgoing) (change.Submit identity s.format s.longest s.description.now rows) r

-- it is for a partner in the book, its identity is new, and it is within the limits
abbrev pub submitted : BookData → Register → Submission → List (List ℕ) → Deed
submitted book r s rows =
    if is_some (partner_at s.to.now book.partners)
    then (if is_outgoing r (identity_of book s) then refuses refusal.Duplicate
    else (if is_too_big r.limits rows then refuses refusal.Limit
    else registered (identity_of book s) s rows r))
    else refuses refusal.Unknown

-- what is submitted is a file and is registered, or it isn't one and is refused
abbrev pub Submits : BookData → Register → Submission → Deed → Type 0
Submits book r s deed = ((rows : List (List ℕ)) × IsFileOf s rows × (deed ≡ submitted book r s rows)) ⊎ (IsNoFile s × (deed ≡ refuses refusal.Field))

-- responses to an incoming file

abbrev pub released : Register → ℕ → Deed
released r n = makes (codes "done: release ") n (change.Issue n EndResponse 0 []) r

abbrev pub refused : Register → ℕ → ℕ → List ℕ → Deed
refused r n reason text = if nat_le reason HIGHEST_REASON && nat_le (length text) LONGEST_TEXT
    then makes (codes "done: refuse ") n (change.Issue n NegativeEndResponse reason text) r
    else refuses refusal.Field

-- what a call does to a register, by a book
abbrev pub IsDeed : BookData → Register → Operator → Deed → Type 0
IsDeed book r (operator.Submit submission) deed = Submits book r submission deed
IsDeed book r (operator.Release n) deed = deed ≡ released r n
IsDeed book r (operator.Refuse n reason text) deed = deed ≡ refused r n reason text.now

-- Only a call that reads a content may run out of memory. A content that isn't a file is refused without it.
abbrev pub NeedsMemory : Operator → Type 0
NeedsMemory (operator.Submit submission) = IsNoFile submission → ⊥
NeedsMemory (operator.Release n) = ⊥
NeedsMemory (operator.Refuse n reason text) = ⊥
