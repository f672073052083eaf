-- What an audit tells of an entry: what is lost of an older one in a newer one, and what is unsound in one alone.
use Rattle.std.specs.Prelude.{ℕ, ◌-◌, ◌==◌, ◌&&◌, ◌||◌, not, Bool, true, false, nat_le, nat_lt, if◌then◌else◌, List, [], ◌∷◌, Option, None, Some, is_some, codes}
use Rattle.std.specs.Str.{bytes_eq}
use Rattle.oftp_vfile.specs.declared.format.Format.{Format}
use Rattle.oftp_vfile.specs.declared.format.Format.TheVariants.{Fixed, Variable, Unstructured, Text}
use Rattle.oftp_vfile.specs.declared.format.TheConstants.{BLOCK, LONGEST_RECORD, MOST_ROWS}
use Rattle.oftp_register.specs.declared.entry.IncomingState.{IncomingState}
use Rattle.oftp_register.specs.declared.entry.IncomingState.TheVariants.{Open, Whole}
use Rattle.oftp_register.specs.declared.entry.ResponseKind.{ResponseKind}
use Rattle.oftp_register.specs.declared.entry.ResponseKind.TheVariants.{EndResponse, NegativeEndResponse}
use Rattle.oftp_register.specs.declared.entries.IncomingEntry.{IncomingEntry}
use Rattle.oftp_register.specs.declared.entries.IssuedResponse.{IssuedResponse}
use Rattle.oftp_register.specs.declared.entries.OutgoingEntry.{OutgoingEntry}
use Rattle.oftp_register.specs.declared.entries.ReceivedResponse.{ReceivedResponse}
use Rattle.oftp_register.specs.Register.{same_identity, same_kind}
use Rattle.oftp_register.specs.Verdicts.{same_format}
use Rattle.oftp_audit.specs.Evidence.{may_become, may_dispatch}
use Rattle.oftp_audit.specs.declared.loss.Loss.{Loss}
use Rattle.oftp_audit.specs.declared.loss.Loss.TheVariants as loss
use Rattle.oftp_audit.specs.declared.rows.Shape.{Shape}

-- the words of a loss
abbrev pub loss_text : Loss → List ℕ
loss_text loss.Missing = codes "is missing"
loss_text loss.Identity = codes "has another identity"
loss_text loss.State = codes "has lost its state"
loss_text loss.Format = codes "has another format"
loss_text loss.Longest = codes "has another longest record"
loss_text loss.Description = codes "has another description"
loss_text loss.Count = codes "has another number of rows"
loss_text loss.Octets = codes "has other octets"
loss_text loss.Kind = codes "is of another kind"
loss_text loss.Reason = codes "has another reason"
loss_text loss.Creator = codes "has another creator"
loss_text loss.Words = codes "has another text"
loss_text loss.Dispatch = codes "was sent, and is due again"
loss_text loss.UnfitLongest = codes "has a longest record that its format doesn't allow"
loss_text loss.UnfitCount = codes "has too many rows"
loss_text loss.UnfitMark = codes "has a mark above its rows"
loss_text loss.UnfitLength = codes "has a length that the format doesn't allow"
loss_text loss.UnfitResponse = codes "has a response, and isn't whole"
loss_text loss.UnfitWords = codes "has a reason, a creator or a text, and is an EERP"
loss_text loss.Unread = codes "has a value that no entry has"
loss_text loss.Stray = codes "belongs to no entry"

-- a loss, unless this holds
abbrev pub unless : Bool → Loss → Option Loss
unless true loss = None
unless false loss = Some loss

-- the file is incomplete
abbrev pub is_open : IncomingState → Bool
is_open Open = true
is_open Whole = false

-- the state of an incoming file doesn't go back
abbrev pub may_come : IncomingState → IncomingState → Bool
may_come Open later = true
may_come Whole Open = false
may_come Whole Whole = true

-- ---- against an older entry

-- What is lost of an incoming file. An open one may change, except for its identity.
abbrev pub lost_of_incoming : IncomingEntry → Option IncomingEntry → List (Option Loss)
lost_of_incoming x None = Some loss.Missing ∷ None ∷ None ∷ None ∷ None ∷ None ∷ []
lost_of_incoming x (Some y) =
    unless (same_identity x.identity y.identity) loss.Identity
    ∷ unless (may_come x.state y.state) loss.State
    ∷ unless (is_open x.state || same_format x.format y.format) loss.Format
    ∷ unless (is_open x.state || (x.longest == y.longest)) loss.Longest
    ∷ unless (is_open x.state || bytes_eq x.description y.description) loss.Description
    ∷ unless (is_open x.state || (x.rows == y.rows)) loss.Count
    ∷ []

-- what is lost of a response that was issued
abbrev pub lost_of_issued : IssuedResponse → Option IssuedResponse → List (Option Loss)
lost_of_issued x None = Some loss.Missing ∷ None ∷ None ∷ None ∷ []
lost_of_issued x (Some y) =
    unless (same_kind x.kind y.kind) loss.Kind
    ∷ unless (x.reason == y.reason) loss.Reason
    ∷ unless (bytes_eq x.text y.text) loss.Words
    ∷ unless (may_dispatch x.dispatch y.dispatch) loss.Dispatch
    ∷ []

-- what is lost of an outgoing file
abbrev pub lost_of_outgoing : OutgoingEntry → Option OutgoingEntry → List (Option Loss)
lost_of_outgoing x None = Some loss.Missing ∷ None ∷ None ∷ None ∷ None ∷ None ∷ []
lost_of_outgoing x (Some y) =
    unless (same_identity x.identity y.identity) loss.Identity
    ∷ unless (may_become x.state y.state) loss.State
    ∷ unless (same_format x.format y.format) loss.Format
    ∷ unless (x.longest == y.longest) loss.Longest
    ∷ unless (bytes_eq x.description y.description) loss.Description
    ∷ unless (x.rows == y.rows) loss.Count
    ∷ []

-- what is lost of a response that a partner sent
abbrev pub lost_of_received : ReceivedResponse → Option ReceivedResponse → List (Option Loss)
lost_of_received x None = Some loss.Missing ∷ None ∷ None ∷ None ∷ None ∷ []
lost_of_received x (Some y) =
    unless (same_kind x.kind y.kind) loss.Kind
    ∷ unless (same_identity x.identity y.identity) loss.Identity
    ∷ unless (x.reason == y.reason) loss.Reason
    ∷ unless (bytes_eq x.creator y.creator) loss.Creator
    ∷ unless (bytes_eq x.text y.text) loss.Words
    ∷ []

-- what is lost of a row whose file keeps its content
abbrev pub lost_of_row : List ℕ → Option (List ℕ) → Option Loss
lost_of_row x None = Some loss.Missing
lost_of_row x (Some y) = unless (bytes_eq x y) loss.Octets

-- ---- alone

-- a format allows a longest record: 1 to 16,384 in F and V, and 0 in U and T
abbrev pub allows : Format → ℕ → Bool
allows Fixed longest = nat_lt 0 longest && nat_le longest LONGEST_RECORD
allows Variable longest = nat_lt 0 longest && nat_le longest LONGEST_RECORD
allows Unstructured longest = longest == 0
allows Text longest = longest == 0

-- a row has the length of a full one (RFC 5024, section 1.5.4)
abbrev pub is_full : Format → ℕ → ℕ → Bool
is_full Fixed longest len = len == longest
is_full Variable longest len = nat_le len longest
is_full Unstructured longest len = len == BLOCK
is_full Text longest len = len == BLOCK

-- the last row has a length that it may have: in U and T it may be shorter than the others, but isn't empty
abbrev pub is_last : Format → ℕ → ℕ → Bool
is_last Fixed longest len = len == longest
is_last Variable longest len = nat_le len longest
is_last Unstructured longest len = nat_lt 0 len && nat_le len BLOCK
is_last Text longest len = nat_lt 0 len && nat_le len BLOCK

-- the row at a place, counted from 0, has a length that it may have; only a whole file has a last row
abbrev pub may_have : Shape → ℕ → ℕ → Bool
may_have shape at len = if not (is_open shape.state) && (shape.rows - at == 1)
    then is_last shape.format shape.longest len
    else is_full shape.format shape.longest len

-- what is unsound in an incoming file without its rows
abbrev pub unsound_in_incoming : IncomingEntry → List (Option Loss)
unsound_in_incoming x =
    unless (allows x.format x.longest) loss.UnfitLongest
    ∷ unless (nat_le x.rows MOST_ROWS) loss.UnfitCount
    ∷ unless (not (is_open x.state && is_some x.response)) loss.UnfitResponse
    ∷ []

-- what is unsound in an outgoing file without its rows
abbrev pub unsound_in_outgoing : OutgoingEntry → List (Option Loss)
unsound_in_outgoing x =
    unless (allows x.format x.longest) loss.UnfitLongest
    ∷ unless (nat_le x.rows MOST_ROWS) loss.UnfitCount
    ∷ unless (nat_le x.mark x.rows) loss.UnfitMark
    ∷ []

-- a text is empty
abbrev pub is_blank : List ℕ → Bool
is_blank [] = true
is_blank (x ∷ xs) = false

-- an End-to-End Response has no reason, no creator and no text (RFC 5024, section 5.3.13)
abbrev pub may_say : ResponseKind → ℕ → List ℕ → List ℕ → Bool
may_say EndResponse reason creator text = (reason == 0) && (is_blank creator && is_blank text)
may_say NegativeEndResponse reason creator text = true

-- what is unsound in a response that was issued, whose creator is the station
abbrev pub unsound_in_issued : IssuedResponse → Option Loss
unsound_in_issued x = unless (may_say x.kind x.reason [] x.text) loss.UnfitWords

-- what is unsound in a response that a partner sent
abbrev pub unsound_in_received : ReceivedResponse → Option Loss
unsound_in_received x = unless (may_say x.kind x.reason x.creator x.text) loss.UnfitWords

-- what is unsound in a row, from its place and its length
abbrev pub unsound_in_row : Shape → ℕ → ℕ → Option Loss
unsound_in_row shape at len = unless (may_have shape at len) loss.UnfitLength
