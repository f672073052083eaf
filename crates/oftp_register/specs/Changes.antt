-- What each change does to a register, or why it is refused. Parts that aren't named are unchanged.
use Rattle.std.specs.Prelude.{ℕ, zero, suc, ◌&&◌, ◌||◌, Bool, true, false, nat_le, nat_lt, if◌then◌else◌, List, [], ◌∷◌, ◌++◌, fold, length, take, map, Option, None, Some, Result, Ok, Err}
use Rattle.std.specs.List.{list_any}
use Rattle.oftp_vfile.specs.declared.format.Format.{Format}
use Rattle.oftp_register.specs.declared.entry.Identity.{Identity}
use Rattle.oftp_register.specs.declared.entry.ResponseKind.{ResponseKind}
use Rattle.oftp_register.specs.declared.entry.ResponseKind.TheVariants.{EndResponse, NegativeEndResponse}
use Rattle.oftp_register.specs.declared.entry.IncomingState.{IncomingState}
use Rattle.oftp_register.specs.declared.entry.IncomingState.TheVariants.{Open, Whole}
use Rattle.oftp_register.specs.declared.entry.OutgoingState.{OutgoingState}
use Rattle.oftp_register.specs.declared.entry.OutgoingState.TheVariants.{Waiting, Closing, Handed, Refused, Delivered, Returned}
use Rattle.oftp_register.specs.declared.entry.Dispatch.{Dispatch}
use Rattle.oftp_register.specs.declared.entry.Dispatch.TheVariants.{Due, Sent}
use Rattle.oftp_register.specs.declared.change.Cause.{Cause}
use Rattle.oftp_register.specs.declared.change.Cause.TheVariants.{Duplicate, Unknown, State, Full}
use Rattle.oftp_register.specs.declared.change.Change.{Change}
use Rattle.oftp_register.specs.declared.change.Change.TheVariants as change
use Rattle.oftp_register.specs.Register.{Register, Issued, Incoming, Outgoing, Received, same_identity, has_received}

-- the result with another value
abbrev pub mapped : {A B : Type 0} → (A → B) → Result A Cause → Result B Cause
mapped f (Ok x) = Ok (f x)
mapped f (Err cause) = Err cause

-- the list with the entry of a number changed; a number without an entry is `Unknown`
abbrev pub at_number : {A : Type 0} → (A → Result A Cause) → ℕ → List A → Result (List A) Cause
at_number f zero entries = Err Unknown
at_number f (suc n) [] = Err Unknown
at_number f (suc zero) (x ∷ entries) = mapped (λ y. y ∷ entries) (f x)
at_number f (suc (suc n)) (x ∷ entries) = mapped (λ ys. x ∷ ys) (at_number f (suc n) entries)

-- the register with the incoming file of a number changed
abbrev pub on_incoming : (Incoming → Result Incoming Cause) → ℕ → Register → Result Register Cause
on_incoming f n r = mapped (λ files. record r { incoming = files }) (at_number f n r.incoming)

-- the register with the outgoing file of a number changed
abbrev pub on_outgoing : (Outgoing → Result Outgoing Cause) → ℕ → Register → Result Register Cause
on_outgoing f n r = mapped (λ files. record r { outgoing = files }) (at_number f n r.outgoing)

-- outgoing files

-- there is an outgoing file with this identity
abbrev pub is_outgoing : Register → Identity → Bool
is_outgoing r identity = list_any (λ (f : Outgoing). same_identity f.identity identity) r.outgoing

-- a file to be sent: it waits, with mark 0
abbrev pub new_outgoing : Identity → Format → ℕ → List ℕ → List (List ℕ) → Outgoing
new_outgoing identity format longest description rows =
    record { identity = identity; format = format; longest = longest; description = description; rows = rows; mark = 0; state = Waiting }

-- a new file is added, to be sent
abbrev pub submitted : Register → Outgoing → Result Register Cause
submitted r file = if is_outgoing r file.identity then Err Duplicate
    else (if nat_le r.limits.files (length r.outgoing) then Err Full
    else Ok (record r { outgoing = r.outgoing ++ file ∷ [] }))

-- incoming files

-- a file without rows
abbrev pub new_incoming : Identity → Format → ℕ → List ℕ → Incoming
new_incoming identity format longest description =
    record { identity = identity; format = format; longest = longest; description = description; state = Open; rows = []; response = None }

-- a new file starts at its first row
abbrev pub begun : Register → Incoming → ℕ → Result Incoming Cause
begun r header count = if nat_lt 0 count then Err State
    else (if nat_le r.limits.files (length r.incoming) then Err Full else Ok header)

-- an open file goes on with a new header, after its first `count` rows
abbrev pub gone_on : Incoming → ℕ → Incoming → IncomingState → Result Incoming Cause
gone_on header count file Whole = Err State
gone_on header count file Open = if nat_lt (length file.rows) count then Err State
    else Ok (record header { rows = take count file.rows; response = file.response })

-- the file with this identity goes on, or a new one starts
abbrev pub started_in : Register → Incoming → ℕ → List Incoming → Result (List Incoming) Cause
started_in r header count [] = mapped (λ f. f ∷ []) (begun r header count)
started_in r header count (file ∷ files) = if same_identity file.identity header.identity
    then mapped (λ f. f ∷ files) (gone_on header count file file.state)
    else mapped (λ fs. file ∷ fs) (started_in r header count files)

-- the same for the register
abbrev pub started : Register → Incoming → ℕ → Result Register Cause
started r header count = mapped (λ files. record r { incoming = files }) (started_in r header count r.incoming)

-- an open file gets these rows and this state
abbrev pub if_open : Incoming → List (List ℕ) → IncomingState → IncomingState → Result Incoming Cause
if_open file rows state Whole = Err State
if_open file rows state Open = Ok (record file { rows = rows; state = state })

-- more rows are appended
abbrev pub kept : List (List ℕ) → Incoming → Result Incoming Cause
kept rows file = if_open file (file.rows ++ rows) Open file.state

-- the last rows are appended (RFC 5024, section 5.3.8)
abbrev pub closed : List (List ℕ) → Incoming → Result Incoming Cause
closed rows file = if_open file (file.rows ++ rows) Whole file.state

-- its rows are deleted
abbrev pub given_up : Incoming → Result Incoming Cause
given_up file = if_open file [] Open file.state

-- responses

-- the state of a file after a response to it
abbrev pub answered_as : ResponseKind → OutgoingState
answered_as EndResponse = Delivered
answered_as NegativeEndResponse = Returned

-- a file whose end was sent, or that was handed over, is answered; any other is unchanged
abbrev pub answered : ResponseKind → OutgoingState → OutgoingState
answered kind Waiting = Waiting
answered kind Closing = answered_as kind
answered kind Handed = answered_as kind
answered kind (Refused reason) = Refused reason
answered kind Delivered = Delivered
answered kind Returned = Returned

-- the file after a response, if that answers it
abbrev pub settled : ResponseKind → Identity → Outgoing → Outgoing
settled kind identity file = if same_identity file.identity identity
    then record file { state = answered kind file.state }
    else file

-- a received response is added once, and sets the state of the file that it answers
abbrev pub filed : Register → Received → Result Register Cause
filed r response = if has_received r response.kind response.identity then Err Duplicate
    else Ok (record r { outgoing = map (settled response.kind response.identity) r.outgoing; received = r.received ++ response ∷ [] })

-- a whole file is answered once
abbrev pub if_unanswered : Issued → Incoming → Option Issued → Result Incoming Cause
if_unanswered response file None = Ok (record file { response = Some response })
if_unanswered response file (Some other) = Err State

-- a file that isn't whole can't be answered
abbrev pub issued_on : Issued → Incoming → IncomingState → Result Incoming Cause
issued_on response file Open = Err State
issued_on response file Whole = if_unanswered response file file.response

-- a response is issued
abbrev pub issued : Issued → Incoming → Result Incoming Cause
issued response file = issued_on response file file.state

-- a response that is due was sent
abbrev pub sent_as : Issued → Dispatch → Result Issued Cause
sent_as response Due = Ok (record response { dispatch = Sent })
sent_as response Sent = Err State

-- a response that wasn't issued can't have been sent
abbrev pub sent_of : Incoming → Option Issued → Result Incoming Cause
sent_of file None = Err State
sent_of file (Some response) = mapped (λ answer. record file { response = Some answer }) (sent_as response response.dispatch)

-- the response to a file was sent
abbrev pub sent : Incoming → Result Incoming Cause
sent file = sent_of file file.response

-- outgoing files

-- the file waits to be sent
abbrev pub is_waiting : OutgoingState → Bool
is_waiting Waiting = true
is_waiting state = false

-- its end was sent, and the answer is missing
abbrev pub is_closing : OutgoingState → Bool
is_closing Closing = true
is_closing state = false

-- a change that the state allows or doesn't
abbrev pub if_allowed : Bool → Outgoing → Result Outgoing Cause
if_allowed allowed file = if allowed then Ok file else Err State

-- this many rows were wholly sent when CDT came (RFC 5024, section 4.4.1)
abbrev pub marked : ℕ → Outgoing → Result Outgoing Cause
marked rows file = if_allowed (is_waiting file.state && nat_le rows (length file.rows)) (record file { mark = rows })

-- the end is sent next (RFC 5024, section 5.3.8)
abbrev pub closing : Outgoing → Result Outgoing Cause
closing file = if_allowed (is_waiting file.state) (record file { state = Closing })

-- the partner has the file (RFC 5024, section 5.3.9)
abbrev pub handed : Outgoing → Result Outgoing Cause
handed file = if_allowed (is_closing file.state) (record file { state = Handed })

-- the partner refuses it (RFC 5024, section 5.3.5)
abbrev pub refused : ℕ → Outgoing → Result Outgoing Cause
refused reason file = if_allowed (is_waiting file.state || is_closing file.state) (record file { state = Refused reason })

-- it is sent again from its first row on, after EFNA, or after SFPA where its end was sent (RFC 5024, sections 5.3.4 and 5.3.10)
abbrev pub reopened : Outgoing → Result Outgoing Cause
reopened file = if_allowed (is_closing file.state) (record file { state = Waiting; mark = 0 })

-- the register after a change, or the first cause for which it is refused
unfoldable pub apply : Register → Change → Result Register Cause
apply r (change.Submit identity format longest description rows) = submitted r (new_outgoing identity format longest description rows)
apply r (change.Start identity format longest description count) = started r (new_incoming identity format longest description) count
apply r (change.Keep n rows) = on_incoming (kept rows) n r
apply r (change.Close n rows) = on_incoming (closed rows) n r
apply r (change.GiveUp n) = on_incoming given_up n r
apply r (change.File kind identity reason creator text) =
    filed r (record { kind = kind; identity = identity; reason = reason; creator = creator; text = text })
apply r (change.Issue n kind reason text) = on_incoming (issued (record { kind = kind; reason = reason; text = text; dispatch = Due })) n r
apply r (change.Mark n rows) = on_outgoing (marked rows) n r
apply r (change.BeginClosing n) = on_outgoing closing n r
apply r (change.HandOver n) = on_outgoing handed n r
apply r (change.Refuse n reason) = on_outgoing (refused reason) n r
apply r (change.Reopen n) = on_outgoing reopened n r
apply r (change.Send n) = on_incoming sent n r

-- one more change, unless one was refused before
abbrev pub go_on_by : Result Register Cause → Change → Result Register Cause
go_on_by (Ok r) change = apply r change
go_on_by (Err cause) change = Err cause

-- the register after changes in order; the first refusal ends them
abbrev pub apply_all : Register → List Change → Result Register Cause
apply_all r changes = fold go_on_by (Ok r) changes
