-- What is evidence in a register, and what a later register has to keep of it.
use Rattle.std.specs.Prelude.{◌≡◌, ℕ, ◌==◌, Bool, true, false, List, [], ◌∷◌, Option, None, Some, Ok, ⊤}
use Rattle.oftp_vfile.specs.declared.format.Format.{Format}
use Rattle.oftp_register.specs.declared.change.Change.{Change}
use Rattle.oftp_register.specs.declared.entry.Dispatch.{Dispatch}
use Rattle.oftp_register.specs.declared.entry.Dispatch.TheVariants.{Due, Sent}
use Rattle.oftp_register.specs.declared.entry.Identity.{Identity}
use Rattle.oftp_register.specs.declared.entry.IncomingState.{IncomingState}
use Rattle.oftp_register.specs.declared.entry.IncomingState.TheVariants.{Open, Whole}
use Rattle.oftp_register.specs.declared.entry.OutgoingState.{OutgoingState}
use Rattle.oftp_register.specs.declared.entry.OutgoingState.TheVariants.{Waiting, Closing, Handed, Refused, Delivered, Returned}
use Rattle.oftp_register.specs.Register.{Register, Issued, Incoming, Outgoing, Received}
use Rattle.oftp_register.specs.Changes.{apply_all}

-- what a file is: its identity, its format, its longest record, its description and its rows
pub record Content : Type 0 where
  pub identity : Identity
  pub format : Format
  pub longest : ℕ
  pub description : List ℕ
  pub rows : List (List ℕ)

-- the content of an incoming file
abbrev pub content_in : Incoming → Content
content_in f = record { identity = f.identity; format = f.format; longest = f.longest; description = f.description; rows = f.rows }

-- the content of an outgoing file
abbrev pub content_out : Outgoing → Content
content_out f = record { identity = f.identity; format = f.format; longest = f.longest; description = f.description; rows = f.rows }

-- a response that was sent stays sent
abbrev pub may_dispatch : Dispatch → Dispatch → Bool
may_dispatch Due later = true
may_dispatch Sent Due = false
may_dispatch Sent Sent = true

-- A response that this station issued says the same later.
pub record KeepsIssued (x y : Issued) : Type 0 where
  pub kind : y.kind ≡ x.kind
  pub reason : y.reason ≡ x.reason
  pub text : y.text ≡ x.text
  pub dispatch : may_dispatch x.dispatch y.dispatch ≡ true

-- a response that was issued is still there
abbrev pub KeepsResponse : Option Issued → Option Issued → Type 0
KeepsResponse None later = ⊤
KeepsResponse (Some x) None = ⊥
KeepsResponse (Some x) (Some y) = KeepsIssued x y

-- a file that is whole stays whole, and none of its content changes
abbrev pub KeepsWhole : IncomingState → Incoming → Incoming → Type 0
KeepsWhole Open x y = ⊤
KeepsWhole Whole x y = (y.state ≡ Whole) × (content_in y ≡ content_in x)

-- An incoming file keeps its identity. It keeps its content once it is whole, and its response once one was issued.
pub record KeepsIncoming (x y : Incoming) : Type 0 where
  pub identity : y.identity ≡ x.identity
  pub whole : KeepsWhole x.state x y
  pub response : KeepsResponse x.response y.response

-- the states of a file that was handed over, and of one that was answered then
abbrev pub was_handed : OutgoingState → Bool
was_handed Waiting = false
was_handed Closing = false
was_handed Handed = true
was_handed (Refused reason) = false
was_handed Delivered = true
was_handed Returned = true

-- the partner refused the file, with this reason
abbrev pub was_refused : ℕ → OutgoingState → Bool
was_refused reason Waiting = false
was_refused reason Closing = false
was_refused reason Handed = false
was_refused reason (Refused other) = reason == other
was_refused reason Delivered = false
was_refused reason Returned = false

-- an End-to-End Response was received
abbrev pub was_delivered : OutgoingState → Bool
was_delivered Waiting = false
was_delivered Closing = false
was_delivered Handed = false
was_delivered (Refused reason) = false
was_delivered Delivered = true
was_delivered Returned = false

-- a Negative End Response was received
abbrev pub was_returned : OutgoingState → Bool
was_returned Waiting = false
was_returned Closing = false
was_returned Handed = false
was_returned (Refused reason) = false
was_returned Delivered = false
was_returned Returned = true

-- A file that waits, or whose end was sent, may come to any state. One that was handed over can only be answered. The other states are final.
abbrev pub may_become : OutgoingState → OutgoingState → Bool
may_become Waiting later = true
may_become Closing later = true
may_become Handed later = was_handed later
may_become (Refused reason) later = was_refused reason later
may_become Delivered later = was_delivered later
may_become Returned later = was_returned later

-- An outgoing file keeps its content, and its state never goes back from what a partner answered.
pub record KeepsOutgoing (x y : Outgoing) : Type 0 where
  pub content : content_out y ≡ content_out x
  pub state : may_become x.state y.state ≡ true

-- a received response doesn't change
abbrev pub KeepsReceived : Received → Received → Type 0
KeepsReceived x y = y ≡ x

-- Each entry of the older list has its own in the newer one, under the same number. The newer list may have more.
abbrev pub KeepsEach : {A : Type 0} → (A → A → Type 0) → List A → List A → Type 0
KeepsEach P [] ys = ⊤
KeepsEach P (x ∷ xs) [] = ⊥
KeepsEach P (x ∷ xs) (y ∷ ys) = P x y × KeepsEach P xs ys

-- all evidence of a register is in a later one
pub record KeepsEvidence (r s : Register) : Type 0 where
  pub incoming : KeepsEach KeepsIncoming r.incoming s.incoming
  pub outgoing : KeepsEach KeepsOutgoing r.outgoing s.outgoing
  pub received : KeepsEach KeepsReceived r.received s.received

-- whatever changes a register accepts, one after another, they take away no evidence and alter none
abbrev pub EvidenceStays : Type 0
EvidenceStays = (r : Register) (changes : List Change) (s : Register) → apply_all r changes ≡ Ok s → KeepsEvidence r s
