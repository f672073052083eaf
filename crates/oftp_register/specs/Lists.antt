-- The register in the lists of an office in memory, and what a change does to it.
use Rattle.std.specs.Prelude.{◌≡◌, ℕ, ◌+◌, ◌<◌, nat_lt, nat_le, ◌&&◌, Bool, false, List, [], ◌∷◌, ◌++◌, map, Option, None, Some, Result, Ok, Err}
use Rattle.std.specs.Str.{bytes_eq}
use Rattle.oftp_register.specs.LookUps.{is_due, is_on_its_way}
use Rattle.oftp_register.specs.Register.{Register, Issued, Incoming, Outgoing, Received}
use Rattle.oftp_register.specs.Changes.{mapped, begun}
use Rattle.oftp_register.specs.declared.change.Cause.{Cause}
use Rattle.oftp_register.specs.declared.office.OfficeFault.{OfficeFault}
use Rattle.oftp_register.specs.declared.office.OfficeFault.TheVariants.{Store, Memory, Refused}
use Rattle.oftp_register.specs.declared.entry.IncomingState.TheVariants.{Open}
use Rattle.oftp_register.specs.declared.entry.OutgoingState.TheVariants.{Waiting}
use Rattle.oftp_register.specs.declared.plain.incoming.Header.{Header}
use Rattle.oftp_register.specs.declared.entries.IssuedResponse.{IssuedResponse}
use Rattle.oftp_register.specs.declared.entries.ReceivedResponse.{ReceivedResponse}
use Rattle.oftp_register.specs.declared.plain.incoming.IncomingFile.{IncomingFile}
use Rattle.oftp_register.specs.declared.plain.outgoing.OutgoingFile.{OutgoingFile}
use Rattle.oftp_register.specs.declared.plain.lists.Lists.{Lists}

-- a response that was issued
abbrev pub issued_of : IssuedResponse → Issued
issued_of r = record { kind = r.kind; reason = r.reason; text = r.text; dispatch = r.dispatch }

-- the response of an incoming file, if one was issued
abbrev pub response_of : Option IssuedResponse → Option Issued
response_of None = None
response_of (Some r) = Some (issued_of r)

-- a new incoming file
abbrev pub beginning_of : Header → Incoming
beginning_of h = record { identity = h.identity; format = h.format; longest = h.longest; description = h.description; state = Open; rows = []; response = None }

-- an incoming file
abbrev pub incoming_of : IncomingFile → Incoming
incoming_of f = record { identity = f.identity; format = f.format; longest = f.longest; description = f.description; state = f.state; rows = f.rows.items; response = response_of f.response }

-- a file that is to be sent
abbrev pub to_send : Header → List (List ℕ) → Outgoing
to_send h rows = record { identity = h.identity; format = h.format; longest = h.longest; description = h.description; rows = rows; mark = 0; state = Waiting }

-- an outgoing file
abbrev pub outgoing_of : OutgoingFile → Outgoing
outgoing_of f = record { identity = f.identity; format = f.format; longest = f.longest; description = f.description; rows = f.rows.items; mark = f.mark; state = f.state }

-- a received response
abbrev pub received_of : ReceivedResponse → Received
received_of r = record { kind = r.kind; identity = r.identity; reason = r.reason; creator = r.creator; text = r.text }

-- the register in these lists
abbrev pub register_in : Lists → Register
register_in o = record { limits = o.limits; incoming = map incoming_of o.incoming.items; outgoing = map outgoing_of o.outgoing.items; received = map received_of o.received.items }

-- a new file starts
abbrev pub newly_started : Register → Incoming → ℕ → Result Register Cause
newly_started r header count = mapped (λ file. record r { incoming = r.incoming ++ file ∷ [] }) (begun r header count)

-- What a change does to a value. `wanted` is the value after it, or why it is refused. The only error is out of memory. After that, as
-- after a refusal, the value is unchanged.
abbrev pub CarriesOut : {S A T : Type 0} → (S → A) → Result A Cause → S → S → Result T OfficeFault → Type 0
CarriesOut view wanted old new (Ok x) = wanted ≡ Ok (view new)
CarriesOut view wanted old new (Err Store) = ⊥
CarriesOut view wanted old new (Err Memory) = view new ≡ view old
CarriesOut view wanted old new (Err (Refused cause)) = (wanted ≡ Err cause) × (view new ≡ view old)

-- the index of the entry with this number in a list of `len` entries, if there is one
abbrev pub IsPlace : ℕ → ℕ → Option ℕ → Type 0
IsPlace number len None = (nat_lt 0 number && nat_le number len) ≡ false
IsPlace number len (Some place) = (number ≡ place + 1) × (place < len)

-- a response to an incoming file, if one was issued, is due to a partner
abbrev pub due_of : List ℕ → Incoming → Option Issued → Bool
due_of partner f None = false
due_of partner f (Some r) = is_due r.dispatch && bytes_eq f.identity.originator partner

-- the response to an incoming file is due to a partner
abbrev pub is_due_to : List ℕ → Incoming → Bool
is_due_to partner f = due_of partner f f.response

-- an outgoing file is for a partner, and is waiting or closing
abbrev pub is_on_its_way_to : List ℕ → Outgoing → Bool
is_on_its_way_to partner f = is_on_its_way f.state && bytes_eq f.identity.destination partner
