-- The JSON objects of the listing, key by key.
use Rattle.std.specs.Prelude.{ℕ, List, [], ◌∷◌, codes}
use Rattle.serde_json.specs.Data.{Data, boolean, number, object, string, unsigned, Members, member, no_members}
use Rattle.oftp_register.specs.declared.entries.IncomingEntry.{IncomingEntry}
use Rattle.oftp_register.specs.declared.entries.OutgoingEntry.{OutgoingEntry}
use Rattle.oftp_register.specs.declared.entries.IssuedEntry.{IssuedEntry}
use Rattle.oftp_register.specs.declared.entries.ReceivedEntry.{ReceivedEntry}
use Rattle.oftp_listing.specs.Names.{format_name, incoming_state_name, is_sent, issued_reason, kind_name, outgoing_state_name, received_reason, refusal_name, response_name}

-- an object with these keys and values
abbrev pub members : List (List ℕ × Data) → Members
members [] = no_members
members (m ∷ ms) = member m.0 m.1 (members ms)

-- a number as a value
abbrev pub count : ℕ → Data
count n = number (unsigned n)

-- an incoming file with this number of octets
abbrev pub incoming_object : IncomingEntry → ℕ → Data
incoming_object e units = object (members (
    (codes "dataset", string e.identity.dataset)
    ∷ (codes "date", string e.identity.date)
    ∷ (codes "description", string e.description)
    ∷ (codes "destination", string e.identity.destination)
    ∷ (codes "format", string (format_name e.format))
    ∷ (codes "no", count e.no)
    ∷ (codes "originator", string e.identity.originator)
    ∷ (codes "response", string (response_name e.response))
    ∷ (codes "rows", count e.rows)
    ∷ (codes "state", string (incoming_state_name e.state))
    ∷ (codes "time", string e.identity.time)
    ∷ (codes "units", count units)
    ∷ []))

-- an outgoing file with this number of octets
abbrev pub outgoing_object : OutgoingEntry → ℕ → Data
outgoing_object e units = object (members (
    (codes "dataset", string e.identity.dataset)
    ∷ (codes "date", string e.identity.date)
    ∷ (codes "description", string e.description)
    ∷ (codes "destination", string e.identity.destination)
    ∷ (codes "format", string (format_name e.format))
    ∷ (codes "mark", count e.mark)
    ∷ (codes "no", count e.no)
    ∷ (codes "originator", string e.identity.originator)
    ∷ (codes "reason", string (refusal_name e.state))
    ∷ (codes "rows", count e.rows)
    ∷ (codes "state", string (outgoing_state_name e.state))
    ∷ (codes "time", string e.identity.time)
    ∷ (codes "units", count units)
    ∷ []))

-- a response that was issued to an incoming file
abbrev pub issued_object : IssuedEntry → Data
issued_object e = object (members (
    (codes "kind", string (kind_name e.response.kind))
    ∷ (codes "no", count e.no)
    ∷ (codes "reason", string (issued_reason e))
    ∷ (codes "sent", boolean (is_sent e.response.dispatch))
    ∷ []))

-- a received response to the outgoing file with this number, 0 where there is none
abbrev pub received_object : ReceivedEntry → ℕ → Data
received_object e file = object (members (
    (codes "creator", string e.response.creator)
    ∷ (codes "dataset", string e.response.identity.dataset)
    ∷ (codes "date", string e.response.identity.date)
    ∷ (codes "file", count file)
    ∷ (codes "from", string e.response.identity.destination)
    ∷ (codes "kind", string (kind_name e.response.kind))
    ∷ (codes "no", count e.no)
    ∷ (codes "note", string e.response.text)
    ∷ (codes "reason", string (received_reason e))
    ∷ (codes "time", string e.response.identity.time)
    ∷ []))
