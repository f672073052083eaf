-- What a received response refers to.
use Rattle.std.specs.Prelude.{◌≡◌, ◌+◌, Bool, true, false, List, ◌∷◌, ◌++◌, length, map, Option, Some, None}
use Rattle.oftp_register.specs.declared.entry.Identity.{Identity}
use Rattle.oftp_register.specs.declared.entry.OutgoingState.{OutgoingState}
use Rattle.oftp_register.specs.declared.entry.OutgoingState.TheVariants.{Waiting, Closing, Handed, Refused, Delivered, Returned}
use Rattle.oftp_register.specs.declared.entry.ResponseKind.{ResponseKind}
use Rattle.oftp_register.specs.Register.{Register, Outgoing, has_received}
use Rattle.oftp_register.specs.Changes.{answered_as, settled}
use Rattle.oftp_store.specs.Reads.{IsPlaced}
use Rattle.oftp_store.specs.declared.queries.response_match.ResponseMatch.{ResponseMatch}
use Rattle.oftp_store.specs.declared.queries.response_match.ResponseMatch.TheVariants as response_match
use Rattle.oftp_store.specs.declared.queries.response_match.SettledFile.{SettledFile}

-- the end of a file was sent and no response was received
abbrev pub is_awaiting : OutgoingState → Bool
is_awaiting Waiting = false
is_awaiting Closing = true
is_awaiting Handed = true
is_awaiting (Refused reason) = false
is_awaiting Delivered = false
is_awaiting Returned = false

-- a response to the file of an identity sets the state of this file and of no other, or of none
abbrev pub Settles : Register → Identity → Option SettledFile → Type 0
Settles r identity None = (kind : ResponseKind) → map (settled kind identity) r.outgoing ≡ r.outgoing
Settles r identity (Some found) = (before : List Outgoing) × (f : Outgoing) × (after : List Outgoing) × IsPlaced r.outgoing found.no before f after × (found.mark ≡ f.mark)
    × ((kind : ResponseKind) → map (settled kind identity) r.outgoing ≡ before ++ (record f { state = answered_as kind }) ∷ after)

-- how a received response is stored
abbrev pub IsResponseMatchOf : Register → ResponseKind → Identity → ResponseMatch → Type 0
IsResponseMatchOf r kind identity response_match.Duplicate = has_received r kind identity ≡ true
IsResponseMatchOf r kind identity (response_match.Unmatched n) = (has_received r kind identity ≡ false) × (n ≡ 1 + length r.received) × Settles r identity None
IsResponseMatchOf r kind identity (response_match.Matched n found) = (has_received r kind identity ≡ false) × (n ≡ 1 + length r.received) × Settles r identity (Some found)
