-- The response that a register has to an outgoing file.
use Rattle.std.specs.Prelude.{◌&&◌, Bool, List, Option, None, Some, find}
use Rattle.std.specs.Option.{option_and_then}
use Rattle.oftp_register.specs.Register.{same_identity, same_kind}
use Rattle.oftp_register.specs.declared.entries.OutgoingEntry.{OutgoingEntry}
use Rattle.oftp_register.specs.declared.entries.ReceivedEntry.{ReceivedEntry}
use Rattle.oftp_register.specs.declared.entry.Identity.{Identity}
use Rattle.oftp_register.specs.declared.entry.OutgoingState.{OutgoingState}
use Rattle.oftp_register.specs.declared.entry.OutgoingState.TheVariants.{Waiting, Closing, Handed, Refused, Delivered, Returned}
use Rattle.oftp_register.specs.declared.entry.ResponseKind.{ResponseKind}
use Rattle.oftp_register.specs.declared.entry.ResponseKind.TheVariants.{EndResponse, NegativeEndResponse}

-- the kind of the response that a file in this state has, if it has one
abbrev pub kind_told : OutgoingState → Option ResponseKind
kind_told Delivered = Some EndResponse
kind_told Returned = Some NegativeEndResponse
kind_told Waiting = None
kind_told Closing = None
kind_told Handed = None
kind_told (Refused reason) = None

-- it is a response of a kind to the file with an identity
abbrev pub is_to : ResponseKind → Identity → ReceivedEntry → Bool
is_to kind identity entry = same_kind entry.response.kind kind && same_identity entry.response.identity identity

-- the first one of that kind for the file, of those that were received
abbrev pub response_in : List ReceivedEntry → OutgoingEntry → Option ReceivedEntry
response_in received file = option_and_then (λ kind. find (is_to kind file.identity) received) (kind_told file.state)
