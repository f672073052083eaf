-- The names of states, kinds and reasons in the listing and the reports.
use Rattle.std.specs.Prelude.{ℕ, List, [], codes, Bool, true, false, Option, Some, None}
use Rattle.oftp_wire.specs.Reasons.{two_digits}
use Rattle.oftp_vfile.specs.declared.format.Format.{Format}
use Rattle.oftp_vfile.specs.declared.format.Format.TheVariants as format
use Rattle.oftp_register.specs.declared.entry.ResponseKind.{ResponseKind}
use Rattle.oftp_register.specs.declared.entry.ResponseKind.TheVariants.{EndResponse, NegativeEndResponse}
use Rattle.oftp_register.specs.declared.entry.IncomingState.{IncomingState}
use Rattle.oftp_register.specs.declared.entry.IncomingState.TheVariants.{Open, Whole}
use Rattle.oftp_register.specs.declared.entry.OutgoingState.{OutgoingState}
use Rattle.oftp_register.specs.declared.entry.OutgoingState.TheVariants.{Waiting, Closing, Handed, Refused, Delivered, Returned}
use Rattle.oftp_register.specs.declared.entry.Dispatch.{Dispatch}
use Rattle.oftp_register.specs.declared.entry.Dispatch.TheVariants.{Due, Sent}
use Rattle.oftp_register.specs.declared.entries.IssuedEntry.{IssuedEntry}
use Rattle.oftp_register.specs.declared.entries.IssuedResponse.{IssuedResponse}
use Rattle.oftp_register.specs.declared.entries.ReceivedEntry.{ReceivedEntry}

-- the letter of a format (RFC 5024, section 5.3.3)
abbrev pub format_name : Format → List ℕ
format_name format.Fixed = codes "F"
format_name format.Variable = codes "V"
format_name format.Unstructured = codes "U"
format_name format.Text = codes "T"

abbrev pub kind_name : ResponseKind → List ℕ
kind_name EndResponse = codes "EERP"
kind_name NegativeEndResponse = codes "NERP"

-- the kind of the response to a file, or `none` where none was issued
abbrev pub response_name : Option IssuedResponse → List ℕ
response_name None = codes "none"
response_name (Some response) = kind_name response.kind

abbrev pub incoming_state_name : IncomingState → List ℕ
incoming_state_name Open = codes "open"
incoming_state_name Whole = codes "whole"

abbrev pub outgoing_state_name : OutgoingState → List ℕ
outgoing_state_name Waiting = codes "waiting"
outgoing_state_name Closing = codes "closing"
outgoing_state_name Handed = codes "handed"
outgoing_state_name (Refused reason) = codes "refused"
outgoing_state_name Delivered = codes "delivered"
outgoing_state_name Returned = codes "returned"

-- the reason of a refused file, empty for any other file
abbrev pub refusal_name : OutgoingState → List ℕ
refusal_name Waiting = []
refusal_name Closing = []
refusal_name Handed = []
refusal_name (Refused reason) = two_digits reason
refusal_name Delivered = []
refusal_name Returned = []

-- the reason of a response, empty for an End-to-End Response
abbrev pub reason_name : ResponseKind → ℕ → List ℕ
reason_name EndResponse reason = []
reason_name NegativeEndResponse reason = two_digits reason

abbrev pub issued_reason : IssuedEntry → List ℕ
issued_reason e = reason_name e.response.kind e.response.reason

abbrev pub received_reason : ReceivedEntry → List ℕ
received_reason e = reason_name e.response.kind e.response.reason

-- whether a response was sent
abbrev pub is_sent : Dispatch → Bool
is_sent Due = false
is_sent Sent = true
