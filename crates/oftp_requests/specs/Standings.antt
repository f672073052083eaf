-- How the files of a register stand, and what the end of a session is counted as.
use Rattle.std.specs.Prelude.{ℕ, Option, None, Some, Result, Ok, Err}
use Rattle.oftp_wire.specs.Reasons.{session_number}
use Rattle.oftp_engine.specs.declared.serving.End.{End}
use Rattle.oftp_engine.specs.declared.serving.End.TheVariants as end
use Rattle.oftp_outcomes.specs.declared.outcome.Fault.TheVariants.{Socket}
use Rattle.oftp_outcomes.specs.declared.service.Trouble.{Trouble}
use Rattle.oftp_outcomes.specs.declared.service.Trouble.TheVariants.{OfJob}
use Rattle.oftp_outcomes.specs.declared.service.Way.{Way}
use Rattle.oftp_outcomes.specs.declared.service.Way.TheVariants.{Out}
use Rattle.oftp_requests.specs.declared.standings.Counting.{Counting}
use Rattle.oftp_requests.specs.declared.standings.Counting.TheVariants as counting
use Rattle.oftp_requests.specs.declared.standings.Whose.{Whose}
use Rattle.oftp_requests.specs.declared.standings.Whose.TheVariants as whose
use Rattle.oftp_requests.specs.declared.standings.TheConstants.{UNSPECIFIED}
use Rattle.oftp_status.specs.declared.ending.Ending.{Ending}
use Rattle.oftp_status.specs.declared.ending.Ending.TheVariants.{Own, Partner, Input, Failed}
use Rattle.oftp_register.specs.declared.entries.IncomingEntry.{IncomingEntry}
use Rattle.oftp_register.specs.declared.entries.IssuedResponse.{IssuedResponse}
use Rattle.oftp_register.specs.declared.entry.Dispatch.{Dispatch}
use Rattle.oftp_register.specs.declared.entry.Dispatch.TheVariants as dispatch
use Rattle.oftp_register.specs.declared.entry.IncomingState.{IncomingState}
use Rattle.oftp_register.specs.declared.entry.IncomingState.TheVariants as incoming
use Rattle.oftp_register.specs.declared.entry.OutgoingState.{OutgoingState}
use Rattle.oftp_register.specs.declared.entry.OutgoingState.TheVariants as outgoing
use Rattle.oftp_status.specs.declared.standing.Standing.{Standing}
use Rattle.oftp_status.specs.declared.standing.Standing.TheVariants.{Coming, Whole, Due, Answered, Waiting, Closing, Handed, Refused, Delivered, Returned}

-- how a whole file stands that has a response, if it has one
abbrev pub standing_of_dispatch : Dispatch → Standing
standing_of_dispatch dispatch.Due = Due
standing_of_dispatch dispatch.Sent = Answered

abbrev pub standing_of_whole : Option IssuedResponse → Standing
standing_of_whole None = Whole
standing_of_whole (Some response) = standing_of_dispatch response.dispatch

-- how an incoming file stands
abbrev pub standing_at : IncomingState → Option IssuedResponse → Standing
standing_at incoming.Open response = Coming
standing_at incoming.Whole response = standing_of_whole response

abbrev pub standing_in : IncomingEntry → Standing
standing_in e = standing_at e.state e.response

-- how an outgoing file stands
abbrev pub standing_out : OutgoingState → Standing
standing_out outgoing.Waiting = Waiting
standing_out outgoing.Closing = Closing
standing_out outgoing.Handed = Handed
standing_out (outgoing.Refused reason) = Refused
standing_out outgoing.Delivered = Delivered
standing_out outgoing.Returned = Returned

-- what the end of a session is counted as
abbrev pub ending_of : Result End Trouble → Ending
ending_of (Ok (end.Own reason)) = Own (session_number reason)
ending_of (Ok (end.Partner reason)) = Partner reason
ending_of (Ok end.Input) = Input
ending_of (Err trouble) = Failed

-- why a caller wasn't let in: the reason of the ESID [5.3.11], 99 where there was none
abbrev pub reason_of : Result End Trouble → ℕ
reason_of (Ok (end.Own reason)) = session_number reason
reason_of (Ok (end.Partner reason)) = reason
reason_of (Ok end.Input) = UNSPECIFIED
reason_of (Err trouble) = UNSPECIFIED

-- A caller whose code isn't known wasn't let in. A call of a partner that ended by an error of its socket never connected.
abbrev pub counted_as : Whose → Way → Result End Trouble → Counting
counted_as whose.Stranger way ended = counting.NotLetIn (reason_of ended)
counted_as whose.Partner Out (Err (OfJob Socket)) = counting.NotReached
counted_as whose.Partner way ended = counting.Session (ending_of ended)
