-- The events of a station's work: their words, and which change of the register is which.
use Rattle.std.specs.Prelude.{ℕ, List, Option, None, Some, codes}
use Rattle.oftp_register.specs.declared.change.Change.{Change}
use Rattle.oftp_register.specs.declared.change.Change.TheVariants as change
use Rattle.oftp_register.specs.declared.entry.ResponseKind.{ResponseKind}
use Rattle.oftp_register.specs.declared.entry.ResponseKind.TheVariants.{EndResponse, NegativeEndResponse}
use Rattle.oftp_events.specs.declared.direction.Direction.{Direction}
use Rattle.oftp_events.specs.declared.direction.Direction.TheVariants.{In, Out}
use Rattle.oftp_events.specs.declared.event.Event.{Event}
use Rattle.oftp_events.specs.declared.event.Event.TheVariants.{Started, Stopped, SessionBegun, SessionEnded, NotLetIn, NotReached, Submitted, StartedToCome, Came, BrokenOff, GivenUp, Sent, HandedOver, Refused, Reopened, Released, RefusedHere, ResponseSent, ResponseReceived, RefusedFile, RefusedEnd, Backup}

-- the words of an event
abbrev pub event_text : Event → List ℕ
event_text Started = codes "started"
event_text Stopped = codes "stopped"
event_text SessionBegun = codes "session begun"
event_text SessionEnded = codes "session ended"
event_text NotLetIn = codes "not let in"
event_text NotReached = codes "not reached"
event_text Submitted = codes "submitted"
event_text StartedToCome = codes "started to come"
event_text Came = codes "came"
event_text BrokenOff = codes "broken off"
event_text GivenUp = codes "given up"
event_text Sent = codes "sent"
event_text HandedOver = codes "handed over"
event_text Refused = codes "refused"
event_text Reopened = codes "reopened"
event_text Released = codes "released"
event_text RefusedHere = codes "refused here"
event_text ResponseSent = codes "response sent"
event_text ResponseReceived = codes "response received"
event_text RefusedFile = codes "refused file"
event_text RefusedEnd = codes "refused end"
event_text Backup = codes "backup"

-- the word of a direction
abbrev pub direction_text : Direction → List ℕ
direction_text In = codes "in"
direction_text Out = codes "out"

-- the event of a response that is issued
abbrev pub issued_event : ResponseKind → Event
issued_event EndResponse = Released
issued_event NegativeEndResponse = RefusedHere

-- the event that a change of the register is; none where rows are kept or a mark is set
abbrev pub event_of : Change → Option Event
event_of (change.Submit identity format longest description rows) = Some Submitted
event_of (change.Start identity format longest description count) = Some StartedToCome
event_of (change.Keep n rows) = None
event_of (change.Close n rows) = Some Came
event_of (change.GiveUp n) = Some GivenUp
event_of (change.File kind identity reason creator text) = Some ResponseReceived
event_of (change.Issue n kind reason text) = Some (issued_event kind)
event_of (change.Mark n rows) = None
event_of (change.BeginClosing n) = Some Sent
event_of (change.HandOver n) = Some HandedOver
event_of (change.Refuse n reason) = Some Refused
event_of (change.Reopen n) = Some Reopened
event_of (change.Send n) = Some ResponseSent
