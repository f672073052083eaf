-- The phases of a session, and what a step is.
use Rattle.std.specs.Prelude.{ℕ, List, [], Bool, Option, None, Some, is_some}
use Rattle.std.specs.Result.{result_unwrap_or}
use Rattle.oftp_codec.specs.Header.{frame}
use Rattle.oftp_codec.specs.Spelling.{Canon}
use Rattle.oftp_wire.specs.Reasons.{session_number}
use Rattle.oftp_wire.specs.declared.command.Command.{Command}
use Rattle.oftp_wire.specs.declared.command.Command.TheVariants as command
use Rattle.oftp_wire.specs.declared.reason.SessionReason.{SessionReason}
use Rattle.oftp_wire.specs.declared.reason.SessionReason.TheVariants.{ProtocolViolation}
use Rattle.oftp_register.specs.declared.change.Change.{Change}
use Rattle.oftp_register.specs.Register.{Register, Incoming, Outgoing}
use Rattle.oftp_register.specs.Changes.{apply}
use Rattle.oftp_session.specs.declared.link.WhenDone.{WhenDone}
use Rattle.oftp_session.specs.declared.state.Contact.{Contact}
use Rattle.oftp_session.specs.declared.session.Ending.{Ending}
use Rattle.oftp_session.specs.declared.session.Ending.TheVariants as ended

-- A file that is received: its number, its entry with the stored rows, and the row from which on it is received. Also the octets before
-- that row, its limit in octets, and all payloads since SFPA (RFC 5024, sections 5.3.4 and 5.3.6).
pub record Receipt : Type 0 where
  pub number : ℕ
  pub file : Incoming
  pub from : ℕ
  pub units : ℕ
  pub limit : ℕ
  pub payloads : List (List ℕ)

-- a file that is offered: its number, its entry, and the row from which it would be sent (RFC 5024, section 5.3.3)
pub record Offer : Type 0 where
  pub number : ℕ
  pub file : Outgoing
  pub from : ℕ

-- A file that is sent (RFC 5024, sections 5.3.4, 5.3.6 and 5.3.7): its number, its entry, and the row from which it is sent. Also how
-- many of its payloads were sent, and how many CDT were received.
pub record Transfer : Type 0 where
  pub number : ℕ
  pub file : Outgoing
  pub from : ℕ
  pub sent : ℕ
  pub credits : ℕ

-- the phase of a session (RFC 5024, section 9)
pub data Phase : Type 0 where
  ResponderOpening : Phase
  InitiatorOpening : Phase
  AwaitingSsid : Phase
  ListenerIdle : (contact : Contact) → Phase
  Receiving : (contact : Contact) (receipt : Receipt) → Phase
  SpeakerIdle : (contact : Contact) (done : WhenDone) → Phase
  GivingWay : (contact : Contact) → Phase
  AwaitingRtr : (contact : Contact) (number : ℕ) → Phase
  AwaitingStart : (contact : Contact) (offer : Offer) → Phase
  Sending : (contact : Contact) (transfer : Transfer) → Phase
  AwaitingEnd : (contact : Contact) (transfer : Transfer) → Phase
  EndedHere : (reason : SessionReason) → Phase
  EndedThere : (reason : ℕ) → Phase

-- how a session ended, if it did
abbrev pub ending_of : Phase → Option Ending
ending_of ResponderOpening = None
ending_of InitiatorOpening = None
ending_of AwaitingSsid = None
ending_of (ListenerIdle contact) = None
ending_of (Receiving contact f) = None
ending_of (SpeakerIdle contact done) = None
ending_of (GivingWay contact) = None
ending_of (AwaitingRtr contact number) = None
ending_of (AwaitingStart contact offer) = None
ending_of (Sending contact t) = None
ending_of (AwaitingEnd contact t) = None
ending_of (EndedHere reason) = Some (ended.Own reason)
ending_of (EndedThere reason) = Some (ended.Partner reason)

abbrev pub is_over : Phase → Bool
is_over p = is_some (ending_of p)

-- what one step does: the phase after it, its change if it makes one, and the command that it sends, if it sends one
pub record Step : Type 0 where
  pub phase : Phase
  pub change : Option Change
  pub output : Option Command

-- the register after a step's change; a change that is refused leaves it unchanged
abbrev pub register_after : Register → Option Change → Register
register_after r None = r
register_after r (Some change) = result_unwrap_or (apply r change) r

-- the frame of a command, in its canonical encoding (RFC 5024, section 8)
unfoldable pub frame_of : Command → List ℕ
frame_of command = frame (Canon command)

-- the frame of a step's output, [] for none
abbrev pub framed : Option Command → List ℕ
framed None = []
framed (Some command) = frame_of command

-- nothing is sent and nothing is changed
abbrev pub quiet : Phase → Step
quiet phase = record { phase = phase; change = None; output = None }

-- a change, if it is due, and then an answer
abbrev pub answers : Phase → Option Change → Command → Step
answers phase change command = record { phase = phase; change = change; output = Some command }

-- a change, if it is due, and nothing is sent
abbrev pub changes : Phase → Option Change → Step
changes phase change = record { phase = phase; change = change; output = None }

-- a command is sent, and nothing is changed
abbrev pub says : Phase → Command → Step
says phase command = answers phase None command

-- the end of a session, with no text (RFC 5024, section 5.3.11)
abbrev pub esid_of : SessionReason → Command
esid_of reason = command.Esid (record { reason = session_number reason; text = [] })

-- the station ends the session, for this reason
abbrev pub fails : SessionReason → Step
fails reason = says (EndedHere reason) (esid_of reason)

-- the partner ends the session
abbrev pub leaves : ℕ → Step
leaves reason = quiet (EndedThere reason)

-- a command that isn't allowed in a phase: ESID ends the session in each, and all others violate the protocol
unfoldable pub unexpected : Command → Step
unexpected (command.Esid esid) = leaves esid.reason
unexpected _ = fails ProtocolViolation
