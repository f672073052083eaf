-- The steps of a session, by cases of phase.
use Rattle.std.specs.Prelude.{◌≡◌, ℕ, ◌≤◌, ◌+◌, nat_lt, ⊤, Bool, true, [], length, take, Option, None, Some}
use Rattle.oftp_wire.specs.declared.command.Command.{Command}
use Rattle.oftp_wire.specs.declared.command.Command.TheVariants.{Ssrm, Cd}
use Rattle.oftp_partners.specs.declared.partner.Partner.{Partner}
use Rattle.oftp_vfile.specs.VirtualFile.{units_in}
use Rattle.oftp_vfile.specs.Taking.{Took}
use Rattle.oftp_register.specs.declared.entry.Dispatch.TheVariants.{Due}
use Rattle.oftp_register.specs.declared.entry.IncomingState.TheVariants.{Open}
use Rattle.oftp_register.specs.declared.entry.OutgoingState.TheVariants.{Waiting, Closing}
use Rattle.oftp_register.specs.LookUps.{entry_at, is_on_its_way}
use Rattle.oftp_register.specs.Register.{Register, Incoming, Issued}
use Rattle.oftp_register.specs.Soundness.{IsSound}
use Rattle.oftp_session.specs.Settings.{Setting}
use Rattle.oftp_session.specs.Phases.{Phase, Receipt, Offer, Transfer, ResponderOpening, InitiatorOpening, AwaitingSsid, ListenerIdle, Receiving}
use Rattle.oftp_session.specs.Phases.{SpeakerIdle, GivingWay, AwaitingRtr, AwaitingStart, Sending, AwaitingEnd, EndedHere, EndedThere, Step, quiet, says, unexpected}
use Rattle.oftp_session.specs.Opening.{came_initiator_opening, came_awaiting_ssid}
use Rattle.oftp_session.specs.Listener.{came_listener_idle}
use Rattle.oftp_session.specs.Receiving.{came_receiving, carried_by}
use Rattle.oftp_session.specs.Speaker.{came_awaiting_rtr, speaks}
use Rattle.oftp_session.specs.Sending.{came_awaiting_start, came_sending, came_awaiting_end, turned_sending, credit_left}

-- the first phase of a session: a responder sends SSRM, and an initiator waits for it
abbrev pub opening : Option Partner → Phase
opening None = ResponderOpening
opening (Some partner) = InitiatorOpening

-- how many commands of the station may follow one another, and whether one is due
abbrev pub turns_due : Phase → ℕ
turns_due ResponderOpening = 1
turns_due InitiatorOpening = 0
turns_due AwaitingSsid = 0
turns_due (ListenerIdle contact) = 0
turns_due (Receiving contact f) = 0
turns_due (SpeakerIdle contact done) = 1
turns_due (GivingWay contact) = 1
turns_due (AwaitingRtr contact number) = 0
turns_due (AwaitingStart contact offer) = 0
turns_due (Sending contact t) = credit_left contact t
turns_due (AwaitingEnd contact t) = 0
turns_due (EndedHere reason) = 0
turns_due (EndedThere reason) = 0

abbrev pub has_turn : Phase → Bool
has_turn p = nat_lt 0 (turns_due p)

-- the command of the station that is due, or none
unfoldable pub turned : Setting → Phase → Register → Step
turned setting ResponderOpening r = says AwaitingSsid Ssrm
turned setting InitiatorOpening r = quiet InitiatorOpening
turned setting AwaitingSsid r = quiet AwaitingSsid
turned setting (ListenerIdle contact) r = quiet (ListenerIdle contact)
turned setting (Receiving contact f) r = quiet (Receiving contact f)
turned setting (SpeakerIdle contact done) r = speaks setting contact done r
turned setting (GivingWay contact) r = says (ListenerIdle contact) Cd
turned setting (AwaitingRtr contact number) r = quiet (AwaitingRtr contact number)
turned setting (AwaitingStart contact offer) r = quiet (AwaitingStart contact offer)
turned setting (Sending contact t) r = turned_sending contact t
turned setting (AwaitingEnd contact t) r = quiet (AwaitingEnd contact t)
turned setting (EndedHere reason) r = quiet (EndedHere reason)
turned setting (EndedThere reason) r = quiet (EndedThere reason)

-- the step of a command that arrives, in each phase
unfoldable pub came : Setting → Phase → Register → Command → Step
came setting ResponderOpening r command = unexpected command
came setting InitiatorOpening r command = came_initiator_opening setting command
came setting AwaitingSsid r command = came_awaiting_ssid setting command
came setting (ListenerIdle contact) r command = came_listener_idle setting contact r command
came setting (Receiving contact f) r command = came_receiving contact r f command
came setting (SpeakerIdle contact done) r command = unexpected command
came setting (GivingWay contact) r command = unexpected command
came setting (AwaitingRtr contact number) r command = came_awaiting_rtr contact number command
came setting (AwaitingStart contact offer) r command = came_awaiting_start contact offer command
came setting (Sending contact t) r command = came_sending contact t command
came setting (AwaitingEnd contact t) r command = came_awaiting_end contact t command
came setting (EndedHere reason) r command = quiet (EndedHere reason)
came setting (EndedThere reason) r command = quiet (EndedThere reason)

-- The entry of a file that is received is as the session left it. It has at least the rows before the one where the file goes on, and at
-- most those received since. Its taker took all payloads.
pub record IsReceived (r : Register) (f : Receipt) : Type 0 where
  pub limit : f.limit ≡ r.limits.octets
  pub entry : entry_at f.number r.incoming ≡ Some f.file
  pub opened : f.file.state ≡ Open
  pub kept : f.from ≤ length f.file.rows
  pub most : length f.file.rows ≤ f.from + length (carried_by f).rows
  pub units : f.units ≡ units_in (take f.from f.file.rows)
  pub took : Took (carried_by f) [] f.payloads

-- the response that was sent is still due
pub record IsResponding (r : Register) (number : ℕ) : Type 0 where
  pub file : Incoming
  pub entry : entry_at number r.incoming ≡ Some file
  pub response : Issued
  pub issued : file.response ≡ Some response
  pub due : response.dispatch ≡ Due

-- The entry of a file that is offered or sent is as the session left it. Its rows reach to where it is sent from.
pub record IsOffered (r : Register) (offer : Offer) : Type 0 where
  pub entry : entry_at offer.number r.outgoing ≡ Some offer.file
  pub goes : is_on_its_way offer.file.state ≡ true
  pub within : offer.from ≤ length offer.file.rows

pub record IsSent (r : Register) (t : Transfer) : Type 0 where
  pub entry : entry_at t.number r.outgoing ≡ Some t.file
  pub waits : t.file.state ≡ Waiting
  pub within : t.from ≤ length t.file.rows

-- a file whose end was sent
pub record IsEnded (r : Register) (t : Transfer) : Type 0 where
  pub entry : entry_at t.number r.outgoing ≡ Some t.file
  pub closing : t.file.state ≡ Closing

-- what holds of the register in a phase
abbrev pub Holds : Phase → Register → Type 0
Holds ResponderOpening r = ⊤
Holds InitiatorOpening r = ⊤
Holds AwaitingSsid r = ⊤
Holds (ListenerIdle contact) r = ⊤
Holds (Receiving contact f) r = IsReceived r f
Holds (SpeakerIdle contact done) r = ⊤
Holds (GivingWay contact) r = ⊤
Holds (AwaitingRtr contact number) r = IsResponding r number
Holds (AwaitingStart contact offer) r = IsOffered r offer
Holds (Sending contact t) r = IsSent r t
Holds (AwaitingEnd contact t) r = IsEnded r t
Holds (EndedHere reason) r = ⊤
Holds (EndedThere reason) r = ⊤

-- a register that suits a phase
pub record Suits (p : Phase) (r : Register) : Type 0 where
  pub sound : IsSound r
  pub holds : Holds p r
