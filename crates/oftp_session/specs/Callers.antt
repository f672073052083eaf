-- What a session says to a caller up to the answer to its first command. It needs no office, since no such step depends on a register.
use Rattle.std.specs.Prelude.{◌≡◌, ℕ, List, Option, None, Some}
use Rattle.oftp_wire.specs.declared.command.Command.TheVariants.{Ssrm}
use Rattle.oftp_session.specs.Calls.{Seen, Stands}
use Rattle.oftp_session.specs.Phases.{Phase, AwaitingSsid, Step, ResponderOpening, InitiatorOpening, ListenerIdle, Receiving, SpeakerIdle, GivingWay, AwaitingRtr, AwaitingStart, Sending, AwaitingEnd, EndedHere, EndedThere, says}
use Rattle.oftp_session.specs.Standings.{Standing, At, Awaits, Broken, Offers, Receives, Sends}

-- the greeting: a responder sends SSRM, and waits for SSID (RFC 5024, section 5.3.1)
abbrev pub greeting : Step
greeting = says AwaitingSsid Ssrm

-- What a step leaves for which no office was asked. The session is in the step's phase, and remembers nothing of a register.
pub record AfterAlone (step : Step) (old new : Seen) : Type 0 where
  pub setting : new.setting ≡ old.setting
  pub stands : Stands step.phase new
  pub forgets : new.response_due ≡ None

-- the code of the partner with whom a session is open, in a phase and in a state
abbrev pub code_in : Phase → Option (List ℕ)
code_in ResponderOpening = None
code_in InitiatorOpening = None
code_in AwaitingSsid = None
code_in (ListenerIdle contact) = Some contact.code
code_in (Receiving contact f) = Some contact.code
code_in (SpeakerIdle contact done) = Some contact.code
code_in (GivingWay contact) = Some contact.code
code_in (AwaitingRtr contact number) = Some contact.code
code_in (AwaitingStart contact offer) = Some contact.code
code_in (Sending contact t) = Some contact.code
code_in (AwaitingEnd contact t) = Some contact.code
code_in (EndedHere reason) = None
code_in (EndedThere reason) = None

abbrev pub code_of : Standing → Option (List ℕ)
code_of (At p) = code_in p
code_of (Receives contact incoming) = Some contact.code
code_of (Offers contact offered) = Some contact.code
code_of (Sends contact outgoing) = Some contact.code
code_of (Awaits contact number) = Some contact.code
code_of Broken = None
