-- A turn by cases: four phases send something, and in all others no turn is due.
use Rattle.oftp_wire.specs.declared.command.Command.TheVariants as command
use Rattle.oftp_register.specs.Register.{Register}
use Rattle.oftp_session.specs.declared.link.WhenDone.{WhenDone}
use Rattle.oftp_session.specs.declared.state.Contact.{Contact}
use Rattle.oftp_session.specs.Settings.{Setting}
use Rattle.oftp_session.specs.Phases.{Phase, Transfer, ResponderOpening, InitiatorOpening, AwaitingSsid, ListenerIdle, Receiving, SpeakerIdle, GivingWay, AwaitingRtr, AwaitingStart, Sending, AwaitingEnd, EndedHere, EndedThere, Step, quiet, says}
use Rattle.oftp_session.specs.Speaker.{speaks}
use Rattle.oftp_session.specs.Sending.{turned_sending}
use Rattle.oftp_session.specs.Steps.{turned}

-- P holds of a phase and the turn that is made in it
pub record HoldsOfTurns (P : Phase → Step → Type 0) (setting : Setting) (r : Register) : Type 0 where
  pub greeting : P ResponderOpening (says AwaitingSsid command.Ssrm)
  pub speaking : (contact : Contact) (done : WhenDone) → P (SpeakerIdle contact done) (speaks setting contact done r)
  pub giving_way : (contact : Contact) → P (GivingWay contact) (says (ListenerIdle contact) command.Cd)
  pub sending : (contact : Contact) (t : Transfer) → P (Sending contact t) (turned_sending contact t)
  pub waiting : (p : Phase) → P p (quiet p)

pub each_turn : (P : Phase → Step → Type 0) (setting : Setting) (r : Register) → HoldsOfTurns P setting r → (p : Phase) → P p (turned setting p r)
unfolding turned
each_turn P setting r h ResponderOpening = h.greeting
each_turn P setting r h InitiatorOpening = h.waiting InitiatorOpening
each_turn P setting r h AwaitingSsid = h.waiting AwaitingSsid
each_turn P setting r h (ListenerIdle contact) = h.waiting (ListenerIdle contact)
each_turn P setting r h (Receiving contact f) = h.waiting (Receiving contact f)
each_turn P setting r h (SpeakerIdle contact done) = h.speaking contact done
each_turn P setting r h (GivingWay contact) = h.giving_way contact
each_turn P setting r h (AwaitingRtr contact number) = h.waiting (AwaitingRtr contact number)
each_turn P setting r h (AwaitingStart contact offer) = h.waiting (AwaitingStart contact offer)
each_turn P setting r h (Sending contact t) = h.sending contact t
each_turn P setting r h (AwaitingEnd contact t) = h.waiting (AwaitingEnd contact t)
each_turn P setting r h (EndedHere reason) = h.waiting (EndedHere reason)
each_turn P setting r h (EndedThere reason) = h.waiting (EndedThere reason)
