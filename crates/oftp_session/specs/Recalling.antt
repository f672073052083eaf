-- What a session remembers of the register: whether a response is next. While RTR is missing it isn't known.
use Rattle.std.specs.Prelude.{◌≡◌, Bool, Option, None, Some}
use Rattle.oftp_register.specs.Register.{Register}
use Rattle.oftp_session.specs.declared.state.Contact.{Contact}
use Rattle.oftp_session.specs.Phases.{Phase, ListenerIdle, Receiving, SpeakerIdle, GivingWay, AwaitingStart, Sending, AwaitingEnd}
use Rattle.oftp_session.specs.Receiving.{asks_to_speak}
use Rattle.oftp_session.specs.Standings.{Standing, At, Awaits, Broken, Offers, Receives, Sends}
use Rattle.oftp_session.specs.Calls.{Seen}

-- The partner to which a response may be next, in a phase and in a state. It is that of an open session in which RTR isn't missing.
abbrev pub recalled_in : Phase → Option Contact
recalled_in (ListenerIdle contact) = Some contact
recalled_in (Receiving contact f) = Some contact
recalled_in (SpeakerIdle contact done) = Some contact
recalled_in (GivingWay contact) = Some contact
recalled_in (AwaitingStart contact offer) = Some contact
recalled_in (Sending contact t) = Some contact
recalled_in (AwaitingEnd contact t) = Some contact
recalled_in other = None

abbrev pub recalled_of : Standing → Option Contact
recalled_of (At p) = recalled_in p
recalled_of (Receives contact incoming) = Some contact
recalled_of (Offers contact offered) = Some contact
recalled_of (Sends contact outgoing) = Some contact
recalled_of (Awaits contact number) = Some contact
recalled_of Broken = None

-- Whether a response is next is what was looked up, if it was. If one is, a listener asks to speak, and a speaker sends it before any file.
abbrev pub RecallsOf : Option Bool → Contact → Register → Type 0
RecallsOf due contact r = (given : Bool) → due ≡ Some given → given ≡ asks_to_speak contact r

-- the same for a session that has such a partner
unfoldable pub RecallsAt : Option Bool → Standing → Register → Type 0
RecallsAt due s r = (contact : Contact) → recalled_of s ≡ Some contact → RecallsOf due contact r

-- what a session remembers is true
abbrev pub Recalls : Seen → Register → Type 0
Recalls session r = RecallsAt session.response_due session.standing r
