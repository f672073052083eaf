-- The state of a session, as contracts see it.
use Rattle.std.specs.Prelude.{◌≡◌, ℕ, ◌+◌, ◌-◌, ◌*◌, ◌%◌, ◌<◌, ◌≤◌, nat_lt, max, List, [], length, take, drop, Bool, true, false, Option, None, Some}
use Rattle.oftp_session.specs.declared.session.Ending.{Ending}
use Rattle.oftp_vfile.specs.Reading.{shed}
use Rattle.oftp_vfile.specs.Filling.{IsInRows, Sent}
use Rattle.oftp_vfile.specs.VirtualFile.{units_in}
use Rattle.oftp_register.specs.Changes.{is_closing}
use Rattle.oftp_session.specs.declared.receiving.IncomingTransfer.{IncomingTransfer}
use Rattle.oftp_session.specs.declared.sending.OutgoingOffer.{OutgoingOffer}
use Rattle.oftp_session.specs.declared.sending.OutgoingTransfer.{OutgoingTransfer}
use Rattle.oftp_session.specs.declared.state.Contact.{Contact}
use Rattle.oftp_session.specs.declared.state.State.{State}
use Rattle.oftp_session.specs.declared.state.State.TheVariants as state
use Rattle.oftp_session.specs.Phases.{Phase, Receipt, Offer, Transfer, ResponderOpening, InitiatorOpening, AwaitingSsid, ListenerIdle, Receiving}
use Rattle.oftp_session.specs.Phases.{SpeakerIdle, GivingWay, AwaitingRtr, AwaitingStart, Sending, AwaitingEnd, EndedHere, EndedThere, ending_of, is_over}
use Rattle.oftp_session.specs.Sending.{credit_left, payload_size, payloads_in, rows_from}
use Rattle.oftp_session.specs.Receiving.{carried_by, kept_of, window}
use Rattle.oftp_session.specs.Steps.{turns_due}

-- a session is in a phase, receives, offers or sends a file, or was broken by an error of the office or out of memory
pub data Standing : Type 0 where
  At : (phase : Phase) → Standing
  Receives : (contact : Contact) (incoming : IncomingTransfer) → Standing
  Offers : (contact : Contact) (offered : OutgoingOffer) → Standing
  Sends : (contact : Contact) (outgoing : OutgoingTransfer) → Standing
  Awaits : (contact : Contact) (number : ℕ) → Standing
  Broken : Standing

-- An incoming transfer is in the state of the phase. Its credit is what is left of the window, its taker took all payloads, and the stored rows were
-- removed from the taker.
pub record Tracks (contact : Contact) (f : Receipt) (s : IncomingTransfer) : Type 0 where
  pub number : s.number ≡ f.number
  pub credit : max 1 s.credit ≡ window contact - length f.payloads % window contact
  pub taker : s.taker ≡ shed (kept_of f) (carried_by f)

-- the offer of the code for a file that is offered
abbrev pub offered_as : Offer → OutgoingOffer
offered_as offer = record {
  number = offer.number;
  is_closing = is_closing offer.file.state;
  format = offer.file.format;
  longest = offer.file.longest;
  rows = length offer.file.rows;
  units = units_in offer.file.rows;
  mark = offer.file.mark;
  from = offer.from;
}

-- the rows that were looked up and aren't wholly sent
abbrev pub at_hand : Option (List (List ℕ)) → List (List ℕ)
at_hand None = []
at_hand (Some rows) = rows

-- they are the first of the file's rows that are left, and the filler is among them
pub record AreAtHand (file : List (List ℕ)) (s : OutgoingTransfer) : Type 0 where
  pub first : at_hand s.page ≡ take (length (at_hand s.page)) (drop s.filler.row file)
  pub place : IsInRows s.filler (at_hand s.page)

-- An outgoing transfer is in the state of the phase. Its credit is what is left, and no payload was sent without credit or without room for a
-- subrecord. Its filler made the payloads that were sent, and the rows at hand are those of the file.
pub record Ships (contact : Contact) (t : Transfer) (s : OutgoingTransfer) : Type 0 where
  pub number : s.number ≡ t.number
  pub format : s.filler.format ≡ t.file.format
  pub longest : s.longest ≡ t.file.longest
  pub rows : s.rows ≡ length t.file.rows
  pub units : s.units ≡ units_in t.file.rows
  pub mark : s.mark ≡ t.file.mark
  pub credit : s.credit ≡ credit_left contact t
  pub covered : t.sent ≤ (t.credits + 1) * window contact
  pub room : 0 < t.sent → 2 ≤ payload_size contact
  pub most : t.sent ≤ length (payloads_in contact t)
  pub sent : Sent s.filler (payload_size contact) t.from (rows_from t) (take t.sent (payloads_in contact t))
  pub page : AreAtHand t.file.rows s

-- a session with this state is in this phase
abbrev pub StandsIn : Phase → Standing → Type 0
StandsIn (Receiving contact f) s = (incoming : IncomingTransfer) × (s ≡ Receives contact incoming) × Tracks contact f incoming
StandsIn ResponderOpening s = s ≡ At ResponderOpening
StandsIn InitiatorOpening s = s ≡ At InitiatorOpening
StandsIn AwaitingSsid s = s ≡ At AwaitingSsid
StandsIn (ListenerIdle contact) s = s ≡ At (ListenerIdle contact)
StandsIn (SpeakerIdle contact done) s = s ≡ At (SpeakerIdle contact done)
StandsIn (GivingWay contact) s = s ≡ At (GivingWay contact)
StandsIn (AwaitingRtr contact number) s = s ≡ At (AwaitingRtr contact number)
StandsIn (AwaitingStart contact offer) s = s ≡ Offers contact (offered_as offer)
StandsIn (Sending contact t) s = (outgoing : OutgoingTransfer) × (s ≡ Sends contact outgoing) × Ships contact t outgoing
StandsIn (AwaitingEnd contact t) s = s ≡ Awaits contact t.number
StandsIn (EndedHere reason) s = s ≡ At (EndedHere reason)
StandsIn (EndedThere reason) s = s ≡ At (EndedThere reason)

-- the state of the code, as contracts see it
abbrev pub standing_of : State → Standing
standing_of state.ResponderOpening = At ResponderOpening
standing_of state.InitiatorOpening = At InitiatorOpening
standing_of state.AwaitingSsid = At AwaitingSsid
standing_of (state.ListenerIdle contact) = At (ListenerIdle contact)
standing_of (state.Receiving contact incoming) = Receives contact incoming
standing_of (state.SpeakerIdle contact done) = At (SpeakerIdle contact done)
standing_of (state.GivingWay contact) = At (GivingWay contact)
standing_of (state.AwaitingRtr contact number) = At (AwaitingRtr contact number)
standing_of (state.AwaitingStart contact offered) = Offers contact offered
standing_of (state.Sending contact outgoing) = Sends contact outgoing
standing_of (state.AwaitingEnd contact number) = Awaits contact number
standing_of (state.EndedHere reason) = At (EndedHere reason)
standing_of (state.EndedThere reason) = At (EndedThere reason)

-- a session without a state is broken
abbrev pub standing_held : Option State → Standing
standing_held (Some s) = standing_of s
standing_held None = Broken

-- how a session ended, if it did
abbrev pub ended_as : Standing → Option Ending
ended_as (At p) = ending_of p
ended_as (Receives contact incoming) = None
ended_as (Offers contact offered) = None
ended_as (Sends contact outgoing) = None
ended_as (Awaits contact number) = None
ended_as Broken = None

-- a session that is over or broken does nothing more
abbrev pub is_closed : Standing → Bool
is_closed (At p) = is_over p
is_closed (Receives contact incoming) = false
is_closed (Offers contact offered) = false
is_closed (Sends contact outgoing) = false
is_closed (Awaits contact number) = false
is_closed Broken = true

-- a file is being received
abbrev pub is_receiving : Standing → Bool
is_receiving (At p) = false
is_receiving (Receives contact incoming) = true
is_receiving (Offers contact offered) = false
is_receiving (Sends contact outgoing) = false
is_receiving (Awaits contact number) = false
is_receiving Broken = false

-- a file is being sent
abbrev pub is_sending : Standing → Bool
is_sending (At p) = false
is_sending (Receives contact incoming) = false
is_sending (Offers contact offered) = false
is_sending (Sends contact outgoing) = true
is_sending (Awaits contact number) = false
is_sending Broken = false

-- how many turns may follow one another, and whether one is due
abbrev pub turns_left : Standing → ℕ
turns_left (At p) = turns_due p
turns_left (Receives contact incoming) = 0
turns_left (Offers contact offered) = 0
turns_left (Sends contact outgoing) = outgoing.credit
turns_left (Awaits contact number) = 0
turns_left Broken = 0

abbrev pub is_due : Standing → Bool
is_due s = nat_lt 0 (turns_left s)
