-- From the state of a session to its phase.
use Rattle.std.proofs.Common.{◌≡◌, ℕ, is_some, refl, sym, subst}
use Rattle.oftp_session.specs.declared.receiving.IncomingTransfer.{IncomingTransfer}
use Rattle.oftp_session.specs.declared.sending.OutgoingOffer.{OutgoingOffer}
use Rattle.oftp_session.specs.declared.sending.OutgoingTransfer.{OutgoingTransfer}
use Rattle.oftp_session.specs.declared.state.Contact.{Contact}
use Rattle.oftp_session.specs.declared.state.State.{State}
use Rattle.oftp_session.specs.declared.state.State.TheVariants as state
use Rattle.oftp_session.specs.Phases.{Phase, Receipt, Offer, Transfer, ResponderOpening, InitiatorOpening, AwaitingSsid, ListenerIdle, Receiving, SpeakerIdle, GivingWay, AwaitingRtr, AwaitingStart, Sending, AwaitingEnd, EndedHere, EndedThere}
use Rattle.oftp_session.specs.Standings.{At, Awaits, Broken, Offers, Receives, Sends, Standing, Ships, StandsIn, Tracks, ended_as, is_closed, offered_as, standing_of}

-- what is known of the phase of a session in this state
abbrev IsPhaseOf : Standing → Phase → Type 0
IsPhaseOf (At q) p = q ≡ p
IsPhaseOf (Receives contact s) p = (f : Receipt) × (Receiving contact f ≡ p) × Tracks contact f s
IsPhaseOf (Offers contact s) p = (offer : Offer) × (AwaitingStart contact offer ≡ p) × (s ≡ offered_as offer)
IsPhaseOf (Sends contact s) p = (t : Transfer) × (Sending contact t ≡ p) × Ships contact t s
IsPhaseOf (Awaits contact n) p = (t : Transfer) × (AwaitingEnd contact t ≡ p) × (t.number ≡ n)
IsPhaseOf Broken p = ⊥

by_standing : (p : Phase) (s here : Standing) → s ≡ here → IsPhaseOf here p → IsPhaseOf s p
by_standing p s here e is = subst (λ (x : Standing). IsPhaseOf x p) (sym e) is

phase_of : (p : Phase) (s : Standing) → StandsIn p s → IsPhaseOf s p
phase_of ResponderOpening s h = by_standing ResponderOpening s (At ResponderOpening) h refl
phase_of InitiatorOpening s h = by_standing InitiatorOpening s (At InitiatorOpening) h refl
phase_of AwaitingSsid s h = by_standing AwaitingSsid s (At AwaitingSsid) h refl
phase_of (ListenerIdle contact) s h = by_standing (ListenerIdle contact) s (At (ListenerIdle contact)) h refl
phase_of (Receiving contact f) s h = by_standing (Receiving contact f) s (Receives contact h.0) h.1 (f, refl, h.2)
phase_of (SpeakerIdle contact done) s h = by_standing (SpeakerIdle contact done) s (At (SpeakerIdle contact done)) h refl
phase_of (GivingWay contact) s h = by_standing (GivingWay contact) s (At (GivingWay contact)) h refl
phase_of (AwaitingRtr contact number) s h = by_standing (AwaitingRtr contact number) s (At (AwaitingRtr contact number)) h refl
phase_of (AwaitingStart contact offer) s h = by_standing (AwaitingStart contact offer) s (Offers contact (offered_as offer)) h (offer, refl, refl)
phase_of (Sending contact t) s h = by_standing (Sending contact t) s (Sends contact h.0) h.1 (t, refl, h.2)
phase_of (AwaitingEnd contact t) s h = by_standing (AwaitingEnd contact t) s (Awaits contact t.number) h (t, refl, refl)
phase_of (EndedHere reason) s h = by_standing (EndedHere reason) s (At (EndedHere reason)) h refl
phase_of (EndedThere reason) s h = by_standing (EndedThere reason) s (At (EndedThere reason)) h refl

-- a session that neither receives, offers nor sends a file is in the phase that it shows
pub phase_at : (p q : Phase) → StandsIn p (At q) → q ≡ p
phase_at p q h = phase_of p (At q) h

-- a session that receives a file is in the phase of a file that it tracks
pub phase_received : (p : Phase) (contact : Contact) (s : IncomingTransfer) → StandsIn p (Receives contact s) → (f : Receipt) × (Receiving contact f ≡ p) × Tracks contact f s
phase_received p contact s h = phase_of p (Receives contact s) h

-- a session that offers a file is in the phase of that offer
pub phase_offered : (p : Phase) (contact : Contact) (s : OutgoingOffer) → StandsIn p (Offers contact s) → (offer : Offer) × (AwaitingStart contact offer ≡ p) × (s ≡ offered_as offer)
phase_offered p contact s h = phase_of p (Offers contact s) h

-- a session that sends a file is in the phase of the transfer that it makes
pub phase_sent : (p : Phase) (contact : Contact) (s : OutgoingTransfer) → StandsIn p (Sends contact s) → (t : Transfer) × (Sending contact t ≡ p) × Ships contact t s
phase_sent p contact s h = phase_of p (Sends contact s) h

-- a session that awaits the answer to EFID is in the phase of a transfer with that number
pub phase_awaits : (p : Phase) (contact : Contact) (n : ℕ) → StandsIn p (Awaits contact n) → (t : Transfer) × (AwaitingEnd contact t ≡ p) × (t.number ≡ n)
phase_awaits p contact n h = phase_of p (Awaits contact n) h

-- a session with a state is closed if it ended
pub closed_ended : (s : State) → is_some (ended_as (standing_of s)) ≡ is_closed (standing_of s)
closed_ended state.ResponderOpening = refl
closed_ended state.InitiatorOpening = refl
closed_ended state.AwaitingSsid = refl
closed_ended (state.ListenerIdle contact) = refl
closed_ended (state.Receiving contact incoming) = refl
closed_ended (state.SpeakerIdle contact done) = refl
closed_ended (state.GivingWay contact) = refl
closed_ended (state.AwaitingRtr contact number) = refl
closed_ended (state.AwaitingStart contact offered) = refl
closed_ended (state.Sending contact outgoing) = refl
closed_ended (state.AwaitingEnd contact number) = refl
closed_ended (state.EndedHere reason) = refl
closed_ended (state.EndedThere reason) = refl
