-- Commands that arrive, and turns, by the state of the session.
use Rattle.std.proofs.Common.{◌≡◌, ℕ, List, Result, Ok, sym, ap, subst}
use Rattle.oftp_wire.specs.declared.command.Command.{Command}
use Rattle.oftp_register.specs.Offices.{View}
use Rattle.oftp_session.specs.declared.receiving.IncomingTransfer.{IncomingTransfer}
use Rattle.oftp_session.specs.declared.sending.OutgoingOffer.{OutgoingOffer}
use Rattle.oftp_session.specs.declared.sending.OutgoingTransfer.{OutgoingTransfer}
use Rattle.oftp_session.specs.declared.session.SessionFault.{SessionFault}
use Rattle.oftp_session.specs.declared.state.Contact.{Contact}
use Rattle.oftp_session.specs.declared.state.State.{State}
use Rattle.oftp_session.specs.declared.state.State.TheVariants as state
use Rattle.oftp_session.specs.Settings.{Setting}
use Rattle.oftp_session.specs.Phases.{Phase, Receipt, Offer, Step, Transfer, AwaitingRtr}
use Rattle.oftp_session.specs.Receiving.{came_receiving}
use Rattle.oftp_session.specs.Speaker.{came_awaiting_rtr}
use Rattle.oftp_session.specs.Sending.{came_awaiting_end, came_awaiting_start, came_sending, turned_sending}
use Rattle.oftp_session.specs.Steps.{came, turned, Holds, IsEnded, IsOffered, IsReceived, IsResponding, IsSent}
use Rattle.oftp_session.specs.Standings.{At, Ships, StandsIn, Tracks, offered_as, standing_of}
use Rattle.oftp_session.specs.Inside.{Goes, Takes}
use Rattle.oftp_session.proofs.Saying.{same_takes}
use Rattle.oftp_session.proofs.Standings.{phase_at, phase_awaits, phase_offered, phase_received, phase_sent}

-- a session makes the step of its phase
in_phase : (step : Phase → Step) (p q : Phase) (old new : View) (frame : List ℕ) (result : Result State SessionFault) → q ≡ p → Holds p old.register
    → (Holds q old.register → Takes (step q) old new frame result) → Takes (step p) old new frame result
in_phase step p q old new frame result same holds takes =
    subst (λ (x : Phase). Takes (step x) old new frame result) same (takes (subst (λ (x : Phase). Holds x old.register) (sym same) holds))

-- a session that isn't receiving makes the step of its phase
pub came_at : (setting : Setting) (p q : Phase) (s : State) (c : Command) (old new : View) (frame : List ℕ) (result : Result State SessionFault) → standing_of s ≡ At q
    → StandsIn p (standing_of s) → Takes (came setting q old.register c) old new frame result → Takes (came setting p old.register c) old new frame result
came_at setting p q s c old new frame result is at takes =
    let same = phase_at p q (subst (StandsIn p) is at) in
    subst (λ (x : Phase). Takes (came setting x old.register c) old new frame result) same takes

pub came_same : (setting : Setting) (p q : Phase) (s : State) (c : Command) (now : View) (to : State) (frame : List ℕ) → standing_of s ≡ At q → StandsIn p (standing_of s)
    → now.stands → Goes (came setting q now.register c) to frame → Takes (came setting p now.register c) now now frame (Ok to)
came_same setting p q s c now to frame is at stands goes =
    came_at setting p q s c now now frame (Ok to) is at (same_takes (came setting q now.register c) now to frame stands goes)

-- one that receives makes that of its file
pub came_received : (setting : Setting) (p : Phase) (s : State) (contact : Contact) (incoming : IncomingTransfer) (c : Command) (old new : View) (frame : List ℕ) (result : Result State SessionFault)
    → s ≡ state.Receiving contact incoming → StandsIn p (standing_of s) → Holds p old.register
    → ((f : Receipt) → IsReceived old.register f → Tracks contact f incoming → Takes (came_receiving contact old.register f c) old new frame result)
    → Takes (came setting p old.register c) old new frame result
unfolding came
came_received setting p s contact incoming c old new frame result is at holds takes =
    let i = phase_received p contact incoming (subst (StandsIn p) (ap standing_of is) at) in
    in_phase (λ (x : Phase). came setting x old.register c) p _ old new frame result i.1 holds (λ its. takes i.0 its i.2)

-- one whose response was sent
pub came_responding : (setting : Setting) (p : Phase) (s : State) (contact : Contact) (n : ℕ) (c : Command) (old new : View) (frame : List ℕ) (result : Result State SessionFault)
    → s ≡ state.AwaitingRtr contact n → StandsIn p (standing_of s) → Holds p old.register
    → (IsResponding old.register n → Takes (came_awaiting_rtr contact n c) old new frame result)
    → Takes (came setting p old.register c) old new frame result
unfolding came
came_responding setting p s contact n c old new frame result is at holds takes =
    let same = phase_at p (AwaitingRtr contact n) (subst (StandsIn p) (ap standing_of is) at) in
    in_phase (λ (x : Phase). came setting x old.register c) p _ old new frame result same holds takes

-- one that offers a file
pub came_offered : (setting : Setting) (p : Phase) (s : State) (contact : Contact) (offered : OutgoingOffer) (c : Command) (old new : View) (frame : List ℕ) (result : Result State SessionFault)
    → s ≡ state.AwaitingStart contact offered → StandsIn p (standing_of s) → Holds p old.register
    → ((offer : Offer) → IsOffered old.register offer → offered ≡ offered_as offer → Takes (came_awaiting_start contact offer c) old new frame result)
    → Takes (came setting p old.register c) old new frame result
unfolding came
came_offered setting p s contact offered c old new frame result is at holds takes =
    let i = phase_offered p contact offered (subst (StandsIn p) (ap standing_of is) at) in
    in_phase (λ (x : Phase). came setting x old.register c) p _ old new frame result i.1 holds (λ its. takes i.0 its i.2)

-- one that sends a file
pub came_sent : (setting : Setting) (p : Phase) (s : State) (contact : Contact) (outgoing : OutgoingTransfer) (c : Command) (old new : View) (frame : List ℕ) (result : Result State SessionFault)
    → s ≡ state.Sending contact outgoing → StandsIn p (standing_of s) → Holds p old.register
    → ((t : Transfer) → IsSent old.register t → Ships contact t outgoing → Takes (came_sending contact t c) old new frame result)
    → Takes (came setting p old.register c) old new frame result
unfolding came
came_sent setting p s contact outgoing c old new frame result is at holds takes =
    let i = phase_sent p contact outgoing (subst (StandsIn p) (ap standing_of is) at) in
    in_phase (λ (x : Phase). came setting x old.register c) p _ old new frame result i.1 holds (λ its. takes i.0 its i.2)

-- one that sent the end of a file
pub came_ended : (setting : Setting) (p : Phase) (s : State) (contact : Contact) (n : ℕ) (c : Command) (old new : View) (frame : List ℕ) (result : Result State SessionFault)
    → s ≡ state.AwaitingEnd contact n → StandsIn p (standing_of s) → Holds p old.register
    → ((t : Transfer) → IsEnded old.register t → t.number ≡ n → Takes (came_awaiting_end contact t c) old new frame result)
    → Takes (came setting p old.register c) old new frame result
unfolding came
came_ended setting p s contact n c old new frame result is at holds takes =
    let i = phase_awaits p contact n (subst (StandsIn p) (ap standing_of is) at) in
    in_phase (λ (x : Phase). came setting x old.register c) p _ old new frame result i.1 holds (λ its. takes i.0 its i.2)

-- the turn
pub turned_at : (setting : Setting) (p q : Phase) (s : State) (old new : View) (frame : List ℕ) (result : Result State SessionFault) → standing_of s ≡ At q
    → StandsIn p (standing_of s) → Takes (turned setting q old.register) old new frame result → Takes (turned setting p old.register) old new frame result
turned_at setting p q s old new frame result is at takes =
    let same = phase_at p q (subst (StandsIn p) is at) in
    subst (λ (x : Phase). Takes (turned setting x old.register) old new frame result) same takes

pub turned_same : (setting : Setting) (p q : Phase) (s : State) (now : View) (to : State) (frame : List ℕ) → standing_of s ≡ At q → StandsIn p (standing_of s)
    → now.stands → Goes (turned setting q now.register) to frame → Takes (turned setting p now.register) now now frame (Ok to)
turned_same setting p q s now to frame is at stands goes =
    turned_at setting p q s now now frame (Ok to) is at (same_takes (turned setting q now.register) now to frame stands goes)

pub turned_sent : (setting : Setting) (p : Phase) (s : State) (contact : Contact) (outgoing : OutgoingTransfer) (old new : View) (frame : List ℕ) (result : Result State SessionFault)
    → s ≡ state.Sending contact outgoing → StandsIn p (standing_of s) → Holds p old.register
    → ((t : Transfer) → IsSent old.register t → Ships contact t outgoing → Takes (turned_sending contact t) old new frame result)
    → Takes (turned setting p old.register) old new frame result
unfolding turned
turned_sent setting p s contact outgoing old new frame result is at holds takes =
    let i = phase_sent p contact outgoing (subst (StandsIn p) (ap standing_of is) at) in
    in_phase (λ (x : Phase). turned setting x old.register) p _ old new frame result i.1 holds (λ its. takes i.0 its i.2)
