-- The invariant of two stations: of each file, of what is on its way, and of the two sessions.
use Rattle.std.specs.Prelude.{◌≡◌, ℕ, ◌≤◌, ◌⊎◌, Bool, true, false, List, [], ◌∷◌, ◌++◌, length, take, drop, map, Option, None, Some, is_some, Ok, ⊤, All}
use Rattle.oftp_wire.specs.declared.command.Command.{Command}
use Rattle.oftp_wire.specs.declared.command.Command.TheVariants as command
use Rattle.oftp_wire.specs.declared.command.Sfid.{Sfid}
use Rattle.oftp_wire.specs.declared.command.Sfna.{Sfna}
use Rattle.oftp_wire.specs.declared.command.Ssid.{Ssid}
use Rattle.oftp_wire.specs.declared.command.Efid.{Efid}
use Rattle.oftp_vfile.specs.Fill.{payloads_of}
use Rattle.oftp_vfile.specs.VirtualFile.{BeginsWith}
use Rattle.oftp_register.specs.declared.entry.Identity.{Identity}
use Rattle.oftp_register.specs.declared.entry.IncomingState.TheVariants.{Whole}
use Rattle.oftp_register.specs.declared.entry.OutgoingState.TheVariants.{Delivered, Returned}
use Rattle.oftp_register.specs.declared.entry.ResponseKind.TheVariants.{EndResponse, NegativeEndResponse}
use Rattle.oftp_register.specs.Register.{Register, Outgoing, Incoming, Received}
use Rattle.oftp_register.specs.Changes.{apply_all}
use Rattle.oftp_register.specs.Verdicts.{format_of, longest_of, offered_identity}
use Rattle.oftp_register.specs.Soundness.{IsSound}
use Rattle.oftp_session.specs.Phases.{Phase, Receipt, Offer, Transfer, ResponderOpening, InitiatorOpening, AwaitingSsid, ListenerIdle, Receiving, SpeakerIdle, GivingWay, AwaitingRtr, AwaitingStart, Sending, AwaitingEnd, EndedHere, EndedThere, is_over}
use Rattle.oftp_session.specs.declared.state.Contact.{Contact}
use Rattle.oftp_session.specs.Steps.{Holds}
use Rattle.oftp_session.specs.Listener.{end_response, negative_end_response}
use Rattle.oftp_session.specs.Sending.{payloads_in}
use Rattle.oftp_engine.specs.Progress.{Counted}
use Rattle.oftp_engine.specs.Runs.{Course}
use Rattle.oftp_engine.specs.World.{Station, World, latest, left_after}
use Rattle.oftp_register.specs.ByIdentity.{out_at, in_at}
use Rattle.oftp_engine.specs.TwoStations.{Has, IfAny, is_handed, IsAnsweredBy}

-- One file, by its identity: as the sender has it, and as the receiver has it.

-- The receiver has a beginning of the file, or all of it if it is whole there. It is whole there if the sender holds it as handed over.
pub record IsPartOf (f : Outgoing) (e : Incoming) : Type 0 where
  pub format : e.format ≡ f.format
  pub longest : e.longest ≡ f.longest
  pub begins : BeginsWith f.rows e.rows
  pub whole : e.state ≡ Whole → e.rows ≡ f.rows
  pub handed : is_handed f.state ≡ true → e.state ≡ Whole
  pub delivered : f.state ≡ Delivered → IsAnsweredBy EndResponse e
  pub returned : f.state ≡ Returned → IsAnsweredBy NegativeEndResponse e

abbrev pub FileFits : Option Outgoing → Option Incoming → Type 0
FileFits None None = ⊤
FileFits None (Some e) = ⊥
FileFits (Some f) None = is_handed f.state ≡ false
FileFits (Some f) (Some e) = IsPartOf f e

-- each file of a sender and a receiver that has such an identity
abbrev pub AllFit : (Identity → Type 0) → Register → Register → Type 0
AllFit Is sender receiver = (identity : Identity) → Is identity → FileFits (out_at sender identity) (in_at receiver identity)

-- What is on its way to a station. The register is that of the station that sent it.

-- nothing that the station executes but an end of the session
abbrev pub IsQuiet : List Command → Type 0
IsQuiet [] = ⊤
IsQuiet (command.Esid esid ∷ coming) = ⊤
IsQuiet _ = ⊥

-- an SFID names a file of the sender, with its format and longest record
pub record IsOfferOf (sender : Register) (sfid : Sfid) : Type 0 where
  pub file : Outgoing
  pub found : out_at sender (offered_identity sfid) ≡ Some file
  pub format : format_of sfid.layout ≡ file.format
  pub longest : longest_of sfid.layout ≡ file.longest

-- a response was issued by the station that sent it
abbrev pub IsIssuedBy : Register → Received → Type 0
IsIssuedBy sender response = Has (in_at sender response.identity) (IsAnsweredBy response.kind)

-- payloads are the first ones of the sender's file from a row on, and these follow
pub record ComesFrom (sender : Register) (identity : Identity) (from : ℕ) (payloads next : List (List ℕ)) : Type 0 where
  pub file : Outgoing
  pub found : out_at sender identity ≡ Some file
  pub size : ℕ
  pub room : 2 ≤ size
  pub split : payloads ++ next ≡ payloads_of file.format size (drop from file.rows)

abbrev pub IsBeginning : Register → Identity → ℕ → List (List ℕ) → Type 0
IsBeginning sender identity from payloads = (next : List (List ℕ)) × ComesFrom sender identity from payloads next

-- what may arrive while a file is received: payloads in order, and EFID only after the last one
abbrev pub MayTake : Register → Identity → ℕ → List (List ℕ) → List Command → Type 0
MayTake sender identity from payloads [] = IsBeginning sender identity from payloads
MayTake sender identity from payloads (command.Data payload ∷ coming) = MayTake sender identity from (payloads ++ payload ∷ []) coming
MayTake sender identity from payloads (command.Efid efid ∷ coming) = ComesFrom sender identity from payloads [] × IsQuiet coming
MayTake sender identity from payloads (_ ∷ coming) = IsBeginning sender identity from payloads

-- what may arrive at a listener
abbrev pub MayHear : Register → List Command → Type 0
MayHear sender [] = ⊤
MayHear sender (command.Sfid sfid ∷ coming) = IsOfferOf sender sfid × IsQuiet coming
MayHear sender (command.Eerp eerp ∷ coming) = IsIssuedBy sender (end_response eerp) × IsQuiet coming
MayHear sender (command.Nerp nerp ∷ coming) = IsIssuedBy sender (negative_end_response nerp) × IsQuiet coming
MayHear sender (command.Cd ∷ coming) = IsQuiet coming
MayHear sender (_ ∷ coming) = ⊤

-- the file is whole at the station that sends this
abbrev pub IsWholeAt : Register → Identity → Type 0
IsWholeAt receiver identity = Has (in_at receiver identity) (λ e. e.state ≡ Whole)

-- what may arrive after SFID: SFNA 13 only if the file is whole
abbrev pub MayAnswerStart : Register → Outgoing → List Command → Type 0
MayAnswerStart receiver file [] = ⊤
MayAnswerStart receiver file (command.Sfpa sfpa ∷ coming) = IsQuiet coming
MayAnswerStart receiver file (command.Sfna sfna ∷ coming) = (sfna.reason ≡ 13 → IsWholeAt receiver file.identity) × IsQuiet coming
MayAnswerStart receiver file (_ ∷ coming) = ⊤

-- what may arrive while DATA is sent: only CDT
abbrev pub MayCredit : List Command → Type 0
MayCredit [] = ⊤
MayCredit (command.Cdt ∷ coming) = MayCredit coming
MayCredit (command.Esid esid ∷ coming) = ⊤
MayCredit (_ ∷ coming) = ⊥

-- what may arrive after EFID: EFPA only if the file is whole
abbrev pub MayAnswerEnd : Register → Outgoing → List Command → Type 0
MayAnswerEnd receiver file [] = ⊤
MayAnswerEnd receiver file (command.Efpa efpa ∷ coming) = IsWholeAt receiver file.identity × IsQuiet coming
MayAnswerEnd receiver file (command.Efna efna ∷ coming) = IsQuiet coming
MayAnswerEnd receiver file (_ ∷ coming) = ⊤

abbrev pub MayAnswerResponse : List Command → Type 0
MayAnswerResponse [] = ⊤
MayAnswerResponse (command.Rtr ∷ coming) = IsQuiet coming
MayAnswerResponse (_ ∷ coming) = ⊤

abbrev pub MayOpen : List Command → Type 0
MayOpen [] = ⊤
MayOpen (command.Ssrm ∷ coming) = IsQuiet coming
MayOpen (command.Ssid ssid ∷ coming) = IsQuiet coming
MayOpen (_ ∷ coming) = ⊤

-- what may arrive in each phase
abbrev pub MayCome : Register → Phase → List Command → Type 0
MayCome there ResponderOpening coming = MayOpen coming
MayCome there InitiatorOpening coming = MayOpen coming
MayCome there AwaitingSsid coming = MayOpen coming
MayCome there (ListenerIdle contact) coming = MayHear there coming
MayCome there (Receiving contact f) coming = MayTake there f.file.identity f.from f.payloads coming
MayCome there (SpeakerIdle contact done) coming = IsQuiet coming
MayCome there (GivingWay contact) coming = IsQuiet coming
MayCome there (AwaitingRtr contact number) coming = MayAnswerResponse coming
MayCome there (AwaitingStart contact offer) coming = MayAnswerStart there offer.file coming
MayCome there (Sending contact t) coming = MayCredit coming
MayCome there (AwaitingEnd contact t) coming = MayAnswerEnd there t.file coming
MayCome there (EndedHere reason) coming = ⊤
MayCome there (EndedThere reason) coming = ⊤

-- Two sessions with each other. Only one of them speaks at a time.

-- a session as the other one sees it: whether it called, its phase, and what is on its way to it
pub record Talk : Type 0 where
  pub calls : Bool
  pub phase : Phase
  pub coming : List Command

-- a listener, with this on its way to it
pub record IsTold (coming : List Command) (talk : Talk) : Type 0 where
  pub contact : Contact
  pub listens : talk.phase ≡ ListenerIdle contact
  pub told : talk.coming ≡ coming

-- a listener that receives the file of this identity from a row on, after this many payloads, and with these commands after them
pub record IsTaking (identity : Identity) (from : ℕ) (payloads : List (List ℕ)) (behind : List Command) (talk : Talk) : Type 0 where
  pub contact : Contact
  pub receipt : Receipt
  pub takes : talk.phase ≡ Receiving contact receipt
  pub same : receipt.file.identity ≡ identity
  pub from_row : receipt.from ≡ from
  pub on_the_way : List (List ℕ)
  pub told : talk.coming ≡ map command.Data on_the_way ++ behind
  pub all : receipt.payloads ++ on_the_way ≡ payloads

abbrev pub IsCredit : Command → Type 0
IsCredit command.Cdt = ⊤
IsCredit _ = ⊥

abbrev pub IsResponseCommand : Command → Type 0
IsResponseCommand (command.Eerp eerp) = ⊤
IsResponseCommand (command.Nerp nerp) = ⊤
IsResponseCommand _ = ⊥

abbrev pub IsEndAnswer : Command → Type 0
IsEndAnswer (command.Efpa efpa) = ⊤
IsEndAnswer (command.Efna efna) = ⊤
IsEndAnswer _ = ⊥

-- one that opens a session
pub record IsOpening (calls : Bool) (phase : Phase) (coming : List Command) (talk : Talk) : Type 0 where
  pub role : talk.calls ≡ calls
  pub opens : talk.phase ≡ phase
  pub told : talk.coming ≡ coming

abbrev pub IsCalling : List Command → Talk → Type 0
IsCalling coming talk = IsOpening true InitiatorOpening coming talk

-- a responder that sends SSRM next to the initiator
pub record MayGreet (talk other : Talk) : Type 0 where
  pub role : talk.calls ≡ false
  pub none : talk.coming ≡ []
  pub calling : IsCalling [] other

-- a responder that sent SSRM: that is on its way, or the initiator's SSID
pub data HasGreeted (coming : List Command) (other : Talk) : Type 0 where
  SsrmGoes : coming ≡ [] → IsCalling (command.Ssrm ∷ []) other → HasGreeted coming other
  SsidComes : (ssid : Ssid) → coming ≡ command.Ssid ssid ∷ [] → IsOpening true AwaitingSsid [] other → HasGreeted coming other

-- an initiator, and the responder's SSID on its way to it
pub record IsLetIn (coming : List Command) (other : Talk) : Type 0 where
  pub ssid : Ssid
  pub comes : coming ≡ command.Ssid ssid ∷ []
  pub listens : IsTold [] other

abbrev pub OpensWith : Bool → List Command → Talk → Type 0
OpensWith false coming other = HasGreeted coming other
OpensWith true coming other = IsLetIn coming other

-- these commands are on their way to the session that may speak, and nothing to the other, which listens
pub record MaySpeak (commands coming : List Command) (other : Talk) : Type 0 where
  pub comes : coming ≡ commands
  pub listens : IsTold [] other

-- one that sent a response: that is on its way, or its RTR
pub data HasResponded (coming : List Command) (other : Talk) : Type 0 where
  ResponseGoes : coming ≡ [] → (response : Command) → IsResponseCommand response → IsTold (response ∷ []) other → HasResponded coming other
  RtrComes : coming ≡ command.Rtr ∷ [] → IsTold [] other → HasResponded coming other

-- one that offered a file: its SFID is on its way, or the answer
pub data HasOffered (offer : Offer) (coming : List Command) (other : Talk) : Type 0 where
  SfidGoes : coming ≡ [] → (sfid : Sfid) → offered_identity sfid ≡ offer.file.identity → IsTold (command.Sfid sfid ∷ []) other → HasOffered offer coming other
  SfpaComes : (from : ℕ) → coming ≡ command.Sfpa (record { restart = from }) ∷ [] → IsTaking offer.file.identity from [] [] other → HasOffered offer coming other
  SfnaComes : (sfna : Sfna) → coming ≡ command.Sfna sfna ∷ [] → IsTold [] other → HasOffered offer coming other

-- one that sends a file: only credit comes back
pub record IsSending (contact : Contact) (t : Transfer) (coming : List Command) (other : Talk) : Type 0 where
  pub credits : All IsCredit coming
  pub takes : IsTaking t.file.identity t.from (take t.sent (payloads_in contact t)) [] other

-- one that has sent a file: its EFID is on its way, or the answer after the last credit
pub data HasEnded (contact : Contact) (t : Transfer) (coming : List Command) (other : Talk) : Type 0 where
  EfidGoes : All IsCredit coming → (efid : Efid) → IsTaking t.file.identity t.from (payloads_in contact t) (command.Efid efid ∷ []) other → HasEnded contact t coming other
  AnswerComes : (credits : List Command) → All IsCredit credits → (answer : Command) → IsEndAnswer answer → coming ≡ credits ++ answer ∷ [] → IsTold [] other → HasEnded contact t coming other

-- The session that may speak next, by its phase and by what is on its way to it (RFC 5024, section 4). With it goes the other session.
abbrev pub Speaks : Talk → Phase → Talk → Type 0
Speaks talk ResponderOpening other = MayGreet talk other
Speaks talk InitiatorOpening other = ⊥
Speaks talk AwaitingSsid other = OpensWith talk.calls talk.coming other
Speaks talk (ListenerIdle contact) other = MaySpeak (command.Cd ∷ []) talk.coming other
Speaks talk (Receiving contact f) other = ⊥
Speaks talk (SpeakerIdle contact done) other = MaySpeak [] talk.coming other
Speaks talk (GivingWay contact) other = MaySpeak [] talk.coming other
Speaks talk (AwaitingRtr contact number) other = HasResponded talk.coming other
Speaks talk (AwaitingStart contact offer) other = HasOffered offer talk.coming other
Speaks talk (Sending contact t) other = IsSending contact t talk.coming other
Speaks talk (AwaitingEnd contact t) other = HasEnded contact t talk.coming other
Speaks talk (EndedHere reason) other = ⊥
Speaks talk (EndedThere reason) other = ⊥

-- a fact of the agreed buffer's size, in a phase that has one
abbrev pub OfBuffer : (ℕ → Type 0) → Phase → Type 0
OfBuffer P ResponderOpening = ⊤
OfBuffer P InitiatorOpening = ⊤
OfBuffer P AwaitingSsid = ⊤
OfBuffer P (ListenerIdle contact) = P contact.link.buffer
OfBuffer P (Receiving contact f) = P contact.link.buffer
OfBuffer P (SpeakerIdle contact done) = P contact.link.buffer
OfBuffer P (GivingWay contact) = P contact.link.buffer
OfBuffer P (AwaitingRtr contact number) = P contact.link.buffer
OfBuffer P (AwaitingStart contact offer) = P contact.link.buffer
OfBuffer P (Sending contact t) = P contact.link.buffer
OfBuffer P (AwaitingEnd contact t) = P contact.link.buffer
OfBuffer P (EndedHere reason) = ⊤
OfBuffer P (EndedThere reason) = ⊤

-- the invariant of a session: its phase and its register, enough room in a DATA for a subrecord, and what may arrive
abbrev pub HasRoom : Phase → Type 0
HasRoom p = OfBuffer (λ size. 128 ≤ size) p

-- the registers that a crash may leave of a session that began with a register: from the last change that was answered on
pub record MayLeave (start : Register) (c : Course) (r : Register) : Type 0 where
  pub changes : ℕ
  pub least : latest c.outputs ≤ changes
  pub most : changes ≤ length c.changes
  pub is : r ≡ left_after start c changes

abbrev pub LeftBy : Register → Option Course → Register → Type 0
LeftBy start None r = r ≡ start
LeftBy start (Some c) r = MayLeave start c r

abbrev pub StationLeaves : Station → Register → Type 0
StationLeaves s r = LeftBy s.start s.session r

-- what may arrive at a station from the other, whose register may be any that a crash would leave now
abbrev pub MayComeTo : Option Course → List Command → Station → Type 0
MayComeTo None coming other = coming ≡ []
MayComeTo (Some c) coming other = (there : Register) → StationLeaves other there → MayCome there c.phase coming

pub record IsInSession (start : Register) (c : Course) : Type 0 where
  pub going : is_over c.phase ≡ false
  pub buffer : 128 ≤ c.setting.book.station.buffer
  pub holds : Holds c.phase c.register
  pub room : HasRoom c.phase
  pub counted : Counted (length c.changes) c.outputs
  pub now : MayLeave start c c.register
  pub replay : apply_all start c.changes ≡ Ok c.register

abbrev pub talk_of : Course → List Command → Talk
talk_of c coming = record { calls = is_some c.setting.called; phase = c.phase; coming = coming }

-- if both have a session, they have it with each other
abbrev pub Meet : Option Course → List Command → Option Course → List Command → Type 0
Meet None coming other coming' = ⊤
Meet (Some c) coming None coming' = ⊤
Meet (Some c) coming (Some d) coming' =
    Speaks (talk_of c coming) c.phase (talk_of d coming') ⊎ Speaks (talk_of d coming') d.phase (talk_of c coming)

-- one station, and what is on its way to it
pub record IsSoundStation (s other : Station) : Type 0 where
  pub registers : (r : Register) → StationLeaves s r → IsSound r
  pub room : 128 ≤ s.book.station.buffer
  pub session : IfAny s.session (IsInSession s.start)
  pub coming : MayComeTo s.session s.coming other

-- the invariant, of the files with such identities in each direction
pub record WorldStands (There Back : Identity → Type 0) (w : World) : Type 0 where
  pub one : IsSoundStation w.one w.other
  pub other : IsSoundStation w.other w.one
  pub to_other : (r r' : Register) → StationLeaves w.one r → StationLeaves w.other r' → AllFit There r r'
  pub to_one : (r r' : Register) → StationLeaves w.one r → StationLeaves w.other r' → AllFit Back r' r
  pub meet : Meet w.one.session w.one.coming w.other.session w.other.coming
