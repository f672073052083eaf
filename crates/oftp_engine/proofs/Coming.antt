-- What is on its way stays true, under a change of the station that sent it, and if the session ends after it.
use Rattle.std.proofs.Common.{◌≡◌, ℕ, List, [], ◌∷◌, ◌++◌, drop, Option, None, Some, refl, ap, sym, ◌∙◌, subst}
use Rattle.oftp_wire.specs.declared.command.Command.{Command}
use Rattle.oftp_wire.specs.declared.command.Command.TheVariants as command
use Rattle.oftp_wire.specs.declared.command.Esid.{Esid}
use Rattle.oftp_wire.specs.declared.command.Sfid.{Sfid}
use Rattle.oftp_vfile.specs.Fill.{payloads_of}
use Rattle.oftp_register.specs.declared.entry.Identity.{Identity}
use Rattle.oftp_register.specs.declared.entry.IncomingState.TheVariants.{Whole}
use Rattle.oftp_register.specs.Register.{Register, Incoming, Outgoing, Received}
use Rattle.oftp_session.specs.Phases.{Phase, ResponderOpening, InitiatorOpening, AwaitingSsid, ListenerIdle, Receiving, SpeakerIdle, GivingWay, AwaitingRtr, AwaitingStart, Sending, AwaitingEnd, EndedHere, EndedThere}
use Rattle.oftp_session.specs.Listener.{end_response, negative_end_response}
use Rattle.oftp_register.specs.ByIdentity.{out_at, in_at}
use Rattle.oftp_engine.specs.TwoStations.{Has, IsAnsweredBy}
use Rattle.oftp_engine.proofs.Standing.{IsQuiet, IsOfferOf, IsIssuedBy, ComesFrom, IsBeginning, IsWholeAt, MayTake, MayHear, MayAnswerStart, MayCredit, MayAnswerEnd, MayAnswerResponse, MayOpen, MayCome}
use Rattle.oftp_engine.proofs.Fitting.{IsSameContent}
use Rattle.oftp_engine.proofs.Later.{IsLater, IsLaterFile, Stays}

-- the file is still found, with its content
pub record IsFoundStill (o : Option Outgoing) (f : Outgoing) : Type 0 where
  pub file : Outgoing
  pub found : o ≡ Some file
  pub same : IsSameContent f file

found_still : (o now : Option Outgoing) (f : Outgoing) → Stays IsSameContent o now → o ≡ Some f → IsFoundStill now f
found_still None now f h e = absurd (cc)
found_still (Some g) None f h e = absurd h
found_still (Some g) (Some k) f h e = let is : g ≡ f = cc in record { file = k; found = refl; same = subst (λ x. IsSameContent x k) is h }

later_out : (r s : Register) (i : Identity) (f : Outgoing) → IsLater r s → out_at r i ≡ Some f → IsFoundStill (out_at s i) f
later_out r s i f later e = found_still (out_at r i) (out_at s i) f (later.outgoing i) e

has_later : (P : Incoming → Type 0) (o now : Option Incoming) → ((e e' : Incoming) → IsLaterFile e e' → P e → P e') → Stays IsLaterFile o now → Has o P → Has now P
has_later P None now k s h = absurd h
has_later P (Some e) None k s h = absurd s
has_later P (Some e) (Some e') k s h = k e e' s h

whole_later : (r s : Register) (i : Identity) → IsLater r s → IsWholeAt r i → IsWholeAt s i
whole_later r s i later h = has_later (λ e. e.state ≡ Whole) (in_at r i) (in_at s i) (λ e e' l w. l.whole w) (later.incoming i) h

issued_later : (r s : Register) (response : Received) → IsLater r s → IsIssuedBy r response → IsIssuedBy s response
issued_later r s response later h = has_later (IsAnsweredBy response.kind) (in_at r response.identity) (in_at s response.identity) (λ e e' l a. l.answered response.kind a)
    (later.incoming response.identity) h

offer_later : (r s : Register) (sfid : Sfid) → IsLater r s → IsOfferOf r sfid → IsOfferOf s sfid
offer_later r s sfid later o =
    let f = later_out r s _ o.file later o.found in
    record { file = f.file; found = f.found; format = o.format ∙ sym f.same.format; longest = o.longest ∙ sym f.same.longest }

comes_later : (r s : Register) (i : Identity) (from : ℕ) (payloads next : List (List ℕ)) → IsLater r s → ComesFrom r i from payloads next → ComesFrom s i from payloads next
comes_later r s i from payloads next later b =
    let f = later_out r s i b.file later b.found in
    record {
      file = f.file;
      found = f.found;
      size = b.size;
      room = b.room;
      split = b.split ∙ ap (λ a. payloads_of a b.size (drop from b.file.rows)) (sym f.same.format) ∙ ap (λ rows. payloads_of f.file.format b.size (drop from rows)) (sym f.same.rows);
    }

begins_later : (r s : Register) (i : Identity) (from : ℕ) (payloads : List (List ℕ)) → IsLater r s → IsBeginning r i from payloads → IsBeginning s i from payloads
begins_later r s i from payloads later b = (b.0, comes_later r s i from payloads b.0 later b.1)

take_later : (r s : Register) (i : Identity) (from : ℕ) (payloads : List (List ℕ)) (coming : List Command) → IsLater r s → MayTake r i from payloads coming → MayTake s i from payloads coming
take_later r s i from payloads [] later h = begins_later r s i from payloads later h
take_later r s i from payloads (command.Data payload ∷ coming) later h = take_later r s i from (payloads ++ payload ∷ []) coming later h
take_later r s i from payloads (command.Efid efid ∷ coming) later h = (comes_later r s i from payloads [] later h.0, h.1)
take_later r s i from payloads (_ ∷ coming) later h = begins_later r s i from payloads later h

hear_later : (r s : Register) (coming : List Command) → IsLater r s → MayHear r coming → MayHear s coming
hear_later r s [] later h = tt
hear_later r s (command.Sfid sfid ∷ coming) later h = (offer_later r s sfid later h.0, h.1)
hear_later r s (command.Eerp eerp ∷ coming) later h = (issued_later r s (end_response eerp) later h.0, h.1)
hear_later r s (command.Nerp nerp ∷ coming) later h = (issued_later r s (negative_end_response nerp) later h.0, h.1)
hear_later r s (command.Cd ∷ coming) later h = h
hear_later r s (_ ∷ coming) later h = tt

start_later : (r s : Register) (file : Outgoing) (coming : List Command) → IsLater r s → MayAnswerStart r file coming → MayAnswerStart s file coming
start_later r s file [] later h = tt
start_later r s file (command.Sfpa sfpa ∷ coming) later h = h
start_later r s file (command.Sfna sfna ∷ coming) later h = (λ e. whole_later r s file.identity later (h.0 e), h.1)
start_later r s file (_ ∷ coming) later h = tt

end_later : (r s : Register) (file : Outgoing) (coming : List Command) → IsLater r s → MayAnswerEnd r file coming → MayAnswerEnd s file coming
end_later r s file [] later h = tt
end_later r s file (command.Efpa efpa ∷ coming) later h = (whole_later r s file.identity later h.0, h.1)
end_later r s file (command.Efna efna ∷ coming) later h = h
end_later r s file (_ ∷ coming) later h = tt

-- under a change of the other station
pub may_come_later : (r s : Register) (p : Phase) (coming : List Command) → IsLater r s → MayCome r p coming → MayCome s p coming
may_come_later r s ResponderOpening coming later h = h
may_come_later r s InitiatorOpening coming later h = h
may_come_later r s AwaitingSsid coming later h = h
may_come_later r s (ListenerIdle contact) coming later h = hear_later r s coming later h
may_come_later r s (Receiving contact f) coming later h = take_later r s f.file.identity f.from f.payloads coming later h
may_come_later r s (SpeakerIdle contact done) coming later h = h
may_come_later r s (GivingWay contact) coming later h = h
may_come_later r s (AwaitingRtr contact number) coming later h = h
may_come_later r s (AwaitingStart contact offer) coming later h = start_later r s offer.file coming later h
may_come_later r s (Sending contact t) coming later h = h
may_come_later r s (AwaitingEnd contact t) coming later h = end_later r s t.file coming later h
may_come_later r s (EndedHere reason) coming later h = h
may_come_later r s (EndedThere reason) coming later h = h

-- the session ends after what is on its way

quiet_end : (coming : List Command) (e : Esid) → IsQuiet coming → IsQuiet (coming ++ command.Esid e ∷ [])
quiet_end [] e h = tt
quiet_end (command.Esid x ∷ coming) e h = tt
quiet_end (_ ∷ coming) e h = absurd h

open_end : (coming : List Command) (e : Esid) → MayOpen coming → MayOpen (coming ++ command.Esid e ∷ [])
open_end [] e h = tt
open_end (command.Ssrm ∷ coming) e h = quiet_end coming e h
open_end (command.Ssid x ∷ coming) e h = quiet_end coming e h
open_end (_ ∷ coming) e h = tt

take_end : (r : Register) (i : Identity) (from : ℕ) (payloads : List (List ℕ)) (coming : List Command) (e : Esid) → MayTake r i from payloads coming
    → MayTake r i from payloads (coming ++ command.Esid e ∷ [])
take_end r i from payloads [] e h = h
take_end r i from payloads (command.Data payload ∷ coming) e h = take_end r i from (payloads ++ payload ∷ []) coming e h
take_end r i from payloads (command.Efid efid ∷ coming) e h = (h.0, quiet_end coming e h.1)
take_end r i from payloads (_ ∷ coming) e h = h

hear_end : (r : Register) (coming : List Command) (e : Esid) → MayHear r coming → MayHear r (coming ++ command.Esid e ∷ [])
hear_end r [] e h = tt
hear_end r (command.Sfid sfid ∷ coming) e h = (h.0, quiet_end coming e h.1)
hear_end r (command.Eerp eerp ∷ coming) e h = (h.0, quiet_end coming e h.1)
hear_end r (command.Nerp nerp ∷ coming) e h = (h.0, quiet_end coming e h.1)
hear_end r (command.Cd ∷ coming) e h = quiet_end coming e h
hear_end r (_ ∷ coming) e h = tt

start_end : (r : Register) (file : Outgoing) (coming : List Command) (e : Esid) → MayAnswerStart r file coming → MayAnswerStart r file (coming ++ command.Esid e ∷ [])
start_end r file [] e h = tt
start_end r file (command.Sfpa sfpa ∷ coming) e h = quiet_end coming e h
start_end r file (command.Sfna sfna ∷ coming) e h = (h.0, quiet_end coming e h.1)
start_end r file (_ ∷ coming) e h = tt

credit_end : (coming : List Command) (e : Esid) → MayCredit coming → MayCredit (coming ++ command.Esid e ∷ [])
credit_end [] e h = tt
credit_end (command.Cdt ∷ coming) e h = credit_end coming e h
credit_end (command.Esid x ∷ coming) e h = tt
credit_end (_ ∷ coming) e h = absurd h

end_end : (r : Register) (file : Outgoing) (coming : List Command) (e : Esid) → MayAnswerEnd r file coming → MayAnswerEnd r file (coming ++ command.Esid e ∷ [])
end_end r file [] e h = tt
end_end r file (command.Efpa efpa ∷ coming) e h = (h.0, quiet_end coming e h.1)
end_end r file (command.Efna efna ∷ coming) e h = quiet_end coming e h
end_end r file (_ ∷ coming) e h = tt

response_end : (coming : List Command) (e : Esid) → MayAnswerResponse coming → MayAnswerResponse (coming ++ command.Esid e ∷ [])
response_end [] e h = tt
response_end (command.Rtr ∷ coming) e h = quiet_end coming e h
response_end (_ ∷ coming) e h = tt

pub may_come_end : (r : Register) (p : Phase) (coming : List Command) (e : Esid) → MayCome r p coming → MayCome r p (coming ++ command.Esid e ∷ [])
may_come_end r ResponderOpening coming e h = open_end coming e h
may_come_end r InitiatorOpening coming e h = open_end coming e h
may_come_end r AwaitingSsid coming e h = open_end coming e h
may_come_end r (ListenerIdle contact) coming e h = hear_end r coming e h
may_come_end r (Receiving contact f) coming e h = take_end r f.file.identity f.from f.payloads coming e h
may_come_end r (SpeakerIdle contact done) coming e h = quiet_end coming e h
may_come_end r (GivingWay contact) coming e h = quiet_end coming e h
may_come_end r (AwaitingRtr contact number) coming e h = response_end coming e h
may_come_end r (AwaitingStart contact offer) coming e h = start_end r offer.file coming e h
may_come_end r (Sending contact t) coming e h = credit_end coming e h
may_come_end r (AwaitingEnd contact t) coming e h = end_end r t.file coming e h
may_come_end r (EndedHere reason) coming e h = tt
may_come_end r (EndedThere reason) coming e h = tt
