-- What the session does at an answer of the partner, as a step.
use Rattle.std.proofs.Common.{◌≡◌, ℕ, ◌==◌, ◌&&◌, ◌≤◌, Bool, true, false, cond, List, [], Option, None, Some, Result, Ok, refl, sym, ap, ◌∙◌, subst}
use Rattle.std.proofs.lemmas.Bool.{le-leb}
use Rattle.oftp_wire.specs.declared.command.Command.TheVariants as command
use Rattle.oftp_wire.specs.declared.command.Efpa.{Efpa}
use Rattle.oftp_wire.specs.declared.command.Efna.{Efna}
use Rattle.oftp_wire.specs.declared.command.Sfna.{Sfna}
use Rattle.oftp_wire.specs.declared.reason.StartReason.TheVariants.{DuplicateFile}
use Rattle.oftp_wire.specs.Reasons.{start_number}
use Rattle.oftp_register.specs.declared.change.Change.{Change}
use Rattle.oftp_register.specs.declared.change.Change.TheVariants.{HandOver, Refuse, Reopen, Send}
use Rattle.oftp_register.specs.Changes.{is_closing}
use Rattle.oftp_register.specs.Soundness.{IsFit}
use Rattle.oftp_register.specs.Offices.{View}
use Rattle.oftp_session.specs.declared.link.WhenDone.TheVariants.{ChangeDirection}
use Rattle.oftp_session.specs.declared.sending.OutgoingOffer.{OutgoingOffer}
use Rattle.oftp_session.specs.declared.sending.OutgoingTransfer.{OutgoingTransfer}
use Rattle.oftp_session.specs.declared.session.SessionFault.{SessionFault}
use Rattle.oftp_session.specs.declared.state.Contact.{Contact}
use Rattle.oftp_session.specs.declared.state.State.{State}
use Rattle.oftp_session.specs.declared.state.State.TheVariants as state
use Rattle.oftp_wire.specs.declared.reason.SessionReason.TheVariants.{ProtocolViolation}
use Rattle.oftp_session.specs.Phases.{Phase, Offer, Sending, SpeakerIdle, Step, Transfer, changes, fails}
use Rattle.oftp_session.specs.Sending.{after_file, came_awaiting_end, refusal, reopening, start_step, transfer_of}
use Rattle.oftp_session.specs.Speaker.{came_awaiting_rtr}
use Rattle.oftp_session.specs.Steps.{IsEnded, IsOffered, IsResponding}
use Rattle.oftp_session.specs.Standings.{Standing, At, Ships, StandsIn, offered_as, standing_of}
use Rattle.oftp_session.specs.Calls.{DoesNot, IsMade}
use Rattle.oftp_session.specs.Inside.{IsAccepted, MakesChange, Takes}
use Rattle.oftp_session.proofs.Outgoing.{handed_accepted, handed_fits, offered_handed, offered_reopened, refused_accepted, refused_fits, reopened_accepted, reopened_fits, send_accepted, send_fits}

-- a change is made, and nothing is sent
changed : (change : Option Change) (phase : Phase) (old new : View) (frame : List ℕ) (to : State) → frame ≡ [] → IsMade change None old new [] → StandsIn phase (standing_of to)
    → Takes (changes phase change) old new frame (Ok to)
changed change phase old new frame to none made stands = (record { said = none; register = made.register; stands = made.stands; faults = made.faults }, stands)

-- RTR

pub rtr_ok : (contact : Contact) (number : ℕ) (old new : View) (frame : List ℕ) → IsResponding old.register number → frame ≡ []
    → (IsFit old.register (Send number) → IsAccepted old.register (Send number) → IsMade (Some (Send number)) None old new [])
    → Takes (came_awaiting_rtr contact number command.Rtr) old new frame (Ok (state.SpeakerIdle contact ChangeDirection))
unfolding came_awaiting_rtr
rtr_ok contact number old new frame holds none does =
    changed (Some (Send number)) (SpeakerIdle contact ChangeDirection) old new frame (state.SpeakerIdle contact ChangeDirection) none
    (does (send_fits old.register number) (send_accepted old.register number holds)) refl

pub rtr_err : (contact : Contact) (number : ℕ) (old new : View) (told : SessionFault) → IsResponding old.register number
    → (IsFit old.register (Send number) → IsAccepted old.register (Send number) → DoesNot (Some (Send number)) old new told)
    → DoesNot (came_awaiting_rtr contact number command.Rtr).change old new told
unfolding came_awaiting_rtr
rtr_err contact number old new told holds does = does (send_fits old.register number) (send_accepted old.register number holds)

-- EFPA and EFNA: the number is that of the file whose end was sent

handed : (n : ℕ) (old : View) (t : Transfer) → IsEnded old.register t → t.number ≡ n → IsFit old.register (HandOver n) × IsAccepted old.register (HandOver n)
handed n old t holds is = (handed_fits old.register n, subst (λ m. IsAccepted old.register (HandOver m)) is (handed_accepted old.register t holds))

reopened : (n : ℕ) (old : View) (t : Transfer) → IsEnded old.register t → t.number ≡ n → IsFit old.register (Reopen n) × IsAccepted old.register (Reopen n)
reopened n old t holds is = (reopened_fits old.register n, subst (λ m. IsAccepted old.register (Reopen m)) is (reopened_accepted old.register t holds))

stands_after : (contact : Contact) (speaks : Bool) (s : Standing) → s ≡ At (after_file contact speaks) → StandsIn (after_file contact speaks) s
stands_after contact true s h = h
stands_after contact false s h = h

pub efpa_ok : (contact : Contact) (n : ℕ) (t : Transfer) (efpa : Efpa) (old new : View) (frame : List ℕ) (to : State) → IsEnded old.register t → t.number ≡ n → frame ≡ []
    → (IsFit old.register (HandOver n) → IsAccepted old.register (HandOver n) → IsMade (Some (HandOver n)) None old new [])
    → standing_of to ≡ At (after_file contact efpa.change_direction) → Takes (came_awaiting_end contact t (command.Efpa efpa)) old new frame (Ok to)
unfolding came_awaiting_end
efpa_ok contact n t efpa old new frame to holds is none does stands =
    let may = handed n old t holds is in
    changed (Some (HandOver t.number)) (after_file contact efpa.change_direction) old new frame to none
    (subst (λ m. IsMade (Some (HandOver m)) None old new []) (sym is) (does may.0 may.1)) (stands_after contact efpa.change_direction (standing_of to) stands)

pub efpa_err : (contact : Contact) (n : ℕ) (t : Transfer) (efpa : Efpa) (old new : View) (told : SessionFault) → IsEnded old.register t → t.number ≡ n
    → (IsFit old.register (HandOver n) → IsAccepted old.register (HandOver n) → DoesNot (Some (HandOver n)) old new told)
    → DoesNot (came_awaiting_end contact t (command.Efpa efpa)).change old new told
unfolding came_awaiting_end
efpa_err contact n t efpa old new told holds is does =
    let may = handed n old t holds is in
    subst (λ m. DoesNot (Some (HandOver m)) old new told) (sym is) (does may.0 may.1)

pub efna_ok : (contact : Contact) (n : ℕ) (t : Transfer) (efna : Efna) (old new : View) (frame : List ℕ) → IsEnded old.register t → t.number ≡ n → frame ≡ []
    → (IsFit old.register (Reopen n) → IsAccepted old.register (Reopen n) → IsMade (Some (Reopen n)) None old new [])
    → Takes (came_awaiting_end contact t (command.Efna efna)) old new frame (Ok (state.SpeakerIdle contact ChangeDirection))
unfolding came_awaiting_end
efna_ok contact n t efna old new frame holds is none does =
    let may = reopened n old t holds is in
    changed (Some (Reopen t.number)) (SpeakerIdle contact ChangeDirection) old new frame (state.SpeakerIdle contact ChangeDirection) none
    (subst (λ m. IsMade (Some (Reopen m)) None old new []) (sym is) (does may.0 may.1)) refl

pub efna_err : (contact : Contact) (n : ℕ) (t : Transfer) (efna : Efna) (old new : View) (told : SessionFault) → IsEnded old.register t → t.number ≡ n
    → (IsFit old.register (Reopen n) → IsAccepted old.register (Reopen n) → DoesNot (Some (Reopen n)) old new told)
    → DoesNot (came_awaiting_end contact t (command.Efna efna)).change old new told
unfolding came_awaiting_end
efna_err contact n t efna old new told holds is does =
    let may = reopened n old t holds is in
    subst (λ m. DoesNot (Some (Reopen m)) old new told) (sym is) (does may.0 may.1)

-- SFPA of a file whose end was sent: it is sent again

files_same : {T : Type 0} (change other : Option Change) (old new : View) (result : Result T SessionFault) → change ≡ other → MakesChange change old new result → MakesChange other old new result
files_same change other old new result e h = subst (λ (x : Option Change). MakesChange x old new result) e h

pub reopens : {T : Type 0} (s : OutgoingOffer) (offer : Offer) (old new : View) (result : Result T SessionFault) → IsOffered old.register offer → s ≡ offered_as offer → s.is_closing ≡ true
    → (IsFit old.register (Reopen s.number) → IsAccepted old.register (Reopen s.number) → MakesChange (Some (Reopen s.number)) old new result) → MakesChange (reopening offer) old new result
reopens s offer old new result holds is closes does =
    let number : s.number ≡ offer.number = ap (λ (x : OutgoingOffer). x.number) is in
    let closing : is_closing offer.file.state ≡ true = sym (ap (λ (x : OutgoingOffer). x.is_closing) is) ∙ closes in
    let accepted = subst (λ m. IsAccepted old.register (Reopen m)) (sym number) (offered_reopened old.register offer holds closing) in
    let change : Some (Reopen s.number) ≡ reopening offer =
    ap (λ m. Some (Reopen m)) number ∙ sym (ap (λ b. cond b (Some (Reopen offer.number)) None) closing) in
    files_same _ _ old new result change (does (reopened_fits old.register s.number) accepted)

start_is : (contact : Contact) (offer : Offer) (from : ℕ) → from ≤ offer.from → start_step contact offer from ≡ changes (Sending contact (transfer_of offer from)) (reopening offer)
start_is contact offer from within =
    ap (λ b. cond b (changes (Sending contact (transfer_of offer from)) (reopening offer)) (fails ProtocolViolation)) (le-leb from offer.from within)

pub start_ok : (contact : Contact) (offer : Offer) (from : ℕ) (s : OutgoingTransfer) (old new : View) (frame : List ℕ) → from ≤ offer.from → frame ≡ []
    → IsMade (reopening offer) None old new [] → Ships contact (transfer_of offer from) s → Takes (start_step contact offer from) old new frame (Ok (state.Sending contact s))
start_ok contact offer from s old new frame within none made ships =
    subst (λ (x : Step). Takes x old new frame (Ok (state.Sending contact s))) (sym (start_is contact offer from within))
    (changed (reopening offer) (Sending contact (transfer_of offer from)) old new frame (state.Sending contact s) none made (s, refl, ships))

-- SFNA

pub duplicate_given : {T : Type 0} (s : OutgoingOffer) (offer : Offer) (sfna : Sfna) (old new : View) (result : Result T SessionFault) → IsOffered old.register offer → s ≡ offered_as offer
    → (sfna.reason == start_number DuplicateFile) ≡ true → s.is_closing ≡ true
    → (IsFit old.register (HandOver s.number) → IsAccepted old.register (HandOver s.number) → MakesChange (Some (HandOver s.number)) old new result)
    → MakesChange (refusal offer sfna) old new result
duplicate_given s offer sfna old new result holds is reason closes does =
    let number : s.number ≡ offer.number = ap (λ (x : OutgoingOffer). x.number) is in
    let closing : is_closing offer.file.state ≡ true = sym (ap (λ (x : OutgoingOffer). x.is_closing) is) ∙ closes in
    let accepted = subst (λ m. IsAccepted old.register (HandOver m)) (sym number) (offered_handed old.register offer holds closing) in
    let both : (sfna.reason == start_number DuplicateFile && is_closing offer.file.state) ≡ true =
    ap (λ b. b && is_closing offer.file.state) reason ∙ closing in
    let change : Some (HandOver s.number) ≡ refusal offer sfna =
    ap (λ m. Some (HandOver m)) number
    ∙ sym (ap (λ b. cond b (Some (HandOver offer.number)) (cond sfna.retry None (Some (Refuse offer.number sfna.reason)))) both) in
    files_same _ _ old new result change (does (handed_fits old.register s.number) accepted)

pub given_up : {T : Type 0} (s : OutgoingOffer) (offer : Offer) (sfna : Sfna) (old new : View) (result : Result T SessionFault) → IsOffered old.register offer → s ≡ offered_as offer
    → (sfna.reason == start_number DuplicateFile && s.is_closing) ≡ false → sfna.retry ≡ false
    → (IsFit old.register (Refuse s.number sfna.reason) → IsAccepted old.register (Refuse s.number sfna.reason) → MakesChange (Some (Refuse s.number sfna.reason)) old new result)
    → MakesChange (refusal offer sfna) old new result
given_up s offer sfna old new result holds is other final does =
    let number : s.number ≡ offer.number = ap (λ (x : OutgoingOffer). x.number) is in
    let closing : s.is_closing ≡ is_closing offer.file.state = ap (λ (x : OutgoingOffer). x.is_closing) is in
    let accepted = subst (λ m. IsAccepted old.register (Refuse m sfna.reason)) (sym number) (refused_accepted old.register offer sfna.reason holds) in
    let neither : (sfna.reason == start_number DuplicateFile && is_closing offer.file.state) ≡ false =
    ap (λ b. sfna.reason == start_number DuplicateFile && b) (sym closing) ∙ other in
    let change : Some (Refuse s.number sfna.reason) ≡ refusal offer sfna =
    ap (λ m. Some (Refuse m sfna.reason)) number
    ∙ sym (ap (λ b. cond b None (Some (Refuse offer.number sfna.reason))) final)
    ∙ sym (ap (λ b. cond b (Some (HandOver offer.number)) (cond sfna.retry None (Some (Refuse offer.number sfna.reason)))) neither) in
    files_same _ _ old new result change (does (refused_fits old.register s.number sfna.reason) accepted)
