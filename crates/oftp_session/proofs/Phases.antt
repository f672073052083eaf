-- Facts of single phases.
use Rattle.std.proofs.Common.{◌≡◌, ℕ, ◌+◌, ◌-◌, ◌*◌, ◌<◌, nat_lt, Bool, true, false, cond, List, Option, None, Some, refl, ap, sym, ◌∙◌, arith, slice_get}
use Rattle.std.proofs.lemmas.Bool.{false≢true, ltb-true}
use Rattle.oftp_register.specs.declared.entries.Item.{Item}
use Rattle.oftp_register.specs.declared.entries.Item.TheVariants as item
use Rattle.oftp_register.specs.Register.{Register, Outgoing}
use Rattle.oftp_register.specs.LookUps.{entry_at, next_item}
use Rattle.oftp_register.specs.Soundness.{IsSound}
use Rattle.oftp_partners.specs.declared.partner.Partner.{Partner}
use Rattle.oftp_session.specs.declared.link.WhenDone.{WhenDone}
use Rattle.oftp_session.specs.declared.link.WhenDone.TheVariants.{ChangeDirection, EndSession}
use Rattle.oftp_session.specs.declared.state.Contact.{Contact}
use Rattle.oftp_session.specs.Settings.{Setting}
use Rattle.oftp_session.specs.Phases.{Phase, Transfer, ResponderOpening, InitiatorOpening, AwaitingSsid, ListenerIdle, Receiving, SpeakerIdle, GivingWay, AwaitingRtr, AwaitingStart, Sending, AwaitingEnd, EndedHere, EndedThere, Step, is_over, quiet}
use Rattle.oftp_session.specs.Receiving.{window}
use Rattle.oftp_session.specs.Speaker.{nothing_next, offers, on_item, speaks}
use Rattle.oftp_session.specs.Sending.{credit_left, payloads_in, sends_next, turned_sending}
use Rattle.oftp_session.specs.Standings.{Standing, StandsIn, is_closed}
use Rattle.oftp_session.specs.Steps.{has_turn, opening, turned, turns_due, Suits}

-- no turn is due after the next item
nothing_due : (contact : Contact) (done : WhenDone) → turns_due (nothing_next contact done).phase ≡ 0
nothing_due contact ChangeDirection = refl
nothing_due contact EndSession = refl

item_due : (setting : Setting) (contact : Contact) (done : WhenDone) (r : Register) (i : Option Item) → turns_due (on_item setting contact done r i).phase ≡ 0
item_due setting contact done r (Some (item.Response e)) = refl
item_due setting contact done r (Some (item.File e)) = by (entry_at e.no r.outgoing)
  where
    by : (file : Option Outgoing) → turns_due (offers contact done e.no file).phase ≡ 0
    by (Some file) = refl
    by None = nothing_due contact done
item_due setting contact done r None = nothing_due contact done

speaks_due : (setting : Setting) (contact : Contact) (done : WhenDone) (r : Register) → turns_due (speaks setting contact done r).phase ≡ 0
unfolding speaks
speaks_due setting contact done r = item_due setting contact done r (next_item r contact.code contact.tried contact.link.sends)

-- each payload uses credit
one_less : (all sent : ℕ) → 0 < all - sent → all - (sent + 1) < all - sent
one_less all sent h = omega (arith, h)

next_falls : (contact : Contact) (t : Transfer) (payload : Option (List ℕ)) → 0 < credit_left contact t → turns_due (sends_next contact t payload).phase < credit_left contact t
next_falls contact t (Some payload) h = one_less ((t.credits + 1) * window contact) t.sent h
next_falls contact t None h = h

sending_falls : (contact : Contact) (t : Transfer) → nat_lt 0 (credit_left contact t) ≡ true → turns_due (turned_sending contact t).phase < credit_left contact t
unfolding turned_sending
sending_falls contact t h = by (nat_lt 0 (credit_left contact t)) refl
  where
    by : (b : Bool) → nat_lt 0 (credit_left contact t) ≡ b
        → turns_due (let s : Step = cond b (sends_next contact t (slice_get (payloads_in contact t) t.sent)) (quiet (Sending contact t)) in s).phase < credit_left contact t
    by true e = next_falls contact t (slice_get (payloads_in contact t) t.sent) (ltb-true 0 (credit_left contact t) h)
    by false e = absurd (false≢true (sym e ∙ h))

-- fewer turns are due after one
pub turn_falls : (setting : Setting) (p : Phase) (r : Register) → has_turn p ≡ true → turns_due (turned setting p r).phase < turns_due p
unfolding turned
turn_falls setting ResponderOpening r h = omega arith
turn_falls setting InitiatorOpening r h = absurd (false≢true h)
turn_falls setting AwaitingSsid r h = absurd (false≢true h)
turn_falls setting (ListenerIdle contact) r h = absurd (false≢true h)
turn_falls setting (Receiving contact f) r h = absurd (false≢true h)
turn_falls setting (SpeakerIdle contact done) r h = omega (arith, speaks_due setting contact done r)
turn_falls setting (GivingWay contact) r h = omega arith
turn_falls setting (AwaitingRtr contact number) r h = absurd (false≢true h)
turn_falls setting (AwaitingStart contact offer) r h = absurd (false≢true h)
turn_falls setting (Sending contact t) r h = sending_falls contact t h
turn_falls setting (AwaitingEnd contact t) r h = absurd (false≢true h)
turn_falls setting (EndedHere reason) r h = absurd (false≢true h)
turn_falls setting (EndedThere reason) r h = absurd (false≢true h)

-- a session that ended has no turn
pub over_no_turn : (p : Phase) → is_over p ≡ true → has_turn p ≡ false
over_no_turn ResponderOpening h = absurd (false≢true h)
over_no_turn InitiatorOpening h = refl
over_no_turn AwaitingSsid h = refl
over_no_turn (ListenerIdle contact) h = refl
over_no_turn (Receiving contact f) h = refl
over_no_turn (SpeakerIdle contact done) h = absurd (false≢true h)
over_no_turn (GivingWay contact) h = absurd (false≢true h)
over_no_turn (AwaitingRtr contact number) h = refl
over_no_turn (AwaitingStart contact offer) h = refl
over_no_turn (Sending contact t) h = absurd (false≢true h)
over_no_turn (AwaitingEnd contact t) h = refl
over_no_turn (EndedHere reason) h = refl
over_no_turn (EndedThere reason) h = refl

-- a session with a turn hasn't ended
pub turn_live : (p : Phase) → has_turn p ≡ true → is_over p ≡ false
turn_live ResponderOpening h = refl
turn_live InitiatorOpening h = refl
turn_live AwaitingSsid h = refl
turn_live (ListenerIdle contact) h = refl
turn_live (Receiving contact f) h = refl
turn_live (SpeakerIdle contact done) h = refl
turn_live (GivingWay contact) h = refl
turn_live (AwaitingRtr contact number) h = refl
turn_live (AwaitingStart contact offer) h = refl
turn_live (Sending contact t) h = refl
turn_live (AwaitingEnd contact t) h = refl
turn_live (EndedHere reason) h = absurd (false≢true h)
turn_live (EndedThere reason) h = absurd (false≢true h)

-- a session is open where its phase isn't over
pub stands_open : (p : Phase) (s : Standing) → StandsIn p s → is_over p ≡ false → is_closed s ≡ false
stands_open ResponderOpening s h live = ap is_closed h
stands_open InitiatorOpening s h live = ap is_closed h
stands_open AwaitingSsid s h live = ap is_closed h
stands_open (ListenerIdle contact) s h live = ap is_closed h
stands_open (Receiving contact f) s h live = ap is_closed h.1
stands_open (SpeakerIdle contact done) s h live = ap is_closed h
stands_open (GivingWay contact) s h live = ap is_closed h
stands_open (AwaitingRtr contact number) s h live = ap is_closed h
stands_open (AwaitingStart contact offer) s h live = ap is_closed h
stands_open (Sending contact t) s h live = ap is_closed h.1
stands_open (AwaitingEnd contact t) s h live = ap is_closed h
stands_open (EndedHere reason) s h live = ap is_closed h ∙ live
stands_open (EndedThere reason) s h live = ap is_closed h ∙ live

-- each sound register suits the phase in which a session begins
pub opening_suits : (r : Register) (called : Option Partner) → IsSound r → Suits (opening called) r
opening_suits r None sound = record { sound = sound; holds = tt }
opening_suits r (Some partner) sound = record { sound = sound; holds = tt }
