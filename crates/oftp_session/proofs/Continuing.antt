-- Each step of a speaker can be made from a register that suits its phase.
use Rattle.std.proofs.Common.{◌≡◌, ℕ, nat_le, nat_lt, Bool, true, false, cond, List, Option, None, Some, refl, sym, subst, slice_get}
use Rattle.std.proofs.lemmas.Bool.{leb-true}
use Rattle.oftp_wire.specs.declared.command.Command.{Command}
use Rattle.oftp_wire.specs.declared.command.Command.TheVariants as command
use Rattle.oftp_wire.specs.declared.reason.SessionReason.TheVariants.{ProtocolViolation}
use Rattle.oftp_register.specs.declared.change.Change.TheVariants.{Send, BeginClosing, HandOver, Reopen}
use Rattle.oftp_register.specs.declared.entries.Item.{Item}
use Rattle.oftp_register.specs.declared.entries.Item.TheVariants as item
use Rattle.oftp_register.specs.Register.{Register, Outgoing}
use Rattle.oftp_register.specs.LookUps.{next_item}
use Rattle.oftp_register.specs.Soundness.{IsSound}
use Rattle.oftp_session.specs.declared.link.WhenDone.{WhenDone}
use Rattle.oftp_session.specs.declared.link.WhenDone.TheVariants.{ChangeDirection, EndSession}
use Rattle.oftp_session.specs.declared.state.Contact.{Contact}
use Rattle.oftp_session.specs.Settings.{Setting}
use Rattle.oftp_session.specs.Phases.{Offer, Transfer, SpeakerIdle, Sending, AwaitingEnd, changes, fails, quiet}
use Rattle.oftp_session.specs.Speaker.{came_awaiting_rtr, nothing_next, offers, on_item, speaks}
use Rattle.oftp_session.specs.Sending.{after_file, came_awaiting_end, came_awaiting_start, came_sending, closing_transfer, credit_left, credited, credited_transfer, efid_of, marking, new_mark, payloads_in, refusal, reopening, sends_next, start_step, transfer_of, turned_sending}
use Rattle.oftp_session.specs.Steps.{IsEnded, IsOffered, IsResponding, IsSent}
use Rattle.oftp_session.specs.Calls.{Proceeds}
use Rattle.oftp_session.proofs.Accepting.{accepted_proceeds, changes_proceeds, same_proceeds, unexpected_proceeds}
use Rattle.oftp_session.proofs.Items.{item_goes, item_responds}
use Rattle.oftp_session.proofs.Outgoing.{closing_accepted, closing_after, closing_fits, handed_accepted, handed_after, handed_fits, mark_after, mark_within, marking_goes, refusal_goes, reopened_accepted, reopened_after, reopened_fits, reopening_goes, send_accepted, send_fits}

-- what is next

nothing_proceeds : (contact : Contact) (done : WhenDone) (r : Register) → IsSound r → Proceeds r (nothing_next contact done)
nothing_proceeds contact ChangeDirection r sound = same_proceeds r _ _ sound tt
nothing_proceeds contact EndSession r sound = same_proceeds r _ _ sound tt

item_proceeds : (setting : Setting) (contact : Contact) (done : WhenDone) (r : Register) (i : Option Item) → IsSound r
    → next_item r contact.code contact.tried contact.link.sends ≡ i → Proceeds r (on_item setting contact done r i)
item_proceeds setting contact done r (Some (item.Response e)) sound h = same_proceeds r _ _ sound (item_responds r contact.code contact.tried contact.link.sends e h)
item_proceeds setting contact done r (Some (item.File e)) sound h =
    let k = item_goes r contact contact.code contact.tried contact.link.sends e sound h in
    subst (λ (o : Option Outgoing). Proceeds r (offers contact done e.no o)) (sym k.2.entry) (same_proceeds r _ _ sound k.2)
item_proceeds setting contact done r None sound h = nothing_proceeds contact done r sound

pub speaks_proceeds : (setting : Setting) (contact : Contact) (done : WhenDone) (r : Register) → IsSound r → Proceeds r (speaks setting contact done r)
unfolding speaks
speaks_proceeds setting contact done r sound = item_proceeds setting contact done r (next_item r contact.code contact.tried contact.link.sends) sound refl

-- RTR
pub rtr_proceeds : (contact : Contact) (number : ℕ) (r : Register) (c : Command) → IsSound r → IsResponding r number → Proceeds r (came_awaiting_rtr contact number c)
unfolding came_awaiting_rtr
rtr_proceeds contact number r command.Rtr sound holds =
    accepted_proceeds r (SpeakerIdle contact ChangeDirection) (Send number) None sound (send_fits r number) (send_accepted r number holds) tt
rtr_proceeds contact number r other sound holds = unexpected_proceeds r other sound

-- the answer to SFID

from_proceeds : (contact : Contact) (offer : Offer) (r : Register) (from : ℕ) → IsSound r → IsOffered r offer → Proceeds r (start_step contact offer from)
from_proceeds contact offer r from sound holds = by (nat_le from offer.from) refl
  where
    by : (b : Bool) → nat_le from offer.from ≡ b → Proceeds r (cond b (changes (Sending contact (transfer_of offer from)) (reopening offer)) (fails ProtocolViolation))
    by true h =
        changes_proceeds r (Sending contact (transfer_of offer from)) (reopening offer) None sound (λ k e. reopening_goes r offer k holds e)
        (reopened_after r offer from holds (leb-true from offer.from h))
    by false h = same_proceeds r _ _ sound tt

pub start_answer_proceeds : (contact : Contact) (offer : Offer) (r : Register) (c : Command) → IsSound r → IsOffered r offer → Proceeds r (came_awaiting_start contact offer c)
unfolding came_awaiting_start
start_answer_proceeds contact offer r (command.Sfpa sfpa) sound holds = from_proceeds contact offer r sfpa.restart sound holds
start_answer_proceeds contact offer r (command.Sfna sfna) sound holds =
    changes_proceeds r (SpeakerIdle contact ChangeDirection) (refusal offer sfna) None sound (λ k e. refusal_goes r offer sfna k holds e) tt
start_answer_proceeds contact offer r other sound holds = unexpected_proceeds r other sound

-- CDT

credit_proceeds : (contact : Contact) (t : Transfer) (r : Register) → IsSound r → IsSent r t → Proceeds r (credited contact t (new_mark contact t))
credit_proceeds contact t r sound holds =
    let mark = new_mark contact t in
    let within = mark_within r contact t sound holds in
    changes_proceeds r (Sending contact (credited_transfer t mark)) (marking t mark) None sound (λ k e. marking_goes r t mark k holds within e) (mark_after r t mark holds within)

pub sending_proceeds : (contact : Contact) (t : Transfer) (r : Register) (c : Command) → IsSound r → IsSent r t → Proceeds r (came_sending contact t c)
unfolding came_sending
sending_proceeds contact t r command.Cdt sound holds = by (nat_lt 0 (credit_left contact t))
  where
    by : (b : Bool) → Proceeds r (cond b (fails ProtocolViolation) (credited contact t (new_mark contact t)))
    by true = same_proceeds r _ _ sound tt
    by false = credit_proceeds contact t r sound holds
sending_proceeds contact t r other sound holds = unexpected_proceeds r other sound

-- DATA and EFID

next_proceeds : (contact : Contact) (t : Transfer) (r : Register) (payload : Option (List ℕ)) → IsSound r → IsSent r t → Proceeds r (sends_next contact t payload)
next_proceeds contact t r (Some payload) sound holds = same_proceeds r _ _ sound (record { entry = holds.entry; waits = holds.waits; within = holds.within })
next_proceeds contact t r None sound holds =
    accepted_proceeds r (AwaitingEnd contact (closing_transfer t)) (BeginClosing t.number) (Some (efid_of t.file)) sound
    (closing_fits r t.number) (closing_accepted r t holds) (closing_after r t holds)

pub sends_proceeds : (contact : Contact) (t : Transfer) (r : Register) → IsSound r → IsSent r t → Proceeds r (turned_sending contact t)
unfolding turned_sending
sends_proceeds contact t r sound holds = by (nat_lt 0 (credit_left contact t))
  where
    by : (b : Bool) → Proceeds r (cond b (sends_next contact t (slice_get (payloads_in contact t) t.sent)) (quiet (Sending contact t)))
    by true = next_proceeds contact t r (slice_get (payloads_in contact t) t.sent) sound holds
    by false = same_proceeds r _ _ sound holds

-- the answer to EFID
pub end_answer_proceeds : (contact : Contact) (t : Transfer) (r : Register) (c : Command) → IsSound r → IsEnded r t → Proceeds r (came_awaiting_end contact t c)
unfolding came_awaiting_end
end_answer_proceeds contact t r (command.Efpa efpa) sound holds =
    accepted_proceeds r (after_file contact efpa.change_direction) (HandOver t.number) None sound (handed_fits r t.number) (handed_accepted r t holds)
    (handed_after contact efpa.change_direction _)
end_answer_proceeds contact t r (command.Efna efna) sound holds =
    accepted_proceeds r (SpeakerIdle contact ChangeDirection) (Reopen t.number) None sound (reopened_fits r t.number) (reopened_accepted r t holds) tt
end_answer_proceeds contact t r other sound holds = unexpected_proceeds r other sound
