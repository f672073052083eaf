-- What the session does at its turn as a speaker, as a step.
use Rattle.std.proofs.Common.{◌≡◌, ℕ, zero, suc, ◌≤◌, nat_lt, false, cond, List, [], slice_get, Option, None, Some, Result, Ok, Err, refl, sym, ap, ◌∙◌, subst, arith}
use Rattle.std.proofs.lemmas.Bool.{false≢true}
use Rattle.oftp_wire.specs.declared.command.Command.{Command}
use Rattle.oftp_vfile.specs.VirtualFile.{units_in}
use Rattle.oftp_register.specs.declared.entries.Item.{Item}
use Rattle.oftp_register.specs.declared.entries.Item.TheVariants as item
use Rattle.oftp_register.specs.declared.entries.OutgoingEntry.{OutgoingEntry}
use Rattle.oftp_register.specs.declared.entries.Side.TheVariants as side
use Rattle.oftp_register.specs.Register.{Register, Outgoing}
use Rattle.oftp_register.specs.Changes.{is_closing}
use Rattle.oftp_register.specs.LookUps.{entry_at, next_item, outgoing_entry, units_of}
use Rattle.oftp_register.specs.Soundness.{IsSound}
use Rattle.oftp_register.specs.Offices.{View}
use Rattle.oftp_session.specs.declared.link.WhenDone.{WhenDone}
use Rattle.oftp_session.specs.declared.sending.OutgoingOffer.{OutgoingOffer}
use Rattle.oftp_session.specs.declared.session.SessionFault.{SessionFault}
use Rattle.oftp_session.specs.declared.state.Contact.{Contact}
use Rattle.oftp_session.specs.declared.state.State.{State}
use Rattle.oftp_session.specs.declared.state.State.TheVariants as state
use Rattle.oftp_session.specs.Settings.{Setting}
use Rattle.oftp_session.specs.Phases.{Phase, Step, Transfer, Sending, frame_of, quiet}
use Rattle.oftp_session.specs.Speaker.{having_tried_file, offer_of, offered_from, offers, on_item, sfid_of, speaks}
use Rattle.oftp_session.specs.Sending.{credit_left, sends_next, turned_sending, payloads_in}
use Rattle.oftp_session.specs.Steps.{turned}
use Rattle.oftp_session.specs.Standings.{Standing, StandsIn, is_due, offered_as, standing_of}
use Rattle.oftp_session.specs.Calls.{IsMade}
use Rattle.oftp_session.specs.Inside.{Goes, Takes}
use Rattle.oftp_session.proofs.Items.{item_goes, units_are}
use Rattle.oftp_session.proofs.Saying.{step_same}
use Rattle.oftp_session.proofs.Turns.{each_turn}
use Rattle.oftp_session.proofs.Views.{then_fails, then_made}

-- the offer of a file with this entry
abbrev held_of : OutgoingEntry → ℕ → ℕ → OutgoingOffer
held_of e units from =
    record { number = e.no; is_closing = is_closing e.state; format = e.format; longest = e.longest; rows = e.rows; units = units; mark = e.mark; from = from }

-- a file is offered
pub offer_ok : (contact : Contact) (done : WhenDone) (e : OutgoingEntry) (file : Outgoing) (units from : ℕ) (said : Command) (s : OutgoingOffer) (old new : View) (frame : List ℕ)
    → e ≡ outgoing_entry e.no file → entry_at e.no old.register.outgoing ≡ Some file → units ≡ units_of old.register side.Outgoing e.no → IsMade None None old new []
    → from ≡ cond contact.link.restart e.mark 0 → (e ≡ outgoing_entry e.no file → units ≡ units_in file.rows → said ≡ sfid_of file from) → frame ≡ frame_of said
    → s ≡ (let k : OutgoingOffer = record { number = e.no; is_closing = is_closing e.state; format = e.format; longest = e.longest; rows = e.rows; units = units; mark = e.mark; from = from } in k)
    → Takes (offers contact done e.no (Some file)) old new frame (Ok (state.AwaitingStart (having_tried_file contact e.no) s))
offer_ok contact done e file units from said s old new frame is entry counted was place spelled spoken holds =
    let octets : units ≡ units_in file.rows = counted ∙ units_are old.register e.no file entry in
    let row : from ≡ offered_from contact file = place ∙ ap (λ (x : OutgoingEntry). cond contact.link.restart x.mark 0) is in
    let command : frame ≡ frame_of (sfid_of file (offered_from contact file)) =
    spoken ∙ ap frame_of (spelled is octets) ∙ ap (λ n. frame_of (sfid_of file n)) row in
    let whole : s ≡ offered_as (offer_of contact e.no file) =
    holds ∙ ap (λ n. held_of e n from) octets ∙ ap (λ n. held_of e (units_in file.rows) n) row
    ∙ ap (λ (x : OutgoingEntry). held_of x (units_in file.rows) (offered_from contact file)) is in (
      record { said = command; register = was.register; stands = was.stands; faults = was.faults },
      ap (λ (x : OutgoingOffer). standing_of (state.AwaitingStart (having_tried_file contact e.no) x)) whole,
    )

-- a step after a look-up
pub then_takes : (step : Step) (old mid new : View) (frame : List ℕ) (result : Result State SessionFault) → IsMade None None old mid [] → Takes step mid new frame result
    → Takes step old new frame result
then_takes step old mid new frame (Ok to) was h = (then_made step.change step.output frame old mid new was h.0, h.1)
then_takes step old mid new frame (Err told) was h = then_fails step.change told old mid new was h

-- the file that is next is offered
pub file_takes : (setting : Setting) (contact : Contact) (done : WhenDone) (e : OutgoingEntry) (old new : View) (frame : List ℕ) (result : Result State SessionFault)
    → IsSound old.register → Some (item.File e) ≡ next_item old.register contact.code contact.tried contact.link.sends
    → ((d : WhenDone) (file : Outgoing) → e ≡ outgoing_entry e.no file → entry_at e.no old.register.outgoing ≡ Some file
    → Takes (offers contact d e.no (Some file)) old new frame result) → Takes (on_item setting contact done old.register (Some (item.File e))) old new frame result
file_takes setting contact done e old new frame result sound next does =
    let found = item_goes old.register contact contact.code contact.tried contact.link.sends e sound (sym next) in
    subst (λ (o : Option Outgoing). Takes (offers contact done e.no o) old new frame result) (sym found.2.entry) (does done found.0 found.1 found.2.entry)

-- what is next is sent after the look
pub speaks_takes : (setting : Setting) (contact : Contact) (done : WhenDone) (found : Option Item) (old mid new : View) (frame : List ℕ) (result : Result State SessionFault)
    → found ≡ next_item old.register contact.code contact.tried contact.link.sends → IsMade None None old mid []
    → (found ≡ next_item mid.register contact.code contact.tried contact.link.sends → Takes (on_item setting contact done mid.register found) mid new frame result)
    → Takes (speaks setting contact done old.register) old new frame result
unfolding speaks
speaks_takes setting contact done found old mid new frame result next was takes =
    let again = next ∙ ap (λ (r : Register). next_item r contact.code contact.tried contact.link.sends) (sym was.register) in
    let step : on_item setting contact done mid.register found ≡ speaks setting contact done old.register =
    ap (λ (r : Register). on_item setting contact done r found) was.register ∙ ap (on_item setting contact done old.register) next in
    subst (λ (x : Step). Takes x old new frame result) step (then_takes (on_item setting contact done mid.register found) old mid new frame result was (takes again))

-- no command is due: nothing is sent

idle_sending : (contact : Contact) (t : Transfer) (s : Standing) → StandsIn (Sending contact t) s → is_due s ≡ false → turned_sending contact t ≡ quiet (Sending contact t)
unfolding turned_sending
idle_sending contact t s h none =
    let spent : nat_lt 0 (credit_left contact t) ≡ false = ap (nat_lt 0) (sym h.2.credit) ∙ sym (ap is_due h.1) ∙ none in
    ap (λ b. cond b (sends_next contact t (slice_get (payloads_in contact t) t.sent)) (quiet (Sending contact t))) spent

idle_step : (setting : Setting) (p : Phase) (s : Standing) (r : Register) → StandsIn p s → is_due s ≡ false → turned setting p r ≡ quiet p
idle_step setting p s r = each_turn (λ q step. StandsIn q s → is_due s ≡ false → step ≡ quiet q) setting r (record {
  greeting = λ h none. absurd (false≢true (sym none ∙ ap is_due h));
  speaking = λ contact done h none. absurd (false≢true (sym none ∙ ap is_due h));
  giving_way = λ contact h none. absurd (false≢true (sym none ∙ ap is_due h));
  sending = λ contact t. idle_sending contact t s;
  waiting = λ q h none. refl;
}) p

pub none_left : (n : ℕ) → n ≤ 0 → nat_lt 0 n ≡ false
none_left zero h = refl
none_left (suc n) h = absurd (omega (arith, h))

pub idle_takes : (setting : Setting) (p : Phase) (s : State) (now : View) (frame : List ℕ) → now.stands → StandsIn p (standing_of s) → is_due (standing_of s) ≡ false → frame ≡ []
    → Takes (turned setting p now.register) now now frame (Ok s)
idle_takes setting p s now frame stands h none silent =
    let goes : Goes (quiet p) s frame = record { said = silent; unchanged = refl; stands = h } in
    step_same _ (quiet p) now s frame stands (idle_step setting p (standing_of s) now.register h none) goes
