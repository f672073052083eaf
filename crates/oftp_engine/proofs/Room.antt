-- What holds of the smaller of two buffers holds in each phase of an open session. So each DATA has room for a subrecord: at least 128
-- octets.
use Rattle.std.proofs.Common.{◌≡◌, ℕ, ◌+◌, ◌≤◌, ◌==◌, ◌&&◌, ◌||◌, not, min, nat_le, nat_lt, Bool, true, false, cond, List, length, slice_get, Option, None, Some, Result, Ok, Err, refl, ap, subst, arith}
use Rattle.std.proofs.lemmas.Bool.{ltb-false, or_parts}
use Rattle.std.specs.Str.{bytes_eq}
use Rattle.oftp_wire.specs.declared.command.Command.{Command}
use Rattle.oftp_wire.specs.declared.command.Command.TheVariants as command
use Rattle.oftp_wire.specs.declared.command.Mode.{Mode}
use Rattle.oftp_wire.specs.declared.command.Sfid.{Sfid}
use Rattle.oftp_wire.specs.declared.command.Ssid.{Ssid}
use Rattle.oftp_wire.specs.declared.reason.SessionReason.{SessionReason}
use Rattle.oftp_wire.specs.declared.reason.SessionReason.TheVariants.{AuthenticationIncompatible, BufferSizeError, InvalidData, InvalidPassword, ModeIncompatible, ProtocolViolation}
use Rattle.oftp_partners.specs.declared.partner.Partner.{Partner}
use Rattle.oftp_vfile.specs.declared.fault.TakeFault.{TakeFault}
use Rattle.oftp_vfile.specs.Carries.{is_open}
use Rattle.oftp_vfile.specs.Reading.{taken}
use Rattle.oftp_vfile.specs.Taking.{Taking, counts_of}
use Rattle.oftp_register.specs.declared.entries.Item.{Item}
use Rattle.oftp_register.specs.declared.entries.Item.TheVariants as item
use Rattle.oftp_register.specs.declared.verdicts.EndVerdict.{EndVerdict}
use Rattle.oftp_register.specs.declared.verdicts.EndVerdict.TheVariants as «end»
use Rattle.oftp_register.specs.declared.verdicts.StartVerdict.{StartVerdict}
use Rattle.oftp_register.specs.declared.verdicts.StartVerdict.TheVariants as start
use Rattle.oftp_register.specs.Register.{Register, Outgoing, Received}
use Rattle.oftp_register.specs.LookUps.{entry_at, next_item}
use Rattle.oftp_register.specs.Verdicts.{end_verdict}
use Rattle.oftp_session.specs.declared.link.WhenDone.{WhenDone}
use Rattle.oftp_session.specs.declared.link.WhenDone.TheVariants.{ChangeDirection, EndSession}
use Rattle.oftp_session.specs.declared.state.Contact.{Contact}
use Rattle.oftp_session.specs.Settings.{Setting}
use Rattle.oftp_session.specs.Phases.{Phase, Offer, Receipt, Step, Transfer, answers, changes, fails, quiet, unexpected}
use Rattle.oftp_session.specs.Phases.{AwaitingEnd, AwaitingRtr, AwaitingSsid, AwaitingStart, EndedHere, EndedThere, GivingWay, InitiatorOpening, ListenerIdle, Receiving, ResponderOpening, Sending, SpeakerIdle}
use Rattle.oftp_session.specs.Opening.{Agreement, agreed, agreement, came_awaiting_ssid, came_initiator_opening, is_initiator, is_opposed, open_step, opened_step, partner_for, ssid_verdict}
use Rattle.oftp_session.specs.Opening.{calling_step}
use Rattle.oftp_session.specs.Listener.{came_listener_idle, end_response, filing, is_between, negative_end_response, offer_step, on_start_verdict, response_step, verdict_on}
use Rattle.oftp_session.specs.Receiving.{came_receiving, carried_by, data_step, end_step, is_window_full, keeping, on_end_verdict, on_taken, rows_to_keep, with_payload, with_rows}
use Rattle.oftp_session.specs.Speaker.{came_awaiting_rtr, nothing_next, offers, on_item, speaks}
use Rattle.oftp_session.specs.Sending.{after_file, came_awaiting_end, came_awaiting_start, came_sending, credit_left, credited, new_mark, payloads_in, reopening, sends_next, transfer_of, turned_sending}
use Rattle.oftp_session.specs.Steps.{came, turned}
use Rattle.oftp_session.specs.Links.{LinkData}
use Rattle.oftp_session.proofs.Turns.{each_turn}
use Rattle.oftp_engine.proofs.Standing.{HasRoom, OfBuffer}

-- a step preserves the fact of the buffer
abbrev StepHasBuffer : (ℕ → Type 0) → Step → Type 0
StepHasBuffer P step = OfBuffer P step.phase

-- it holds of the smaller of the station's size and one that a partner may offer
abbrev pub SizesOf : (ℕ → Type 0) → Setting → Type 0
SizesOf P setting = (theirs : ℕ) → 128 ≤ theirs → P (min setting.book.station.buffer theirs)

-- a verdict after a test that fails
passes : {A B : Type 0} (b : Bool) (e : B) (x : Result A B) (a : A) → (let f : Result A B = Err e in cond b f x) ≡ Ok a → (b ≡ false) × (x ≡ Ok a)
passes true e x a h = absurd (cc)
passes false e x a h = (refl, h)

-- what is agreed with a partner who sends this SSID
pub record IsAgreed (setting : Setting) (ssid : Ssid) (a : Agreement) : Type 0 where
  pub partner : partner_for setting ssid.code ≡ Some a.partner
  pub theirs : 128 ≤ ssid.buffer
  pub link : agreed setting.book a.partner ssid ≡ a.link

pub agreed_so : (setting : Setting) (ssid : Ssid) (a : Agreement) → ssid_verdict setting ssid ≡ Ok a → IsAgreed setting ssid a
unfolding ssid_verdict
agreed_so setting ssid a h =
    let one = passes (not (ssid.level == 5)) ModeIncompatible _ a h in
    let two = passes (nat_lt ssid.buffer 128 || ssid.credit == 0) InvalidData _ a one.1 in
    by (partner_for setting ssid.code) refl (ltb-false ssid.buffer 128 (or_parts (nat_lt ssid.buffer 128) (ssid.credit == 0) two.0).0) two.1
  where
    by : (partner : Option Partner) → partner_for setting ssid.code ≡ partner → 128 ≤ ssid.buffer → agreement setting ssid partner ≡ Ok a → IsAgreed setting ssid a
    by None found there g = absurd (cc)
    by (Some partner) found there g =
        let g1 = passes (not (bytes_eq ssid.password partner.expects)) InvalidPassword _ a g in
        let g2 = passes (is_initiator setting && (ssid.compression || ssid.special_logic)) ModeIncompatible _ a g1.1 in
        let g3 = passes (is_opposed partner.mode ssid.mode) ModeIncompatible _ a g2.1 in
        let g4 = passes ssid.authentication AuthenticationIncompatible _ a g3.1 in
        let made : Agreement = record { partner = partner; link = agreed setting.book partner ssid } in
        let q : (let x : Result Agreement SessionReason = Ok made in x) ≡ Ok a = g4.1 in
        let is : made ≡ a = cc in
        subst (IsAgreed setting ssid) is (record { partner = found; theirs = there; link = refl })

module _ (P : ℕ → Type 0) where
  agreed_size : (setting : Setting) (ssid : Ssid) (a : Agreement) → SizesOf P setting → ssid_verdict setting ssid ≡ Ok a → P a.link.buffer
  agreed_size setting ssid a sizes h = let it = agreed_so setting ssid a h in subst P (ap (λ (link : LinkData). link.buffer) it.link) (sizes ssid.buffer it.theirs)

  either : (b : Bool) (x y : Step) → StepHasBuffer P x → StepHasBuffer P y → StepHasBuffer P (cond b x y)
  either true x y h k = h
  either false x y h k = k

  unexpected_room : (c : Command) → StepHasBuffer P (unexpected c)
  unfolding unexpected
  unexpected_room (command.Esid esid) = tt
  unexpected_room _ = tt

  -- a session that opens

  calling_room : (setting : Setting) (called : Option Partner) → StepHasBuffer P (calling_step setting called)
  calling_room setting None = tt
  calling_room setting (Some partner) = tt

  initiate_room : (setting : Setting) (c : Command) → StepHasBuffer P (came_initiator_opening setting c)
  unfolding came_initiator_opening
  initiate_room setting command.Ssrm = calling_room setting setting.called
  initiate_room setting other = unexpected_room other

  open_room : (setting : Setting) (letter : Mode) (a : Agreement) (called : Option Partner) → P a.link.buffer → StepHasBuffer P (open_step setting letter a called)
  open_room setting letter a None room = room
  open_room setting letter a (Some partner) room = room

  opened_room : (setting : Setting) (letter : Mode) (verdict : Result Agreement SessionReason) → ((a : Agreement) → verdict ≡ Ok a → P a.link.buffer)
      → StepHasBuffer P (opened_step setting letter verdict)
  opened_room setting letter (Ok a) room = open_room setting letter a setting.called (room a refl)
  opened_room setting letter (Err reason) room = tt

  await_room : (setting : Setting) (c : Command) → SizesOf P setting → StepHasBuffer P (came_awaiting_ssid setting c)
  unfolding came_awaiting_ssid
  await_room setting (command.Ssid ssid) buffer = opened_room setting ssid.mode (ssid_verdict setting ssid) (λ a h. agreed_size setting ssid a buffer h)
  await_room setting other buffer = unexpected_room other

  -- a session that is open
  module _ (contact : Contact) (room : P contact.link.buffer) where
    nothing_room : (done : WhenDone) → StepHasBuffer P (nothing_next contact done)
    nothing_room ChangeDirection = room
    nothing_room EndSession = tt

    offers_room : (done : WhenDone) (n : ℕ) (found : Option Outgoing) → StepHasBuffer P (offers contact done n found)
    offers_room done n (Some found) = room
    offers_room done n None = nothing_room done

    item_room : (setting : Setting) (done : WhenDone) (r : Register) (next : Option Item) → StepHasBuffer P (on_item setting contact done r next)
    item_room setting done r (Some (item.Response e)) = room
    item_room setting done r (Some (item.File e)) = offers_room done e.no (entry_at e.no r.outgoing)
    item_room setting done r None = nothing_room done

    speaks_room : (setting : Setting) (done : WhenDone) (r : Register) → StepHasBuffer P (speaks setting contact done r)
    unfolding speaks
    speaks_room setting done r = item_room setting done r (next_item r contact.code contact.tried contact.link.sends)

    rtr_room : (n : ℕ) (c : Command) → StepHasBuffer P (came_awaiting_rtr contact n c)
    unfolding came_awaiting_rtr
    rtr_room n command.Rtr = room
    rtr_room n other = unexpected_room other

    answer_room : (offer : Offer) (c : Command) → StepHasBuffer P (came_awaiting_start contact offer c)
    unfolding came_awaiting_start
    answer_room offer (command.Sfpa sfpa) =
        either (nat_le sfpa.restart offer.from) (changes (Sending contact (transfer_of offer sfpa.restart)) (reopening offer)) (fails ProtocolViolation) room tt
    answer_room offer (command.Sfna sfna) = room
    answer_room offer other = unexpected_room other

    credit_room : (t : Transfer) (c : Command) → StepHasBuffer P (came_sending contact t c)
    unfolding came_sending
    credit_room t command.Cdt = either (nat_lt 0 (credit_left contact t)) (fails ProtocolViolation) (credited contact t (new_mark contact t)) tt room
    credit_room t other = unexpected_room other

    after_room : (speaks : Bool) → OfBuffer P (after_file contact speaks)
    after_room true = room
    after_room false = room

    ended_room : (t : Transfer) (c : Command) → StepHasBuffer P (came_awaiting_end contact t c)
    unfolding came_awaiting_end
    ended_room t (command.Efpa efpa) = after_room efpa.change_direction
    ended_room t (command.Efna efna) = room
    ended_room t other = unexpected_room other

    sends_room : (t : Transfer) (payload : Option (List ℕ)) → StepHasBuffer P (sends_next contact t payload)
    sends_room t (Some payload) = room
    sends_room t None = room

    sending_room : (t : Transfer) → StepHasBuffer P (turned_sending contact t)
    unfolding turned_sending
    sending_room t =
        let payload = slice_get (payloads_in contact t) t.sent in
        either (nat_lt 0 (credit_left contact t)) (sends_next contact t payload) (quiet (Sending contact t)) (sends_room t payload) room

    response_room : (setting : Setting) (r : Register) (response : Received) → StepHasBuffer P (response_step setting contact r response)
    unfolding response_step
    response_room setting r response =
        either (is_between setting contact response.identity) (answers (ListenerIdle contact) (filing r response) command.Rtr) (fails InvalidData) room tt

    sfid_room : (setting : Setting) (r : Register) (sfid : Sfid) → StepHasBuffer P (offer_step setting contact r sfid)
    unfolding offer_step
    sfid_room setting r sfid = by (verdict_on setting contact r sfid)
      where
        by : (verdict : StartVerdict) → StepHasBuffer P (on_start_verdict contact r sfid verdict)
        by (start.Accept count) = room
        by (start.Refuse reason retry) = room

    listen_room : (setting : Setting) (r : Register) (c : Command) → StepHasBuffer P (came_listener_idle setting contact r c)
    unfolding came_listener_idle
    listen_room setting r (command.Sfid sfid) = sfid_room setting r sfid
    listen_room setting r (command.Eerp eerp) = response_room setting r (end_response eerp)
    listen_room setting r (command.Nerp nerp) = response_room setting r (negative_end_response nerp)
    listen_room setting r command.Cd = room
    listen_room setting r other = unexpected_room other

    taken_room : (f : Receipt) (payload : List ℕ) (result : Result Taking TakeFault) → StepHasBuffer P (on_taken contact f payload result)
    taken_room f payload (Ok t) =
        let g = with_payload f payload in
        let rows = rows_to_keep f t in
        either (is_window_full contact g) (answers (Receiving contact (with_rows g rows)) (keeping f.number rows) command.Cdt) (quiet (Receiving contact g)) room room
    taken_room f payload (Err fault) = tt

    end_room : (r : Register) (f : Receipt) (verdict : EndVerdict) → StepHasBuffer P (on_end_verdict contact r f (carried_by f) verdict)
    end_room r f «end».Accept = room
    end_room r f («end».Refuse reason) = room

    receive_room : (r : Register) (f : Receipt) (c : Command) → StepHasBuffer P (came_receiving contact r f c)
    unfolding came_receiving data_step end_step
    receive_room r f (command.Data payload) =
        either (nat_lt contact.link.buffer (length payload + 1)) (fails BufferSizeError) (on_taken contact f payload (taken (carried_by f) payload))
        tt (taken_room f payload (taken (carried_by f) payload))
    receive_room r f (command.Efid efid) =
        let t = carried_by f in
        let verdict = end_verdict efid (counts_of t).0 (counts_of t).1 in
        either (is_open t.stage) (fails ProtocolViolation) (on_end_verdict contact r f t verdict) tt (end_room r f verdict)
    receive_room r f other = unexpected_room other

  pub came_buffer : (setting : Setting) (p : Phase) (r : Register) (c : Command) → SizesOf P setting → OfBuffer P p → OfBuffer P (came setting p r c).phase
  unfolding came
  came_buffer setting ResponderOpening r c buffer room = unexpected_room c
  came_buffer setting InitiatorOpening r c buffer room = initiate_room setting c
  came_buffer setting AwaitingSsid r c buffer room = await_room setting c buffer
  came_buffer setting (ListenerIdle contact) r c buffer room = listen_room contact room setting r c
  came_buffer setting (Receiving contact f) r c buffer room = receive_room contact room r f c
  came_buffer setting (SpeakerIdle contact done) r c buffer room = unexpected_room c
  came_buffer setting (GivingWay contact) r c buffer room = unexpected_room c
  came_buffer setting (AwaitingRtr contact number) r c buffer room = rtr_room contact room number c
  came_buffer setting (AwaitingStart contact offer) r c buffer room = answer_room contact room offer c
  came_buffer setting (Sending contact t) r c buffer room = credit_room contact room t c
  came_buffer setting (AwaitingEnd contact t) r c buffer room = ended_room contact room t c
  came_buffer setting (EndedHere reason) r c buffer room = tt
  came_buffer setting (EndedThere reason) r c buffer room = tt

  pub turned_buffer : (setting : Setting) (p : Phase) (r : Register) → OfBuffer P p → OfBuffer P (turned setting p r).phase
  turned_buffer setting p r = each_turn (λ q s. OfBuffer P q → OfBuffer P s.phase) setting r (record {
    greeting = λ room. tt;
    speaking = λ contact done room. speaks_room contact room setting done r;
    giving_way = λ contact room. room;
    sending = λ contact t room. sending_room contact room t;
    waiting = λ q room. room;
  }) p

-- room

pub came_room : (setting : Setting) (p : Phase) (r : Register) (c : Command) → 128 ≤ setting.book.station.buffer → HasRoom p → HasRoom (came setting p r c).phase
came_room setting p r c buffer room = came_buffer (λ size. 128 ≤ size) setting p r c (λ theirs there. omega (arith, buffer, there)) room

pub turned_room : (setting : Setting) (p : Phase) (r : Register) → HasRoom p → HasRoom (turned setting p r).phase
turned_room setting p r room = turned_buffer (λ size. 128 ≤ size) setting p r room
