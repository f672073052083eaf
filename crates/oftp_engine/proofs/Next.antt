-- What may arrive stays consistent as a session executes commands, and as it speaks.
use Rattle.std.proofs.Common.{ℕ, ◌+◌, Bool, true, false, cond, nat_le, nat_lt, List, [], ◌∷◌, ◌++◌, length, drop, slice_get, Option, None, Some, Result, Ok, Err, refl, arith}
use Rattle.oftp_wire.specs.declared.command.Command.{Command}
use Rattle.oftp_wire.specs.declared.command.Command.TheVariants as command
use Rattle.oftp_wire.specs.declared.command.Sfid.{Sfid}
use Rattle.oftp_wire.specs.declared.command.Efid.{Efid}
use Rattle.oftp_wire.specs.declared.command.Mode.{Mode}
use Rattle.oftp_wire.specs.declared.reason.SessionReason.{SessionReason}
use Rattle.oftp_wire.specs.declared.reason.SessionReason.TheVariants.{BufferSizeError, InvalidData, ProtocolViolation}
use Rattle.oftp_partners.specs.declared.partner.Partner.{Partner}
use Rattle.oftp_vfile.specs.declared.fault.TakeFault.{TakeFault}
use Rattle.oftp_vfile.specs.Fill.{payloads_of}
use Rattle.oftp_vfile.specs.Carries.{is_open}
use Rattle.oftp_vfile.specs.Taking.{Taking, counts_of}
use Rattle.oftp_register.specs.declared.entry.Identity.{Identity}
use Rattle.oftp_register.specs.declared.verdicts.StartVerdict.{StartVerdict}
use Rattle.oftp_register.specs.declared.verdicts.StartVerdict.TheVariants as start
use Rattle.oftp_register.specs.declared.verdicts.EndVerdict.{EndVerdict}
use Rattle.oftp_register.specs.declared.verdicts.EndVerdict.TheVariants as «end»
use Rattle.oftp_register.specs.declared.entries.Item.{Item}
use Rattle.oftp_register.specs.declared.entries.Item.TheVariants as item
use Rattle.oftp_register.specs.Register.{Register, Outgoing, Received}
use Rattle.oftp_register.specs.Verdicts.{end_verdict, offered_identity}
use Rattle.oftp_register.specs.LookUps.{entry_at, next_item}
use Rattle.oftp_session.specs.declared.link.WhenDone.{WhenDone}
use Rattle.oftp_session.specs.declared.link.WhenDone.TheVariants.{ChangeDirection, EndSession}
use Rattle.oftp_session.specs.Settings.{Setting}
use Rattle.oftp_session.specs.Phases.{Phase, Receipt, Offer, Transfer, Step, ResponderOpening, InitiatorOpening, AwaitingSsid, ListenerIdle, Receiving, SpeakerIdle, GivingWay, AwaitingRtr, AwaitingStart, Sending, AwaitingEnd, EndedHere, EndedThere, answers, quiet, fails, changes, unexpected}
use Rattle.oftp_session.specs.declared.state.Contact.{Contact}
use Rattle.oftp_session.specs.Opening.{calling_step}
use Rattle.oftp_session.specs.Opening.{Agreement, came_initiator_opening, came_awaiting_ssid, opened_step, open_step, ssid_verdict}
use Rattle.oftp_session.specs.Listener.{came_listener_idle, response_step, filing, is_between, end_response, negative_end_response, offer_step, on_start_verdict, verdict_on}
use Rattle.oftp_vfile.specs.Reading.{taken}
use Rattle.oftp_session.specs.Receiving.{carried_by, rows_to_keep, keeping, with_payload, with_rows, on_taken, data_step, on_end_verdict, end_step, came_receiving, is_window_full}
use Rattle.oftp_session.specs.Speaker.{came_awaiting_rtr, on_item, offers, speaks}
use Rattle.oftp_session.specs.Sending.{came_awaiting_start, came_sending, came_awaiting_end, transfer_of, reopening, credited, new_mark, credit_left, turned_sending, sends_next, payloads_in, after_file}
use Rattle.oftp_session.specs.Steps.{came, turned}
use Rattle.oftp_session.proofs.Turns.{each_turn}
use Rattle.oftp_engine.proofs.Standing.{IsQuiet, IsOfferOf, IsBeginning, MayTake, MayHear, MayAnswerStart, MayCredit, MayAnswerEnd, MayAnswerResponse, MayOpen, MayCome}

-- if nothing but the end of the session is on its way, it may arrive in each phase in which no file is received

quiet_hear : (r : Register) (coming : List Command) → IsQuiet coming → MayHear r coming
quiet_hear r [] h = tt
quiet_hear r (command.Esid e ∷ coming) h = tt
quiet_hear r (_ ∷ coming) h = absurd h

quiet_start : (r : Register) (file : Outgoing) (coming : List Command) → IsQuiet coming → MayAnswerStart r file coming
quiet_start r file [] h = tt
quiet_start r file (command.Esid e ∷ coming) h = tt
quiet_start r file (_ ∷ coming) h = absurd h

quiet_credit : (coming : List Command) → IsQuiet coming → MayCredit coming
quiet_credit [] h = tt
quiet_credit (command.Esid e ∷ coming) h = tt
quiet_credit (_ ∷ coming) h = absurd h

quiet_response : (coming : List Command) → IsQuiet coming → MayAnswerResponse coming
quiet_response [] h = tt
quiet_response (command.Esid e ∷ coming) h = tt
quiet_response (_ ∷ coming) h = absurd h

quiet_open : (coming : List Command) → IsQuiet coming → MayOpen coming
quiet_open [] h = tt
quiet_open (command.Esid e ∷ coming) h = tt
quiet_open (_ ∷ coming) h = absurd h

quiet_take : (r : Register) (i : Identity) (from : ℕ) (coming : List Command) → IsQuiet coming → IsBeginning r i from [] → MayTake r i from [] coming
quiet_take r i from [] h b = b
quiet_take r i from (command.Esid e ∷ coming) h b = b
quiet_take r i from (_ ∷ coming) h b = absurd h

credit_answer : (r : Register) (file : Outgoing) (coming : List Command) → MayCredit coming → MayAnswerEnd r file coming
credit_answer r file [] h = tt
credit_answer r file (command.Cdt ∷ coming) h = tt
credit_answer r file (command.Esid e ∷ coming) h = tt
credit_answer r file (_ ∷ coming) h = absurd h

-- what may arrive after an offer to a listener: from the answered row on, no payload is a beginning
begins_none : (there : Register) (sfid : Sfid) (from : ℕ) → IsOfferOf there sfid → IsBeginning there (offered_identity sfid) from []
begins_none there sfid from o = (payloads_of o.file.format 2 (drop from o.file.rows), record { file = o.file; found = o.found; size = 2; room = omega arith; split = refl })

-- what may arrive at a listener

offer_next : (setting : Setting) (contact : Contact) (r there : Register) (sfid : Sfid) (coming : List Command) → IsOfferOf there sfid → IsQuiet coming
    → MayCome there (offer_step setting contact r sfid).phase coming
unfolding offer_step
offer_next setting contact r there sfid coming o q = by (verdict_on setting contact r sfid)
  where
    by : (verdict : StartVerdict) → MayCome there (on_start_verdict contact r sfid verdict).phase coming
    by (start.Accept count) = quiet_take there (offered_identity sfid) count coming q (begins_none there sfid count o)
    by (start.Refuse reason retry) = quiet_hear there coming q

response_next : (setting : Setting) (contact : Contact) (r there : Register) (response : Received) (coming : List Command) → IsQuiet coming
    → MayCome there (response_step setting contact r response).phase coming
unfolding response_step
response_next setting contact r there response coming q = by (is_between setting contact response.identity)
  where
    by : (between : Bool) → MayCome there (let s : Step = cond between (answers (ListenerIdle contact) (filing r response) command.Rtr) (fails InvalidData) in s).phase coming
    by true = quiet_hear there coming q
    by false = tt

listener_next : (setting : Setting) (contact : Contact) (r there : Register) (c : Command) (coming : List Command) → MayHear there (c ∷ coming)
    → MayCome there (came_listener_idle setting contact r c).phase coming
unfolding came_listener_idle unexpected
listener_next setting contact r there (command.Sfid sfid) coming h = offer_next setting contact r there sfid coming h.0 h.1
listener_next setting contact r there (command.Eerp eerp) coming h = response_next setting contact r there (end_response eerp) coming h.1
listener_next setting contact r there (command.Nerp nerp) coming h = response_next setting contact r there (negative_end_response nerp) coming h.1
listener_next setting contact r there command.Cd coming h = h
listener_next setting contact r there _ coming h = tt

-- what may arrive while a file is received

data_next : (contact : Contact) (r there : Register) (f : Receipt) (payload : List ℕ) (coming : List Command) → MayTake there f.file.identity f.from (f.payloads ++ payload ∷ []) coming
    → MayCome there (data_step contact f payload).phase coming
unfolding data_step
data_next contact r there f payload coming h = by_size (nat_lt contact.link.buffer (length payload + 1))
  where
    by_window : (t : Taking) (full : Bool) → MayCome there (let s : Step =
        cond full (answers (Receiving contact (with_rows (with_payload f payload) (rows_to_keep f t))) (keeping f.number (rows_to_keep f t)) command.Cdt)
        (quiet (Receiving contact (with_payload f payload))) in s).phase coming
    by_window t true = h
    by_window t false = h

    by_taken : (result : Result Taking TakeFault) → MayCome there (on_taken contact f payload result).phase coming
    by_taken (Ok t) = by_window t (is_window_full contact (with_payload f payload))
    by_taken (Err fault) = tt

    by_size : (big : Bool) → MayCome there (let s : Step = cond big (fails BufferSizeError) (on_taken contact f payload (taken (carried_by f) payload)) in s).phase coming
    by_size true = tt
    by_size false = by_taken (taken (carried_by f) payload)

end_next : (contact : Contact) (r there : Register) (f : Receipt) (efid : Efid) (coming : List Command) → IsQuiet coming → MayCome there (end_step contact r f efid).phase coming
unfolding end_step
end_next contact r there f efid coming q = by_open (is_open (carried_by f).stage)
  where
    by_verdict : (verdict : EndVerdict) → MayCome there (on_end_verdict contact r f (carried_by f) verdict).phase coming
    by_verdict «end».Accept = quiet_hear there coming q
    by_verdict («end».Refuse reason) = quiet_hear there coming q

    by_open : (stays : Bool) → MayCome there (let s : Step = cond stays (fails ProtocolViolation)
        (on_end_verdict contact r f (carried_by f) (end_verdict efid (counts_of (carried_by f)).0 (counts_of (carried_by f)).1)) in s).phase coming
    by_open true = tt
    by_open false = by_verdict (end_verdict efid (counts_of (carried_by f)).0 (counts_of (carried_by f)).1)

receiving_next : (contact : Contact) (r there : Register) (f : Receipt) (c : Command) (coming : List Command) → MayTake there f.file.identity f.from f.payloads (c ∷ coming)
    → MayCome there (came_receiving contact r f c).phase coming
unfolding came_receiving unexpected
receiving_next contact r there f (command.Data payload) coming h = data_next contact r there f payload coming h
receiving_next contact r there f (command.Efid efid) coming h = end_next contact r there f efid coming h.1
receiving_next contact r there f _ coming h = tt

-- what may arrive at a speaker

start_answer_next : (contact : Contact) (there : Register) (offer : Offer) (c : Command) (coming : List Command) → MayAnswerStart there offer.file (c ∷ coming)
    → MayCome there (came_awaiting_start contact offer c).phase coming
unfolding came_awaiting_start unexpected
start_answer_next contact there offer (command.Sfpa sfpa) coming h = by (nat_le sfpa.restart offer.from)
  where
    by : (within : Bool) → MayCome there (let s : Step = cond within (changes (Sending contact (transfer_of offer sfpa.restart)) (reopening offer)) (fails ProtocolViolation) in s).phase coming
    by true = quiet_credit coming h
    by false = tt
start_answer_next contact there offer (command.Sfna sfna) coming h = h.1
start_answer_next contact there offer _ coming h = tt

sending_next : (contact : Contact) (there : Register) (t : Transfer) (c : Command) (coming : List Command) → MayCredit (c ∷ coming) → MayCome there (came_sending contact t c).phase coming
unfolding came_sending unexpected
sending_next contact there t command.Cdt coming h = by (nat_lt 0 (credit_left contact t))
  where
    by : (b : Bool) → MayCome there (let s : Step = cond b (fails ProtocolViolation) (credited contact t (new_mark contact t)) in s).phase coming
    by true = tt
    by false = h
sending_next contact there t _ coming h = tt

end_answer_next : (contact : Contact) (there : Register) (t : Transfer) (c : Command) (coming : List Command) → MayAnswerEnd there t.file (c ∷ coming)
    → MayCome there (came_awaiting_end contact t c).phase coming
unfolding came_awaiting_end unexpected
end_answer_next contact there t (command.Efpa efpa) coming h = by efpa.change_direction
  where
    by : (b : Bool) → MayCome there (after_file contact b) coming
    by true = h.1
    by false = h.1
end_answer_next contact there t (command.Efna efna) coming h = h
end_answer_next contact there t _ coming h = tt

rtr_next : (contact : Contact) (there : Register) (n : ℕ) (c : Command) (coming : List Command) → MayAnswerResponse (c ∷ coming) → MayCome there (came_awaiting_rtr contact n c).phase coming
unfolding came_awaiting_rtr unexpected
rtr_next contact there n command.Rtr coming h = h
rtr_next contact there n _ coming h = tt

idle_next : (there : Register) (c : Command) (coming : List Command) → MayCome there (unexpected c).phase coming
unfolding unexpected
idle_next there (command.Esid esid) coming = tt
idle_next there _ coming = tt

-- what may arrive while a session opens

respond_next : (there : Register) (c : Command) (coming : List Command) → MayCome there (unexpected c).phase coming
unfolding unexpected
respond_next there (command.Esid esid) coming = tt
respond_next there _ coming = tt

initiate_next : (setting : Setting) (there : Register) (c : Command) (coming : List Command) → MayOpen (c ∷ coming) → MayCome there (came_initiator_opening setting c).phase coming
unfolding came_initiator_opening unexpected
initiate_next setting there command.Ssrm coming h = by setting.called
  where
    by : (called : Option Partner) → MayCome there (calling_step setting called).phase coming
    by None = tt
    by (Some partner) = quiet_open coming h
initiate_next setting there _ coming h = tt

opened_next : (setting : Setting) (letter : Mode) (verdict : Result Agreement SessionReason) (there : Register) (coming : List Command) → IsQuiet coming
    → MayCome there (opened_step setting letter verdict).phase coming
opened_next setting letter (Ok a) there coming h = by setting.called
  where
    by : (called : Option Partner) → MayCome there (open_step setting letter a called).phase coming
    by None = quiet_hear there coming h
    by (Some partner) = h
opened_next setting letter (Err reason) there coming h = tt

await_next : (setting : Setting) (there : Register) (c : Command) (coming : List Command) → MayOpen (c ∷ coming) → MayCome there (came_awaiting_ssid setting c).phase coming
unfolding came_awaiting_ssid unexpected
await_next setting there (command.Ssid ssid) coming h = opened_next setting ssid.mode (ssid_verdict setting ssid) there coming h
await_next setting there _ coming h = tt

-- a session executes a command
pub came_next : (setting : Setting) (p : Phase) (r there : Register) (c : Command) (coming : List Command) → MayCome there p (c ∷ coming) → MayCome there (came setting p r c).phase coming
unfolding came
came_next setting ResponderOpening r there c coming h = respond_next there c coming
came_next setting InitiatorOpening r there c coming h = initiate_next setting there c coming h
came_next setting AwaitingSsid r there c coming h = await_next setting there c coming h
came_next setting (ListenerIdle contact) r there c coming h = listener_next setting contact r there c coming h
came_next setting (Receiving contact f) r there c coming h = receiving_next contact r there f c coming h
came_next setting (SpeakerIdle contact done) r there c coming h = idle_next there c coming
came_next setting (GivingWay contact) r there c coming h = idle_next there c coming
came_next setting (AwaitingRtr contact number) r there c coming h = rtr_next contact there number c coming h
came_next setting (AwaitingStart contact offer) r there c coming h = start_answer_next contact there offer c coming h
came_next setting (Sending contact t) r there c coming h = sending_next contact there t c coming h
came_next setting (AwaitingEnd contact t) r there c coming h = end_answer_next contact there t c coming h
came_next setting (EndedHere reason) r there c coming h = tt
came_next setting (EndedThere reason) r there c coming h = tt

-- a session speaks
item_next : (setting : Setting) (contact : Contact) (done : WhenDone) (r there : Register) (i : Option Item) (coming : List Command) → IsQuiet coming
    → MayCome there (on_item setting contact done r i).phase coming
item_next setting contact done r there (Some (item.Response e)) coming h = quiet_response coming h
item_next setting contact done r there (Some (item.File e)) coming h = by done e.no (entry_at e.no r.outgoing)
  where
    by : (done : WhenDone) (n : ℕ) (file : Option Outgoing) → MayCome there (offers contact done n file).phase coming
    by done n (Some file) = quiet_start there file coming h
    by ChangeDirection n None = quiet_hear there coming h
    by EndSession n None = tt
item_next setting contact ChangeDirection r there None coming h = quiet_hear there coming h
item_next setting contact EndSession r there None coming h = tt

speaks_next : (setting : Setting) (contact : Contact) (done : WhenDone) (r there : Register) (coming : List Command) → IsQuiet coming
    → MayCome there (speaks setting contact done r).phase coming
unfolding speaks
speaks_next setting contact done r there coming h = item_next setting contact done r there (next_item r contact.code contact.tried contact.link.sends) coming h

payload_next : (contact : Contact) (t : Transfer) (there : Register) (coming : List Command) → MayCome there (Sending contact t) coming
    → MayCome there (turned_sending contact t).phase coming
unfolding turned_sending
payload_next contact t there coming h = by_credit (nat_lt 0 (credit_left contact t))
  where
    by_next : (payload : Option (List ℕ)) → MayCome there (sends_next contact t payload).phase coming
    by_next (Some payload) = h
    by_next None = credit_answer there t.file coming h

    by_credit : (b : Bool) → MayCome there (let s : Step = cond b (sends_next contact t (slice_get (payloads_in contact t) t.sent)) (quiet (Sending contact t)) in s).phase coming
    by_credit true = by_next (slice_get (payloads_in contact t) t.sent)
    by_credit false = h

pub turned_next : (setting : Setting) (p : Phase) (r there : Register) (coming : List Command) → MayCome there p coming → MayCome there (turned setting p r).phase coming
turned_next setting p r there coming = each_turn (λ q s. MayCome there q coming → MayCome there s.phase coming) setting r (record {
  greeting = λ h. h;
  speaking = λ contact done h. speaks_next setting contact done r there coming h;
  giving_way = λ contact h. quiet_hear there coming h;
  sending = λ contact t h. payload_next contact t there coming h;
  waiting = λ q h. h;
}) p
