-- What a step may send: no ESID 08, and SFPA only after the change that starts its file with that Restart position.
use Rattle.std.proofs.Common.{◌≡◌, ◌≢◌, ℕ, ◌+◌, nat_le, nat_lt, ◌==◌, ◌||◌, ◌&&◌, not, Bool, true, false, cond, List, length, slice_get, Option, None, Some, unwrap_or, Result, Ok, Err, refl}
use Rattle.std.specs.Str.{bytes_eq}
use Rattle.oftp_wire.specs.declared.command.Command.{Command}
use Rattle.oftp_wire.specs.declared.command.Command.TheVariants as command
use Rattle.oftp_wire.specs.declared.command.Efid.{Efid}
use Rattle.oftp_wire.specs.declared.command.Mode.{Mode}
use Rattle.oftp_wire.specs.declared.command.Sfid.{Sfid}
use Rattle.oftp_wire.specs.declared.command.Ssid.{Ssid}
use Rattle.oftp_wire.specs.declared.reason.SessionReason.{SessionReason}
use Rattle.oftp_wire.specs.declared.reason.SessionReason.TheVariants.{Normal, ProtocolViolation, InvalidData, BufferSizeError, ResourcesNotAvailable}
use Rattle.oftp_vfile.specs.declared.format.Format.{Format}
use Rattle.oftp_vfile.specs.declared.fault.TakeFault.{TakeFault}
use Rattle.oftp_vfile.specs.declared.fault.TakeFault.TheVariants.{Cut, Compressed, RecordSize, AfterEnd, TooBig, Memory}
use Rattle.oftp_vfile.specs.Carries.{is_open}
use Rattle.oftp_vfile.specs.Reading.{taken}
use Rattle.oftp_vfile.specs.Taking.{Taking, counts_of}
use Rattle.oftp_partners.specs.declared.partner.Partner.{Partner}
use Rattle.oftp_register.specs.declared.change.Change.{Change}
use Rattle.oftp_register.specs.declared.change.Change.TheVariants.{Start}
use Rattle.oftp_register.specs.declared.entries.IssuedEntry.{IssuedEntry}
use Rattle.oftp_register.specs.declared.entries.Item.{Item}
use Rattle.oftp_register.specs.declared.entries.Item.TheVariants as item
use Rattle.oftp_register.specs.declared.entry.Identity.{Identity}
use Rattle.oftp_register.specs.declared.entry.ResponseKind.{ResponseKind}
use Rattle.oftp_register.specs.declared.entry.ResponseKind.TheVariants.{EndResponse, NegativeEndResponse}
use Rattle.oftp_register.specs.declared.verdicts.EndVerdict.{EndVerdict}
use Rattle.oftp_register.specs.declared.verdicts.EndVerdict.TheVariants as «end»
use Rattle.oftp_register.specs.declared.verdicts.StartVerdict.{StartVerdict}
use Rattle.oftp_register.specs.declared.verdicts.StartVerdict.TheVariants as start
use Rattle.oftp_register.specs.Register.{Register, Received, Outgoing}
use Rattle.oftp_register.specs.LookUps.{entry_at, next_item}
use Rattle.oftp_register.specs.Verdicts.{end_verdict, format_of, longest_of, offered_identity}
use Rattle.oftp_session.specs.declared.link.WhenDone.{WhenDone}
use Rattle.oftp_session.specs.declared.link.WhenDone.TheVariants.{ChangeDirection, EndSession}
use Rattle.oftp_session.specs.declared.state.Contact.{Contact}
use Rattle.oftp_session.specs.Settings.{Setting}
use Rattle.oftp_session.specs.Phases.{Phase, Receipt, Offer, Transfer, ResponderOpening, InitiatorOpening, AwaitingSsid, ListenerIdle, Receiving, SpeakerIdle, GivingWay, AwaitingRtr, AwaitingStart, Sending, AwaitingEnd, EndedHere, EndedThere, Step, esid_of, fails, unexpected}
use Rattle.oftp_session.specs.Opening.{Agreement, agreement, came_awaiting_ssid, came_initiator_opening, calling_step, is_initiator, is_opposed, open_step, opened_step, partner_for, ssid_verdict}
use Rattle.oftp_session.specs.Listener.{came_listener_idle, end_response, is_between, negative_end_response, offer_step, on_start_verdict, response_step, start_of, verdict_on}
use Rattle.oftp_session.specs.Receiving.{came_receiving, carried_by, data_step, end_step, is_window_full, on_end_verdict, on_taken, reason_of, with_payload}
use Rattle.oftp_session.specs.Speaker.{came_awaiting_rtr, nothing_next, offers, on_item, response_of, speaks}
use Rattle.oftp_session.specs.Sending.{came_awaiting_end, came_awaiting_start, came_sending, credit_left, payloads_in, sends_next, turned_sending}
use Rattle.oftp_session.specs.Steps.{came, turned}
use Rattle.oftp_session.proofs.Turns.{each_turn}

-- a reason other than that of ESID 08
abbrev pub IsOther : SessionReason → Type 0
IsOther reason = reason ≢ ResourcesNotAvailable

-- a change that starts a file with this number of its rows
pub record StartsWith (count : ℕ) (change : Change) : Type 0 where
  pub identity : Identity
  pub format : Format
  pub longest : ℕ
  pub description : List ℕ
  pub is : change ≡ Start identity format longest description count

-- An ESID is for such a reason. An SFPA is sent by a step whose change starts a file with the Restart position that it answers.
abbrev pub MayBeSaid : Option Command → Option Change → Type 0
MayBeSaid None change = Unit {0}
MayBeSaid (Some (command.Esid esid)) change = (reason : SessionReason) × IsOther reason × (command.Esid esid ≡ esid_of reason)
MayBeSaid (Some (command.Sfpa sfpa)) change = (k : Change) × (change ≡ Some k) × StartsWith sfpa.restart k
MayBeSaid (Some _) change = Unit {0}

abbrev pub MaySay : Step → Type 0
MaySay s = MayBeSaid s.output s.change

pub fails_may : (reason : SessionReason) → IsOther reason → MaySay (fails reason)
fails_may reason other = (reason, other, refl)

either : (b : Bool) (x y : Step) → MaySay x → MaySay y → MaySay (cond b x y)
either true x y h k = h
either false x y h k = k

violates : IsOther ProtocolViolation
violates e = cc

misses : IsOther InvalidData
misses e = cc

unexpected_may : (c : Command) → MaySay (unexpected c)
unfolding unexpected
unexpected_may (command.Esid esid) = tt
unexpected_may _ = fails_may ProtocolViolation violates

-- a session that opens

abbrev RefusesElse : Result Agreement SessionReason → Type 0
RefusesElse (Ok a) = Unit {0}
RefusesElse (Err reason) = IsOther reason

test : (b : Bool) (x y : Result Agreement SessionReason) → RefusesElse x → RefusesElse y → RefusesElse (cond b x y)
test true x y h k = h
test false x y h k = k

agreement_else : (setting : Setting) (ssid : Ssid) (partner : Option Partner) → RefusesElse (agreement setting ssid partner)
agreement_else setting ssid None = λ e. cc
agreement_else setting ssid (Some partner) =
    test (not (bytes_eq ssid.password partner.expects)) _ _ (λ e. cc)
    (test (is_initiator setting && (ssid.compression || ssid.special_logic)) _ _ (λ e. cc)
    (test (is_opposed partner.mode ssid.mode) _ _ (λ e. cc) (test ssid.authentication _ _ (λ e. cc) tt)))

verdict_else : (setting : Setting) (ssid : Ssid) → RefusesElse (ssid_verdict setting ssid)
unfolding ssid_verdict
verdict_else setting ssid =
    test (not (ssid.level == 5)) _ _ (λ e. cc)
    (test (nat_lt ssid.buffer 128 || ssid.credit == 0) _ _ misses (agreement_else setting ssid (partner_for setting ssid.code)))

calling_may : (setting : Setting) (called : Option Partner) → MaySay (calling_step setting called)
calling_may setting None = fails_may ProtocolViolation violates
calling_may setting (Some partner) = tt

initiate_may : (setting : Setting) (c : Command) → MaySay (came_initiator_opening setting c)
unfolding came_initiator_opening
initiate_may setting command.Ssrm = calling_may setting setting.called
initiate_may setting other = unexpected_may other

open_may : (setting : Setting) (letter : Mode) (a : Agreement) (called : Option Partner) → MaySay (open_step setting letter a called)
open_may setting letter a None = tt
open_may setting letter a (Some partner) = tt

opened_may : (setting : Setting) (letter : Mode) (verdict : Result Agreement SessionReason) → RefusesElse verdict → MaySay (opened_step setting letter verdict)
opened_may setting letter (Ok a) h = open_may setting letter a setting.called
opened_may setting letter (Err reason) h = fails_may reason h

await_may : (setting : Setting) (c : Command) → MaySay (came_awaiting_ssid setting c)
unfolding came_awaiting_ssid
await_may setting (command.Ssid ssid) = opened_may setting ssid.mode (ssid_verdict setting ssid) (verdict_else setting ssid)
await_may setting other = unexpected_may other

-- commands that arrive at a listener

start_may : (contact : Contact) (r : Register) (sfid : Sfid) (verdict : StartVerdict) → MaySay (on_start_verdict contact r sfid verdict)
start_may contact r sfid (start.Accept count) = (
  start_of sfid count,
  refl,
  record { identity = offered_identity sfid; format = format_of sfid.layout; longest = longest_of sfid.layout; description = sfid.description; is = refl },
)
start_may contact r sfid (start.Refuse reason retry) = tt

sfid_may : (setting : Setting) (contact : Contact) (r : Register) (sfid : Sfid) → MaySay (offer_step setting contact r sfid)
unfolding offer_step
sfid_may setting contact r sfid = start_may contact r sfid (verdict_on setting contact r sfid)

response_may : (setting : Setting) (contact : Contact) (r : Register) (response : Received) → MaySay (response_step setting contact r response)
unfolding response_step
response_may setting contact r response = either (is_between setting contact response.identity) _ _ tt (fails_may InvalidData misses)

listener_may : (setting : Setting) (contact : Contact) (r : Register) (c : Command) → MaySay (came_listener_idle setting contact r c)
unfolding came_listener_idle
listener_may setting contact r (command.Sfid sfid) = sfid_may setting contact r sfid
listener_may setting contact r (command.Eerp eerp) = response_may setting contact r (end_response eerp)
listener_may setting contact r (command.Nerp nerp) = response_may setting contact r (negative_end_response nerp)
listener_may setting contact r command.Cd = tt
listener_may setting contact r other = unexpected_may other

-- a file that is received

fault_else : (fault : TakeFault) → IsOther (unwrap_or (reason_of fault) ProtocolViolation)
fault_else Cut = misses
fault_else Compressed = violates
fault_else RecordSize = misses
fault_else AfterEnd = violates
fault_else TooBig = misses
fault_else Memory = violates

taken_may : (contact : Contact) (f : Receipt) (payload : List ℕ) (read : Result Taking TakeFault) → MaySay (on_taken contact f payload read)
taken_may contact f payload (Ok t) = either (is_window_full contact (with_payload f payload)) _ _ tt tt
taken_may contact f payload (Err fault) = fails_may (unwrap_or (reason_of fault) ProtocolViolation) (fault_else fault)

data_may : (contact : Contact) (f : Receipt) (payload : List ℕ) → MaySay (data_step contact f payload)
unfolding data_step
data_may contact f payload =
    either (nat_lt contact.link.buffer (length payload + 1)) _ _ (fails_may BufferSizeError (λ e. cc)) (taken_may contact f payload (taken (carried_by f) payload))

close_may : (contact : Contact) (r : Register) (f : Receipt) (t : Taking) (verdict : EndVerdict) → MaySay (on_end_verdict contact r f t verdict)
close_may contact r f t «end».Accept = tt
close_may contact r f t («end».Refuse reason) = tt

end_may : (contact : Contact) (r : Register) (f : Receipt) (efid : Efid) → MaySay (end_step contact r f efid)
unfolding end_step
end_may contact r f efid =
    let t = carried_by f in
    either (is_open t.stage) _ _ (fails_may ProtocolViolation violates) (close_may contact r f t (end_verdict efid (counts_of t).0 (counts_of t).1))

receiving_may : (contact : Contact) (r : Register) (f : Receipt) (c : Command) → MaySay (came_receiving contact r f c)
unfolding came_receiving
receiving_may contact r f (command.Data payload) = data_may contact f payload
receiving_may contact r f (command.Efid efid) = end_may contact r f efid
receiving_may contact r f other = unexpected_may other

-- commands that arrive at a speaker

rtr_may : (contact : Contact) (number : ℕ) (c : Command) → MaySay (came_awaiting_rtr contact number c)
unfolding came_awaiting_rtr
rtr_may contact number command.Rtr = tt
rtr_may contact number other = unexpected_may other

answer_may : (contact : Contact) (offer : Offer) (c : Command) → MaySay (came_awaiting_start contact offer c)
unfolding came_awaiting_start
answer_may contact offer (command.Sfpa sfpa) = either (nat_le sfpa.restart offer.from) _ _ tt (fails_may ProtocolViolation violates)
answer_may contact offer (command.Sfna sfna) = tt
answer_may contact offer other = unexpected_may other

sending_may : (contact : Contact) (t : Transfer) (c : Command) → MaySay (came_sending contact t c)
unfolding came_sending
sending_may contact t command.Cdt = either (nat_lt 0 (credit_left contact t)) _ _ (fails_may ProtocolViolation violates) tt
sending_may contact t other = unexpected_may other

ended_may : (contact : Contact) (t : Transfer) (c : Command) → MaySay (came_awaiting_end contact t c)
unfolding came_awaiting_end
ended_may contact t (command.Efpa efpa) = tt
ended_may contact t (command.Efna efna) = tt
ended_may contact t other = unexpected_may other

-- commands that arrive, in each phase
module _ (setting : Setting) (r : Register) (c : Command) where
  pub came_may : (p : Phase) → MaySay (came setting p r c)
  unfolding came
  came_may ResponderOpening = unexpected_may c
  came_may InitiatorOpening = initiate_may setting c
  came_may AwaitingSsid = await_may setting c
  came_may (ListenerIdle contact) = listener_may setting contact r c
  came_may (Receiving contact f) = receiving_may contact r f c
  came_may (SpeakerIdle contact done) = unexpected_may c
  came_may (GivingWay contact) = unexpected_may c
  came_may (AwaitingRtr contact number) = rtr_may contact number c
  came_may (AwaitingStart contact offer) = answer_may contact offer c
  came_may (Sending contact t) = sending_may contact t c
  came_may (AwaitingEnd contact t) = ended_may contact t c
  came_may (EndedHere reason) = tt
  came_may (EndedThere reason) = tt

-- a turn

nothing_may : (contact : Contact) (done : WhenDone) → MaySay (nothing_next contact done)
nothing_may contact ChangeDirection = tt
nothing_may contact EndSession = fails_may Normal (λ e. cc)

kind_may : (station : List ℕ) (e : IssuedEntry) (kind : ResponseKind) → MayBeSaid (Some (response_of station e kind)) None
kind_may station e EndResponse = tt
kind_may station e NegativeEndResponse = tt

offered_may : (contact : Contact) (done : WhenDone) (number : ℕ) (file : Option Outgoing) → MaySay (offers contact done number file)
offered_may contact done number (Some file) = tt
offered_may contact done number None = nothing_may contact done

item_may : (setting : Setting) (contact : Contact) (done : WhenDone) (r : Register) (found : Option Item) → MaySay (on_item setting contact done r found)
item_may setting contact done r (Some (item.Response e)) = kind_may setting.book.station.code e e.response.kind
item_may setting contact done r (Some (item.File e)) = offered_may contact done e.no (entry_at e.no r.outgoing)
item_may setting contact done r None = nothing_may contact done

speaks_may : (setting : Setting) (contact : Contact) (done : WhenDone) (r : Register) → MaySay (speaks setting contact done r)
unfolding speaks
speaks_may setting contact done r = item_may setting contact done r (next_item r contact.code contact.tried contact.link.sends)

next_may : (contact : Contact) (t : Transfer) (payload : Option (List ℕ)) → MaySay (sends_next contact t payload)
next_may contact t (Some payload) = tt
next_may contact t None = tt

sends_may : (contact : Contact) (t : Transfer) → MaySay (turned_sending contact t)
unfolding turned_sending
sends_may contact t = either (nat_lt 0 (credit_left contact t)) _ _ (next_may contact t (slice_get (payloads_in contact t) t.sent)) tt

pub turned_may : (setting : Setting) (r : Register) (p : Phase) → MaySay (turned setting p r)
turned_may setting r = each_turn (λ p s. MaySay s) setting r (record {
  greeting = tt;
  speaking = λ contact done. speaks_may setting contact done r;
  giving_way = λ contact. tt;
  sending = sends_may;
  waiting = λ p. tt;
})
