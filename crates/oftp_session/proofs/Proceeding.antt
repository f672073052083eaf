-- Each step from a register that suits its phase can be made, by cases of phase.
use Rattle.std.proofs.Common.{◌≡◌, ℕ, ◌+◌, nat_lt, Bool, true, false, cond, List, [], ◌∷◌, length, Option, None, Some, Result, Ok, Err, refl, sym, ap, subst, is_ok}
use Rattle.std.specs.Result.{result_unwrap_or}
use Rattle.oftp_wire.specs.declared.command.Command.{Command}
use Rattle.oftp_wire.specs.declared.command.Command.TheVariants as command
use Rattle.oftp_wire.specs.declared.command.Efid.{Efid}
use Rattle.oftp_wire.specs.declared.command.Mode.{Mode}
use Rattle.oftp_wire.specs.declared.command.Sfid.{Sfid}
use Rattle.oftp_wire.specs.declared.reason.SessionReason.{SessionReason}
use Rattle.oftp_wire.specs.declared.reason.SessionReason.TheVariants.{BufferSizeError, InvalidData, ProtocolViolation}
use Rattle.oftp_vfile.specs.declared.fault.TakeFault.{TakeFault}
use Rattle.oftp_vfile.specs.Carries.{is_open}
use Rattle.oftp_vfile.specs.Reading.{taken}
use Rattle.oftp_vfile.specs.Taking.{Taking, counts_of}
use Rattle.oftp_partners.specs.declared.partner.Partner.{Partner}
use Rattle.oftp_register.specs.declared.change.Cause.{Cause}
use Rattle.oftp_register.specs.declared.change.Change.TheVariants.{Keep}
use Rattle.oftp_register.specs.declared.verdicts.EndVerdict.{EndVerdict}
use Rattle.oftp_register.specs.declared.verdicts.EndVerdict.TheVariants as «end»
use Rattle.oftp_register.specs.declared.verdicts.StartVerdict.{StartVerdict}
use Rattle.oftp_register.specs.declared.verdicts.StartVerdict.TheVariants as start
use Rattle.oftp_register.specs.Register.{Register, Received, has_received}
use Rattle.oftp_register.specs.Soundness.{IsFit, IsSound, IsSoundReceived}
use Rattle.oftp_register.specs.Verdicts.{end_verdict}
use Rattle.oftp_register.proofs.EntryLemmas.{give_up_fit}
use Rattle.oftp_session.specs.declared.state.Contact.{Contact}
use Rattle.oftp_session.specs.Settings.{Setting}
use Rattle.oftp_session.specs.Phases.{Phase, Receipt, ResponderOpening, InitiatorOpening, AwaitingSsid, ListenerIdle, Receiving, SpeakerIdle, GivingWay, AwaitingRtr, AwaitingStart, Sending, AwaitingEnd, EndedHere, EndedThere, answers, fails, quiet, register_after}
use Rattle.oftp_session.specs.Opening.{Agreement, came_initiator_opening, came_awaiting_ssid, calling_step, opened_step, open_step, ssid_verdict}
use Rattle.oftp_session.specs.Receiving.{came_receiving, carried_by, data_step, end_step, is_window_full, keeping, on_end_verdict, on_taken, rows_to_keep, window_step, with_payload, with_rows}
use Rattle.oftp_session.specs.Listener.{came_listener_idle, end_response, negative_end_response, response_step, filing, file_of, is_between, on_start_verdict, receipt_of, sfpa_of, start_of, verdict_on, offer_step}
use Rattle.oftp_session.specs.InsideListener.{MayBegin}
use Rattle.oftp_session.specs.Steps.{came, turned, IsReceived, Suits}
use Rattle.oftp_session.specs.Calls.{Proceeds}
use Rattle.oftp_session.specs.Inside.{IsAccepted}
use Rattle.oftp_session.proofs.Accepting.{accepted_proceeds, same_proceeds, unexpected_proceeds}
use Rattle.oftp_session.proofs.Ends.{close_accepted, close_fits, give_up_accepted}
use Rattle.oftp_session.proofs.Filing.{files_new, files_fit}
use Rattle.oftp_session.proofs.Receipts.{carried_next, keep_accepted, keep_after, keep_fits, payload_holds}
use Rattle.oftp_session.proofs.Continuing.{end_answer_proceeds, rtr_proceeds, sending_proceeds, sends_proceeds, speaks_proceeds, start_answer_proceeds}
use Rattle.oftp_session.proofs.Starts.{accepted_begins}
use Rattle.oftp_session.proofs.Turns.{each_turn}

-- a response is added if it is new
new_proceeds : (contact : Contact) (r : Register) (response : Received) → IsSound r → IsSoundReceived response
    → has_received r response.kind response.identity ≡ false → Proceeds r (answers (ListenerIdle contact) (Some (file_of response)) command.Rtr)
new_proceeds contact r response sound fit new =
    accepted_proceeds r (ListenerIdle contact) (file_of response) (Some command.Rtr) sound
    (files_fit r response.kind response.identity response.reason response.creator response.text fit)
    (files_new r response.kind response.identity response.reason response.creator response.text new) tt

filed_proceeds : (contact : Contact) (r : Register) (response : Received) → IsSound r → IsSoundReceived response → Proceeds r (answers (ListenerIdle contact) (filing r response) command.Rtr)
filed_proceeds contact r response sound fit = at (has_received r response.kind response.identity) refl
  where
    at : (there : Bool) → has_received r response.kind response.identity ≡ there → Proceeds r (answers (ListenerIdle contact) (cond there None (Some (file_of response))) command.Rtr)
    at true h = same_proceeds r _ _ sound tt
    at false h = new_proceeds contact r response sound fit h

response_proceeds : (setting : Setting) (contact : Contact) (r : Register) (response : Received) → IsSound r → IsSoundReceived response → Proceeds r (response_step setting contact r response)
unfolding response_step
response_proceeds setting contact r response sound fit = at (is_between setting contact response.identity)
  where
    at : (between : Bool) → Proceeds r (cond between (answers (ListenerIdle contact) (filing r response) command.Rtr) (fails InvalidData))
    at true = filed_proceeds contact r response sound fit
    at false = same_proceeds r _ _ sound tt

-- a file begins
start_proceeds : (contact : Contact) (r : Register) (sfid : Sfid) (count : ℕ) → IsSound r → MayBegin r sfid count → Proceeds r (on_start_verdict contact r sfid (start.Accept count))
start_proceeds contact r sfid count sound may =
    let after : may.after ≡ register_after r (Some (start_of sfid count)) = sym (ap (λ (q : Result Register Cause). result_unwrap_or q r) may.made) in
    accepted_proceeds r (Receiving contact (receipt_of r sfid count)) (start_of sfid count) (Some (sfpa_of count)) sound may.fit (ap is_ok may.made)
    (subst (λ (s : Register). IsReceived s (receipt_of r sfid count)) after may.received)

sfid_proceeds : (setting : Setting) (contact : Contact) (r : Register) (sfid : Sfid) → IsSound r → Proceeds r (offer_step setting contact r sfid)
unfolding offer_step
sfid_proceeds setting contact r sfid sound = by (verdict_on setting contact r sfid) refl
  where
    by : (verdict : StartVerdict) → verdict_on setting contact r sfid ≡ verdict → Proceeds r (on_start_verdict contact r sfid verdict)
    by (start.Accept count) h = start_proceeds contact r sfid count sound (accepted_begins setting contact r sfid count sound h)
    by (start.Refuse reason retry) h = same_proceeds r _ _ sound tt

-- rows are stored, if there are any
keep_proceeds : (contact : Contact) (r : Register) (g : Receipt) → IsSound r → IsReceived r g
    → let rows = rows_to_keep g (carried_by g) in Proceeds r (answers (Receiving contact (with_rows g rows)) (keeping g.number rows) command.Cdt)
keep_proceeds contact r g sound holds = by (rows_to_keep g (carried_by g)) refl
  where
    by : (rows : List (List ℕ)) → rows_to_keep g (carried_by g) ≡ rows → Proceeds r (answers (Receiving contact (with_rows g rows)) (keeping g.number rows) command.Cdt)
    by [] e = same_proceeds r _ _ sound (subst (λ (x : List (List ℕ)). IsReceived (register_after r (keeping g.number x)) (with_rows g x)) e (keep_after r g holds))
    by (x ∷ xs) e =
        accepted_proceeds r (Receiving contact (with_rows g (x ∷ xs))) (Keep g.number (x ∷ xs)) (Some command.Cdt) sound
        (subst (λ (rows : List (List ℕ)). IsFit r (Keep g.number rows)) e (keep_fits r g holds))
        (subst (λ (rows : List (List ℕ)). IsAccepted r (Keep g.number rows)) e (keep_accepted r g holds))
        (subst (λ (rows : List (List ℕ)). IsReceived (register_after r (keeping g.number rows)) (with_rows g rows)) e (keep_after r g holds))

window_proceeds : (contact : Contact) (r : Register) (g : Receipt) → IsSound r → IsReceived r g → Proceeds r (window_step contact g (rows_to_keep g (carried_by g)))
window_proceeds contact r g sound holds = by (is_window_full contact g)
  where
    by : (full : Bool) → let rows = rows_to_keep g (carried_by g) in
        Proceeds r (cond full (answers (Receiving contact (with_rows g rows)) (keeping g.number rows) command.Cdt) (quiet (Receiving contact g)))
    by true = keep_proceeds contact r g sound holds
    by false = same_proceeds r _ _ sound holds

-- a payload
taken_proceeds : (contact : Contact) (r : Register) (f : Receipt) (payload : List ℕ) → IsSound r → IsReceived r f → Proceeds r (on_taken contact f payload (taken (carried_by f) payload))
taken_proceeds contact r f payload sound holds = by (taken (carried_by f) payload) refl
  where
    by : (result : Result Taking TakeFault) → taken (carried_by f) payload ≡ result → Proceeds r (on_taken contact f payload result)
    by (Ok t) h =
        let g = with_payload f payload in
        subst (λ (x : Taking). Proceeds r (window_step contact g (rows_to_keep g x))) (carried_next f payload t h) (window_proceeds contact r g sound (payload_holds r f t payload holds h))
    by (Err fault) h = same_proceeds r _ _ sound tt

data_proceeds : (contact : Contact) (r : Register) (f : Receipt) (payload : List ℕ) → IsSound r → IsReceived r f → Proceeds r (data_step contact f payload)
unfolding data_step
data_proceeds contact r f payload sound holds = by (nat_lt contact.link.buffer (length payload + 1))
  where
    by : (long : Bool) → Proceeds r (cond long (fails BufferSizeError) (on_taken contact f payload (taken (carried_by f) payload)))
    by true = same_proceeds r _ _ sound tt
    by false = taken_proceeds contact r f payload sound holds

-- the end of a file
end_proceeds : (contact : Contact) (r : Register) (f : Receipt) (efid : Efid) → IsSound r → IsReceived r f → Proceeds r (end_step contact r f efid)
unfolding end_step
end_proceeds contact r f efid sound holds = by (is_open (carried_by f).stage) refl
  where
    ends : (verdict : EndVerdict) → is_open (carried_by f).stage ≡ false → Proceeds r (on_end_verdict contact r f (carried_by f) verdict)
    ends «end».Accept shut = accepted_proceeds r (ListenerIdle contact) _ _ sound (close_fits r f sound holds shut) (close_accepted r f _ holds) tt
    ends («end».Refuse reason) shut = accepted_proceeds r (ListenerIdle contact) _ _ sound (give_up_fit r f.number) (give_up_accepted r f holds) tt

    by : (was : Bool) → is_open (carried_by f).stage ≡ was
        → Proceeds r (cond was (fails ProtocolViolation) (on_end_verdict contact r f (carried_by f) (end_verdict efid (counts_of (carried_by f)).0 (counts_of (carried_by f)).1)))
    by true e = same_proceeds r _ _ sound tt
    by false e = ends _ e

receiving_proceeds : (contact : Contact) (r : Register) (f : Receipt) (c : Command) → IsSound r → IsReceived r f → Proceeds r (came_receiving contact r f c)
unfolding came_receiving
receiving_proceeds contact r f (command.Data payload) sound holds = data_proceeds contact r f payload sound holds
receiving_proceeds contact r f (command.Efid efid) sound holds = end_proceeds contact r f efid sound holds
receiving_proceeds contact r f other sound holds = unexpected_proceeds r other sound

listener_proceeds : (setting : Setting) (contact : Contact) (r : Register) (c : Command) → IsSound r → Proceeds r (came_listener_idle setting contact r c)
unfolding came_listener_idle
listener_proceeds setting contact r (command.Sfid sfid) sound = sfid_proceeds setting contact r sfid sound
listener_proceeds setting contact r (command.Eerp eerp) sound = response_proceeds setting contact r (end_response eerp) sound (refl, refl, refl)
listener_proceeds setting contact r (command.Nerp nerp) sound = response_proceeds setting contact r (negative_end_response nerp) sound tt
listener_proceeds setting contact r command.Cd sound = same_proceeds r _ _ sound tt
listener_proceeds setting contact r other sound = unexpected_proceeds r other sound

offer_proceeds : (setting : Setting) (called : Option Partner) (r : Register) → IsSound r → Proceeds r (calling_step setting called)
offer_proceeds setting None r sound = same_proceeds r _ _ sound tt
offer_proceeds setting (Some partner) r sound = same_proceeds r _ _ sound tt

initiate_proceeds : (setting : Setting) (r : Register) (c : Command) → IsSound r → Proceeds r (came_initiator_opening setting c)
unfolding came_initiator_opening
initiate_proceeds setting r command.Ssrm sound = offer_proceeds setting setting.called r sound
initiate_proceeds setting r other sound = unexpected_proceeds r other sound

open_proceeds : (setting : Setting) (letter : Mode) (a : Agreement) (called : Option Partner) (r : Register) → IsSound r → Proceeds r (open_step setting letter a called)
open_proceeds setting letter a None r sound = same_proceeds r _ _ sound tt
open_proceeds setting letter a (Some partner) r sound = same_proceeds r _ _ sound tt

opened_proceeds : (setting : Setting) (letter : Mode) (verdict : Result Agreement SessionReason) (r : Register) → IsSound r → Proceeds r (opened_step setting letter verdict)
opened_proceeds setting letter (Ok a) r sound = open_proceeds setting letter a setting.called r sound
opened_proceeds setting letter (Err reason) r sound = same_proceeds r _ _ sound tt

await_proceeds : (setting : Setting) (r : Register) (c : Command) → IsSound r → Proceeds r (came_awaiting_ssid setting c)
unfolding came_awaiting_ssid
await_proceeds setting r (command.Ssid ssid) sound = opened_proceeds setting ssid.mode (ssid_verdict setting ssid) r sound
await_proceeds setting r other sound = unexpected_proceeds r other sound

-- a command that arrives
pub came_proceeds : (setting : Setting) (p : Phase) (r : Register) (c : Command) → Suits p r → Proceeds r (came setting p r c)
unfolding came
came_proceeds setting ResponderOpening r c suits = unexpected_proceeds r c suits.sound
came_proceeds setting InitiatorOpening r c suits = initiate_proceeds setting r c suits.sound
came_proceeds setting AwaitingSsid r c suits = await_proceeds setting r c suits.sound
came_proceeds setting (ListenerIdle contact) r c suits = listener_proceeds setting contact r c suits.sound
came_proceeds setting (Receiving contact f) r c suits = receiving_proceeds contact r f c suits.sound suits.holds
came_proceeds setting (SpeakerIdle contact done) r c suits = unexpected_proceeds r c suits.sound
came_proceeds setting (GivingWay contact) r c suits = unexpected_proceeds r c suits.sound
came_proceeds setting (AwaitingRtr contact number) r c suits = rtr_proceeds contact number r c suits.sound suits.holds
came_proceeds setting (AwaitingStart contact offer) r c suits = start_answer_proceeds contact offer r c suits.sound suits.holds
came_proceeds setting (Sending contact t) r c suits = sending_proceeds contact t r c suits.sound suits.holds
came_proceeds setting (AwaitingEnd contact t) r c suits = end_answer_proceeds contact t r c suits.sound suits.holds
came_proceeds setting (EndedHere reason) r c suits = same_proceeds r _ _ suits.sound tt
came_proceeds setting (EndedThere reason) r c suits = same_proceeds r _ _ suits.sound tt

-- a turn
pub turned_proceeds : (setting : Setting) (p : Phase) (r : Register) → Suits p r → Proceeds r (turned setting p r)
turned_proceeds setting p r = each_turn (λ q step. Suits q r → Proceeds r step) setting r (record {
  greeting = λ suits. same_proceeds r _ _ suits.sound tt;
  speaking = λ contact done suits. speaks_proceeds setting contact done r suits.sound;
  giving_way = λ contact suits. same_proceeds r _ _ suits.sound tt;
  sending = λ contact t suits. sends_proceeds contact t r suits.sound suits.holds;
  waiting = λ q suits. same_proceeds r _ _ suits.sound suits.holds;
}) p
