-- Each step of a session that is in its ranges sends a command that a frame can hold. It stays in its ranges, by cases of phase.
use Rattle.std.proofs.Common.{◌≡◌, ℕ, suc, ◌+◌, ◌<◌, ◌≤◌, ◌==◌, ◌&&◌, nat_le, nat_lt, Bool, true, false, cond, List, [], ◌∷◌, length, Option, None, Some, slice_get, Result, Ok, Err, refl, sym, subst, arith}
use Rattle.std.specs.Option.{IfSome}
use Rattle.std.specs.Str.{bytes_eq}
use Rattle.oftp_wire.specs.declared.command.Command.{Command}
use Rattle.oftp_wire.specs.declared.command.Command.TheVariants as command
use Rattle.oftp_wire.specs.declared.command.Sfid.{Sfid}
use Rattle.oftp_wire.specs.declared.command.Sfna.{Sfna}
use Rattle.oftp_wire.specs.declared.command.Ssid.{Ssid}
use Rattle.oftp_wire.specs.declared.reason.SessionReason.{SessionReason}
use Rattle.oftp_wire.specs.declared.reason.SessionReason.TheVariants.{BufferSizeError, InvalidData, Normal, ProtocolViolation}
use Rattle.oftp_wire.specs.declared.reason.StartReason.TheVariants.{DuplicateFile}
use Rattle.oftp_wire.specs.Octets.{IsName}
use Rattle.oftp_wire.specs.Reasons.{start_number}
use Rattle.oftp_codec.specs.Spelling.{IsFit}
use Rattle.oftp_partners.specs.Book.{IsBook, IsPartner}
use Rattle.oftp_partners.specs.Fields.{IsBufferSize}
use Rattle.oftp_partners.specs.declared.partner.Partner.{Partner}
use Rattle.oftp_vfile.specs.declared.fault.TakeFault.{TakeFault}
use Rattle.oftp_vfile.specs.declared.format.TheConstants.{MOST_ROWS}
use Rattle.oftp_vfile.specs.Carries.{is_open}
use Rattle.oftp_vfile.specs.Fill.{records_of}
use Rattle.oftp_vfile.specs.Reading.{taken}
use Rattle.oftp_vfile.specs.Taking.{Taking, counts_of}
use Rattle.oftp_vfile.proofs.FillListLemmas.{fill_fits}
use Rattle.oftp_register.specs.declared.change.Change.TheVariants.{HandOver, Mark, Refuse, Reopen}
use Rattle.oftp_register.specs.declared.entries.IssuedEntry.{IssuedEntry}
use Rattle.oftp_register.specs.declared.entries.IssuedResponse.{IssuedResponse}
use Rattle.oftp_register.specs.declared.entries.Item.{Item}
use Rattle.oftp_register.specs.declared.entries.Item.TheVariants as item
use Rattle.oftp_register.specs.declared.entry.ResponseKind.{ResponseKind}
use Rattle.oftp_register.specs.declared.entry.ResponseKind.TheVariants.{EndResponse, NegativeEndResponse}
use Rattle.oftp_register.specs.declared.verdicts.EndVerdict.{EndVerdict}
use Rattle.oftp_register.specs.declared.verdicts.EndVerdict.TheVariants as «end»
use Rattle.oftp_register.specs.declared.verdicts.StartVerdict.{StartVerdict}
use Rattle.oftp_register.specs.declared.verdicts.StartVerdict.TheVariants as start
use Rattle.oftp_register.specs.Register.{Incoming, Outgoing, Received, Register, has_received}
use Rattle.oftp_register.specs.Changes.{is_closing}
use Rattle.oftp_register.specs.LookUps.{entry_at, next_item, next_response}
use Rattle.oftp_register.specs.Soundness.{IsSound, IsSoundIncoming, IsSoundOutgoing}
use Rattle.oftp_register.specs.Verdicts.{end_verdict, offered_identity}
use Rattle.oftp_register.proofs.EntryLemmas.{all_at}
use Rattle.oftp_register.proofs.KeepLemmas.{apply_keeps}
use Rattle.oftp_session.specs.Links.{LinkData}
use Rattle.oftp_session.specs.declared.link.WhenDone.{WhenDone}
use Rattle.oftp_session.specs.declared.link.WhenDone.TheVariants.{ChangeDirection, EndSession}
use Rattle.oftp_session.specs.declared.state.Contact.{Contact}
use Rattle.oftp_session.specs.Settings.{Setting}
use Rattle.oftp_session.specs.Phases.{Offer, Phase, Receipt, Step, Transfer, answers, changes, esid_of, fails, quiet, register_after, says, unexpected}
use Rattle.oftp_session.specs.Phases.{AwaitingEnd, AwaitingRtr, AwaitingSsid, AwaitingStart, EndedHere, EndedThere, GivingWay, InitiatorOpening, ListenerIdle, Receiving, ResponderOpening, Sending, SpeakerIdle}
use Rattle.oftp_session.specs.Opening.{Agreement, answered_mode, called_as, calling_step, came_awaiting_ssid, came_initiator_opening, open_step, opened_step, ssid_verdict}
use Rattle.oftp_session.specs.Listener.{came_listener_idle, end_response, file_of, filing, is_between, negative_end_response, offer_step, on_start_verdict, response_step, verdict_on}
use Rattle.oftp_session.specs.Receiving.{came_receiving, carried_by, data_step, end_step, is_window_full, keeping, on_end_verdict, on_taken, rows_to_keep, with_payload, with_rows}
use Rattle.oftp_session.specs.Speaker.{came_awaiting_rtr, nothing_next, offered_from, offers, on_item, response_of, speaks}
use Rattle.oftp_session.specs.Sending.{came_awaiting_end, came_awaiting_start, came_sending, credit_left, credited, new_mark, payload_size, payloads_in, refusal, reopening, rows_from, sends_next, transfer_of, turned_sending}
use Rattle.oftp_session.specs.Steps.{IsSent, Suits, came, turned}
use Rattle.oftp_session.specs.Calls.{Proceeds}
use Rattle.oftp_session.proofs.Items.{a_response}
use Rattle.oftp_session.proofs.Proceeding.{came_proceeds, turned_proceeds}
use Rattle.oftp_session.proofs.Starts.{accepted_begins}
use Rattle.oftp_session.proofs.Turns.{each_turn}
use Rattle.oftp_engine.specs.Queues.{IsSayable}
use Rattle.oftp_engine.specs.Ranges.{AreWords, IsIdentity, IsSpellable, IsSpellableAnswer, IsSpellableIncoming, IsSpellableOutgoing}
use Rattle.oftp_engine.proofs.Phases.{fails_proceed}
use Rattle.oftp_engine.proofs.Room.{SizesOf, agreed_so, came_buffer, turned_buffer}
use Rattle.oftp_engine.proofs.Sayable.{cd_sayable, cdt_sayable, data_sayable, eerp_sayable, efid_sayable, efna_sayable, efpa_sayable, esid_sayable, nerp_sayable, rtr_sayable, sfid_sayable, sfna_sayable, sfpa_sayable, ssid_sayable, ssrm_sayable}
use Rattle.oftp_engine.proofs.IssuedEntries.{IsIssuedEntry, issued_found}
use Rattle.oftp_engine.proofs.Spellable.{IsSpellableChange, makes_spellable, partner_is}
use Rattle.oftp_engine.proofs.Standing.{OfBuffer}

-- a session in its ranges
pub record IsInRange (setting : Setting) (p : Phase) (r : Register) : Type 0 where
  pub book : IsBook setting.book
  pub called : IfSome setting.called IsPartner
  pub suits : Suits p r
  pub buffer : OfBuffer IsBufferSize p
  pub spellable : IsSpellable r

-- what a step sends, and what its change adds, is in its ranges
pub record StepSpells (step : Step) : Type 0 where
  pub said : IfSome step.output IsSayable
  pub change : IfSome step.change IsSpellableChange

either : (b : Bool) (x y : Step) → StepSpells x → StepSpells y → StepSpells (cond b x y)
either true x y h k = h
either false x y h k = k

-- steps that are alike

quiet_spells : (p : Phase) → StepSpells (quiet p)
quiet_spells p = record { said = tt; change = tt }

says_spells : (p : Phase) (c : Command) → IsSayable c → StepSpells (says p c)
says_spells p c say = record { said = say; change = tt }

fails_spells : (reason : SessionReason) → StepSpells (fails reason)
fails_spells reason = says_spells (EndedHere reason) (esid_of reason) (esid_sayable reason)

unexpected_spells : (c : Command) → StepSpells (unexpected c)
unfolding unexpected
unexpected_spells (command.Esid esid) = quiet_spells (EndedThere esid.reason)
unexpected_spells _ = fails_spells ProtocolViolation

-- a session that opens

called_is : (setting : Setting) (code : List ℕ) (called : Option Partner) (partner : Partner) → IsBook setting.book → IfSome called IsPartner
    → called_as code setting.book.partners called ≡ Some partner → IsPartner partner
called_is setting code None partner book it h = partner_is setting.book code partner book h
called_is setting code (Some own) partner book it h = by (bytes_eq code own.code) h
  where
    by : (b : Bool) → cond b (Some own) None ≡ Some partner → IsPartner partner
    by true g = let is : own ≡ partner = cc in subst IsPartner is it
    by false g = absurd (cc)

module _ (setting : Setting) (book : IsBook setting.book) (called : IfSome setting.called IsPartner) where
  calling_spells : (whom : Option Partner) → IfSome whom IsPartner → StepSpells (calling_step setting whom)
  calling_spells None it = fails_spells ProtocolViolation
  calling_spells (Some partner) it =
      let own = book.station in
      says_spells AwaitingSsid _
      (ssid_sayable setting.book partner setting.book.station.buffer setting.book.station.credit setting.book.station.restart partner.mode own it own.buffer.1 own.credit.1)

  initiate_spells : (c : Command) → StepSpells (came_initiator_opening setting c)
  unfolding came_initiator_opening
  initiate_spells command.Ssrm = calling_spells setting.called called
  initiate_spells other = unexpected_spells other

  open_spells : (ssid : Ssid) (a : Agreement) (whom : Option Partner) → ssid_verdict setting ssid ≡ Ok a → StepSpells (open_step setting ssid.mode a whom)
  open_spells ssid a None h =
      let it = agreed_so setting ssid a h in
      let own = book.station in
      let small : a.link.buffer ≤ 16384 = subst (λ (link : LinkData). link.buffer ≤ 16384) it.link (omega (arith, own.buffer.1)) in
      let few : a.link.credit ≤ 99 = subst (λ (link : LinkData). link.credit ≤ 99) it.link (omega (arith, own.credit.1)) in
      says_spells (ListenerIdle _) _
      (ssid_sayable setting.book a.partner a.link.buffer a.link.credit a.link.restart (answered_mode a.partner.mode ssid.mode) own
      (called_is setting ssid.code setting.called a.partner book called it.partner) small few)
  open_spells ssid a (Some partner) h = quiet_spells (SpeakerIdle _ ChangeDirection)

  opened_spells : (ssid : Ssid) (verdict : Result Agreement SessionReason) → ssid_verdict setting ssid ≡ verdict → StepSpells (opened_step setting ssid.mode verdict)
  opened_spells ssid (Ok a) h = open_spells ssid a setting.called h
  opened_spells ssid (Err reason) h = fails_spells reason

  await_spells : (c : Command) → StepSpells (came_awaiting_ssid setting c)
  unfolding came_awaiting_ssid
  await_spells (command.Ssid ssid) = opened_spells ssid (ssid_verdict setting ssid) refl
  await_spells other = unexpected_spells other

-- a listener

filing_spells : (r : Register) (response : Received) → IfSome (filing r response) IsSpellableChange
filing_spells r response = by (has_received r response.kind response.identity)
  where
    by : (b : Bool) → IfSome (cond b None (Some (file_of response))) IsSpellableChange
    by true = tt
    by false = tt

response_spells : (setting : Setting) (contact : Contact) (r : Register) (response : Received) → StepSpells (response_step setting contact r response)
unfolding response_step
response_spells setting contact r response =
    either (is_between setting contact response.identity) (answers (ListenerIdle contact) (filing r response) command.Rtr) (fails InvalidData)
    (record { said = rtr_sayable; change = filing_spells r response }) (fails_spells InvalidData)

-- a file goes on after no more rows than it may have
count_few : (setting : Setting) (contact : Contact) (r : Register) (sfid : Sfid) (count : ℕ) → IsSound r → verdict_on setting contact r sfid ≡ start.Accept count → count ≤ MOST_ROWS
count_few setting contact r sfid count sound h =
    let may = accepted_begins setting contact r sfid count sound h in
    let after = apply_keeps r _ may.after sound may.fit may.made in
    let file = all_at IsSoundIncoming _ may.after.incoming _ after.incoming may.received.entry in
    omega (arith, may.received.kept, file.few)

sfid_spells : (setting : Setting) (contact : Contact) (r : Register) (sfid : Sfid) → IsSound r → IsFit (command.Sfid sfid) → StepSpells (offer_step setting contact r sfid)
unfolding offer_step
sfid_spells setting contact r sfid sound fit = by (verdict_on setting contact r sfid) refl
  where
    named : IsIdentity (offered_identity sfid)
    named =
        let (_, (dataset, (_, (date, (time, (_, (destination, (originator, _)))))))) = fit in
        record { dataset = dataset; date = date; time = time; originator = originator; destination = destination }

    by : (verdict : StartVerdict) → verdict_on setting contact r sfid ≡ verdict → StepSpells (on_start_verdict contact r sfid verdict)
    by (start.Accept count) h = record { said = sfpa_sayable count (count_few setting contact r sfid count sound h); change = named }
    by (start.Refuse reason retry) h = says_spells (ListenerIdle contact) _ (sfna_sayable reason retry)

listen_spells : (setting : Setting) (contact : Contact) (r : Register) (c : Command) → IsSound r → IsFit c → StepSpells (came_listener_idle setting contact r c)
unfolding came_listener_idle
listen_spells setting contact r (command.Sfid sfid) sound fit = sfid_spells setting contact r sfid sound fit
listen_spells setting contact r (command.Eerp eerp) sound fit = response_spells setting contact r (end_response eerp)
listen_spells setting contact r (command.Nerp nerp) sound fit = response_spells setting contact r (negative_end_response nerp)
listen_spells setting contact r command.Cd sound fit = quiet_spells (SpeakerIdle contact EndSession)
listen_spells setting contact r other sound fit = unexpected_spells other

keeping_spells : (number : ℕ) (rows : List (List ℕ)) → IfSome (keeping number rows) IsSpellableChange
keeping_spells number [] = tt
keeping_spells number (row ∷ rows) = tt

taken_spells : (contact : Contact) (f : Receipt) (payload : List ℕ) (result : Result Taking TakeFault) → StepSpells (on_taken contact f payload result)
taken_spells contact f payload (Ok t) =
    let g = with_payload f payload in
    let rows = rows_to_keep f t in
    either (is_window_full contact g) (answers (Receiving contact (with_rows g rows)) (keeping f.number rows) command.Cdt) (quiet (Receiving contact g))
    (record { said = cdt_sayable; change = keeping_spells f.number rows }) (quiet_spells (Receiving contact g))
taken_spells contact f payload (Err fault) = fails_spells _

ends_spells : (contact : Contact) (r : Register) (f : Receipt) (verdict : EndVerdict) → StepSpells (on_end_verdict contact r f (carried_by f) verdict)
ends_spells contact r f «end».Accept = record { said = efpa_sayable _; change = tt }
ends_spells contact r f («end».Refuse reason) = record { said = efna_sayable reason; change = tt }

receive_spells : (contact : Contact) (r : Register) (f : Receipt) (c : Command) → StepSpells (came_receiving contact r f c)
unfolding came_receiving data_step end_step
receive_spells contact r f (command.Data payload) =
    either (nat_lt contact.link.buffer (length payload + 1)) (fails BufferSizeError) (on_taken contact f payload (taken (carried_by f) payload))
    (fails_spells BufferSizeError) (taken_spells contact f payload (taken (carried_by f) payload))
receive_spells contact r f (command.Efid efid) =
    let t = carried_by f in
    let verdict = end_verdict efid (counts_of t).0 (counts_of t).1 in
    either (is_open t.stage) (fails ProtocolViolation) (on_end_verdict contact r f t verdict) (fails_spells ProtocolViolation) (ends_spells contact r f verdict)
receive_spells contact r f other = unexpected_spells other

-- a speaker

nothing_spells : (contact : Contact) (done : WhenDone) → StepSpells (nothing_next contact done)
nothing_spells contact ChangeDirection = says_spells (ListenerIdle contact) command.Cd cd_sayable
nothing_spells contact EndSession = fails_spells Normal

response_sayable : (station : List ℕ) (e : IssuedEntry) (file : Incoming) (kind : ResponseKind) → IsName 25 station → IsSpellableIncoming file → e.identity ≡ file.identity
    → (reason : e.response.reason < 100) → AreWords e.response.text → IsSayable (response_of station e kind)
response_sayable station e file EndResponse code it same reason text = eerp_sayable e.identity (subst IsIdentity (sym same) it.identity)
response_sayable station e file NegativeEndResponse code it same reason text =
    nerp_sayable station e.identity e.response.reason e.response.text code (subst IsIdentity (sym same) it.identity) reason text

issued_sayable : (station : List ℕ) (r : Register) (e : IssuedEntry) → IsName 25 station → IsSpellable r → IsIssuedEntry 1 r.incoming e → IsSayable (response_of station e e.response.kind)
issued_sayable station r e code it k =
    let file = all_at IsSpellableIncoming (suc k.place) r.incoming k.file it.incoming k.at in
    let answer : IsSpellableAnswer k.response = subst (λ o. IfSome o IsSpellableAnswer) k.issued file.response in
    response_sayable station e k.file e.response.kind code file k.identity
    (subst (λ (x : IssuedResponse). x.reason < 100) k.told answer.reason) (subst (λ (x : IssuedResponse). AreWords x.text) k.told answer.text)

offers_spells : (contact : Contact) (done : WhenDone) (n : ℕ) (r : Register) (found : Option Outgoing) → IsSound r → IsSpellable r → entry_at n r.outgoing ≡ found
    → StepSpells (offers contact done n found)
offers_spells contact done n r None sound it h = nothing_spells contact done
offers_spells contact done n r (Some file) sound it h =
    let fit = all_at IsSoundOutgoing n r.outgoing file sound.outgoing h in
    says_spells _ _ (sfid_sayable file (offered_from contact file) fit (all_at IsSpellableOutgoing n r.outgoing file it.outgoing h) (from_within contact.link.restart file fit))
  where
    from_within : (restart : Bool) (file : Outgoing) → IsSoundOutgoing file → cond restart file.mark 0 ≤ length file.rows
    from_within true file fit = fit.marked
    from_within false file fit = omega arith

item_spells : (setting : Setting) (contact : Contact) (done : WhenDone) (r : Register) (next : Option Item) → IsName 25 setting.book.station.code → IsSound r → IsSpellable r
    → ((e : IssuedEntry) → next ≡ Some (item.Response e) → IsIssuedEntry 1 r.incoming e) → StepSpells (on_item setting contact done r next)
item_spells setting contact done r (Some (item.Response e)) code sound it h = says_spells _ _ (issued_sayable setting.book.station.code r e code it (h e refl))
item_spells setting contact done r (Some (item.File e)) code sound it h = offers_spells contact done e.no r (entry_at e.no r.outgoing) sound it refl
item_spells setting contact done r None code sound it h = nothing_spells contact done

speaks_spells : (setting : Setting) (contact : Contact) (done : WhenDone) (r : Register) → IsName 25 setting.book.station.code → IsSound r → IsSpellable r
    → StepSpells (speaks setting contact done r)
unfolding speaks
speaks_spells setting contact done r code sound it =
    item_spells setting contact done r (next_item r contact.code contact.tried contact.link.sends) code sound it
    (λ e h. issued_found _ 1 r.incoming e (a_response (next_response r contact.code contact.tried.response) _ e h))

rtr_spells : (contact : Contact) (n : ℕ) (c : Command) → StepSpells (came_awaiting_rtr contact n c)
unfolding came_awaiting_rtr
rtr_spells contact n command.Rtr = record { said = tt; change = tt }
rtr_spells contact n other = unexpected_spells other

reopening_spells : (offer : Offer) → IfSome (reopening offer) IsSpellableChange
reopening_spells offer = by (is_closing offer.file.state)
  where
    by : (b : Bool) → IfSome (cond b (Some (Reopen offer.number)) None) IsSpellableChange
    by true = tt
    by false = tt

refusal_spells : (offer : Offer) (sfna : Sfna) → IfSome (refusal offer sfna) IsSpellableChange
refusal_spells offer sfna = by (sfna.reason == start_number DuplicateFile && is_closing offer.file.state) sfna.retry
  where
    by : (b again : Bool) → IfSome (cond b (Some (HandOver offer.number)) (cond again None (Some (Refuse offer.number sfna.reason)))) IsSpellableChange
    by true again = tt
    by false true = tt
    by false false = tt

answer_spells : (contact : Contact) (offer : Offer) (c : Command) → StepSpells (came_awaiting_start contact offer c)
unfolding came_awaiting_start
answer_spells contact offer (command.Sfpa sfpa) =
    either (nat_le sfpa.restart offer.from) (changes (Sending contact (transfer_of offer sfpa.restart)) (reopening offer)) (fails ProtocolViolation)
    (record { said = tt; change = reopening_spells offer }) (fails_spells ProtocolViolation)
answer_spells contact offer (command.Sfna sfna) = record { said = tt; change = refusal_spells offer sfna }
answer_spells contact offer other = unexpected_spells other

credit_spells : (contact : Contact) (t : Transfer) (c : Command) → StepSpells (came_sending contact t c)
unfolding came_sending
credit_spells contact t command.Cdt =
    either (nat_lt 0 (credit_left contact t)) (fails ProtocolViolation) (credited contact t (new_mark contact t))
    (fails_spells ProtocolViolation) (record { said = tt; change = by (new_mark contact t == t.file.mark) })
  where
    by : (same : Bool) → IfSome (cond same None (Some (Mark t.number (new_mark contact t)))) IsSpellableChange
    by true = tt
    by false = tt
credit_spells contact t other = unexpected_spells other

ended_spells : (contact : Contact) (t : Transfer) (c : Command) → StepSpells (came_awaiting_end contact t c)
unfolding came_awaiting_end
ended_spells contact t (command.Efpa efpa) = record { said = tt; change = tt }
ended_spells contact t (command.Efna efna) = record { said = tt; change = tt }
ended_spells contact t other = unexpected_spells other

-- a payload is within the agreed buffer
sends_spells : (contact : Contact) (r : Register) (t : Transfer) → IsSound r → IsSent r t → IsBufferSize contact.link.buffer → StepSpells (turned_sending contact t)
unfolding turned_sending
sends_spells contact r t sound holds size =
    either (nat_lt 0 (credit_left contact t)) (sends_next contact t (slice_get (payloads_in contact t) t.sent)) (quiet (Sending contact t))
    (by (slice_get (payloads_in contact t) t.sent) refl) (quiet_spells (Sending contact t))
  where
    by : (payload : Option (List ℕ)) → slice_get (payloads_in contact t) t.sent ≡ payload → StepSpells (sends_next contact t payload)
    by (Some payload) h =
        let all = fill_fits (payload_size contact) (records_of t.file.format (rows_from t)) (omega (arith, size.0)) in
        let fits = all_at (λ (p : List ℕ). (0 < length p) × (length p ≤ payload_size contact)) (suc t.sent) (payloads_in contact t) payload all h in
        says_spells _ _ (data_sayable payload (omega (arith, fits.1, size.1)))
    by None h = record { said = efid_sayable t.file (all_at IsSoundOutgoing t.number r.outgoing t.file sound.outgoing holds.entry); change = tt }

-- a command that arrives, and a turn

came_spells : (setting : Setting) (p : Phase) (r : Register) (c : Command) → IsInRange setting p r → IsFit c → StepSpells (came setting p r c)
unfolding came
came_spells setting ResponderOpening r c it fit = unexpected_spells c
came_spells setting InitiatorOpening r c it fit = initiate_spells setting it.book it.called c
came_spells setting AwaitingSsid r c it fit = await_spells setting it.book it.called c
came_spells setting (ListenerIdle contact) r c it fit = listen_spells setting contact r c it.suits.sound fit
came_spells setting (Receiving contact f) r c it fit = receive_spells contact r f c
came_spells setting (SpeakerIdle contact done) r c it fit = unexpected_spells c
came_spells setting (GivingWay contact) r c it fit = unexpected_spells c
came_spells setting (AwaitingRtr contact number) r c it fit = rtr_spells contact number c
came_spells setting (AwaitingStart contact offer) r c it fit = answer_spells contact offer c
came_spells setting (Sending contact t) r c it fit = credit_spells contact t c
came_spells setting (AwaitingEnd contact t) r c it fit = ended_spells contact t c
came_spells setting (EndedHere reason) r c it fit = quiet_spells (EndedHere reason)
came_spells setting (EndedThere reason) r c it fit = quiet_spells (EndedThere reason)

turned_spells : (setting : Setting) (p : Phase) (r : Register) → IsInRange setting p r → StepSpells (turned setting p r)
turned_spells setting p r = each_turn (λ q s. IsInRange setting q r → StepSpells s) setting r (record {
  greeting = λ it. says_spells AwaitingSsid command.Ssrm ssrm_sayable;
  speaking = λ contact done it. speaks_spells setting contact done r it.book.station.code.1 it.suits.sound it.spellable;
  giving_way = λ contact it. says_spells (ListenerIdle contact) command.Cd cd_sayable;
  sending = λ contact t it. sends_spells contact r t it.suits.sound it.suits.holds it.buffer;
  waiting = λ q it. quiet_spells q;
}) p

-- and the session stays in its ranges
pub record GoesOnInRange (setting : Setting) (r : Register) (step : Step) : Type 0 where
  pub said : IfSome step.output IsSayable
  pub change : IfSome step.change IsSpellableChange
  pub after : IsInRange setting step.phase (register_after r step.change)

goes_on : (setting : Setting) (p : Phase) (r : Register) (step : Step) → IsInRange setting p r → StepSpells step → Proceeds r step → OfBuffer IsBufferSize step.phase
    → GoesOnInRange setting r step
goes_on setting p r step it spells proceeds buffer = record {
  said = spells.said;
  change = spells.change;
  after = record {
    book = it.book;
    called = it.called;
    suits = proceeds.suits;
    buffer = buffer;
    spellable = makes_spellable r (register_after r step.change) step.change it.spellable spells.change proceeds.allowed;
  };
}

sizes : (setting : Setting) → IsBook setting.book → SizesOf IsBufferSize setting
sizes setting book theirs there = let own = book.station.buffer in (omega (arith, own, there), omega (arith, own))

pub came_in_range : (setting : Setting) (p : Phase) (r : Register) (c : Command) → IsInRange setting p r → IsFit c → GoesOnInRange setting r (came setting p r c)
came_in_range setting p r c it fit =
    goes_on setting p r (came setting p r c) it (came_spells setting p r c it fit) (came_proceeds setting p r c it.suits)
    (came_buffer IsBufferSize setting p r c (sizes setting it.book) it.buffer)

pub turned_in_range : (setting : Setting) (p : Phase) (r : Register) → IsInRange setting p r → GoesOnInRange setting r (turned setting p r)
turned_in_range setting p r it =
    goes_on setting p r (turned setting p r) it (turned_spells setting p r it) (turned_proceeds setting p r it.suits) (turned_buffer IsBufferSize setting p r it.buffer)

pub fails_in_range : (setting : Setting) (p : Phase) (r : Register) (reason : SessionReason) → IsInRange setting p r → GoesOnInRange setting r (fails reason)
fails_in_range setting p r reason it = goes_on setting p r (fails reason) it (fails_spells reason) (fails_proceed p r reason it.suits) tt
