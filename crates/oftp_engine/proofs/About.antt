-- What a session knows of its partner's code, and whose files its changes are of: those that go to this partner or come from it.
use Rattle.std.proofs.Common.{◌≡◌, ℕ, suc, ◌+◌, ◌==◌, Bool, true, false, cond, not, ◌&&◌, nat_le, nat_lt, List, [], ◌∷◌, length, find, slice_get, Option, None, Some, Result, Ok, Err, refl, ap, sym, ◌∙◌, subst, inl, inr, arith}
use Rattle.std.specs.Prelude.{⊤}
use Rattle.std.proofs.lemmas.Bool.{and_parts, cases_Bool, cond-true, cond-false, not-false}
use Rattle.std.proofs.lemmas.Slice.Eq.{bytes_eq-Decides}
use Rattle.std.specs.Str.{bytes_eq}
use Rattle.oftp_wire.specs.declared.command.Command.{Command}
use Rattle.oftp_wire.specs.declared.command.Command.TheVariants as command
use Rattle.oftp_wire.specs.declared.command.Efid.{Efid}
use Rattle.oftp_wire.specs.declared.command.Sfid.{Sfid}
use Rattle.oftp_wire.specs.declared.reason.SessionReason.{SessionReason}
use Rattle.oftp_wire.specs.declared.reason.SessionReason.TheVariants.{BufferSizeError, InvalidData, Normal, ProtocolViolation}
use Rattle.oftp_wire.specs.declared.reason.StartReason.{StartReason}
use Rattle.oftp_wire.specs.declared.reason.StartReason.TheVariants.{InvalidFilename, InvalidDestination, InvalidOrigin, DuplicateFile, FileDirectionRefused, Unspecified}
use Rattle.oftp_wire.specs.Reasons.{start_number}
use Rattle.oftp_partners.specs.declared.partner.Partner.{Partner}
use Rattle.oftp_vfile.specs.declared.fault.TakeFault.{TakeFault}
use Rattle.oftp_vfile.specs.Carries.{is_open}
use Rattle.oftp_vfile.specs.Reading.{taken}
use Rattle.oftp_vfile.specs.Taking.{Taking, counts_of}
use Rattle.oftp_register.specs.declared.change.Change.{Change}
use Rattle.oftp_register.specs.declared.change.Change.TheVariants as change
use Rattle.oftp_register.specs.declared.entries.IncomingEntry.{IncomingEntry}
use Rattle.oftp_register.specs.declared.entries.IssuedEntry.{IssuedEntry}
use Rattle.oftp_register.specs.declared.entries.Item.{Item}
use Rattle.oftp_register.specs.declared.entries.Item.TheVariants as item
use Rattle.oftp_register.specs.declared.entries.OutgoingEntry.{OutgoingEntry}
use Rattle.oftp_register.specs.declared.entries.Side.TheVariants as side
use Rattle.oftp_register.specs.declared.entry.OutgoingState.TheVariants.{Waiting}
use Rattle.oftp_register.specs.declared.entry.ResponseKind.{ResponseKind}
use Rattle.oftp_register.specs.declared.entry.ResponseKind.TheVariants.{EndResponse, NegativeEndResponse}
use Rattle.oftp_register.specs.declared.verdicts.EndVerdict.{EndVerdict}
use Rattle.oftp_register.specs.declared.verdicts.EndVerdict.TheVariants as «end»
use Rattle.oftp_register.specs.declared.verdicts.StartVerdict.{StartVerdict}
use Rattle.oftp_register.specs.declared.verdicts.StartVerdict.TheVariants as start
use Rattle.oftp_register.specs.declared.verdicts.Terms.{Terms}
use Rattle.oftp_register.specs.Register.{Incoming, Outgoing, Received, Register, has_received}
use Rattle.oftp_register.specs.Changes.{is_closing}
use Rattle.oftp_register.specs.LookUps.{entry_at, item_of, files_full, look_in, next_file, next_item, next_response, is_due, is_next_file, is_next_response, is_on_its_way}
use Rattle.oftp_register.specs.Soundness.{IsSound}
use Rattle.oftp_register.specs.Verdicts.{end_verdict, is_empty, is_plain, start_verdict, offered_identity}
use Rattle.oftp_session.specs.declared.link.WhenDone.{WhenDone}
use Rattle.oftp_session.specs.declared.link.WhenDone.TheVariants.{ChangeDirection, EndSession}
use Rattle.oftp_session.specs.declared.state.Contact.{Contact}
use Rattle.oftp_session.specs.Settings.{Setting}
use Rattle.oftp_session.specs.Phases.{Offer, Phase, Receipt, Step, Transfer, answers, changes, fails, quiet, register_after, unexpected}
use Rattle.oftp_session.specs.Phases.{AwaitingEnd, AwaitingRtr, AwaitingSsid, AwaitingStart, EndedHere, EndedThere, GivingWay, InitiatorOpening, ListenerIdle, Receiving, ResponderOpening, Sending, SpeakerIdle}
use Rattle.oftp_session.specs.Opening.{Agreement, called_as, calling_step, came_awaiting_ssid, came_initiator_opening, open_step, opened_step, ssid_verdict}
use Rattle.oftp_session.specs.Listener.{came_listener_idle, end_response, file_of, filing, is_between, negative_end_response, offer_step, on_start_verdict, response_step, terms_within, verdict_on}
use Rattle.oftp_session.specs.Receiving.{came_receiving, carried_by, data_step, end_step, is_window_full, keeping, on_end_verdict, on_taken, rows_to_keep, with_payload, with_rows}
use Rattle.oftp_session.specs.Speaker.{came_awaiting_rtr, nothing_next, offers, on_item, response_of, speaks}
use Rattle.oftp_session.specs.Sending.{after_file, came_awaiting_end, came_awaiting_start, came_sending, credit_left, credited, new_mark, payloads_in, reopened_file, reopening, sends_next, transfer_of, turned_sending}
use Rattle.oftp_session.specs.Steps.{Holds, IsEnded, IsOffered, IsReceived, IsSent, came, opening, turned}
use Rattle.oftp_session.proofs.Items.{a_response, item_goes}
use Rattle.oftp_session.proofs.Turns.{each_turn}
use Rattle.oftp_engine.specs.TwoStations.{GoesBetween, IfAny}
use Rattle.oftp_engine.proofs.Grounds.{OfEntry}
use Rattle.oftp_engine.proofs.IssuedEntries.{issued_found}
use Rattle.oftp_engine.proofs.Offers.{found_code}
use Rattle.oftp_engine.proofs.Room.{agreed_so}
use Rattle.oftp_engine.proofs.StepGrounds.{one_entry}

-- This holds of the partner's code. The file at hand comes from the partner to the station of one's own code, or goes to the partner.
abbrev pub IsAbout : (List ℕ → Type 0) → List ℕ → Register → Phase → Type 0
IsAbout Is own r ResponderOpening = ⊤
IsAbout Is own r InitiatorOpening = ⊤
IsAbout Is own r AwaitingSsid = ⊤
IsAbout Is own r (ListenerIdle contact) = Is contact.code
IsAbout Is own r (Receiving contact f) = Is contact.code × GoesBetween contact.code own f.file.identity
IsAbout Is own r (SpeakerIdle contact done) = Is contact.code
IsAbout Is own r (GivingWay contact) = Is contact.code
IsAbout Is own r (AwaitingRtr contact number) = Is contact.code × OfEntry number r.incoming (λ (e : Incoming). e.identity.originator ≡ contact.code)
IsAbout Is own r (AwaitingStart contact offer) = Is contact.code × (offer.file.identity.destination ≡ contact.code)
IsAbout Is own r (Sending contact t) = Is contact.code × (t.file.identity.destination ≡ contact.code)
IsAbout Is own r (AwaitingEnd contact t) = Is contact.code × (t.file.identity.destination ≡ contact.code)
IsAbout Is own r (EndedHere reason) = ⊤
IsAbout Is own r (EndedThere reason) = ⊤

-- By cases of the change, which is one of a session: this holds of the code that its file comes from, or goes to.
abbrev pub IsOfPartner : (List ℕ → Type 0) → Register → Change → Type 0
IsOfPartner Is r (change.Submit identity format longest description rows) = ⊥
IsOfPartner Is r (change.Start identity format longest description count) = Is identity.originator
IsOfPartner Is r (change.Keep n rows) = OfEntry n r.incoming (λ (e : Incoming). Is e.identity.originator)
IsOfPartner Is r (change.Close n rows) = OfEntry n r.incoming (λ (e : Incoming). Is e.identity.originator)
IsOfPartner Is r (change.GiveUp n) = OfEntry n r.incoming (λ (e : Incoming). Is e.identity.originator)
IsOfPartner Is r (change.File kind identity reason creator text) = Is identity.destination
IsOfPartner Is r (change.Issue n kind reason text) = ⊥
IsOfPartner Is r (change.Mark n rows) = OfEntry n r.outgoing (λ (f : Outgoing). Is f.identity.destination)
IsOfPartner Is r (change.BeginClosing n) = OfEntry n r.outgoing (λ (f : Outgoing). Is f.identity.destination)
IsOfPartner Is r (change.HandOver n) = OfEntry n r.outgoing (λ (f : Outgoing). Is f.identity.destination)
IsOfPartner Is r (change.Refuse n reason) = OfEntry n r.outgoing (λ (f : Outgoing). Is f.identity.destination)
IsOfPartner Is r (change.Reopen n) = OfEntry n r.outgoing (λ (f : Outgoing). Is f.identity.destination)
IsOfPartner Is r (change.Send n) = OfEntry n r.incoming (λ (e : Incoming). Is e.identity.originator)

-- if a command is an SSID, this holds of its code
abbrev pub HasCode : (List ℕ → Type 0) → Command → Type 0
HasCode Is (command.Ssid ssid) = Is ssid.code
HasCode Is _ = ⊤

-- if a command is an SSID that a session accepts, this holds of its code
abbrev pub LetsIn : (List ℕ → Type 0) → Setting → Command → Type 0
LetsIn Is setting (command.Ssid ssid) = (a : Agreement) → ssid_verdict setting ssid ≡ Ok a → Is ssid.code
LetsIn Is setting _ = ⊤

pub lets_in : (Is : List ℕ → Type 0) (setting : Setting) (c : Command) → HasCode Is c → LetsIn Is setting c
lets_in Is setting (command.Ssid ssid) is = λ a e. is
lets_in Is setting _ is = tt

-- a step from a register: its change, the phase after it, and the code of an SSID that it sends
pub record IsAboutStep (Is : List ℕ → Type 0) (own : List ℕ) (r : Register) (step : Step) : Type 0 where
  pub change : IfAny step.change (IsOfPartner Is r)
  pub phase : IsAbout Is own (register_after r step.change) step.phase
  pub said : IfAny step.output (HasCode (λ code. code ≡ own))

-- what is found passes the test
found_passes : {A : Type 0} (p : A → Bool) (xs : List A) (x : A) → find p xs ≡ Some x → p x ≡ true
found_passes p [] x h = absurd (cc)
found_passes p (y ∷ ys) x h =
    elim (cases_Bool (p y)) [
      | inl t ↦ (let q : Some y ≡ Some x = sym (cond-true (p y) (Some y) (find p ys) t) ∙ h in let same : y ≡ x = cc in ap p (sym same) ∙ t)
      | inr t ↦ found_passes p ys x (sym (cond-false (p y) (Some y) (find p ys) t) ∙ h)
    ]

one_more : (n k : ℕ) → n ≡ 1 + k → n ≡ suc k
one_more n k h = omega (arith, h)

-- a response that is next is to a file from the partner
next_from : (r : Register) (partner : List ℕ) (tried : ℕ) (e : IssuedEntry) → next_response r partner tried ≡ Some e → OfEntry e.no r.incoming (λ (x : Incoming). x.identity.originator ≡ partner)
next_from r partner tried e h x at =
    let k = issued_found (is_next_response partner tried) 1 r.incoming e h in
    let t = found_passes (is_next_response partner tried) _ e h in
    let last = (and_parts (nat_lt tried e.no) (is_due e.response.dispatch && bytes_eq e.identity.originator partner) t).1 in
    let code = (bytes_eq-Decides e.identity.originator partner).0 (and_parts (is_due e.response.dispatch) (bytes_eq e.identity.originator partner) last).1 in
    let entry : entry_at e.no r.incoming ≡ Some k.file = ap (λ n. entry_at n r.incoming) (one_more e.no k.place k.number) ∙ k.at in
    let same : k.file ≡ x = one_entry (entry_at e.no r.incoming) k.file x entry at in
    subst (λ (y : Incoming). y.identity.originator ≡ partner) same (subst (λ i. i.originator ≡ partner) k.identity code)

-- a file that is next goes to the partner
next_to : (r : Register) (partner : List ℕ) (tried : ℕ) (e : OutgoingEntry) → next_file r partner tried ≡ Some e → e.identity.destination ≡ partner
next_to r partner tried e h =
    let t = found_passes (is_next_file partner tried) _ e h in
    let last = (and_parts (nat_lt tried e.no) (is_on_its_way e.state && bytes_eq e.identity.destination partner) t).1 in
    (bytes_eq-Decides e.identity.destination partner).0 (and_parts (is_on_its_way e.state) (bytes_eq e.identity.destination partner) last).1

-- a file is next only if no response is
a_file : (response : Option IssuedEntry) (file : Option OutgoingEntry) (e : OutgoingEntry) → item_of response file ≡ Some (item.File e) → file ≡ Some e
a_file (Some x) file e h = absurd (let no : ⊥ = cc in no)
a_file None (Some x) e h = cc
a_file None None e h = absurd (let no : ⊥ = cc in no)

where_sends : (sends : Bool) (file : Option OutgoingEntry) (e : OutgoingEntry) → cond sends file None ≡ Some e → file ≡ Some e
where_sends true file e h = h
where_sends false file e h = absurd (let no : ⊥ = cc in no)

-- an offer that is accepted goes from the partner to the station
goes_past : (b : Bool) (reason : StartReason) (retry : Bool) (x : StartVerdict) (count : ℕ) → cond b (start.Refuse reason retry) x ≡ start.Accept count
    → (b ≡ false) × (x ≡ start.Accept count)
goes_past true reason retry x count h = absurd (cc)
goes_past false reason retry x count h = (refl, h)

accepted_goes : (sfid : Sfid) (found : Option IncomingEntry) (is_full : Bool) (terms : Terms) (count : ℕ) → start_verdict sfid found is_full terms ≡ start.Accept count
    → GoesBetween terms.partner terms.station (offered_identity sfid)
accepted_goes sfid found is_full terms count h =
    let h1 = goes_past (not terms.receives) FileDirectionRefused false _ count h in
    let h2 = goes_past (not (is_plain sfid)) Unspecified false _ count h1.1 in
    let h3 = goes_past (is_empty sfid.dataset) InvalidFilename false _ count h2.1 in
    let h4 = goes_past (not (bytes_eq sfid.destination terms.station)) InvalidDestination false _ count h3.1 in
    let h5 = goes_past (not (bytes_eq sfid.originator terms.partner)) InvalidOrigin false _ count h4.1 in
    record {
      originator = (bytes_eq-Decides sfid.originator terms.partner).0 (not-false (bytes_eq sfid.originator terms.partner) h5.0);
      destination = (bytes_eq-Decides sfid.destination terms.station).0 (not-false (bytes_eq sfid.destination terms.station) h4.0);
    }

-- the partner of an agreement has the code of the SSID
called_code : (code : List ℕ) (partners : List Partner) (called : Option Partner) (p : Partner) → called_as code partners called ≡ Some p → p.code ≡ code
called_code code partners None p h = found_code code partners p h
called_code code partners (Some q) p h =
    elim (cases_Bool (bytes_eq code q.code)) [
      | inl t ↦ (let found : Some q ≡ Some p = sym (cond-true (bytes_eq code q.code) (Some q) None t) ∙ h in let same : q ≡ p = cc in
          ap (λ (x : Partner). x.code) (sym same) ∙ sym ((bytes_eq-Decides code q.code).0 t))
      | inr t ↦ (let none : (let x : Option Partner = None in x) ≡ Some p = sym (cond-false (bytes_eq code q.code) (Some q) None t) ∙ h in absurd (cc))
    ]

module _ (Is : List ℕ → Type 0) (own : List ℕ) where
  pub fails_about : (r : Register) (reason : SessionReason) → IsAboutStep Is own r (fails reason)
  fails_about r reason = record { change = tt; phase = tt; said = tt }

  unexpected_about : (r : Register) (c : Command) → IsAboutStep Is own r (unexpected c)
  unfolding unexpected
  unexpected_about r (command.Esid esid) = record { change = tt; phase = tt; said = tt }
  unexpected_about r _ = record { change = tt; phase = tt; said = tt }

  -- a listener receives a file

  from_partner : (contact : Contact) (r : Register) (f : Receipt) → IsReceived r f → IsAbout Is own r (Receiving contact f) → OfEntry f.number r.incoming (λ (e : Incoming). Is e.identity.originator)
  from_partner contact r f holds h x e =
      subst (λ (y : Incoming). Is y.identity.originator) (one_entry (entry_at f.number r.incoming) f.file x holds.entry e) (subst Is (sym h.1.originator) h.0)

  data_about : (contact : Contact) (r : Register) (f : Receipt) (payload : List ℕ) → IsReceived r f → IsAbout Is own r (Receiving contact f) → IsAboutStep Is own r (data_step contact f payload)
  unfolding data_step
  data_about contact r f payload holds h = by_size (nat_lt contact.link.buffer (length payload + 1))
    where
      by_keep : (rows : List (List ℕ)) → IfAny (keeping f.number rows) (IsOfPartner Is r)
      by_keep [] = tt
      by_keep (row ∷ rows) = from_partner contact r f holds h

      receives : (g : Receipt) → g.file.identity ≡ f.file.identity → Is contact.code × GoesBetween contact.code own g.file.identity
      receives g same = (h.0, record { originator = ap (λ i. i.originator) same ∙ h.1.originator; destination = ap (λ i. i.destination) same ∙ h.1.destination })

      by_window : (t : Taking) → (full : Bool)
          → IsAboutStep Is own r (let s : Step = cond full (answers (Receiving contact (with_rows (with_payload f payload) (rows_to_keep f t))) (keeping f.number (rows_to_keep f t)) command.Cdt)
          (quiet (Receiving contact (with_payload f payload))) in s)
      by_window t true = record { change = by_keep (rows_to_keep f t); phase = receives (with_rows (with_payload f payload) (rows_to_keep f t)) refl; said = tt }
      by_window t false = record { change = tt; phase = receives (with_payload f payload) refl; said = tt }

      by_taken : (result : Result Taking TakeFault) → IsAboutStep Is own r (on_taken contact f payload result)
      by_taken (Ok t) = by_window t (is_window_full contact (with_payload f payload))
      by_taken (Err fault) = record { change = tt; phase = tt; said = tt }

      by_size : (big : Bool) → IsAboutStep Is own r (let s : Step = cond big (fails BufferSizeError) (on_taken contact f payload (taken (carried_by f) payload)) in s)
      by_size true = fails_about r BufferSizeError
      by_size false = by_taken (taken (carried_by f) payload)

  end_about : (contact : Contact) (r : Register) (f : Receipt) (efid : Efid) → IsReceived r f → IsAbout Is own r (Receiving contact f) → IsAboutStep Is own r (end_step contact r f efid)
  unfolding end_step
  end_about contact r f efid holds h = by_open (is_open (carried_by f).stage)
    where
      by_verdict : (verdict : EndVerdict) → IsAboutStep Is own r (on_end_verdict contact r f (carried_by f) verdict)
      by_verdict «end».Accept = record { change = from_partner contact r f holds h; phase = h.0; said = tt }
      by_verdict («end».Refuse reason) = record { change = from_partner contact r f holds h; phase = h.0; said = tt }

      by_open : (stays : Bool) → IsAboutStep Is own r (let s : Step = cond stays (fails ProtocolViolation)
          (on_end_verdict contact r f (carried_by f) (end_verdict efid (counts_of (carried_by f)).0 (counts_of (carried_by f)).1)) in s)
      by_open true = fails_about r ProtocolViolation
      by_open false = by_verdict (end_verdict efid (counts_of (carried_by f)).0 (counts_of (carried_by f)).1)

  receiving_about : (contact : Contact) (r : Register) (f : Receipt) (c : Command) → IsReceived r f → IsAbout Is own r (Receiving contact f) → IsAboutStep Is own r (came_receiving contact r f c)
  unfolding came_receiving
  receiving_about contact r f (command.Data payload) holds h = data_about contact r f payload holds h
  receiving_about contact r f (command.Efid efid) holds h = end_about contact r f efid holds h
  receiving_about contact r f other holds h = unexpected_about r other

  -- a speaker

  to_partner : (contact : Contact) (r : Register) (n : ℕ) (file : Outgoing) → entry_at n r.outgoing ≡ Some file → Is contact.code → file.identity.destination ≡ contact.code
      → OfEntry n r.outgoing (λ (f : Outgoing). Is f.identity.destination)
  to_partner contact r n file entry is to x e = subst (λ (y : Outgoing). Is y.identity.destination) (one_entry (entry_at n r.outgoing) file x entry e) (subst Is (sym to) is)

  rtr_about : (contact : Contact) (r : Register) (n : ℕ) (c : Command) → IsAbout Is own r (AwaitingRtr contact n) → IsAboutStep Is own r (came_awaiting_rtr contact n c)
  unfolding came_awaiting_rtr
  rtr_about contact r n command.Rtr h = record { change = λ x e. subst Is (sym (h.1 x e)) h.0; phase = h.0; said = tt }
  rtr_about contact r n other h = unexpected_about r other

  reopened_to : (file : Outgoing) (code : List ℕ) → file.identity.destination ≡ code → (reopened_file file).identity.destination ≡ code
  reopened_to file code h = by (is_closing file.state)
    where
      by : (b : Bool) → (let f : Outgoing = cond b (record file { state = Waiting; mark = 0 }) file in f.identity.destination ≡ code)
      by true = h
      by false = h

  start_answer_about : (contact : Contact) (r : Register) (offer : Offer) (c : Command) → IsOffered r offer → IsAbout Is own r (AwaitingStart contact offer)
      → IsAboutStep Is own r (came_awaiting_start contact offer c)
  unfolding came_awaiting_start
  start_answer_about contact r offer (command.Sfpa sfpa) holds h = by_place (nat_le sfpa.restart offer.from)
    where
      by_state : (again : Bool) → IfAny (let o : Option Change = cond again (Some (change.Reopen offer.number)) None in o) (IsOfPartner Is r)
      by_state true = to_partner contact r offer.number offer.file holds.entry h.0 h.1
      by_state false = tt

      by_place : (within : Bool) → IsAboutStep Is own r (let s : Step = cond within (changes (Sending contact (transfer_of offer sfpa.restart)) (reopening offer)) (fails ProtocolViolation) in s)
      by_place true = record { change = by_state (is_closing offer.file.state); phase = (h.0, reopened_to offer.file contact.code h.1); said = tt }
      by_place false = fails_about r ProtocolViolation
  start_answer_about contact r offer (command.Sfna sfna) holds h =
      record { change = by_both (sfna.reason == start_number DuplicateFile && is_closing offer.file.state); phase = h.0; said = tt }
    where
      of : OfEntry offer.number r.outgoing (λ (f : Outgoing). Is f.identity.destination)
      of = to_partner contact r offer.number offer.file holds.entry h.0 h.1

      by_retry : (retry : Bool) → IfAny (let o : Option Change = cond retry None (Some (change.Refuse offer.number sfna.reason)) in o) (IsOfPartner Is r)
      by_retry true = tt
      by_retry false = of

      by_both : (b : Bool) → IfAny (let o : Option Change = cond b (Some (change.HandOver offer.number)) (cond sfna.retry None (Some (change.Refuse offer.number sfna.reason))) in o) (IsOfPartner Is r)
      by_both true = of
      by_both false = by_retry sfna.retry
  start_answer_about contact r offer other holds h = unexpected_about r other

  sending_about : (contact : Contact) (r : Register) (t : Transfer) (c : Command) → IsSent r t → IsAbout Is own r (Sending contact t) → IsAboutStep Is own r (came_sending contact t c)
  unfolding came_sending
  sending_about contact r t command.Cdt holds h = by_credit (nat_lt 0 (credit_left contact t))
    where
      by_mark : (same : Bool) → IfAny (let o : Option Change = cond same None (Some (change.Mark t.number (new_mark contact t))) in o) (IsOfPartner Is r)
      by_mark true = tt
      by_mark false = to_partner contact r t.number t.file holds.entry h.0 h.1

      by_credit : (b : Bool) → IsAboutStep Is own r (let s : Step = cond b (fails ProtocolViolation) (credited contact t (new_mark contact t)) in s)
      by_credit true = fails_about r ProtocolViolation
      by_credit false = record { change = by_mark (new_mark contact t == t.file.mark); phase = (h.0, h.1); said = tt }
  sending_about contact r t other holds h = unexpected_about r other

  end_answer_about : (contact : Contact) (r : Register) (t : Transfer) (c : Command) → IsEnded r t → IsAbout Is own r (AwaitingEnd contact t) → IsAboutStep Is own r (came_awaiting_end contact t c)
  unfolding came_awaiting_end
  end_answer_about contact r t (command.Efpa efpa) holds h = record {
    change = to_partner contact r t.number t.file holds.entry h.0 h.1;
    phase = by (register_after r (Some (change.HandOver t.number))) efpa.change_direction;
    said = tt;
  }
    where
      by : (s : Register) (asks : Bool) → IsAbout Is own s (after_file contact asks)
      by s true = h.0
      by s false = h.0
  end_answer_about contact r t (command.Efna efna) holds h = record { change = to_partner contact r t.number t.file holds.entry h.0 h.1; phase = h.0; said = tt }
  end_answer_about contact r t other holds h = unexpected_about r other

  -- turns

  nothing_about : (contact : Contact) (r : Register) (done : WhenDone) → Is contact.code → IsAboutStep Is own r (nothing_next contact done)
  nothing_about contact r ChangeDirection is = record { change = tt; phase = is; said = tt }
  nothing_about contact r EndSession is = fails_about r Normal

  sends_about : (contact : Contact) (r : Register) (t : Transfer) → IsSent r t → IsAbout Is own r (Sending contact t) → IsAboutStep Is own r (turned_sending contact t)
  unfolding turned_sending
  sends_about contact r t holds h = by_credit (nat_lt 0 (credit_left contact t))
    where
      by_next : (payload : Option (List ℕ)) → IsAboutStep Is own r (sends_next contact t payload)
      by_next (Some payload) = record { change = tt; phase = (h.0, h.1); said = tt }
      by_next None = record { change = to_partner contact r t.number t.file holds.entry h.0 h.1; phase = (h.0, h.1); said = tt }

      by_credit : (b : Bool) → IsAboutStep Is own r (let s : Step = cond b (sends_next contact t (slice_get (payloads_in contact t) t.sent)) (quiet (Sending contact t)) in s)
      by_credit true = by_next (slice_get (payloads_in contact t) t.sent)
      by_credit false = record { change = tt; phase = (h.0, h.1); said = tt }

-- what depends on the setting

module _ (Is : List ℕ → Type 0) (setting : Setting) where
  abbrev station : List ℕ
  station = setting.book.station.code

  item_about : (contact : Contact) (done : WhenDone) (r : Register) (i : Option Item) → IsSound r → Is contact.code → next_item r contact.code contact.tried contact.link.sends ≡ i
      → IsAboutStep Is station r (on_item setting contact done r i)
  item_about contact done r (Some (item.Response e)) sound is h = record {
    change = tt;
    phase = (is, next_from r contact.code contact.tried.response e (a_response (next_response r contact.code contact.tried.response) _ e h));
    said = by e.response.kind;
  }
    where
      by : (kind : ResponseKind) → HasCode (λ code. code ≡ station) (response_of station e kind)
      by EndResponse = tt
      by NegativeEndResponse = tt
  item_about contact done r (Some (item.File e)) sound is h =
      let goes = item_goes r contact contact.code contact.tried contact.link.sends e sound h in
      let to = next_to r contact.code contact.tried.file e
      (where_sends contact.link.sends (next_file r contact.code contact.tried.file) e (a_file (next_response r contact.code contact.tried.response) _ e h)) in
      let to' : goes.0.identity.destination ≡ contact.code = sym (ap (λ (x : OutgoingEntry). x.identity.destination) goes.1) ∙ to in
      subst (λ o. IsAboutStep Is station r (offers contact done e.no o)) (sym goes.2.entry) (record { change = tt; phase = (is, to'); said = tt })
  item_about contact done r None sound is h = nothing_about Is station contact r done is

  speaks_about : (contact : Contact) (done : WhenDone) (r : Register) → IsSound r → Is contact.code → IsAboutStep Is station r (speaks setting contact done r)
  unfolding speaks
  speaks_about contact done r sound is = item_about contact done r (next_item r contact.code contact.tried contact.link.sends) sound is refl

  -- a turn
  pub turned_about : (p : Phase) (r : Register) → IsSound r → Holds p r → IsAbout Is station r p → IsAboutStep Is station r (turned setting p r)
  turned_about p r sound = each_turn (λ q s. Holds q r → IsAbout Is station r q → IsAboutStep Is station r s) setting r (record {
    greeting = λ holds h. record { change = tt; phase = tt; said = tt };
    speaking = λ contact done holds h. speaks_about contact done r sound h;
    giving_way = λ contact holds h. record { change = tt; phase = h; said = tt };
    sending = λ contact t holds h. sends_about Is station contact r t holds h;
    waiting = λ q holds h. record { change = tt; phase = h; said = tt };
  }) p

  -- a listener

  response_about : (contact : Contact) (r : Register) (response : Received) → Is contact.code → IsAboutStep Is station r (response_step setting contact r response)
  unfolding response_step
  response_about contact r response is = by_place (is_between setting contact response.identity) refl
    where
      by_new : Is response.identity.destination → (known : Bool) → IfAny (let o : Option Change = cond known None (Some (file_of response)) in o) (IsOfPartner Is r)
      by_new of true = tt
      by_new of false = of

      by_place : (between : Bool) → is_between setting contact response.identity ≡ between
          → IsAboutStep Is station r (let s : Step = cond between (answers (ListenerIdle contact) (filing r response) command.Rtr) (fails InvalidData) in s)
      by_place true e =
          let last = (and_parts (bytes_eq response.identity.originator setting.book.station.code) (bytes_eq response.identity.destination contact.code) e).1 in
          let to = (bytes_eq-Decides response.identity.destination contact.code).0 last in
          record { change = by_new (subst Is (sym to) is) (has_received r response.kind response.identity); phase = is; said = tt }
      by_place false e = fails_about Is station r InvalidData

  offer_about : (contact : Contact) (r : Register) (sfid : Sfid) → Is contact.code → IsAboutStep Is station r (offer_step setting contact r sfid)
  unfolding offer_step
  offer_about contact r sfid is = by_verdict (verdict_on setting contact r sfid) refl
    where
      by_verdict : (verdict : StartVerdict) → verdict_on setting contact r sfid ≡ verdict → IsAboutStep Is station r (on_start_verdict contact r sfid verdict)
      by_verdict (start.Accept count) e =
          let goes = accepted_goes sfid (look_in r (offered_identity sfid)) (files_full r side.Incoming) (terms_within setting contact r.limits) count e in
          record { change = subst Is (sym goes.originator) is; phase = (is, record { originator = goes.originator; destination = goes.destination }); said = tt }
      by_verdict (start.Refuse reason retry) e = record { change = tt; phase = is; said = tt }

  listener_about : (contact : Contact) (r : Register) (c : Command) → Is contact.code → IsAboutStep Is station r (came_listener_idle setting contact r c)
  unfolding came_listener_idle
  listener_about contact r (command.Sfid sfid) is = offer_about contact r sfid is
  listener_about contact r (command.Eerp eerp) is = response_about contact r (end_response eerp) is
  listener_about contact r (command.Nerp nerp) is = response_about contact r (negative_end_response nerp) is
  listener_about contact r command.Cd is = record { change = tt; phase = is; said = tt }
  listener_about contact r other is = unexpected_about Is station r other

  -- a session opens

  initiate_about : (r : Register) (c : Command) → IsAboutStep Is station r (came_initiator_opening setting c)
  unfolding came_initiator_opening
  initiate_about r command.Ssrm = by setting.called
    where
      by : (called : Option Partner) → IsAboutStep Is station r (calling_step setting called)
      by None = fails_about Is station r ProtocolViolation
      by (Some partner) = record { change = tt; phase = tt; said = refl }
  initiate_about r other = unexpected_about Is station r other

  await_about : (r : Register) (c : Command) → LetsIn Is setting c → IsAboutStep Is station r (came_awaiting_ssid setting c)
  unfolding came_awaiting_ssid
  await_about r (command.Ssid ssid) is = by (ssid_verdict setting ssid) refl
    where
      by_role : (a : Agreement) (called : Option Partner) → Is a.partner.code → IsAboutStep Is station r (open_step setting ssid.mode a called)
      by_role a None it = record { change = tt; phase = it; said = refl }
      by_role a (Some partner) it = record { change = tt; phase = it; said = tt }

      by : (verdict : Result Agreement SessionReason) → ssid_verdict setting ssid ≡ verdict → IsAboutStep Is station r (opened_step setting ssid.mode verdict)
      by (Ok a) e =
          let code = called_code ssid.code setting.book.partners setting.called a.partner (agreed_so setting ssid a e).partner in
          by_role a setting.called (subst Is (sym code) (is a e))
      by (Err reason) e = fails_about Is station r reason
  await_about r other is = unexpected_about Is station r other

  -- a command that arrives
  pub came_about : (p : Phase) (r : Register) (c : Command) → Holds p r → LetsIn Is setting c → IsAbout Is station r p → IsAboutStep Is station r (came setting p r c)
  unfolding came
  came_about ResponderOpening r c holds is h = unexpected_about Is station r c
  came_about InitiatorOpening r c holds is h = initiate_about r c
  came_about AwaitingSsid r c holds is h = await_about r c is
  came_about (ListenerIdle contact) r c holds is h = listener_about contact r c h
  came_about (Receiving contact f) r c holds is h = receiving_about Is station contact r f c holds h
  came_about (SpeakerIdle contact done) r c holds is h = unexpected_about Is station r c
  came_about (GivingWay contact) r c holds is h = unexpected_about Is station r c
  came_about (AwaitingRtr contact number) r c holds is h = rtr_about Is station contact r number c h
  came_about (AwaitingStart contact offer) r c holds is h = start_answer_about Is station contact r offer c holds h
  came_about (Sending contact t) r c holds is h = sending_about Is station contact r t c holds h
  came_about (AwaitingEnd contact t) r c holds is h = end_answer_about Is station contact r t c holds h
  came_about (EndedHere reason) r c holds is h = record { change = tt; phase = tt; said = tt }
  came_about (EndedThere reason) r c holds is h = record { change = tt; phase = tt; said = tt }

-- at first
pub opening_about : (Is : List ℕ → Type 0) (own : List ℕ) (r : Register) (called : Option Partner) → IsAbout Is own r (opening called)
opening_about Is own r None = tt
opening_about Is own r (Some partner) = tt
