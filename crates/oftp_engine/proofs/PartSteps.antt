-- What each step of a session does to a file that comes in parts, by cases of phase.
use Rattle.std.proofs.Common.{◌≡◌, ℕ, zero, suc, ◌+◌, ◌==◌, ◌&&◌, nat_le, nat_lt, not, Bool, true, false, cond, List, [], ◌∷◌, ◌++◌, length, take, drop, slice_get, Option, None, Some, unwrap_or, Result, Ok, Err, refl, ap, sym, ◌∙◌, subst, inl, inr, arith, length-append}
use Rattle.std.specs.Prelude.{⊤}
use Rattle.std.proofs.lemmas.Bool.{eqb-true, not-false}
use Rattle.std.proofs.lemmas.List.{length-take-le, take-append-drop, take-append-le}
use Rattle.std.proofs.lemmas.List.Concat.{flat_map-append}
use Rattle.oftp_wire.specs.declared.command.Command.{Command}
use Rattle.oftp_wire.specs.declared.command.Command.TheVariants as command
use Rattle.oftp_wire.specs.declared.command.Efid.{Efid}
use Rattle.oftp_wire.specs.declared.command.Mode.{Mode}
use Rattle.oftp_wire.specs.declared.command.Sfid.{Sfid}
use Rattle.oftp_wire.specs.declared.command.Sfna.{Sfna}
use Rattle.oftp_wire.specs.declared.reason.EndReason.{EndReason}
use Rattle.oftp_wire.specs.declared.reason.EndReason.TheVariants.{InvalidByteCount, InvalidRecordCount}
use Rattle.oftp_wire.specs.declared.reason.SessionReason.{SessionReason}
use Rattle.oftp_wire.specs.declared.reason.StartReason.TheVariants.{DuplicateFile}
use Rattle.oftp_wire.specs.Reasons.{start_number}
use Rattle.oftp_wire.specs.declared.reason.SessionReason.TheVariants.{BufferSizeError, InvalidData, ProtocolViolation}
use Rattle.oftp_partners.specs.declared.partner.Partner.{Partner}
use Rattle.oftp_vfile.specs.declared.fault.TakeFault.{TakeFault}
use Rattle.oftp_vfile.specs.Taking.{Taking, counts_of}
use Rattle.oftp_vfile.specs.Reading.{taken}
use Rattle.oftp_vfile.specs.Carries.{Carries, is_open}
use Rattle.oftp_vfile.specs.VirtualFile.{BeginsWith, closed, is_stream, octets_in, records_in, units_in}
use Rattle.oftp_vfile.specs.Fill.{payloads_of}
use Rattle.oftp_vfile.proofs.ClosedLemmas.{counts_file, octets_in-closed}
use Rattle.oftp_vfile.proofs.FillCarriesLemmas.{fill_whole}
use Rattle.oftp_vfile.proofs.LendLemmas.{rows_from}
use Rattle.oftp_vfile.proofs.PartLemmas.{part_begins, part_closes}
use Rattle.oftp_register.specs.declared.change.Change.{Change}
use Rattle.oftp_register.specs.declared.change.Change.TheVariants.{HandOver, Mark, Refuse, Reopen}
use Rattle.oftp_register.specs.declared.entry.Identity.{Identity}
use Rattle.oftp_register.specs.declared.entry.IncomingState.TheVariants.{Open, Whole}
use Rattle.oftp_register.specs.declared.entries.Item.{Item}
use Rattle.oftp_register.specs.declared.entries.Item.TheVariants as item
use Rattle.oftp_register.specs.declared.verdicts.EndVerdict.{EndVerdict}
use Rattle.oftp_register.specs.declared.verdicts.EndVerdict.TheVariants as «end»
use Rattle.oftp_register.specs.declared.verdicts.StartVerdict.{StartVerdict}
use Rattle.oftp_register.specs.declared.verdicts.StartVerdict.TheVariants as start
use Rattle.oftp_register.specs.Register.{Register, Incoming, Outgoing, Received, has_received, same_identity}
use Rattle.oftp_register.specs.ByIdentity.{in_at, incoming_name}
use Rattle.oftp_register.specs.Changes.{is_closing}
use Rattle.oftp_register.specs.LookUps.{entry_at, next_item}
use Rattle.oftp_register.specs.Soundness.{IsSound}
use Rattle.oftp_register.specs.Verdicts.{end_verdict}
use Rattle.oftp_register.proofs.ByIdentityLemmas.{found_named, same_self}
use Rattle.oftp_session.specs.declared.link.WhenDone.{WhenDone}
use Rattle.oftp_session.specs.declared.link.WhenDone.TheVariants.{ChangeDirection, EndSession}
use Rattle.oftp_session.specs.declared.state.Contact.{Contact}
use Rattle.oftp_session.specs.Settings.{Setting}
use Rattle.oftp_session.specs.Phases.{Phase, Offer, Receipt, Step, Transfer, answers, changes, fails, quiet, unexpected}
use Rattle.oftp_session.specs.Phases.{AwaitingEnd, AwaitingRtr, AwaitingSsid, AwaitingStart, EndedHere, EndedThere, GivingWay, InitiatorOpening, ListenerIdle, Receiving, ResponderOpening, Sending, SpeakerIdle}
use Rattle.oftp_session.specs.Opening.{Agreement, came_awaiting_ssid, came_initiator_opening, open_step, opened_step, ssid_verdict}
use Rattle.oftp_session.specs.Opening.{calling_step}
use Rattle.oftp_session.specs.Listener.{came_listener_idle, end_response, file_of, filing, is_between, negative_end_response, offer_step, on_start_verdict, response_step, verdict_on}
use Rattle.oftp_session.specs.Receiving.{came_receiving, carried_by, data_step, end_step, is_window_full, keeping, on_end_verdict, on_taken, reason_of, rows_to_keep, window_step, with_payload, with_rows}
use Rattle.oftp_session.specs.Speaker.{came_awaiting_rtr, nothing_next, offers, on_item, speaks}
use Rattle.oftp_session.specs.Sending.{after_file, came_awaiting_end, came_awaiting_start, came_sending, credit_left, credited, new_mark, payloads_in, refusal, reopening, sends_next, transfer_of, turned_sending}
use Rattle.oftp_session.specs.Steps.{IsReceived, Suits, came, turned}
use Rattle.oftp_session.proofs.Receipts.{carried_next, carried_same, payload_holds}
use Rattle.oftp_session.proofs.Turns.{each_turn}
use Rattle.oftp_engine.specs.Parts.{CarriesPart, File, IsPartCommand, IsSoFar, IsUnbroken}
use Rattle.oftp_engine.proofs.PartChanges.{PartGrounds}
use Rattle.oftp_engine.proofs.PartRows.{close_whole, keep_begins}

-- the file is received: the entry is of its layout, and what was received is a part of it
pub record IsPartReceipt (file : File) (f : Receipt) : Type 0 where
  pub format : f.file.format ≡ file.format
  pub longest : f.file.longest ≡ file.longest
  pub carries : CarriesPart file f.from f.payloads

-- what a phase says of the file
abbrev pub IsPartPhase : File → Identity → Phase → Type 0
IsPartPhase file identity (Receiving contact f) = f.file.identity ≡ identity → IsPartReceipt file f
IsPartPhase file identity _ = ⊤

abbrev pub StepGrounds : File → Identity → Register → Option Change → Type 0
StepGrounds file identity r None = ⊤
StepGrounds file identity r (Some change) = PartGrounds file identity r change

-- a step whose change has its grounds, and whose phase is consistent
pub record IsPartStep (file : File) (identity : Identity) (r : Register) (step : Step) : Type 0 where
  pub grounds : StepGrounds file identity r step.change
  pub phase : IsPartPhase file identity step.phase

module _ (file : File) (identity : Identity) (r : Register) where
  either_grounds : (b : Bool) (x y : Option Change) → StepGrounds file identity r x → StepGrounds file identity r y → StepGrounds file identity r (cond b x y)
  either_grounds true x y h k = h
  either_grounds false x y h k = k

  either_step : (b : Bool) (x y : Step) → IsPartStep file identity r x → IsPartStep file identity r y → IsPartStep file identity r (cond b x y)
  either_step true x y h k = h
  either_step false x y h k = k

  -- steps without a premise
  fails_part : (reason : SessionReason) → IsPartStep file identity r (fails reason)
  fails_part reason = record { grounds = tt; phase = tt }

  unexpected_part : (c : Command) → IsPartStep file identity r (unexpected c)
  unfolding unexpected
  unexpected_part (command.Esid esid) = record { grounds = tt; phase = tt }
  unexpected_part _ = record { grounds = tt; phase = tt }

  -- an opening

  calling_part : (setting : Setting) (called : Option Partner) → IsPartStep file identity r (calling_step setting called)
  calling_part setting None = record { grounds = tt; phase = tt }
  calling_part setting (Some partner) = record { grounds = tt; phase = tt }

  initiate_part : (setting : Setting) (c : Command) → IsPartStep file identity r (came_initiator_opening setting c)
  unfolding came_initiator_opening
  initiate_part setting command.Ssrm = calling_part setting setting.called
  initiate_part setting other = unexpected_part other

  open_part : (setting : Setting) (letter : Mode) (a : Agreement) (called : Option Partner) → IsPartStep file identity r (open_step setting letter a called)
  open_part setting letter a None = record { grounds = tt; phase = tt }
  open_part setting letter a (Some partner) = record { grounds = tt; phase = tt }

  opened_part : (setting : Setting) (letter : Mode) (verdict : Result Agreement SessionReason) → IsPartStep file identity r (opened_step setting letter verdict)
  opened_part setting letter (Ok a) = open_part setting letter a setting.called
  opened_part setting letter (Err reason) = fails_part reason

  await_part : (setting : Setting) (c : Command) → IsPartStep file identity r (came_awaiting_ssid setting c)
  unfolding came_awaiting_ssid
  await_part setting (command.Ssid ssid) = opened_part setting ssid.mode (ssid_verdict setting ssid)
  await_part setting other = unexpected_part other

  -- a speaker

  rtr_part : (contact : Contact) (n : ℕ) (c : Command) → IsPartStep file identity r (came_awaiting_rtr contact n c)
  unfolding came_awaiting_rtr
  rtr_part contact n command.Rtr = record { grounds = tt; phase = tt }
  rtr_part contact n other = unexpected_part other

  reopening_part : (offer : Offer) → StepGrounds file identity r (reopening offer)
  reopening_part offer = either_grounds (is_closing offer.file.state) (Some (Reopen offer.number)) None tt tt

  refusal_part : (offer : Offer) (sfna : Sfna) → StepGrounds file identity r (refusal offer sfna)
  refusal_part offer sfna =
      let refuses = Some (Refuse offer.number sfna.reason) in
      either_grounds (sfna.reason == start_number DuplicateFile && is_closing offer.file.state) (Some (HandOver offer.number)) (cond sfna.retry None refuses)
      tt (either_grounds sfna.retry None refuses tt tt)

  answer_part : (contact : Contact) (offer : Offer) (c : Command) → IsPartStep file identity r (came_awaiting_start contact offer c)
  unfolding came_awaiting_start
  answer_part contact offer (command.Sfpa sfpa) =
      either_step (nat_le sfpa.restart offer.from) (changes (Sending contact (transfer_of offer sfpa.restart)) (reopening offer)) (fails ProtocolViolation)
      (record { grounds = reopening_part offer; phase = tt }) (fails_part ProtocolViolation)
  answer_part contact offer (command.Sfna sfna) = record { grounds = refusal_part offer sfna; phase = tt }
  answer_part contact offer other = unexpected_part other

  credit_part : (contact : Contact) (t : Transfer) (c : Command) → IsPartStep file identity r (came_sending contact t c)
  unfolding came_sending
  credit_part contact t command.Cdt =
      either_step (nat_lt 0 (credit_left contact t)) (fails ProtocolViolation) (credited contact t (new_mark contact t)) (fails_part ProtocolViolation)
      (record { grounds = either_grounds (new_mark contact t == t.file.mark) None (Some (Mark t.number (new_mark contact t))) tt tt; phase = tt })
  credit_part contact t other = unexpected_part other

  after_part : (contact : Contact) (speaks : Bool) → IsPartPhase file identity (after_file contact speaks)
  after_part contact true = tt
  after_part contact false = tt

  ended_part : (contact : Contact) (t : Transfer) (c : Command) → IsPartStep file identity r (came_awaiting_end contact t c)
  unfolding came_awaiting_end
  ended_part contact t (command.Efpa efpa) = record { grounds = tt; phase = after_part contact efpa.change_direction }
  ended_part contact t (command.Efna efna) = record { grounds = tt; phase = tt }
  ended_part contact t other = unexpected_part other

  nothing_part : (contact : Contact) (done : WhenDone) → IsPartStep file identity r (nothing_next contact done)
  nothing_part contact ChangeDirection = record { grounds = tt; phase = tt }
  nothing_part contact EndSession = record { grounds = tt; phase = tt }

  offers_part : (contact : Contact) (done : WhenDone) (n : ℕ) (found : Option Outgoing) → IsPartStep file identity r (offers contact done n found)
  offers_part contact done n (Some found) = record { grounds = tt; phase = tt }
  offers_part contact done n None = nothing_part contact done

  item_part : (setting : Setting) (contact : Contact) (done : WhenDone) (next : Option Item) → IsPartStep file identity r (on_item setting contact done r next)
  item_part setting contact done (Some (item.Response e)) = record { grounds = tt; phase = tt }
  item_part setting contact done (Some (item.File e)) = offers_part contact done e.no (entry_at e.no r.outgoing)
  item_part setting contact done None = nothing_part contact done

  sends_part : (contact : Contact) (t : Transfer) (payload : Option (List ℕ)) → IsPartStep file identity r (sends_next contact t payload)
  sends_part contact t (Some payload) = record { grounds = tt; phase = tt }
  sends_part contact t None = record { grounds = tt; phase = tt }

  speaks_part : (setting : Setting) (contact : Contact) (done : WhenDone) → IsPartStep file identity r (speaks setting contact done r)
  unfolding speaks
  speaks_part setting contact done = item_part setting contact done (next_item r contact.code contact.tried contact.link.sends)

  payload_part : (contact : Contact) (t : Transfer) → IsPartStep file identity r (turned_sending contact t)
  unfolding turned_sending
  payload_part contact t =
      let payload = slice_get (payloads_in contact t) t.sent in
      either_step (nat_lt 0 (credit_left contact t)) (sends_next contact t payload) (quiet (Sending contact t)) (sends_part contact t payload) (record { grounds = tt; phase = tt })

  -- a turn
  pub turned_part : (setting : Setting) (p : Phase) → IsPartPhase file identity p → IsPartStep file identity r (turned setting p r)
  turned_part setting p = each_turn (λ q s. IsPartPhase file identity q → IsPartStep file identity r s) setting r (record {
    greeting = λ h. record { grounds = tt; phase = tt };
    speaking = λ contact done h. speaks_part setting contact done;
    giving_way = λ contact h. record { grounds = tt; phase = tt };
    sending = λ contact t h. payload_part contact t;
    waiting = λ q h. record { grounds = tt; phase = h };
  }) p

  -- a listener

  filing_part : (response : Received) → StepGrounds file identity r (filing r response)
  filing_part response = either_grounds (has_received r response.kind response.identity) None (Some (file_of response)) tt tt

  response_part : (setting : Setting) (contact : Contact) (response : Received) → IsPartStep file identity r (response_step setting contact r response)
  unfolding response_step
  response_part setting contact response =
      either_step (is_between setting contact response.identity) (answers (ListenerIdle contact) (filing r response) command.Rtr) (fails InvalidData)
      (record { grounds = filing_part response; phase = tt }) (fails_part InvalidData)

  -- a file starts: the rest of it is still to be carried
  sfid_part : (setting : Setting) (contact : Contact) (sfid : Sfid) → IsPartCommand file identity (ListenerIdle contact) (command.Sfid sfid)
      → IsPartStep file identity r (offer_step setting contact r sfid)
  unfolding offer_step
  sfid_part setting contact sfid part = by (verdict_on setting contact r sfid)
    where
      rest : (count : ℕ) → CarriesPart file count []
      rest count =
          let left = drop count file.rows in
          (payloads_of file.format 2 left, fill_whole file.format file.longest 2 left (omega arith) (rows_from file.format file.longest count file.rows file.fits))

      by : (verdict : StartVerdict) → IsPartStep file identity r (on_start_verdict contact r sfid verdict)
      by (start.Accept count) = record { grounds = tt; phase = λ q. record { format = (part q).0; longest = (part q).1; carries = rest count } }
      by (start.Refuse reason retry) = record { grounds = tt; phase = tt }

  listen_part : (setting : Setting) (contact : Contact) (c : Command) → IsPartCommand file identity (ListenerIdle contact) c
      → IsPartStep file identity r (came_listener_idle setting contact r c)
  unfolding came_listener_idle
  listen_part setting contact (command.Sfid sfid) part = sfid_part setting contact sfid part
  listen_part setting contact (command.Eerp eerp) part = response_part setting contact (end_response eerp)
  listen_part setting contact (command.Nerp nerp) part = response_part setting contact (negative_end_response nerp)
  listen_part setting contact command.Cd part = record { grounds = tt; phase = tt }
  listen_part setting contact other part = unexpected_part other

  -- what is known of the file's entry while it is received
  module _ (f : Receipt) (sound : IsSound r) (so_far : IsSoFar file (in_at r identity)) (holds : IsReceived r f) (own : f.file.identity ≡ identity) (part : IsPartReceipt file f) where
    own_entry : IsSoFar file (Some f.file)
    own_entry = at f.number holds.entry
      where
        at : (n : ℕ) → entry_at n r.incoming ≡ Some f.file → IsSoFar file (Some f.file)
        at zero h = absurd (cc)
        at (suc n) h =
            let its = ap (λ i. same_identity i identity) own ∙ same_self identity in
            subst (IsSoFar file) (found_named incoming_name n r.incoming f.file identity sound.incoming_once h its) so_far

    own_begun : BeginsWith file.rows f.file.rows
    own_begun = elim own_entry [
      | inl b ↦ b.rows
      | inr u ↦ absurd (let both : Whole ≡ Open = sym u.whole ∙ holds.opened in cc)
    ]

    own_carries : let t = carried_by f in Carries file.format file.longest f.payloads t.rows t.tail t.stage
    own_carries =
        let t = carried_by f in
        let k = holds.took in
        let same = carried_same f in
        let c : Carries t.format t.longest f.payloads t.rows t.tail t.stage =
        record { subs = k.subs; spelling = k.spelling; short = k.short; carried = k.holds.carried; last = k.holds.last } in
        subst (λ a. Carries a file.longest f.payloads t.rows t.tail t.stage) (same.0 ∙ part.format)
        (subst (λ l. Carries t.format l f.payloads t.rows t.tail t.stage) (same.1 ∙ part.longest) c)

    -- rows that are kept continue a beginning of the file
    own_keeps : BeginsWith file.rows (f.file.rows ++ rows_to_keep f (carried_by f))
    own_keeps =
        let t = carried_by f in
        let rest = drop f.from file.rows in
        let begins = part_begins file.format file.longest rest f.payloads part.carries.0 t.rows t.tail t.stage part.carries.1 own_carries in
        keep_begins file.rows f.file.rows own_begun t.rows f.from holds.kept begins

    -- what is carried on from a row makes the file, by its counts alone
    own_closes : let t = carried_by f in is_open t.stage ≡ false → counts_of t ≡ (records_in file.format file.rows, units_in file.rows)
        → f.file.rows ++ closed (rows_to_keep f t) t.tail ≡ file.rows
    own_closes shut counts =
        let t = carried_by f in
        let same = carried_same f in
        let front = take f.from f.file.rows in
        let rest = drop f.from file.rows in
        let first : take f.from file.rows ≡ front = ap (take f.from) own_begun.1 ∙ take-append-le f.from f.file.rows own_begun.0 holds.kept in
        let split : file.rows ≡ front ++ rest = sym (take-append-drop f.from file.rows) ∙ ap (λ x. x ++ rest) first in
        let size = length-take-le f.from f.file.rows holds.kept in
        let all = counts_file t front [] f.payloads holds.took (same.2 ∙ sym size) (same.3 ∙ holds.units) in
        let both : (records_in t.format (front ++ t.rows), units_in (closed (front ++ t.rows) t.tail)) ≡ (records_in file.format file.rows, units_in file.rows) =
        sym all ∙ counts in
        let records : records_in file.format (front ++ t.rows) ≡ records_in file.format (front ++ rest) =
        ap (λ a. records_in a (front ++ t.rows)) (sym (same.0 ∙ part.format)) ∙ ap (λ x. x.0) both ∙ ap (records_in file.format) split in
        let units : units_in (closed (front ++ t.rows) t.tail) ≡ units_in (front ++ rest) = ap (λ x. x.1) both ∙ ap units_in split in
        let whole = part_closes file.format file.longest rest f.payloads part.carries.0 t.rows t.tail t.stage part.carries.1 own_carries shut
        (fewer_records (is_stream file.format) front t.rows rest records) (fewer_units front t.rows rest t.tail units) in
        close_whole file.rows f.file.rows own_begun t.rows t.tail f.from holds.kept holds.most whole
      where
        fewer_records : (b : Bool) (front xs ys : List (List ℕ)) → cond b 0 (length (front ++ xs)) ≡ cond b 0 (length (front ++ ys)) → cond b 0 (length xs) ≡ cond b 0 (length ys)
        fewer_records true front xs ys h = refl
        fewer_records false front xs ys h = omega (arith, h, length-append front xs, length-append front ys)

        fewer_units : (front xs ys : List (List ℕ)) (tail : List ℕ) → units_in (closed (front ++ xs) tail) ≡ units_in (front ++ ys) → units_in (closed xs tail) ≡ units_in ys
        fewer_units front xs ys tail h =
            let a = ap length (octets_in-closed (front ++ xs) tail) in
            let b = ap length (octets_in-closed xs tail) in
            let c = ap length (flat_map-append (λ (x : List ℕ). x) front xs) in
            let d = ap length (flat_map-append (λ (x : List ℕ). x) front ys) in
            let e = length-append (octets_in (front ++ xs)) tail in
            omega (arith, h, a, b, c, d, e, length-append (octets_in xs) tail, length-append (octets_in front) (octets_in xs), length-append (octets_in front) (octets_in ys))

  -- the entry with the number of a file that is received
  its_entry : (f : Receipt) (e : Incoming) → IsReceived r f → entry_at f.number r.incoming ≡ Some e → f.file ≡ e
  its_entry f e holds at = let both : Some f.file ≡ Some e = sym holds.entry ∙ at in cc

  -- DATA

  keeps_part : (f : Receipt) → IsSound r → IsSoFar file (in_at r identity) → IsReceived r f → (f.file.identity ≡ identity → IsPartReceipt file f)
      → StepGrounds file identity r (keeping f.number (rows_to_keep f (carried_by f)))
  keeps_part f sound so_far holds part = by (rows_to_keep f (carried_by f)) refl
    where
      by : (rows : List (List ℕ)) → rows_to_keep f (carried_by f) ≡ rows → StepGrounds file identity r (keeping f.number rows)
      by [] is = tt
      by (row ∷ rows) is = λ e at q.
          let same = its_entry f e holds at in
          let own = ap incoming_name same ∙ q in
          subst (λ (x : Incoming). BeginsWith file.rows (x.rows ++ row ∷ rows)) same
          (subst (λ x. BeginsWith file.rows (f.file.rows ++ x)) is (own_keeps f sound so_far holds own (part own)))

  window_part : (contact : Contact) (g : Receipt) → IsSound r → IsSoFar file (in_at r identity) → IsReceived r g → (g.file.identity ≡ identity → IsPartReceipt file g)
      → IsPartStep file identity r (window_step contact g (rows_to_keep g (carried_by g)))
  window_part contact g sound so_far holds part =
      let rows = rows_to_keep g (carried_by g) in
      let goes : IsPartPhase file identity (Receiving contact (with_rows g rows)) = λ q. (let h = part q in record { format = h.format; longest = h.longest; carries = h.carries }) in
      either_step (is_window_full contact g) (answers (Receiving contact (with_rows g rows)) (keeping g.number rows) command.Cdt) (quiet (Receiving contact g))
      (record { grounds = keeps_part g sound so_far holds part; phase = goes }) (record { grounds = tt; phase = part })

  data_part : (contact : Contact) (f : Receipt) (payload : List ℕ) → IsSound r → IsSoFar file (in_at r identity) → IsReceived r f → IsPartPhase file identity (Receiving contact f)
      → IsPartCommand file identity (Receiving contact f) (command.Data payload) → IsPartStep file identity r (data_step contact f payload)
  unfolding data_step
  data_part contact f payload sound so_far holds was part =
      either_step (nat_lt contact.link.buffer (length payload + 1)) (fails BufferSizeError) (on_taken contact f payload (taken (carried_by f) payload))
      (fails_part BufferSizeError) (by (taken (carried_by f) payload) refl)
    where
      g : Receipt
      g = with_payload f payload

      goes : g.file.identity ≡ identity → IsPartReceipt file g
      goes q = let h = was q in record { format = h.format; longest = h.longest; carries = part q }

      by : (result : Result Taking TakeFault) → taken (carried_by f) payload ≡ result → IsPartStep file identity r (on_taken contact f payload result)
      by (Ok t) e =
          subst (λ (x : Taking). IsPartStep file identity r (window_step contact g (rows_to_keep g x))) (carried_next f payload t e)
          (window_part contact g sound so_far (payload_holds r f t payload holds e) goes)
      by (Err fault) e = fails_part (unwrap_or (reason_of fault) ProtocolViolation)

  -- EFID

  ends_past : (b : Bool) (reason : EndReason) (x : EndVerdict) → cond b («end».Refuse reason) x ≡ «end».Accept → (b ≡ false) × (x ≡ «end».Accept)
  ends_past true reason x h = absurd (cc)
  ends_past false reason x h = (refl, h)

  end_counts : (efid : Efid) (counts : ℕ × ℕ) → end_verdict efid counts.0 counts.1 ≡ «end».Accept → counts ≡ (efid.records, efid.units)
  end_counts efid counts h =
      let one = ends_past (not (efid.records == counts.0)) InvalidRecordCount _ h in
      let two = ends_past (not (efid.units == counts.1)) InvalidByteCount _ one.1 in
      let records = eqb-true efid.records counts.0 (not-false (efid.records == counts.0) one.0) in
      let units = eqb-true efid.units counts.1 (not-false (efid.units == counts.1) two.0) in
      ap (λ n. (n, counts.1)) (sym records) ∙ ap (λ n. (efid.records, n)) (sym units)

  end_part : (contact : Contact) (f : Receipt) (efid : Efid) → IsSound r → IsSoFar file (in_at r identity) → IsReceived r f → IsPartPhase file identity (Receiving contact f)
      → IsPartCommand file identity (Receiving contact f) (command.Efid efid) → IsPartStep file identity r (end_step contact r f efid)
  unfolding end_step
  end_part contact f efid sound so_far holds was part = at (is_open (carried_by f).stage) refl
    where
      t : Taking
      t = carried_by f

      last : List (List ℕ)
      last = closed (rows_to_keep f t) t.tail

      closes : is_open t.stage ≡ false → end_verdict efid (counts_of t).0 (counts_of t).1 ≡ «end».Accept
          → (e : Incoming) → entry_at f.number r.incoming ≡ Some e → e.identity ≡ identity
          → IsUnbroken file (record e { rows = e.rows ++ last; state = Whole })
      closes shut told e found q =
          let same = its_entry f e holds found in
          let own = ap incoming_name same ∙ q in
          let h = was own in
          let c = part own in
          let counts = end_counts efid (counts_of t) told ∙ ap (λ n. (n, efid.units)) c.0 ∙ ap (λ n. (records_in file.format file.rows, n)) c.1 in
          let all = own_closes f sound so_far holds own h shut counts in
          let done : IsUnbroken file (record f.file { rows = f.file.rows ++ last; state = Whole }) = record { whole = refl; format = h.format; longest = h.longest; rows = all } in
          subst (λ (x : Incoming). IsUnbroken file (record x { rows = x.rows ++ last; state = Whole })) same done

      by : (verdict : EndVerdict) → end_verdict efid (counts_of t).0 (counts_of t).1 ≡ verdict → is_open t.stage ≡ false → IsPartStep file identity r (on_end_verdict contact r f t verdict)
      by «end».Accept told shut = record { grounds = closes shut told; phase = tt }
      by («end».Refuse reason) told shut = record { grounds = tt; phase = tt }

      at : (stays : Bool) → is_open t.stage ≡ stays
          → IsPartStep file identity r (cond stays (fails ProtocolViolation) (on_end_verdict contact r f t (end_verdict efid (counts_of t).0 (counts_of t).1)))
      at true h = fails_part ProtocolViolation
      at false h = by (end_verdict efid (counts_of t).0 (counts_of t).1) refl h

  receive_part : (contact : Contact) (f : Receipt) (c : Command) → IsSound r → IsSoFar file (in_at r identity) → IsReceived r f → IsPartPhase file identity (Receiving contact f)
      → IsPartCommand file identity (Receiving contact f) c → IsPartStep file identity r (came_receiving contact r f c)
  unfolding came_receiving
  receive_part contact f (command.Data payload) sound so_far holds was part = data_part contact f payload sound so_far holds was part
  receive_part contact f (command.Efid efid) sound so_far holds was part = end_part contact f efid sound so_far holds was part
  receive_part contact f other sound so_far holds was part = unexpected_part other

  -- a command that arrives
  pub came_part : (setting : Setting) (p : Phase) (c : Command) → Suits p r → IsSoFar file (in_at r identity) → IsPartPhase file identity p → IsPartCommand file identity p c
      → IsPartStep file identity r (came setting p r c)
  unfolding came
  came_part setting ResponderOpening c suits so_far was part = unexpected_part c
  came_part setting InitiatorOpening c suits so_far was part = initiate_part setting c
  came_part setting AwaitingSsid c suits so_far was part = await_part setting c
  came_part setting (ListenerIdle contact) c suits so_far was part = listen_part setting contact c part
  came_part setting (Receiving contact f) c suits so_far was part = receive_part contact f c suits.sound so_far suits.holds was part
  came_part setting (SpeakerIdle contact done) c suits so_far was part = unexpected_part c
  came_part setting (GivingWay contact) c suits so_far was part = unexpected_part c
  came_part setting (AwaitingRtr contact number) c suits so_far was part = rtr_part contact number c
  came_part setting (AwaitingStart contact offer) c suits so_far was part = answer_part contact offer c
  came_part setting (Sending contact t) c suits so_far was part = credit_part contact t c
  came_part setting (AwaitingEnd contact t) c suits so_far was part = ended_part contact t c
  came_part setting (EndedHere reason) c suits so_far was part = record { grounds = tt; phase = tt }
  came_part setting (EndedThere reason) c suits so_far was part = record { grounds = tt; phase = tt }
