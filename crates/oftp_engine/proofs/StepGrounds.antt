-- Each change of a session has its grounds, by what is on its way.
use Rattle.std.proofs.Common.{◌≡◌, ℕ, zero, suc, ◌+◌, ◌==◌, Bool, true, false, cond, ◌&&◌, nat_lt, nat_le, List, [], ◌∷◌, ◌++◌, length, drop, slice_get, Option, None, Some, Result, Ok, Err, refl, ap, sym, ◌∙◌, subst, append_assoc}
use Rattle.std.proofs.lemmas.Bool.{and_parts, eqb-true}
use Rattle.std.proofs.lemmas.List.{append-nil}
use Rattle.oftp_wire.specs.declared.command.Command.{Command}
use Rattle.oftp_wire.specs.declared.command.Command.TheVariants as command
use Rattle.oftp_wire.specs.declared.command.Sfid.{Sfid}
use Rattle.oftp_wire.specs.declared.command.Efid.{Efid}
use Rattle.oftp_wire.specs.declared.command.Sfna.{Sfna}
use Rattle.oftp_vfile.specs.declared.fault.TakeFault.{TakeFault}
use Rattle.oftp_vfile.specs.VirtualFile.{AreRows, closed, BeginsWith}
use Rattle.oftp_vfile.specs.Fill.{payloads_of}
use Rattle.oftp_vfile.specs.Carries.{Carries, is_open}
use Rattle.oftp_vfile.specs.Taking.{Taking, Took, counts_of}
use Rattle.oftp_vfile.proofs.FillCarriesLemmas.{taken_back}
use Rattle.oftp_vfile.proofs.LendLemmas.{rows_from}
use Rattle.oftp_register.specs.declared.change.Change.TheVariants.{HandOver, Refuse, Reopen, Mark}
use Rattle.oftp_register.specs.declared.entry.Identity.{Identity}
use Rattle.oftp_register.specs.declared.verdicts.StartVerdict.{StartVerdict}
use Rattle.oftp_register.specs.declared.verdicts.StartVerdict.TheVariants as start
use Rattle.oftp_register.specs.declared.verdicts.EndVerdict.{EndVerdict}
use Rattle.oftp_register.specs.declared.verdicts.EndVerdict.TheVariants as «end»
use Rattle.oftp_register.specs.Register.{Register, Incoming, Outgoing, Received, has_received}
use Rattle.oftp_register.specs.Changes.{is_closing}
use Rattle.oftp_register.specs.Verdicts.{end_verdict, format_of, longest_of, offered_identity}
use Rattle.oftp_register.specs.LookUps.{entry_at, next_item}
use Rattle.oftp_register.specs.Soundness.{IsSound, IsSoundOutgoing}
use Rattle.oftp_session.specs.Settings.{Setting}
use Rattle.oftp_session.specs.Phases.{Phase, Receipt, Offer, Transfer, Step, ResponderOpening, InitiatorOpening, AwaitingSsid, ListenerIdle, Receiving, SpeakerIdle, GivingWay, AwaitingRtr, AwaitingStart, Sending, AwaitingEnd, EndedHere, EndedThere, answers, quiet, fails, changes, unexpected}
use Rattle.oftp_session.specs.declared.state.Contact.{Contact}
use Rattle.oftp_wire.specs.declared.reason.SessionReason.{SessionReason}
use Rattle.oftp_wire.specs.declared.reason.SessionReason.TheVariants.{BufferSizeError, InvalidData, ProtocolViolation}
use Rattle.oftp_wire.specs.declared.command.Mode.{Mode}
use Rattle.oftp_partners.specs.declared.partner.Partner.{Partner}
use Rattle.oftp_session.specs.Opening.{calling_step}
use Rattle.oftp_session.specs.Opening.{Agreement, came_initiator_opening, came_awaiting_ssid, opened_step, open_step, ssid_verdict}
use Rattle.oftp_session.specs.Listener.{came_listener_idle, response_step, filing, file_of, is_between, end_response, negative_end_response, offer_step, on_start_verdict, verdict_on}
use Rattle.oftp_vfile.specs.Reading.{taken}
use Rattle.oftp_session.specs.Receiving.{carried_by, rows_to_keep, keeping, with_payload, with_rows, on_taken, data_step, on_end_verdict, end_step, came_receiving, is_window_full}
use Rattle.oftp_session.specs.Speaker.{came_awaiting_rtr, on_item, offers, speaks}
use Rattle.oftp_session.specs.declared.link.WhenDone.{WhenDone}
use Rattle.oftp_session.specs.declared.link.WhenDone.TheVariants.{ChangeDirection, EndSession}
use Rattle.oftp_register.specs.declared.entries.Item.{Item}
use Rattle.oftp_register.specs.declared.entries.Item.TheVariants as item
use Rattle.oftp_session.specs.Sending.{came_awaiting_start, came_sending, came_awaiting_end, refusal, reopening, transfer_of, credited, new_mark, credit_left, turned_sending, sends_next, payloads_in}
use Rattle.oftp_session.specs.Steps.{came, turned, Holds, IsReceived, IsOffered, IsEnded}
use Rattle.oftp_session.proofs.Receipts.{carried_next, carried_same, payload_holds}
use Rattle.oftp_session.proofs.Turns.{each_turn}
use Rattle.oftp_engine.proofs.PartRows.{keep_begins, close_whole}
use Rattle.oftp_vfile.proofs.PartLemmas.{carried_begins}
use Rattle.oftp_register.specs.ByIdentity.{out_at, in_at, incoming_name, outgoing_name}
use Rattle.oftp_engine.specs.TwoStations.{Has, IfAny}
use Rattle.oftp_engine.proofs.Standing.{IsPartOf, FileFits, AllFit, IsWholeAt, IsOfferOf, IsIssuedBy, ComesFrom, IsBeginning, MayTake, MayHear, MayAnswerStart, MayAnswerEnd, MayCome}
use Rattle.oftp_engine.proofs.Grounds.{OfEntry, Grounds}
use Rattle.oftp_register.proofs.ByIdentityLemmas.{found_named, same_self, named_all}

-- what comes first is a beginning, whatever follows
pub take_begins : (there : Register) (identity : Identity) (from : ℕ) (payloads : List (List ℕ)) (coming : List Command) → MayTake there identity from payloads coming
    → IsBeginning there identity from payloads
take_begins there identity from payloads [] h = h
take_begins there identity from payloads (command.Data payload ∷ coming) h =
    let b = take_begins there identity from (payloads ++ payload ∷ []) coming h in
    (payload ∷ b.0, record { file = b.1.file; found = b.1.found; size = b.1.size; room = b.1.room; split = sym (append_assoc payloads (payload ∷ []) b.0) ∙ b.1.split })
take_begins there identity from payloads (command.Efid efid ∷ coming) h = ([], h.0)
take_begins there identity from payloads (_ ∷ coming) h = h

-- the entry with a number is the one that its identity finds
in_entry : (r : Register) (n : ℕ) (x : Incoming) → IsSound r → entry_at n r.incoming ≡ Some x → in_at r x.identity ≡ Some x
in_entry r zero x sound e = absurd (cc)
in_entry r (suc n) x sound e = found_named incoming_name n r.incoming x x.identity sound.incoming_once e (same_self x.identity)

pub one_entry : {A : Type 0} (o : Option A) (x y : A) → o ≡ Some x → o ≡ Some y → x ≡ y
one_entry o x y h k = cc

has_found : {A : Type 0} (o : Option A) (x : A) (P : A → Type 0) → o ≡ Some x → P x → Has o P
has_found o x P e p = subst (λ z. Has z P) (sym e) p

-- what the file that is received and the file that is sent have in common
part_of : {Back : Identity → Type 0} (r there : Register) (f : Receipt) (file : Outgoing) → IsSound r → IsReceived r f → AllFit Back there r → Back f.file.identity
    → out_at there f.file.identity ≡ Some file → IsPartOf file f.file
part_of r there f file sound holds fit ours found =
    let here : in_at r f.file.identity ≡ Some f.file = in_entry r f.number f.file sound holds.entry in
    subst (λ o. FileFits o (Some f.file)) found (subst (λ e. FileFits (out_at there f.file.identity) e) here (fit f.file.identity ours))

sent_rows : (there : Register) (identity : Identity) (file : Outgoing) → IsSound there → out_at there identity ≡ Some file → AreRows file.format file.longest file.rows
sent_rows there identity file sound found =
    let s : IsSoundOutgoing file = named_all outgoing_name IsSoundOutgoing identity there.outgoing file sound.outgoing found in s.fits

-- DATA

keep_grounds : {Back : Identity → Type 0} (r there : Register) (f : Receipt) (payload : List ℕ) (t : Taking) → IsSound r → IsSound there → IsReceived r f → AllFit Back there r → Back f.file.identity
    → IsBeginning there f.file.identity f.from (f.payloads ++ payload ∷ []) → taken (carried_by f) payload ≡ Ok t
    → OfEntry f.number r.incoming (λ (e : Incoming). Has (out_at there e.identity) (λ g. BeginsWith g.rows (e.rows ++ rows_to_keep f t)))
keep_grounds r there f payload t sound sound' holds fit ours b took x e =
    let file = b.1.file in
    let part = part_of r there f file sound holds fit ours b.1.found in
    let left = drop f.from file.rows in
    let g = with_payload f payload in
    let is : carried_by g ≡ t = carried_next f payload t took in
    let now = subst (λ (z : Taking). Took z [] g.payloads) is (payload_holds r f t payload holds took).took in
    let same = subst (λ (z : Taking). (z.format ≡ f.file.format) × (z.longest ≡ f.file.longest)) is ((carried_same g).0, (carried_same g).1) in
    let format : t.format ≡ file.format = same.0 ∙ part.format in
    let longest : t.longest ≡ file.longest = same.1 ∙ part.longest in
    let fits = rows_from file.format file.longest f.from file.rows (sent_rows there f.file.identity file sound' b.1.found) in
    let its = subst (λ a. AreRows a t.longest left) (sym format) (subst (λ l. AreRows file.format l left) (sym longest) fits) in
    let split : g.payloads ++ b.0 ≡ payloads_of t.format b.1.size left = b.1.split ∙ ap (λ a. payloads_of a b.1.size left) (sym format) in
    let carries : Carries t.format t.longest g.payloads t.rows t.tail t.stage =
    record { subs = now.subs; spelling = now.spelling; short = now.short; carried = now.holds.carried; last = now.holds.last } in
    let begins = carried_begins t.format t.longest b.1.size left g.payloads b.0 t.rows t.tail t.stage b.1.room its split carries in
    let kept : BeginsWith file.rows (f.file.rows ++ rows_to_keep f t) = keep_begins file.rows f.file.rows part.begins t.rows f.from holds.kept begins in
    let at : f.file ≡ x = one_entry (entry_at f.number r.incoming) f.file x holds.entry e in
    subst (λ (y : Incoming). Has (out_at there y.identity) (λ g. BeginsWith g.rows (y.rows ++ rows_to_keep f t))) at
    (has_found (out_at there f.file.identity) file (λ g. BeginsWith g.rows (f.file.rows ++ rows_to_keep f t)) b.1.found kept)

keeping_grounds : (r there : Register) (n : ℕ) (rows : List (List ℕ)) → OfEntry n r.incoming (λ (e : Incoming). Has (out_at there e.identity) (λ g. BeginsWith g.rows (e.rows ++ rows)))
    → IfAny (keeping n rows) (Grounds r there)
keeping_grounds r there n [] h = tt
keeping_grounds r there n (row ∷ rows) h = h

data_grounds : {Back : Identity → Type 0} (contact : Contact) (r there : Register) (f : Receipt) (payload : List ℕ) → IsSound r → IsSound there → IsReceived r f → AllFit Back there r
    → Back f.file.identity
    → IsBeginning there f.file.identity f.from (f.payloads ++ payload ∷ [])
    → IfAny (data_step contact f payload).change (Grounds r there)
unfolding data_step
data_grounds contact r there f payload sound sound' holds fit ours b = by_size (nat_lt contact.link.buffer (length payload + 1))
  where
    by_window : (t : Taking) → taken (carried_by f) payload ≡ Ok t → (full : Bool)
        → IfAny (let s : Step = cond full (answers (Receiving contact (with_rows (with_payload f payload) (rows_to_keep f t))) (keeping f.number (rows_to_keep f t)) command.Cdt)
        (quiet (Receiving contact (with_payload f payload))) in s).change (Grounds r there)
    by_window t h true = keeping_grounds r there f.number (rows_to_keep f t) (keep_grounds r there f payload t sound sound' holds fit ours b h)
    by_window t h false = tt

    by_taken : (result : Result Taking TakeFault) → taken (carried_by f) payload ≡ result → IfAny (on_taken contact f payload result).change (Grounds r there)
    by_taken (Ok t) h = by_window t h (is_window_full contact (with_payload f payload))
    by_taken (Err fault) h = tt

    by_size : (big : Bool) → IfAny (let s : Step = cond big (fails BufferSizeError) (on_taken contact f payload (taken (carried_by f) payload)) in s).change (Grounds r there)
    by_size true = tt
    by_size false = by_taken (taken (carried_by f) payload) refl

-- EFID

close_grounds : {Back : Identity → Type 0} (r there : Register) (f : Receipt) → IsSound r → IsSound there → IsReceived r f → AllFit Back there r → Back f.file.identity
    → ComesFrom there f.file.identity f.from f.payloads []
    → OfEntry f.number r.incoming (λ (e : Incoming). Has (out_at there e.identity) (λ g. e.rows ++ closed (rows_to_keep f (carried_by f)) (carried_by f).tail ≡ g.rows))
close_grounds r there f sound sound' holds fit ours b x e =
    let file = b.file in
    let t : Taking = carried_by f in
    let part : IsPartOf file f.file = part_of r there f file sound holds fit ours b.found in
    let rows = sent_rows there f.file.identity file sound' b.found in
    let all = carried_same f in
    let format : t.format ≡ file.format = all.0 ∙ part.format in
    let longest : t.longest ≡ file.longest = all.1 ∙ part.longest in
    let rows' : AreRows t.format t.longest (drop f.from file.rows) =
    subst (λ a. AreRows a t.longest (drop f.from file.rows)) (sym format)
    (subst (λ l. AreRows file.format l (drop f.from file.rows)) (sym longest) (rows_from file.format file.longest f.from file.rows rows)) in
    let every : f.payloads ≡ payloads_of t.format b.size (drop f.from file.rows) = sym (append-nil f.payloads) ∙ b.split ∙ ap (λ a. payloads_of a b.size (drop f.from file.rows)) (sym format) in
    let back = taken_back t [] b.size (drop f.from file.rows) b.room rows' (subst (Took t []) every holds.took) in
    let whole : f.file.rows ++ closed (rows_to_keep f t) t.tail ≡ file.rows = close_whole file.rows f.file.rows part.begins t.rows t.tail f.from holds.kept holds.most back.0 in
    let same : f.file ≡ x = one_entry (entry_at f.number r.incoming) f.file x holds.entry e in
    subst (λ (y : Incoming). Has (out_at there y.identity) (λ g. y.rows ++ closed (rows_to_keep f t) t.tail ≡ g.rows)) same
    (has_found (out_at there f.file.identity) file (λ g. f.file.rows ++ closed (rows_to_keep f t) t.tail ≡ g.rows) b.found whole)

end_grounds : {Back : Identity → Type 0} (contact : Contact) (r there : Register) (f : Receipt) (efid : Efid) → IsSound r → IsSound there → IsReceived r f → AllFit Back there r
    → Back f.file.identity → ComesFrom there f.file.identity f.from f.payloads []
    → IfAny (end_step contact r f efid).change (Grounds r there)
unfolding end_step
end_grounds contact r there f efid sound sound' holds fit ours b = by_open (is_open t.stage)
  where
    t : Taking
    t = carried_by f

    by_verdict : (verdict : EndVerdict) → IfAny (on_end_verdict contact r f (carried_by f) verdict).change (Grounds r there)
    by_verdict «end».Accept = close_grounds r there f sound sound' holds fit ours b
    by_verdict («end».Refuse reason) = tt

    by_open : (stays : Bool) → IfAny (let s : Step = cond stays (fails ProtocolViolation)
        (on_end_verdict contact r f (carried_by f) (end_verdict efid (counts_of (carried_by f)).0 (counts_of (carried_by f)).1)) in s).change (Grounds r there)
    by_open true = tt
    by_open false = by_verdict (end_verdict efid (counts_of (carried_by f)).0 (counts_of (carried_by f)).1)

receiving_grounds : {Back : Identity → Type 0} (contact : Contact) (r there : Register) (f : Receipt) (c : Command) (coming : List Command) → IsSound r → IsSound there → IsReceived r f
    → AllFit Back there r → Back f.file.identity
    → MayTake there f.file.identity f.from f.payloads (c ∷ coming)
    → IfAny (came_receiving contact r f c).change (Grounds r there)
unfolding came_receiving unexpected
receiving_grounds contact r there f (command.Data payload) coming sound sound' holds fit ours h =
    data_grounds contact r there f payload sound sound' holds fit ours (take_begins there f.file.identity f.from (f.payloads ++ payload ∷ []) coming h)
receiving_grounds contact r there f (command.Efid efid) coming sound sound' holds fit ours h = end_grounds contact r there f efid sound sound' holds fit ours h.0
receiving_grounds contact r there f (command.Esid esid) coming sound sound' holds fit ours h = tt
receiving_grounds contact r there f _ coming sound sound' holds fit ours h = tt

-- a listener

response_grounds : (setting : Setting) (contact : Contact) (r there : Register) (response : Received) → IsIssuedBy there response
    → IfAny (response_step setting contact r response).change (Grounds r there)
unfolding response_step
response_grounds setting contact r there response h = by_place (is_between setting contact response.identity)
  where
    by_new : (known : Bool) → IfAny (cond known None (Some (file_of response))) (Grounds r there)
    by_new true = tt
    by_new false = h

    by_place : (between : Bool) → IfAny (let s : Step = cond between (answers (ListenerIdle contact) (filing r response) command.Rtr) (fails InvalidData) in s).change (Grounds r there)
    by_place true = by_new (has_received r response.kind response.identity)
    by_place false = tt

start_grounds : (setting : Setting) (contact : Contact) (r there : Register) (sfid : Sfid) → IsOfferOf there sfid → IfAny (offer_step setting contact r sfid).change (Grounds r there)
unfolding offer_step
start_grounds setting contact r there sfid o = by_verdict (verdict_on setting contact r sfid)
  where
    by_verdict : (verdict : StartVerdict) → IfAny (on_start_verdict contact r sfid verdict).change (Grounds r there)
    by_verdict (start.Accept count) = has_found (out_at there (offered_identity sfid)) o.file (λ f. (format_of sfid.layout ≡ f.format) × (longest_of sfid.layout ≡ f.longest)) o.found
        (o.format, o.longest)
    by_verdict (start.Refuse reason retry) = tt

listener_grounds : (setting : Setting) (contact : Contact) (r there : Register) (c : Command) (coming : List Command) → MayHear there (c ∷ coming)
    → IfAny (came_listener_idle setting contact r c).change (Grounds r there)
unfolding came_listener_idle unexpected
listener_grounds setting contact r there (command.Sfid sfid) coming h = start_grounds setting contact r there sfid h.0
listener_grounds setting contact r there (command.Eerp eerp) coming h = response_grounds setting contact r there (end_response eerp) h.0
listener_grounds setting contact r there (command.Nerp nerp) coming h = response_grounds setting contact r there (negative_end_response nerp) h.0
listener_grounds setting contact r there _ coming h = tt

-- a speaker

over_grounds : (r there : Register) (n : ℕ) (file : Outgoing) → entry_at n r.outgoing ≡ Some file → IsWholeAt there file.identity → OfEntry n r.outgoing (λ (f : Outgoing). IsWholeAt there f.identity)
over_grounds r there n file entry w x e = subst (λ (y : Outgoing). IsWholeAt there y.identity) (one_entry (entry_at n r.outgoing) file x entry e) w

refusal_grounds : (r there : Register) (offer : Offer) (sfna : Sfna) → IsOffered r offer → (sfna.reason ≡ 13 → IsWholeAt there offer.file.identity) → IfAny (refusal offer sfna) (Grounds r there)
refusal_grounds r there offer sfna holds w = by_both (sfna.reason == 13 && is_closing offer.file.state) refl
  where
    by_retry : (retry : Bool) → IfAny (cond retry None (Some (Refuse offer.number sfna.reason))) (Grounds r there)
    by_retry true = tt
    by_retry false = tt

    by_both : (b : Bool) → (sfna.reason == 13 && is_closing offer.file.state) ≡ b
        → IfAny (cond b (Some (HandOver offer.number)) (cond sfna.retry None (Some (Refuse offer.number sfna.reason)))) (Grounds r there)
    by_both true e = over_grounds r there offer.number offer.file holds.entry (w (eqb-true sfna.reason 13 (and_parts (sfna.reason == 13) (is_closing offer.file.state) e).0))
    by_both false e = by_retry sfna.retry

start_answer_grounds : (contact : Contact) (r there : Register) (offer : Offer) (c : Command) (coming : List Command) → IsOffered r offer → MayAnswerStart there offer.file (c ∷ coming)
    → IfAny (came_awaiting_start contact offer c).change (Grounds r there)
unfolding came_awaiting_start unexpected
start_answer_grounds contact r there offer (command.Sfpa sfpa) coming holds h = by_place (nat_le sfpa.restart offer.from)
  where
    by_state : (again : Bool) → IfAny (cond again (Some (Reopen offer.number)) None) (Grounds r there)
    by_state true = tt
    by_state false = tt

    by_place : (within : Bool) → IfAny (let s : Step = cond within (changes (Sending contact (transfer_of offer sfpa.restart)) (reopening offer)) (fails ProtocolViolation) in s).change
        (Grounds r there)
    by_place true = by_state (is_closing offer.file.state)
    by_place false = tt
start_answer_grounds contact r there offer (command.Sfna sfna) coming holds h = refusal_grounds r there offer sfna holds h.0
start_answer_grounds contact r there offer _ coming holds h = tt

sending_grounds : (contact : Contact) (r there : Register) (t : Transfer) (c : Command) → IfAny (came_sending contact t c).change (Grounds r there)
unfolding came_sending unexpected
sending_grounds contact r there t command.Cdt = by_credit (nat_lt 0 (credit_left contact t))
  where
    by_mark : (same : Bool) → IfAny (cond same None (Some (Mark t.number (new_mark contact t)))) (Grounds r there)
    by_mark true = tt
    by_mark false = tt

    by_credit : (b : Bool) → IfAny (let s : Step = cond b (fails ProtocolViolation) (credited contact t (new_mark contact t)) in s).change (Grounds r there)
    by_credit true = tt
    by_credit false = by_mark (new_mark contact t == t.file.mark)
sending_grounds contact r there t _ = tt

end_answer_grounds : (contact : Contact) (r there : Register) (t : Transfer) (c : Command) (coming : List Command) → IsEnded r t → MayAnswerEnd there t.file (c ∷ coming)
    → IfAny (came_awaiting_end contact t c).change (Grounds r there)
unfolding came_awaiting_end unexpected
end_answer_grounds contact r there t (command.Efpa efpa) coming holds h = over_grounds r there t.number t.file holds.entry h.0
end_answer_grounds contact r there t _ coming holds h = tt

rtr_grounds : (contact : Contact) (r there : Register) (n : ℕ) (c : Command) → IfAny (came_awaiting_rtr contact n c).change (Grounds r there)
unfolding came_awaiting_rtr unexpected
rtr_grounds contact r there n (command.Esid esid) = tt
rtr_grounds contact r there n _ = tt

idle_grounds : (r there : Register) (c : Command) → IfAny (unexpected c).change (Grounds r there)
unfolding unexpected
idle_grounds r there (command.Esid esid) = tt
idle_grounds r there _ = tt

-- opening a session changes nothing

respond_grounds : (r there : Register) (c : Command) → IfAny (unexpected c).change (Grounds r there)
unfolding unexpected
respond_grounds r there (command.Esid esid) = tt
respond_grounds r there _ = tt

initiate_grounds : (setting : Setting) (r there : Register) (c : Command) → IfAny (came_initiator_opening setting c).change (Grounds r there)
unfolding came_initiator_opening unexpected
initiate_grounds setting r there command.Ssrm = by setting.called
  where
    by : (called : Option Partner) → IfAny (calling_step setting called).change (Grounds r there)
    by None = tt
    by (Some partner) = tt
initiate_grounds setting r there _ = tt

opened_grounds : (setting : Setting) (letter : Mode) (verdict : Result Agreement SessionReason) (r there : Register) → IfAny (opened_step setting letter verdict).change (Grounds r there)
opened_grounds setting letter (Ok a) r there = by_role setting.called
  where
    by_role : (called : Option Partner) → IfAny (open_step setting letter a called).change (Grounds r there)
    by_role None = tt
    by_role (Some partner) = tt
opened_grounds setting letter (Err reason) r there = tt

await_grounds : (setting : Setting) (r there : Register) (c : Command) → IfAny (came_awaiting_ssid setting c).change (Grounds r there)
unfolding came_awaiting_ssid unexpected
await_grounds setting r there (command.Ssid ssid) = opened_grounds setting ssid.mode (ssid_verdict setting ssid) r there
await_grounds setting r there _ = tt

-- a command that arrives
pub came_grounds : {Back : Identity → Type 0} (setting : Setting) (p : Phase) (r there : Register) (c : Command) (coming : List Command) → IsSound r → IsSound there → Holds p r → AllFit Back there r
    → ((contact : Contact) (f : Receipt) → p ≡ Receiving contact f → Back f.file.identity) → MayCome there p (c ∷ coming) → IfAny (came setting p r c).change (Grounds r there)
unfolding came
came_grounds setting ResponderOpening r there c coming sound sound' holds fit ours h = respond_grounds r there c
came_grounds setting InitiatorOpening r there c coming sound sound' holds fit ours h = initiate_grounds setting r there c
came_grounds setting AwaitingSsid r there c coming sound sound' holds fit ours h = await_grounds setting r there c
came_grounds setting (ListenerIdle contact) r there c coming sound sound' holds fit ours h = listener_grounds setting contact r there c coming h
came_grounds setting (Receiving contact f) r there c coming sound sound' holds fit ours h = receiving_grounds contact r there f c coming sound sound' holds fit (ours contact f refl) h
came_grounds setting (SpeakerIdle contact done) r there c coming sound sound' holds fit ours h = idle_grounds r there c
came_grounds setting (GivingWay contact) r there c coming sound sound' holds fit ours h = idle_grounds r there c
came_grounds setting (AwaitingRtr contact number) r there c coming sound sound' holds fit ours h = rtr_grounds contact r there number c
came_grounds setting (AwaitingStart contact offer) r there c coming sound sound' holds fit ours h = start_answer_grounds contact r there offer c coming holds h
came_grounds setting (Sending contact t) r there c coming sound sound' holds fit ours h = sending_grounds contact r there t c
came_grounds setting (AwaitingEnd contact t) r there c coming sound sound' holds fit ours h = end_answer_grounds contact r there t c coming holds h
came_grounds setting (EndedHere reason) r there c coming sound sound' holds fit ours h = tt
came_grounds setting (EndedThere reason) r there c coming sound sound' holds fit ours h = tt

-- a turn
item_grounds : (setting : Setting) (contact : Contact) (done : WhenDone) (r there : Register) (i : Option Item) → IfAny (on_item setting contact done r i).change (Grounds r there)
item_grounds setting contact done r there (Some (item.Response e)) = tt
item_grounds setting contact done r there (Some (item.File e)) = offers_grounds done e.no (entry_at e.no r.outgoing)
  where
    offers_grounds : (done : WhenDone) (n : ℕ) (file : Option Outgoing) → IfAny (offers contact done n file).change (Grounds r there)
    offers_grounds done n (Some file) = tt
    offers_grounds ChangeDirection n None = tt
    offers_grounds EndSession n None = tt
item_grounds setting contact ChangeDirection r there None = tt
item_grounds setting contact EndSession r there None = tt

speaks_grounds : (setting : Setting) (contact : Contact) (done : WhenDone) (r there : Register) → IfAny (speaks setting contact done r).change (Grounds r there)
unfolding speaks
speaks_grounds setting contact done r there = item_grounds setting contact done r there (next_item r contact.code contact.tried contact.link.sends)

sends_grounds : (contact : Contact) (t : Transfer) (r there : Register) → IfAny (turned_sending contact t).change (Grounds r there)
unfolding turned_sending
sends_grounds contact t r there = by_credit (nat_lt 0 (credit_left contact t))
  where
    by_next : (payload : Option (List ℕ)) → IfAny (sends_next contact t payload).change (Grounds r there)
    by_next (Some payload) = tt
    by_next None = tt

    by_credit : (b : Bool) → IfAny (let s : Step = cond b (sends_next contact t (slice_get (payloads_in contact t) t.sent)) (quiet (Sending contact t)) in s).change (Grounds r there)
    by_credit true = by_next (slice_get (payloads_in contact t) t.sent)
    by_credit false = tt

pub turned_grounds : (setting : Setting) (p : Phase) (r there : Register) → IfAny (turned setting p r).change (Grounds r there)
turned_grounds setting p r there = each_turn (λ q s. IfAny s.change (Grounds r there)) setting r (record {
  greeting = tt;
  speaking = λ contact done. speaks_grounds setting contact done r there;
  giving_way = λ contact. tt;
  sending = λ contact t. sends_grounds contact t r there;
  waiting = λ q. tt;
}) p
