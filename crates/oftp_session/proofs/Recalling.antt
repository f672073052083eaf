-- What a session remembers stays true: until a response is sent, no change of a session makes a response due.
use Rattle.std.proofs.Common.{◌≡◌, ℕ, ◌+◌, ◌==◌, ◌&&◌, nat_le, nat_lt, Bool, true, false, cond, List, [], ◌∷◌, ◌++◌, length, map, find, slice_get, Option, None, Some, is_some, Result, Ok, Err, refl, sym, ap, ◌∙◌}
use Rattle.std.specs.List.{filter_map}
use Rattle.std.specs.Option.{option_map}
use Rattle.std.specs.Result.{IfOk}
use Rattle.oftp_wire.specs.declared.command.Command.{Command}
use Rattle.oftp_wire.specs.declared.command.Command.TheVariants as command
use Rattle.oftp_wire.specs.declared.command.Efid.{Efid}
use Rattle.oftp_wire.specs.declared.command.Sfid.{Sfid}
use Rattle.oftp_wire.specs.declared.command.Sfna.{Sfna}
use Rattle.oftp_wire.specs.declared.reason.SessionReason.{SessionReason}
use Rattle.oftp_wire.specs.declared.reason.StartReason.TheVariants.{DuplicateFile}
use Rattle.oftp_wire.specs.declared.reason.SessionReason.TheVariants.{BufferSizeError, InvalidData, ProtocolViolation}
use Rattle.oftp_wire.specs.Reasons.{start_number}
use Rattle.oftp_vfile.specs.declared.format.Format.{Format}
use Rattle.oftp_vfile.specs.declared.fault.TakeFault.{TakeFault}
use Rattle.oftp_vfile.specs.Carries.{is_open}
use Rattle.oftp_vfile.specs.Reading.{taken}
use Rattle.oftp_vfile.specs.Taking.{Taking, counts_of}
use Rattle.oftp_partners.specs.declared.partner.Partner.{Partner}
use Rattle.oftp_register.specs.declared.change.Cause.{Cause}
use Rattle.oftp_register.specs.declared.change.Change.TheVariants.{BeginClosing, Close, GiveUp, HandOver, Keep, Mark, Refuse, Reopen, Start}
use Rattle.oftp_register.specs.declared.entry.Identity.{Identity}
use Rattle.oftp_register.specs.declared.entry.IncomingState.{IncomingState}
use Rattle.oftp_register.specs.declared.entry.IncomingState.TheVariants.{Open, Whole}
use Rattle.oftp_register.specs.declared.entries.IssuedEntry.{IssuedEntry}
use Rattle.oftp_register.specs.declared.entries.Item.{Item}
use Rattle.oftp_register.specs.declared.entries.Item.TheVariants as item
use Rattle.oftp_register.specs.declared.verdicts.EndVerdict.{EndVerdict}
use Rattle.oftp_register.specs.declared.verdicts.EndVerdict.TheVariants as «end»
use Rattle.oftp_register.specs.declared.verdicts.StartVerdict.{StartVerdict}
use Rattle.oftp_register.specs.declared.verdicts.StartVerdict.TheVariants as start
use Rattle.oftp_register.specs.Register.{Register, Incoming, Outgoing, Issued, Received, has_received, same_identity}
use Rattle.oftp_register.specs.Changes.{apply, at_number, begun, closed, closing, given_up, gone_on, handed, is_closing, kept, mapped, marked, new_incoming, on_incoming, on_outgoing, refused, reopened, started_in}
use Rattle.oftp_register.specs.LookUps.{entry_at, is_next_response, issued_entry, issued_response, item_of, list_issued, next_item, numbered}
use Rattle.oftp_register.specs.Offices.{View}
use Rattle.oftp_register.specs.Verdicts.{end_verdict}
use Rattle.oftp_register.proofs.AdditionLemmas.{filed_ok}
use Rattle.oftp_register.proofs.IncomingLemmas.{begun_ok, gone_on_ok, if_open_ok}
use Rattle.oftp_register.proofs.NameLemmas.{same_identity-true}
use Rattle.oftp_register.proofs.NumberLemmas.{at_number_same, mapped_ok}
use Rattle.oftp_session.specs.declared.link.WhenDone.{WhenDone}
use Rattle.oftp_session.specs.declared.link.WhenDone.TheVariants.{ChangeDirection, EndSession}
use Rattle.oftp_session.specs.declared.session.SessionFault.{SessionFault}
use Rattle.oftp_session.specs.declared.state.Contact.{Contact}
use Rattle.oftp_session.specs.declared.state.State.{State}
use Rattle.oftp_session.specs.Settings.{Setting}
use Rattle.oftp_session.specs.Phases.{Phase, Offer, Receipt, Transfer, ResponderOpening, InitiatorOpening, AwaitingSsid, ListenerIdle, Receiving, SpeakerIdle, GivingWay, AwaitingRtr, AwaitingStart, Sending, AwaitingEnd, EndedHere, EndedThere, Step, answers, changes, fails, quiet, unexpected}
use Rattle.oftp_session.specs.Receiving.{asks_to_speak, came_receiving, carried_by, data_step, end_step, is_window_full, keeping, on_end_verdict, on_taken, window_step, with_payload, with_rows}
use Rattle.oftp_session.specs.Listener.{came_listener_idle, end_response, file_of, filing, is_between, negative_end_response, offer_step, on_start_verdict, response_step, verdict_on}
use Rattle.oftp_session.specs.Speaker.{having_tried_file, nothing_next, offers, on_item, responds, speaks}
use Rattle.oftp_session.specs.Sending.{after_file, came_awaiting_end, came_awaiting_start, came_sending, credit_left, credited, new_mark, payloads_in, refusal, reopening, sends_next, start_step, transfer_of, turned_sending}
use Rattle.oftp_session.specs.Steps.{opening}
use Rattle.oftp_session.specs.Standings.{Standing, StandsIn, standing_of}
use Rattle.oftp_session.specs.Calls.{Makes, Seen, Stands}
use Rattle.oftp_session.specs.Recalling.{RecallsAt, RecallsOf, Recalls, recalled_in, recalled_of}
use Rattle.oftp_session.specs.Inside.{Goes, Takes}

-- the responses are listed by the identities and the responses of the files
abbrev Answered : Type 0
Answered = Identity × Option Issued

abbrev answer_of : Incoming → Answered
answer_of f = (f.identity, f.response)

abbrev entry_of : ℕ → Answered → Option IssuedEntry
entry_of n a = option_map (λ r. record { no = n; identity = a.0; response = issued_response r }) a.1

entry_by : (n : ℕ) (f : Incoming) → issued_entry n f ≡ entry_of n (answer_of f)
entry_by n f = refl

entries_by : (n : ℕ) (files : List Incoming) → numbered issued_entry n files ≡ numbered entry_of n (map answer_of files)
entries_by n [] = refl
entries_by n (f ∷ files) = ap (λ e. e ∷ numbered issued_entry (n + 1) files) (entry_by n f) ∙ ap (λ es. entry_of n (answer_of f) ∷ es) (entries_by (n + 1) files)

abbrev told : List (Option IssuedEntry) → List IssuedEntry
told = filter_map (λ entry. entry)

same_issued : (r s : Register) → map answer_of s.incoming ≡ map answer_of r.incoming → list_issued s ≡ list_issued r
same_issued r s e = ap told (entries_by 1 s.incoming ∙ ap (numbered entry_of 1) e ∙ sym (entries_by 1 r.incoming))

-- rows of an open file
open_answer : (rows : List (List ℕ)) (next : IncomingState) (file after : Incoming)
    → record file { rows = rows; state = next } ≡ after → answer_of after ≡ answer_of file
open_answer rows next file after is = ap answer_of (sym is)

on_incoming_issued : (f : Incoming → Result Incoming Cause) → ((x y : Incoming) → f x ≡ Ok y → answer_of y ≡ answer_of x) → (n : ℕ) (r s : Register)
    → on_incoming f n r ≡ Ok s → list_issued s ≡ list_issued r
on_incoming_issued f same n r s h =
    let part = mapped_ok (λ files. record r { incoming = files }) (at_number f n r.incoming) s h in
    same_issued r s (ap (λ (x : Register). map answer_of x.incoming) (sym part.2) ∙ at_number_same answer_of f same n r.incoming part.0 part.1)

kept_issued : (r s : Register) (n : ℕ) (rows : List (List ℕ)) → apply r (Keep n rows) ≡ Ok s → list_issued s ≡ list_issued r
unfolding apply
kept_issued r s n rows h =
    on_incoming_issued (kept rows) (λ x y e. open_answer (x.rows ++ rows) Open x y (if_open_ok x (x.rows ++ rows) Open x.state y e).1) n r s h

closed_issued : (r s : Register) (n : ℕ) (rows : List (List ℕ)) → apply r (Close n rows) ≡ Ok s → list_issued s ≡ list_issued r
unfolding apply
closed_issued r s n rows h =
    on_incoming_issued (closed rows) (λ x y e. open_answer (x.rows ++ rows) Whole x y (if_open_ok x (x.rows ++ rows) Whole x.state y e).1) n r s h

given_up_issued : (r s : Register) (n : ℕ) → apply r (GiveUp n) ≡ Ok s → list_issued s ≡ list_issued r
unfolding apply
given_up_issued r s n h = on_incoming_issued given_up (λ x y e. open_answer [] Open x y (if_open_ok x [] Open x.state y e).1) n r s h

-- a file begins or goes on
alone : (n : ℕ) (f : Incoming) → f.response ≡ None → told (issued_entry n f ∷ []) ≡ []
alone n f none = ap (λ (o : Option Issued). told (option_map (λ r. record { no = n; identity = f.identity; response = issued_response r }) o ∷ [])) none

past : (o : Option IssuedEntry) (xs ys : List (Option IssuedEntry)) → told xs ≡ told ys → told (o ∷ xs) ≡ told (o ∷ ys)
past None xs ys h = h
past (Some e) xs ys h = ap (λ es. e ∷ es) h

gone_on_answer : (header : Incoming) (count : ℕ) (file after : Incoming) → same_identity file.identity header.identity ≡ true → gone_on header count file file.state ≡ Ok after
    → answer_of after ≡ answer_of file
gone_on_answer header count file after same h =
    ap answer_of (sym (gone_on_ok header count file file.state after h).1)
    ∙ ap (λ (i : Identity). let a : Answered = (i, file.response) in a) (sym (same_identity-true file.identity header.identity same))

started_issued : (r : Register) (header : Incoming) (count n : ℕ) (files after : List Incoming) → header.response ≡ None → started_in r header count files ≡ Ok after
    → told (numbered issued_entry n after) ≡ told (numbered issued_entry n files)
started_issued r header count n [] after none h =
    let part = mapped_ok (λ (f : Incoming). f ∷ []) (begun r header count) after h in
    let is = (begun_ok r header count part.0 part.1).0 in
    ap (λ (fs : List Incoming). told (numbered issued_entry n fs)) (sym part.2) ∙ alone n part.0 (ap (λ (f : Incoming). f.response) (sym is) ∙ none)
started_issued r header count n (file ∷ files) after none h = by (λ fs g. started_issued r header count (n + 1) files fs none g) (same_identity file.identity header.identity) refl h
  where
    by : ((fs : List Incoming) → started_in r header count files ≡ Ok fs → told (numbered issued_entry (n + 1) fs) ≡ told (numbered issued_entry (n + 1) files))
        → (b : Bool) → same_identity file.identity header.identity ≡ b
        → cond b (mapped (λ (f : Incoming). f ∷ files) (gone_on header count file file.state)) (mapped (λ (fs : List Incoming). file ∷ fs) (started_in r header count files)) ≡ Ok after
        → told (numbered issued_entry n after) ≡ told (numbered issued_entry n (file ∷ files))
    by later true e g =
        let part = mapped_ok (λ (f : Incoming). f ∷ files) (gone_on header count file file.state) after g in
        ap (λ (fs : List Incoming). told (numbered issued_entry n fs)) (sym part.2)
        ∙ ap (λ (o : Option IssuedEntry). told (o ∷ numbered issued_entry (n + 1) files))
        (entry_by n part.0 ∙ ap (entry_of n) (gone_on_answer header count file part.0 e part.1) ∙ sym (entry_by n file))
    by later false e g =
        let part = mapped_ok (λ (fs : List Incoming). file ∷ fs) (started_in r header count files) after g in
        ap (λ (fs : List Incoming). told (numbered issued_entry n fs)) (sym part.2)
        ∙ past (issued_entry n file) (numbered issued_entry (n + 1) part.0) (numbered issued_entry (n + 1) files) (later part.0 part.1)

start_issued : (r s : Register) (identity : Identity) (format : Format) (longest : ℕ) (description : List ℕ) (count : ℕ)
    → apply r (Start identity format longest description count) ≡ Ok s → list_issued s ≡ list_issued r
unfolding apply
start_issued r s identity format longest description count h =
    let header = new_incoming identity format longest description in
    let part = mapped_ok (λ files. record r { incoming = files }) (started_in r header count r.incoming) s h in
    ap list_issued (sym part.2) ∙ started_issued r header count 1 r.incoming part.0 refl part.1

-- a received response
filed_issued : (r s : Register) (response : Received) → apply r (file_of response) ≡ Ok s → list_issued s ≡ list_issued r
unfolding apply
filed_issued r s response h = ap list_issued (sym (filed_ok r s response h).1)

-- a change of an outgoing file
on_outgoing_issued : (f : Outgoing → Result Outgoing Cause) (n : ℕ) (r s : Register) → on_outgoing f n r ≡ Ok s → list_issued s ≡ list_issued r
on_outgoing_issued f n r s h =
    let part = mapped_ok (λ files. record r { outgoing = files }) (at_number f n r.outgoing) s h in
    ap list_issued (sym part.2)

marked_issued : (r s : Register) (n rows : ℕ) → apply r (Mark n rows) ≡ Ok s → list_issued s ≡ list_issued r
unfolding apply
marked_issued r s n rows h = on_outgoing_issued (marked rows) n r s h

closing_issued : (r s : Register) (n : ℕ) → apply r (BeginClosing n) ≡ Ok s → list_issued s ≡ list_issued r
unfolding apply
closing_issued r s n h = on_outgoing_issued closing n r s h

handed_issued : (r s : Register) (n : ℕ) → apply r (HandOver n) ≡ Ok s → list_issued s ≡ list_issued r
unfolding apply
handed_issued r s n h = on_outgoing_issued handed n r s h

refused_issued : (r s : Register) (n reason : ℕ) → apply r (Refuse n reason) ≡ Ok s → list_issued s ≡ list_issued r
unfolding apply
refused_issued r s n reason h = on_outgoing_issued (refused reason) n r s h

reopened_issued : (r s : Register) (n : ℕ) → apply r (Reopen n) ≡ Ok s → list_issued s ≡ list_issued r
unfolding apply
reopened_issued r s n h = on_outgoing_issued reopened n r s h

-- a response is next to both contacts, or to neither
abbrev AsksSame : Contact → Contact → Type 0
AsksSame contact to = (r : Register) → asks_to_speak contact r ≡ asks_to_speak to r

-- a step goes on to a contact that asks the same, and doesn't change the responses; or it goes on to none
abbrev pub Stays : Contact → Register → Step → Type 0
Stays contact r step = (to : Contact) → recalled_in step.phase ≡ Some to → AsksSame contact to × ((s : Register) → Makes step.change r s → list_issued s ≡ list_issued r)

goes_on_as : (contact next : Contact) (r : Register) (step : Step) → recalled_in step.phase ≡ Some next → AsksSame contact next
    → ((s : Register) → Makes step.change r s → list_issued s ≡ list_issued r) → Stays contact r step
goes_on_as contact next r step is same issued to e = (let one : next ≡ to = cc in λ s. same s ∙ ap (λ (c : Contact). asks_to_speak c s) one, issued)

goes_on : (contact : Contact) (r : Register) (step : Step) → recalled_in step.phase ≡ Some contact → ((s : Register) → Makes step.change r s → list_issued s ≡ list_issued r)
    → Stays contact r step
goes_on contact r step is issued = goes_on_as contact contact r step is (λ s. refl) issued

stops : (contact : Contact) (r : Register) (step : Step) → recalled_in step.phase ≡ None → Stays contact r step
stops contact r step none to e = absurd (let no : ⊥ = cc in no)

unchanged : (r s : Register) → Makes None r s → list_issued s ≡ list_issued r
unchanged r s same = ap list_issued same

unexpected_stops : (c : Command) → recalled_in (unexpected c).phase ≡ None
unfolding unexpected
unexpected_stops (command.Esid esid) = refl
unexpected_stops _ = refl

unexpected_stays : (contact : Contact) (r : Register) (c : Command) → Stays contact r (unexpected c)
unexpected_stays contact r c = stops contact r (unexpected c) (unexpected_stops c)

-- while no file is received
response_stays : (setting : Setting) (contact : Contact) (r : Register) (response : Received) → Stays contact r (response_step setting contact r response)
unfolding response_step
response_stays setting contact r response = by (is_between setting contact response.identity)
  where
    files : (there : Bool) (s : Register) → Makes (cond there None (Some (file_of response))) r s → list_issued s ≡ list_issued r
    files true s made = unchanged r s made
    files false s made = filed_issued r s response made

    by : (between : Bool) → Stays contact r (cond between (answers (ListenerIdle contact) (filing r response) command.Rtr) (fails InvalidData))
    by true = goes_on contact r (answers (ListenerIdle contact) (filing r response) command.Rtr) refl (files (has_received r response.kind response.identity))
    by false = stops contact r (fails InvalidData) refl

offer_stays : (setting : Setting) (contact : Contact) (r : Register) (sfid : Sfid) → Stays contact r (offer_step setting contact r sfid)
unfolding offer_step
offer_stays setting contact r sfid = by (verdict_on setting contact r sfid)
  where
    by : (verdict : StartVerdict) → Stays contact r (on_start_verdict contact r sfid verdict)
    by (start.Accept count) = goes_on contact r (on_start_verdict contact r sfid (start.Accept count)) refl (λ s made. start_issued r s _ _ _ _ count made)
    by (start.Refuse reason retry) = goes_on contact r (on_start_verdict contact r sfid (start.Refuse reason retry)) refl (unchanged r)

pub listener_stays : (setting : Setting) (contact : Contact) (r : Register) (c : Command) → Stays contact r (came_listener_idle setting contact r c)
unfolding came_listener_idle
listener_stays setting contact r (command.Sfid sfid) = offer_stays setting contact r sfid
listener_stays setting contact r (command.Eerp eerp) = response_stays setting contact r (end_response eerp)
listener_stays setting contact r (command.Nerp nerp) = response_stays setting contact r (negative_end_response nerp)
listener_stays setting contact r command.Cd = goes_on contact r (came_listener_idle setting contact r command.Cd) refl (unchanged r)
listener_stays setting contact r other = unexpected_stays contact r other

-- while a file is received
window_stays : (contact : Contact) (r : Register) (f : Receipt) (rows : List (List ℕ)) → Stays contact r (window_step contact f rows)
window_stays contact r f rows = by (is_window_full contact f) rows
  where
    keeps : (rows : List (List ℕ)) (s : Register) → Makes (keeping f.number rows) r s → list_issued s ≡ list_issued r
    keeps [] s made = unchanged r s made
    keeps (row ∷ rows) s made = kept_issued r s f.number (row ∷ rows) made

    by : (full : Bool) (rows : List (List ℕ)) → Stays contact r (cond full (answers (Receiving contact (with_rows f rows)) (keeping f.number rows) command.Cdt) (quiet (Receiving contact f)))
    by true rows = goes_on contact r (answers (Receiving contact (with_rows f rows)) (keeping f.number rows) command.Cdt) refl (keeps rows)
    by false rows = goes_on contact r (quiet (Receiving contact f)) refl (unchanged r)

taken_stays : (contact : Contact) (r : Register) (f : Receipt) (payload : List ℕ) (result : Result Taking TakeFault) → Stays contact r (on_taken contact f payload result)
taken_stays contact r f payload (Ok t) = window_stays contact r (with_payload f payload) _
taken_stays contact r f payload (Err fault) = stops contact r (on_taken contact f payload (Err fault)) refl

data_stays : (contact : Contact) (r : Register) (f : Receipt) (payload : List ℕ) → Stays contact r (data_step contact f payload)
unfolding data_step
data_stays contact r f payload = by (nat_lt contact.link.buffer (length payload + 1))
  where
    by : (long : Bool) → Stays contact r (cond long (fails BufferSizeError) (on_taken contact f payload (taken (carried_by f) payload)))
    by true = stops contact r (fails BufferSizeError) refl
    by false = taken_stays contact r f payload (taken (carried_by f) payload)

end_stays : (contact : Contact) (r : Register) (f : Receipt) (efid : Efid) → Stays contact r (end_step contact r f efid)
unfolding end_step
end_stays contact r f efid = by (is_open (carried_by f).stage)
  where
    ends : (verdict : EndVerdict) → Stays contact r (on_end_verdict contact r f (carried_by f) verdict)
    ends «end».Accept = goes_on contact r (on_end_verdict contact r f (carried_by f) «end».Accept) refl (λ s made. closed_issued r s f.number _ made)
    ends («end».Refuse reason) = goes_on contact r (on_end_verdict contact r f (carried_by f) («end».Refuse reason)) refl (λ s made. given_up_issued r s f.number made)

    by : (still : Bool) → Stays contact r (cond still (fails ProtocolViolation) (on_end_verdict contact r f (carried_by f)
        (end_verdict efid (counts_of (carried_by f)).0 (counts_of (carried_by f)).1)))
    by true = stops contact r (fails ProtocolViolation) refl
    by false = ends (end_verdict efid (counts_of (carried_by f)).0 (counts_of (carried_by f)).1)

pub receiving_stays : (contact : Contact) (r : Register) (f : Receipt) (c : Command) → Stays contact r (came_receiving contact r f c)
unfolding came_receiving
receiving_stays contact r f (command.Data payload) = data_stays contact r f payload
receiving_stays contact r f (command.Efid efid) = end_stays contact r f efid
receiving_stays contact r f other = unexpected_stays contact r other

-- while the station speaks
start_stays : (contact : Contact) (r : Register) (offer : Offer) (from : ℕ) → Stays contact r (start_step contact offer from)
start_stays contact r offer from = by (nat_le from offer.from)
  where
    reopens : (is : Bool) (s : Register) → Makes (cond is (Some (Reopen offer.number)) None) r s → list_issued s ≡ list_issued r
    reopens true s made = reopened_issued r s offer.number made
    reopens false s made = unchanged r s made

    by : (within : Bool) → Stays contact r (cond within (changes (Sending contact (transfer_of offer from)) (reopening offer)) (fails ProtocolViolation))
    by true = goes_on contact r (changes (Sending contact (transfer_of offer from)) (reopening offer)) refl (reopens (is_closing offer.file.state))
    by false = stops contact r (fails ProtocolViolation) refl

refusal_issued : (r s : Register) (offer : Offer) (sfna : Sfna) → Makes (refusal offer sfna) r s → list_issued s ≡ list_issued r
refusal_issued r s offer sfna = by (sfna.reason == start_number DuplicateFile && is_closing offer.file.state) sfna.retry
  where
    by : (has again : Bool) → Makes (cond has (Some (HandOver offer.number)) (cond again None (Some (Refuse offer.number sfna.reason)))) r s → list_issued s ≡ list_issued r
    by true again made = handed_issued r s offer.number made
    by false true made = unchanged r s made
    by false false made = refused_issued r s offer.number sfna.reason made

pub offered_stays : (contact : Contact) (r : Register) (offer : Offer) (c : Command) → Stays contact r (came_awaiting_start contact offer c)
unfolding came_awaiting_start
offered_stays contact r offer (command.Sfpa sfpa) = start_stays contact r offer sfpa.restart
offered_stays contact r offer (command.Sfna sfna) =
    goes_on contact r (changes (SpeakerIdle contact ChangeDirection) (refusal offer sfna)) refl (λ s made. refusal_issued r s offer sfna made)
offered_stays contact r offer other = unexpected_stays contact r other

credited_stays : (contact : Contact) (r : Register) (t : Transfer) (mark : ℕ) → Stays contact r (credited contact t mark)
credited_stays contact r t mark = goes_on contact r (credited contact t mark) refl (marks (mark == t.file.mark))
  where
    marks : (same : Bool) (s : Register) → Makes (cond same None (Some (Mark t.number mark))) r s → list_issued s ≡ list_issued r
    marks true s made = unchanged r s made
    marks false s made = marked_issued r s t.number mark made

pub sent_stays : (contact : Contact) (r : Register) (t : Transfer) (c : Command) → Stays contact r (came_sending contact t c)
unfolding came_sending
sent_stays contact r t command.Cdt = by (nat_lt 0 (credit_left contact t))
  where
    by : (left : Bool) → Stays contact r (cond left (fails ProtocolViolation) (credited contact t (new_mark contact t)))
    by true = stops contact r (fails ProtocolViolation) refl
    by false = credited_stays contact r t (new_mark contact t)
sent_stays contact r t other = unexpected_stays contact r other

pub ended_stays : (contact : Contact) (r : Register) (t : Transfer) (c : Command) → Stays contact r (came_awaiting_end contact t c)
unfolding came_awaiting_end
ended_stays contact r t (command.Efpa efpa) = by efpa.change_direction
  where
    by : (asks : Bool) → Stays contact r (changes (after_file contact asks) (Some (HandOver t.number)))
    by true = goes_on contact r (changes (GivingWay contact) (Some (HandOver t.number))) refl (λ s made. handed_issued r s t.number made)
    by false = goes_on contact r (changes (SpeakerIdle contact ChangeDirection) (Some (HandOver t.number))) refl (λ s made. handed_issued r s t.number made)
ended_stays contact r t (command.Efna efna) =
    goes_on contact r (changes (SpeakerIdle contact ChangeDirection) (Some (Reopen t.number))) refl (λ s made. reopened_issued r s t.number made)
ended_stays contact r t other = unexpected_stays contact r other

-- its turn
pub nothing_next_stays : (contact : Contact) (done : WhenDone) (r : Register) → Stays contact r (nothing_next contact done)
nothing_next_stays contact ChangeDirection r = goes_on contact r (nothing_next contact ChangeDirection) refl (unchanged r)
nothing_next_stays contact EndSession r = stops contact r (nothing_next contact EndSession) refl

pub sending_stays : (contact : Contact) (r : Register) (t : Transfer) → Stays contact r (turned_sending contact t)
unfolding turned_sending
sending_stays contact r t = by (nat_lt 0 (credit_left contact t)) (slice_get (payloads_in contact t) t.sent)
  where
    by : (left : Bool) (next : Option (List ℕ)) → Stays contact r (cond left (sends_next contact t next) (quiet (Sending contact t)))
    by true (Some payload) = goes_on contact r (sends_next contact t (Some payload)) refl (unchanged r)
    by true None = goes_on contact r (sends_next contact t None) refl (λ s made. closing_issued r s t.number made)
    by false next = goes_on contact r (quiet (Sending contact t)) refl (unchanged r)

-- the file that is offered was tried, and no response
offers_stays : (contact : Contact) (done : WhenDone) (r : Register) (n : ℕ) (file : Option Outgoing) → Stays contact r (offers contact done n file)
offers_stays contact done r n (Some file) =
    goes_on_as contact (having_tried_file contact n) r (offers contact done n (Some file)) refl (λ s. refl) (unchanged r)
offers_stays contact done r n None = nothing_next_stays contact done r

pub speaks_stays : (setting : Setting) (contact : Contact) (done : WhenDone) (r : Register) → Stays contact r (speaks setting contact done r)
unfolding speaks
speaks_stays setting contact done r = by (next_item r contact.code contact.tried contact.link.sends)
  where
    by : (item : Option Item) → Stays contact r (on_item setting contact done r item)
    by (Some (item.Response e)) = stops contact r (responds setting contact e) refl
    by (Some (item.File e)) = offers_stays contact done r e.no (entry_at e.no r.outgoing)
    by None = nothing_next_stays contact done r

-- so what is remembered stays true
asks_same : (contact : Contact) (r s : Register) → list_issued s ≡ list_issued r → asks_to_speak contact r ≡ asks_to_speak contact s
asks_same contact r s issued =
    ap (λ (es : List IssuedEntry). is_some (item_of (find (is_next_response contact.code contact.tried.response) es) None)) (sym issued)

stands_recalled : (p : Phase) (s : Standing) → StandsIn p s → recalled_of s ≡ recalled_in p
stands_recalled ResponderOpening s h = ap recalled_of h
stands_recalled InitiatorOpening s h = ap recalled_of h
stands_recalled AwaitingSsid s h = ap recalled_of h
stands_recalled (ListenerIdle contact) s h = ap recalled_of h
stands_recalled (Receiving contact f) s h = ap recalled_of h.1
stands_recalled (SpeakerIdle contact done) s h = ap recalled_of h
stands_recalled (GivingWay contact) s h = ap recalled_of h
stands_recalled (AwaitingRtr contact number) s h = ap recalled_of h
stands_recalled (AwaitingStart contact offer) s h = ap recalled_of h
stands_recalled (Sending contact t) s h = ap recalled_of h.1
stands_recalled (AwaitingEnd contact t) s h = ap recalled_of h
stands_recalled (EndedHere reason) s h = ap recalled_of h
stands_recalled (EndedThere reason) s h = ap recalled_of h

pub so_after : (step : Step) (contact : Contact) (due : Option Bool) (old new : View) (frame : List ℕ) (result : Result State SessionFault) → Stays contact old.register step
    → RecallsOf due contact old.register → Takes step old new frame result → IfOk result (λ next. RecallsAt due (standing_of next) new.register)
unfolding RecallsAt
so_after step contact due old new frame (Ok next) stays so takes = λ to e given is.
    let st = stays to (sym (stands_recalled step.phase (standing_of next) takes.1) ∙ e) in
    so given is ∙ asks_same contact old.register new.register (st.1 new.register takes.0.register) ∙ st.0 new.register
so_after step contact due old new frame (Err fault) stays so takes = tt

-- a session with such a partner remembers what it remembered
pub so_recalled : (due kept : Option Bool) (s : Standing) (contact : Contact) (r : Register) → recalled_of s ≡ Some contact → kept ≡ cond (is_some (recalled_of s)) due None → RecallsAt due s r
    → RecallsOf kept contact r
unfolding RecallsAt
so_recalled due kept s contact r at is so = λ given e.
    so contact at given (sym (is ∙ ap (λ (o : Option Contact). let x : Option Bool = cond (is_some o) due None in x) at) ∙ e)

pub so_of : (due : Option Bool) (s : Standing) (contact : Contact) (r : Register) → recalled_of s ≡ Some contact → RecallsAt due s r → RecallsOf due contact r
unfolding RecallsAt
so_of due s contact r at so = so contact at

-- what is forgotten can't be wrong
nothing_recalled : (due : Option Bool) (s : Standing) (r : Register) → due ≡ None → RecallsAt due s r
unfolding RecallsAt
nothing_recalled due s r none = λ to e given is. absurd (let no : ⊥ = cc in no)

-- and any other session forgets
module _ (due kept : Option Bool) (s : Standing) (r : Register) (none : recalled_of s ≡ None) (is : kept ≡ cond (is_some (recalled_of s)) due None) where
  forgotten : kept ≡ None
  forgotten = is ∙ ap (λ (o : Option Contact). let x : Option Bool = cond (is_some o) due None in x) none

  pub forgotten_next : (next : Standing) → RecallsAt kept next r
  forgotten_next next = nothing_recalled kept next r forgotten

  pub forgotten_result : (result : Result State SessionFault) → IfOk result (λ next. RecallsAt kept (standing_of next) r)
  forgotten_result (Ok next) = forgotten_next (standing_of next)
  forgotten_result (Err fault) = tt

-- a session that has no such partner remembers nothing
pub nowhere_recalled : (due : Option Bool) (s : Standing) (r : Register) → recalled_of s ≡ None → RecallsAt due s r
unfolding RecallsAt
nowhere_recalled due s r none = λ to e given is. absurd (let no : ⊥ = cc in no)

goes_nowhere : (step : Step) (due : Option Bool) (to : State) (frame : List ℕ) (r : Register) → recalled_in step.phase ≡ None → Goes step to frame → RecallsAt due (standing_of to) r
goes_nowhere step due to frame r none goes = nowhere_recalled due (standing_of to) r (stands_recalled step.phase (standing_of to) goes.stands ∙ none)

pub unexpected_recalls : (c : Command) (due : Option Bool) (to : State) (frame : List ℕ) (r : Register) → Goes (unexpected c) to frame → RecallsAt due (standing_of to) r
unexpected_recalls c due to frame r goes = goes_nowhere (unexpected c) due to frame r (unexpected_stops c) goes

pub opening_recalls : (called : Option Partner) (seen : Seen) (r : Register) → Stands (opening called) seen → Recalls seen r
opening_recalls None seen r stands = nowhere_recalled seen.response_due seen.standing r (ap recalled_of stands)
opening_recalls (Some partner) seen r stands = nowhere_recalled seen.response_due seen.standing r (ap recalled_of stands)

pub ended_recalls : (reason : SessionReason) (seen : Seen) (r : Register) → Stands (EndedHere reason) seen → Recalls seen r
ended_recalls reason seen r stands = nowhere_recalled seen.response_due seen.standing r (ap recalled_of stands)
