-- A command that arrives at a listener or at a session that opens, and the link between two sessions.
use Rattle.std.proofs.Common.{◌≡◌, ◌⊎◌, ℕ, ◌+◌, Bool, true, nat_lt, List, [], ◌∷◌, ◌++◌, length, map, take, All, Option, None, Some, is_some, Result, Ok, Err, refl, ap, sym, ◌∙◌, subst, inl, inr}
use Rattle.std.proofs.lemmas.List.Elements.{All-append, All-cons, All-head, All-nil, All-tail}
use Rattle.oftp_wire.specs.declared.command.Command.{Command}
use Rattle.oftp_wire.specs.declared.command.Command.TheVariants as command
use Rattle.oftp_wire.specs.declared.command.Efid.{Efid}
use Rattle.oftp_wire.specs.declared.command.Mode.{Mode}
use Rattle.oftp_wire.specs.declared.command.Sfid.{Sfid}
use Rattle.oftp_wire.specs.declared.command.Ssid.{Ssid}
use Rattle.oftp_wire.specs.declared.reason.SessionReason.{SessionReason}
use Rattle.oftp_wire.specs.declared.reason.SessionReason.TheVariants.{BufferSizeError, InvalidData, ProtocolViolation}
use Rattle.oftp_wire.specs.Reasons.{start_number, end_number}
use Rattle.oftp_partners.specs.declared.partner.Partner.{Partner}
use Rattle.oftp_vfile.specs.declared.fault.TakeFault.{TakeFault}
use Rattle.oftp_vfile.specs.VirtualFile.{closed}
use Rattle.oftp_vfile.specs.Carries.{is_open}
use Rattle.oftp_vfile.specs.Taking.{Taking, counts_of}
use Rattle.oftp_register.specs.declared.change.Change.{Change}
use Rattle.oftp_register.specs.declared.change.Change.TheVariants.{Close, GiveUp}
use Rattle.oftp_register.specs.declared.entry.Identity.{Identity}
use Rattle.oftp_register.specs.declared.entries.Side.TheVariants as side
use Rattle.oftp_register.specs.declared.verdicts.StartVerdict.{StartVerdict}
use Rattle.oftp_register.specs.declared.verdicts.StartVerdict.TheVariants as start
use Rattle.oftp_register.specs.declared.verdicts.EndVerdict.{EndVerdict}
use Rattle.oftp_register.specs.declared.verdicts.EndVerdict.TheVariants as «end»
use Rattle.oftp_register.specs.Register.{Register, Received}
use Rattle.oftp_register.specs.Changes.{apply}
use Rattle.oftp_register.specs.Verdicts.{end_verdict, offered_identity}
use Rattle.oftp_register.specs.LookUps.{files_full}
use Rattle.oftp_register.specs.Soundness.{IsSound}
use Rattle.oftp_session.specs.Settings.{Setting}
use Rattle.oftp_session.specs.Phases.{unexpected, Phase, Receipt, Transfer, InitiatorOpening, AwaitingSsid, ListenerIdle, Receiving, AwaitingRtr, answers, quiet, fails}
use Rattle.oftp_session.specs.declared.state.Contact.{Contact}
use Rattle.oftp_session.specs.Opening.{calling_step}
use Rattle.oftp_session.specs.Opening.{Agreement, came_initiator_opening, came_awaiting_ssid, opened_step, open_step, ssid_verdict, contact_of, answering_ssid, calling_ssid}
use Rattle.oftp_session.specs.Listener.{came_listener_idle, response_step, filing, is_between, end_response, negative_end_response, terms_within, offer_step, on_start_verdict, receipt_of, verdict_on}
use Rattle.oftp_vfile.specs.Reading.{taken}
use Rattle.oftp_session.specs.Receiving.{carried_by, rows_to_keep, keeping, with_payload, with_rows, on_taken, data_step, on_end_verdict, end_step, came_receiving, is_window_full, asks_to_speak}
use Rattle.oftp_session.specs.Sending.{payloads_in}
use Rattle.oftp_session.specs.Steps.{IsReceived}
use Rattle.oftp_engine.proofs.Standing.{SsrmGoes, SsidComes, RtrComes, SfpaComes, SfnaComes, EfidGoes, AnswerComes, MaySpeak, MayCome, MayCredit, MayAnswerStart, MayAnswerEnd, IsWholeAt, IsOpening, IsTold, IsTaking, IsCredit, IsResponseCommand, IsEndAnswer, OpensWith, Speaks, Talk}
use Rattle.oftp_session.specs.Calls.{Makes}
use Rattle.oftp_engine.proofs.Says.{refusal_is_true, closed_is_whole}
use Rattle.oftp_engine.proofs.TurnLinks.{Linked, Links, either_links}
use Rattle.oftp_engine.proofs.TakeLinks.{fails_links, leaves_links}
use Rattle.oftp_engine.proofs.Link.{payload_link}
use Rattle.oftp_engine.proofs.Heard.{IsGreeted, Heard, Greeted, Response, Offered, Sent, Ended, HearsResponse, HearsOffer, HearsData, HearsEnd, heard, one_left}

-- a session with the first command that arrives
abbrev to : Bool → Phase → Command → List Command → Talk
to calls p c coming = record { calls = calls; phase = p; coming = c ∷ coming }

-- the other session, with what is on its way to it now
abbrev now_with : Talk → List Command → Talk
now_with other coming = record other { coming = coming }

-- if one of them can't speak, the other did
hears : (calls : Bool) (p : Phase) (c : Command) (coming : List Command) (other : Talk) → (Speaks (to calls p c coming) p other → ⊥) → Linked (to calls p c coming) other
    → Heard c coming (to calls p c coming) other
hears calls p c coming other mute s = elim s [ inl k ↦ absurd (mute k) | inr k ↦ heard c coming (to calls p c coming) other other.phase refl refl k ]

-- one that calls

-- it offers the session
calling_links : (setting : Setting) (partner : Partner) (r after : Register) (calls : Bool) (coming : List Command) (other : Talk) → after ≡ r
    → IsGreeted command.Ssrm coming (to calls InitiatorOpening command.Ssrm coming) other
    → Links calls coming other (calling_step setting (Some partner)) after
calling_links setting partner r after calls coming other made h =
    let ssid = calling_ssid setting.book partner in
    record {
      said = subst (λ p. MayCome after p (other.coming ++ command.Ssid ssid ∷ [])) (sym h.awaits)
          (subst (λ x. MayCome after AwaitingSsid (x ++ command.Ssid ssid ∷ [])) (sym h.none) tt);
      meet = λ _. inr (subst (λ p. Speaks (now_with other (other.coming ++ command.Ssid ssid ∷ [])) p (record { calls = calls; phase = AwaitingSsid; coming = coming })) (sym h.awaits)
          (subst (λ b. OpensWith b (other.coming ++ command.Ssid ssid ∷ []) (record { calls = calls; phase = AwaitingSsid; coming = coming })) (sym h.called)
          (SsidComes ssid (ap (λ x. x ++ command.Ssid ssid ∷ []) h.none) (record { role = h.calls; opens = refl; told = h.alone }))));
    }

called_links : (setting : Setting) (called : Option Partner) (r after : Register) (calls : Bool) (coming : List Command) (other : Talk)
    → Makes (calling_step setting called).change r after → MayCome r other.phase other.coming
    → IsGreeted command.Ssrm coming (to calls InitiatorOpening command.Ssrm coming) other → Links calls coming other (calling_step setting called) after
called_links setting None r after calls coming other made come h = fails_links ProtocolViolation r after calls coming other made come
called_links setting (Some partner) r after calls coming other made come h = calling_links setting partner r after calls coming other made h

pub initiate_links : (setting : Setting) (r after : Register) (c : Command) (calls : Bool) (coming : List Command) (other : Talk)
    → Makes (came_initiator_opening setting c).change r after → MayCome r other.phase other.coming
    → Linked (to calls InitiatorOpening c coming) other → Links calls coming other (came_initiator_opening setting c) after
unfolding came_initiator_opening unexpected
initiate_links setting r after command.Ssrm calls coming other made come s = elim (hears calls InitiatorOpening command.Ssrm coming other (λ k. k) s) [
  | Greeted h ↦ called_links setting setting.called r after calls coming other made come h
  | Response h ↦ absurd (let q : InitiatorOpening ≡ ListenerIdle h.contact = h.listens in cc)
  | Offered h ↦ absurd (let q : InitiatorOpening ≡ ListenerIdle h.contact = h.listens in cc)
  | Sent h ↦ absurd (let q : InitiatorOpening ≡ Receiving h.takes.contact h.takes.receipt = h.takes.takes in cc)
  | Ended h ↦ absurd (let q : InitiatorOpening ≡ Receiving h.takes.contact h.takes.receipt = h.takes.takes in cc)
]
initiate_links setting r after (command.Esid e) calls coming other made come s = leaves_links e.reason r after calls coming other made come
initiate_links setting r after _ calls coming other made come s = fails_links ProtocolViolation r after calls coming other made come

-- one that awaits an SSID

awaits_alone : (ssid : Ssid) (c : Command) (coming : List Command) → c ∷ coming ≡ command.Ssid ssid ∷ [] → coming ≡ []
awaits_alone ssid c coming h = (one_left c (command.Ssid ssid) coming h).1

abbrev IsOpeningSsid : Talk → Type 0
IsOpeningSsid = IsOpening true AwaitingSsid []

-- a responder answers and listens
answering : (setting : Setting) (letter : Mode) (a : Agreement) (after : Register) (calls : Bool) (coming : List Command) (other : Talk) → coming ≡ [] → IsOpeningSsid other
    → Links calls coming other (open_step setting letter a None) after
answering setting letter a after calls coming other alone k =
    let ssid : Ssid = answering_ssid setting.book letter a in
    let listener : Talk = record { calls = calls; phase = ListenerIdle (contact_of a); coming = coming } in record {
      said = subst (λ p. MayCome after p (other.coming ++ command.Ssid ssid ∷ [])) (sym k.opens) (subst (λ x. MayCome after AwaitingSsid (x ++ command.Ssid ssid ∷ [])) (sym k.told) tt);
      meet = λ _. inr (subst (λ p. Speaks (now_with other (other.coming ++ command.Ssid ssid ∷ [])) p listener) (sym k.opens)
          (subst (λ b. OpensWith b (other.coming ++ command.Ssid ssid ∷ []) listener) (sym k.role)
          (record { ssid = ssid; comes = ap (λ x. x ++ command.Ssid ssid ∷ []) k.told; listens = record { contact = contact_of a; listens = refl; told = alone } })));
    }

-- an initiator speaks
speaking : (setting : Setting) (letter : Mode) (a : Agreement) (partner : Partner) (r after : Register) (calls : Bool) (coming : List Command) (other : Talk) → after ≡ r
    → MayCome r other.phase other.coming → coming ≡ [] → IsTold [] other
    → Links calls coming other (open_step setting letter a (Some partner)) after
speaking setting letter a partner r after calls coming other made come alone k = record {
  said = subst (λ x. MayCome x other.phase other.coming) (sym made) come;
  meet = λ _. inl (record { comes = alone; listens = k });
}

open_links : (setting : Setting) (letter : Mode) (verdict : Result Agreement SessionReason) (called : Option Partner) (r after : Register) (c : Command) (coming : List Command)
    (other : Talk) → setting.called ≡ called
    → Makes (opened_step setting letter verdict).change r after → MayCome r other.phase other.coming → OpensWith (is_some called) (c ∷ coming) other
    → Links (is_some setting.called) coming other (opened_step setting letter verdict) after
open_links setting letter (Err reason) called r after c coming other e made come s = fails_links reason r after (is_some setting.called) coming other made come
open_links setting letter (Ok a) None r after c coming other e made come s =
    subst (λ o. Links (is_some setting.called) coming other (open_step setting letter a o) after) (sym e)
    (elim s [
      | SsrmGoes none k ↦ absurd (let q : c ∷ coming ≡ [] = none in cc)
      | SsidComes ssid comes k ↦ answering setting letter a after (is_some setting.called) coming other (awaits_alone ssid c coming comes) k
    ])
open_links setting letter (Ok a) (Some partner) r after c coming other e made come s =
    subst (λ o. Links (is_some setting.called) coming other (open_step setting letter a o) after) (sym e)
    (speaking setting letter a partner r after (is_some setting.called) coming other (subst (λ o. Makes (open_step setting letter a o).change r after) e made) come
    (awaits_alone s.ssid c coming s.comes) s.listens)

pub await_links : (setting : Setting) (r after : Register) (c : Command) (coming : List Command) (other : Talk) → Makes (came_awaiting_ssid setting c).change r after
    → MayCome r other.phase other.coming
    → Linked (to (is_some setting.called) AwaitingSsid c coming) other → Links (is_some setting.called) coming other (came_awaiting_ssid setting c) after
unfolding came_awaiting_ssid unexpected
await_links setting r after (command.Ssid ssid) coming other made come s =
    open_links setting ssid.mode (ssid_verdict setting ssid) setting.called r after (command.Ssid ssid) coming other refl made come (speaking_first s)
  where
    speaking_first : Linked (to (is_some setting.called) AwaitingSsid (command.Ssid ssid) coming) other → OpensWith (is_some setting.called) (command.Ssid ssid ∷ coming) other
    speaking_first (inl k) = k
    speaking_first (inr k) = elim (heard (command.Ssid ssid) coming (to (is_some setting.called) AwaitingSsid (command.Ssid ssid) coming) other other.phase refl refl k) [
      | Greeted h ↦ absurd (let q : AwaitingSsid ≡ InitiatorOpening = h.opens in cc)
      | Response h ↦ absurd (let q : AwaitingSsid ≡ ListenerIdle h.contact = h.listens in cc)
      | Offered h ↦ absurd (let q : AwaitingSsid ≡ ListenerIdle h.contact = h.listens in cc)
      | Sent h ↦ absurd (let q : AwaitingSsid ≡ Receiving h.takes.contact h.takes.receipt = h.takes.takes in cc)
      | Ended h ↦ absurd (let q : AwaitingSsid ≡ Receiving h.takes.contact h.takes.receipt = h.takes.takes in cc)
    ]
await_links setting r after (command.Esid e) coming other made come s = leaves_links e.reason r after (is_some setting.called) coming other made come
await_links setting r after _ coming other made come s = fails_links ProtocolViolation r after (is_some setting.called) coming other made come

-- a listener

-- a response is answered
response_links : (setting : Setting) (contact : Contact) (r after : Register) (response : Received) (c : Command) (calls : Bool) (coming : List Command) (other : Talk)
    → Makes (response_step setting contact r response).change r after → MayCome r other.phase other.coming
    → HearsResponse c coming (to calls (ListenerIdle contact) c coming) other → Links calls coming other (response_step setting contact r response) after
unfolding response_step
response_links setting contact r after response c calls coming other made come h =
    either_links (is_between setting contact response.identity) (answers (ListenerIdle contact) (filing r response) command.Rtr) (fails InvalidData) r after calls coming other
    (λ m. record {
      said = subst (λ p. MayCome after p (other.coming ++ command.Rtr ∷ [])) (sym h.awaits) (subst (λ x. MayCome after (AwaitingRtr h.there h.number) (x ++ command.Rtr ∷ [])) (sym h.none) tt);
      meet = λ _. inr (subst (λ p. Speaks (now_with other (other.coming ++ command.Rtr ∷ [])) p (record { calls = calls; phase = ListenerIdle contact; coming = coming })) (sym h.awaits)
          (RtrComes (ap (λ x. x ++ command.Rtr ∷ []) h.none) (record { contact = contact; listens = refl; told = h.alone })));
    })
    (λ m. fails_links InvalidData r after calls coming other m come) made

-- an offer is answered: a duplicate is refused as one only where the file is whole
offer_links : (setting : Setting) (contact : Contact) (r after : Register) (sfid : Sfid) (calls : Bool) (coming : List Command) (other : Talk)
    → Makes (offer_step setting contact r sfid).change r after
    → HearsOffer (command.Sfid sfid) coming (to calls (ListenerIdle contact) (command.Sfid sfid) coming) other → Links calls coming other (offer_step setting contact r sfid) after
unfolding offer_step
offer_links setting contact r after sfid calls coming other made h = by (verdict_on setting contact r sfid) refl made
  where
    named : offered_identity sfid ≡ h.offer.file.identity
    named = (let q : command.Sfid sfid ≡ command.Sfid h.sfid = h.is in let e : sfid ≡ h.sfid = cc in ap offered_identity e) ∙ h.same

    by : (verdict : StartVerdict) → verdict_on setting contact r sfid ≡ verdict → Makes (on_start_verdict contact r sfid verdict).change r after
        → Links calls coming other (on_start_verdict contact r sfid verdict) after
    by (start.Accept count) v m =
        let answer : Command = command.Sfpa (record { restart = count }) in record {
          said = subst (λ p. MayCome after p (other.coming ++ answer ∷ [])) (sym h.awaits) (subst (λ x. MayAnswerStart after h.offer.file (x ++ answer ∷ [])) (sym h.none) tt);
          meet = λ _. inr (subst (λ p. Speaks (now_with other (other.coming ++ answer ∷ [])) p
              (record { calls = calls; phase = Receiving contact (receipt_of r sfid count); coming = coming })) (sym h.awaits)
              (SfpaComes count (ap (λ x. x ++ answer ∷ []) h.none) (record {
                contact = contact;
                receipt = receipt_of r sfid count;
                takes = refl;
                same = named;
                from_row = refl;
                on_the_way = [];
                told = h.alone;
                all = refl;
              })));
        }
    by (start.Refuse reason retry) v m =
        let answer : Command = command.Sfna (record { reason = start_number reason; retry = retry; text = [] }) in
        let is_true : start_number reason ≡ 13 → IsWholeAt after h.offer.file.identity =
        λ e. subst (IsWholeAt after) named (subst (λ x. IsWholeAt x (offered_identity sfid)) (sym m)
        (refusal_is_true r sfid (files_full r side.Incoming) (terms_within setting contact r.limits) reason retry v e)) in record {
          said = subst (λ p. MayCome after p (other.coming ++ answer ∷ [])) (sym h.awaits) (subst (λ x. MayAnswerStart after h.offer.file (x ++ answer ∷ [])) (sym h.none) (is_true, tt));
          meet = λ _. inr (subst (λ p. Speaks (now_with other (other.coming ++ answer ∷ [])) p (record { calls = calls; phase = ListenerIdle contact; coming = coming })) (sym h.awaits)
              (SfnaComes _ (ap (λ x. x ++ answer ∷ []) h.none) (record { contact = contact; listens = refl; told = h.alone })));
        }

-- a response arrived at a listener
heard_response : (contact : Contact) (c : Command) (calls : Bool) (coming : List Command) (other : Talk) → IsResponseCommand c → Linked (to calls (ListenerIdle contact) c coming) other
    → HearsResponse c coming (to calls (ListenerIdle contact) c coming) other
heard_response contact c calls coming other is (inl k) = absurd (let l = one_left c command.Cd coming k.comes in subst IsResponseCommand l.0 is)
heard_response contact c calls coming other is (inr k) = elim (heard c coming (to calls (ListenerIdle contact) c coming) other other.phase refl refl k) [
  | Greeted h ↦ absurd (let q : ListenerIdle contact ≡ InitiatorOpening = h.opens in cc)
  | Response h ↦ h
  | Offered h ↦ absurd (subst IsResponseCommand h.is is)
  | Sent h ↦ absurd (let q : ListenerIdle contact ≡ Receiving h.takes.contact h.takes.receipt = h.takes.takes in cc)
  | Ended h ↦ absurd (let q : ListenerIdle contact ≡ Receiving h.takes.contact h.takes.receipt = h.takes.takes in cc)
]

-- an offer arrived at a listener
heard_offer : (contact : Contact) (sfid : Sfid) (calls : Bool) (coming : List Command) (other : Talk) → Linked (to calls (ListenerIdle contact) (command.Sfid sfid) coming) other
    → HearsOffer (command.Sfid sfid) coming (to calls (ListenerIdle contact) (command.Sfid sfid) coming) other
heard_offer contact sfid calls coming other (inl k) = absurd (let l = one_left (command.Sfid sfid) command.Cd coming k.comes in let q : command.Sfid sfid ≡ command.Cd = l.0 in cc)
heard_offer contact sfid calls coming other (inr k) = elim (heard (command.Sfid sfid) coming (to calls (ListenerIdle contact) (command.Sfid sfid) coming) other other.phase refl refl k) [
  | Greeted h ↦ absurd (let q : ListenerIdle contact ≡ InitiatorOpening = h.opens in cc)
  | Response h ↦ absurd h.is
  | Offered h ↦ h
  | Sent h ↦ absurd (let q : ListenerIdle contact ≡ Receiving h.takes.contact h.takes.receipt = h.takes.takes in cc)
  | Ended h ↦ absurd (let q : ListenerIdle contact ≡ Receiving h.takes.contact h.takes.receipt = h.takes.takes in cc)
]

-- CD arrived at a listener
heard_direction : (contact : Contact) (calls : Bool) (coming : List Command) (other : Talk) → Linked (to calls (ListenerIdle contact) command.Cd coming) other → MaySpeak [] coming other
heard_direction contact calls coming other (inl k) = record { comes = (one_left command.Cd command.Cd coming k.comes).1; listens = k.listens }
heard_direction contact calls coming other (inr k) = elim (heard command.Cd coming (to calls (ListenerIdle contact) command.Cd coming) other other.phase refl refl k) [
  | Greeted h ↦ absurd (let q : ListenerIdle contact ≡ InitiatorOpening = h.opens in cc)
  | Response h ↦ absurd h.is
  | Offered h ↦ absurd (let q : command.Cd ≡ command.Sfid h.sfid = h.is in cc)
  | Sent h ↦ absurd (let q : ListenerIdle contact ≡ Receiving h.takes.contact h.takes.receipt = h.takes.takes in cc)
  | Ended h ↦ absurd (let q : ListenerIdle contact ≡ Receiving h.takes.contact h.takes.receipt = h.takes.takes in cc)
]

pub listen_links : (setting : Setting) (contact : Contact) (r after : Register) (c : Command) (calls : Bool) (coming : List Command) (other : Talk)
    → Makes (came_listener_idle setting contact r c).change r after → MayCome r other.phase other.coming
    → Linked (to calls (ListenerIdle contact) c coming) other → Links calls coming other (came_listener_idle setting contact r c) after
unfolding came_listener_idle unexpected
listen_links setting contact r after (command.Sfid sfid) calls coming other made come s =
    offer_links setting contact r after sfid calls coming other made (heard_offer contact sfid calls coming other s)
listen_links setting contact r after (command.Eerp eerp) calls coming other made come s =
    response_links setting contact r after (end_response eerp) (command.Eerp eerp) calls coming other made come (heard_response contact (command.Eerp eerp) calls coming other tt s)
listen_links setting contact r after (command.Nerp nerp) calls coming other made come s =
    response_links setting contact r after (negative_end_response nerp) (command.Nerp nerp) calls coming other made come (heard_response contact (command.Nerp nerp) calls coming other tt s)
listen_links setting contact r after command.Cd calls coming other made come s =
    record { said = subst (λ x. MayCome x other.phase other.coming) (sym made) come; meet = λ _. inl (heard_direction contact calls coming other s) }
listen_links setting contact r after (command.Esid e) calls coming other made come s = leaves_links e.reason r after calls coming other made come
listen_links setting contact r after _ calls coming other made come s = fails_links ProtocolViolation r after calls coming other made come

-- one that takes a file

-- a file on its way: its identity, its first row, its payloads that were sent, and what comes after them
record Flow : Type 0 where
  identity : Identity
  from : ℕ
  payloads : List (List ℕ)
  behind : List Command

abbrev TakesFlow : Flow → Talk → Type 0
TakesFlow w talk = IsTaking w.identity w.from w.payloads w.behind talk

abbrev data_flow : Contact → Transfer → Flow
data_flow contact t = record { identity = t.file.identity; from = t.from; payloads = take t.sent (payloads_in contact t); behind = [] }

abbrev end_flow : Contact → Transfer → Efid → Flow
end_flow contact t efid = record { identity = t.file.identity; from = t.from; payloads = payloads_in contact t; behind = command.Efid efid ∷ [] }

-- the other session sends payloads of a file, or has sent all of them
record IsFeeding (w : Flow) (other : Talk) : Type 0 where
  credits : All IsCredit other.coming
  may : (s : Register) (coming : List Command) → All IsCredit coming → MayCome s other.phase coming
  goes : (coming : List Command) (one : Talk) → All IsCredit coming → TakesFlow w one → Speaks (now_with other coming) other.phase one

-- only CDT may arrive at a session that sends
credits_come : (coming : List Command) → All IsCredit coming → MayCredit coming
credits_come [] h = tt
credits_come (command.Cdt ∷ coming) h = credits_come coming (All-tail IsCredit command.Cdt coming h)
credits_come (command.Ssrm ∷ coming) h = absurd (All-head IsCredit command.Ssrm coming h)
credits_come (_ ∷ coming) h = absurd (All-head IsCredit _ coming h)

credits_end : (s : Register) (t : Transfer) (coming : List Command) → All IsCredit coming → MayAnswerEnd s t.file coming
credits_end s t [] h = tt
credits_end s t (command.Cdt ∷ coming) h = tt
credits_end s t (_ ∷ coming) h = absurd (All-head IsCredit _ coming h)

data_feeds : (one other : Talk) (h : HearsData one other) → IsFeeding (data_flow h.there h.transfer) other
data_feeds one other h = record {
  credits = h.credits;
  may = λ s coming c. subst (λ p. MayCome s p coming) (sym h.sends) (credits_come coming c);
  goes = λ coming x c k. subst (λ p. Speaks (now_with other coming) p x) (sym h.sends) (record { credits = c; takes = k });
}

end_feeds : (one other : Talk) (h : HearsEnd one other) → IsFeeding (end_flow h.there h.transfer h.efid) other
end_feeds one other h = record {
  credits = h.credits;
  may = λ s coming c. subst (λ p. MayCome s p coming) (sym h.awaits) (credits_end s h.transfer coming c);
  goes = λ coming x c k. subst (λ p. Speaks (now_with other coming) p x) (sym h.awaits) (EfidGoes c h.efid k);
}

-- the payload is the next of those on the way
record IsNextOf (f : Receipt) (payload : List ℕ) (coming : List Command) (w : Flow) : Type 0 where
  more : List (List ℕ)
  rest : coming ≡ map command.Data more ++ w.behind
  same : f.file.identity ≡ w.identity
  place : f.from ≡ w.from
  all : f.payloads ++ payload ∷ more ≡ w.payloads

next_of : (contact : Contact) (f : Receipt) (payload : List ℕ) (calls : Bool) (coming : List Command) (w : Flow) → (command.Data payload ∷ coming ≡ w.behind → ⊥)
    → TakesFlow w (to calls (Receiving contact f) (command.Data payload) coming) → IsNextOf f payload coming w
next_of contact f payload calls coming w first k = by k.on_the_way k.told k.all
  where
    is : f ≡ k.receipt
    is = let q : Receiving contact f ≡ Receiving k.contact k.receipt = k.takes in cc

    by : (on_the_way : List (List ℕ)) → command.Data payload ∷ coming ≡ map command.Data on_the_way ++ w.behind → k.receipt.payloads ++ on_the_way ≡ w.payloads
        → IsNextOf f payload coming w
    by [] told all = absurd (first told)
    by (p ∷ ps) told all =
        let q : command.Data payload ∷ coming ≡ command.Data p ∷ (map command.Data ps ++ w.behind) = told in
        let rest : coming ≡ map command.Data ps ++ w.behind = cc in
        let head : command.Data payload ≡ command.Data p = cc in
        let same : payload ≡ p = cc in
        record {
          more = ps;
          rest = rest;
          same = ap (λ (x : Receipt). x.file.identity) is ∙ k.same;
          place = ap (λ (x : Receipt). x.from) is ∙ k.from_row;
          all = ap (λ (x : Receipt). x.payloads ++ payload ∷ ps) is ∙ ap (λ x. k.receipt.payloads ++ x ∷ ps) same ∙ all;
        }

-- the file goes on after a payload
took_next : (contact : Contact) (f g : Receipt) (payload : List ℕ) (calls : Bool) (coming : List Command) (w : Flow) → IsNextOf f payload coming w
    → g.file.identity ≡ f.file.identity → g.from ≡ f.from → g.payloads ≡ f.payloads ++ payload ∷ []
    → TakesFlow w (record { calls = calls; phase = Receiving contact g; coming = coming })
took_next contact f g payload calls coming w n name goes more =
    subst (λ x. TakesFlow w (record { calls = calls; phase = Receiving contact g; coming = x })) (sym n.rest)
    (payload_link contact f g payload calls w.identity w.from w.payloads n.more w.behind n.same n.place n.all name goes more)

data_links : (contact : Contact) (f : Receipt) (payload : List ℕ) (r after : Register) (calls : Bool) (coming : List Command) (other : Talk) (w : Flow)
    → Makes (data_step contact f payload).change r after → MayCome r other.phase other.coming → IsFeeding w other
    → IsNextOf f payload coming w → Links calls coming other (data_step contact f payload) after
unfolding data_step
data_links contact f payload r after calls coming other w made come feeds n =
    either_links (nat_lt contact.link.buffer (length payload + 1)) (fails BufferSizeError) (on_taken contact f payload (taken (carried_by f) payload)) r after calls coming other
    (λ m. fails_links BufferSizeError r after calls coming other m come) (by_taken (taken (carried_by f) payload)) made
  where
    -- the window is full: its rows are kept, and CDT is sent
    kept : (t : Taking) → let g : Receipt = with_rows (with_payload f payload) (rows_to_keep (with_payload f payload) t) in
        Links calls coming other (answers (Receiving contact g) (keeping f.number (rows_to_keep (with_payload f payload) t)) command.Cdt) after
    kept t =
        let g = with_rows (with_payload f payload) (rows_to_keep (with_payload f payload) t) in
        let credits : All IsCredit (other.coming ++ command.Cdt ∷ []) =
        All-append IsCredit other.coming (command.Cdt ∷ []) feeds.credits (All-cons IsCredit command.Cdt [] tt (All-nil IsCredit)) in record {
          said = feeds.may after (other.coming ++ command.Cdt ∷ []) credits;
          meet = λ _. inr (feeds.goes (other.coming ++ command.Cdt ∷ []) _ credits (took_next contact f g payload calls coming w n refl refl refl));
        }

    by_taken : (result : Result Taking TakeFault) → Makes (on_taken contact f payload result).change r after → Links calls coming other (on_taken contact f payload result) after
    by_taken (Err fault) m = fails_links _ r after calls coming other m come
    by_taken (Ok t) m =
        let g = with_payload f payload in
        either_links (is_window_full contact g) (answers (Receiving contact (with_rows g (rows_to_keep g t))) (keeping f.number (rows_to_keep g t)) command.Cdt)
        (quiet (Receiving contact g)) r after calls coming other
        (λ made. kept t)
        (λ same. record {
          said = subst (λ x. MayCome x other.phase other.coming) (sym same) come;
          meet = λ _. inr (feeds.goes other.coming _ feeds.credits (took_next contact f g payload calls coming w n refl refl refl));
        }) m

-- EFID comes after the last payload
ended_alone : (contact : Contact) (f : Receipt) (efid was : Efid) (calls : Bool) (coming : List Command) (identity : Identity) (from : ℕ) (payloads : List (List ℕ))
    → IsTaking identity from payloads (command.Efid was ∷ []) (to calls (Receiving contact f) (command.Efid efid) coming) → (coming ≡ []) × (f.file.identity ≡ identity)
ended_alone contact f efid was calls coming identity from payloads k = (by k.on_the_way k.told, ap (λ (x : Receipt). x.file.identity) is ∙ k.same)
  where
    is : f ≡ k.receipt
    is = let q : Receiving contact f ≡ Receiving k.contact k.receipt = k.takes in cc

    by : (on_the_way : List (List ℕ)) → command.Efid efid ∷ coming ≡ map command.Data on_the_way ++ command.Efid was ∷ [] → coming ≡ []
    by [] told = (one_left (command.Efid efid) (command.Efid was) coming told).1
    by (p ∷ ps) told = absurd (let q : command.Efid efid ∷ coming ≡ command.Data p ∷ (map command.Data ps ++ command.Efid was ∷ []) = told in cc)

-- while payloads are sent, EFID isn't on its way
not_ended : (contact : Contact) (f : Receipt) (efid : Efid) (calls : Bool) (coming : List Command) (identity : Identity) (from : ℕ) (payloads : List (List ℕ))
    → IsTaking identity from payloads [] (to calls (Receiving contact f) (command.Efid efid) coming) → ⊥
not_ended contact f efid calls coming identity from payloads k = by k.on_the_way k.told
  where
    by : (on_the_way : List (List ℕ)) → command.Efid efid ∷ coming ≡ map command.Data on_the_way ++ [] → ⊥
    by [] told = let q : command.Efid efid ∷ coming ≡ [] = told in cc
    by (p ∷ ps) told = let q : command.Efid efid ∷ coming ≡ command.Data p ∷ (map command.Data ps ++ []) = told in cc

-- the answer to EFID after credit: if the file is whole, it may arrive
answer_comes : (s : Register) (t : Transfer) (coming : List Command) (answer : Command) → All IsCredit coming → MayAnswerEnd s t.file (answer ∷ []) → MayAnswerEnd s t.file (coming ++ answer ∷ [])
answer_comes s t [] answer h k = k
answer_comes s t (command.Cdt ∷ coming) answer h k = tt
answer_comes s t (_ ∷ coming) answer h k = absurd (All-head IsCredit _ coming h)

end_links : (contact : Contact) (f : Receipt) (efid : Efid) (r after : Register) (calls : Bool) (coming : List Command) (other : Talk) → IsSound r → IsReceived r f
    → Makes (end_step contact r f efid).change r after → MayCome r other.phase other.coming
    → (h : HearsEnd (to calls (Receiving contact f) (command.Efid efid) coming) other) → Links calls coming other (end_step contact r f efid) after
unfolding end_step apply
end_links contact f efid r after calls coming other sound holds made come h =
    either_links (is_open (carried_by f).stage) (fails ProtocolViolation)
    (on_end_verdict contact r f (carried_by f) (end_verdict efid (counts_of (carried_by f)).0 (counts_of (carried_by f)).1)) r after calls coming other
    (λ m. fails_links ProtocolViolation r after calls coming other m come)
    (by_verdict (end_verdict efid (counts_of (carried_by f)).0 (counts_of (carried_by f)).1)) made
  where
    k : (coming ≡ []) × (f.file.identity ≡ h.transfer.file.identity)
    k = ended_alone contact f efid h.efid calls coming h.transfer.file.identity h.transfer.from (payloads_in h.there h.transfer) h.takes

    answered : (answer : Command) → IsEndAnswer answer → MayAnswerEnd after h.transfer.file (answer ∷ []) → (change : Option Change)
        → Links calls coming other (answers (ListenerIdle contact) change answer) after
    answered answer is may change = record {
      said = subst (λ p. MayCome after p (other.coming ++ answer ∷ [])) (sym h.awaits) (answer_comes after h.transfer other.coming answer h.credits may);
      meet = λ _. inr (subst (λ p. Speaks (now_with other (other.coming ++ answer ∷ [])) p (record { calls = calls; phase = ListenerIdle contact; coming = coming })) (sym h.awaits)
          (AnswerComes other.coming h.credits answer is refl (record { contact = contact; listens = refl; told = k.0 })));
    }

    by_verdict : (verdict : EndVerdict) → Makes (on_end_verdict contact r f (carried_by f) verdict).change r after → Links calls coming other (on_end_verdict contact r f (carried_by f) verdict) after
    by_verdict «end».Accept m =
        let rows = closed (rows_to_keep f (carried_by f)) (carried_by f).tail in
        let whole : IsWholeAt after h.transfer.file.identity = subst (IsWholeAt after) k.1 (closed_is_whole r after f rows sound holds m) in
        answered (command.Efpa (record { change_direction = asks_to_speak contact r })) tt (whole, tt) (Some (Close f.number rows))
    by_verdict («end».Refuse reason) m = answered (command.Efna (record { reason = end_number reason; text = [] })) tt tt (Some (GiveUp f.number))

-- what arrives at a session that receives a file
heard_file : (contact : Contact) (f : Receipt) (c : Command) (calls : Bool) (coming : List Command) (other : Talk) → Linked (to calls (Receiving contact f) c coming) other
    → HearsData (to calls (Receiving contact f) c coming) other ⊎ HearsEnd (to calls (Receiving contact f) c coming) other
heard_file contact f c calls coming other s = elim (hears calls (Receiving contact f) c coming other (λ k. k) s) [
  | Greeted h ↦ absurd (let q : Receiving contact f ≡ InitiatorOpening = h.opens in cc)
  | Response h ↦ absurd (let q : Receiving contact f ≡ ListenerIdle h.contact = h.listens in cc)
  | Offered h ↦ absurd (let q : Receiving contact f ≡ ListenerIdle h.contact = h.listens in cc)
  | Sent h ↦ inl h
  | Ended h ↦ inr h
]

pub receive_links : (contact : Contact) (f : Receipt) (r after : Register) (c : Command) (calls : Bool) (coming : List Command) (other : Talk) → IsSound r → IsReceived r f
    → Makes (came_receiving contact r f c).change r after → MayCome r other.phase other.coming
    → Linked (to calls (Receiving contact f) c coming) other → Links calls coming other (came_receiving contact r f c) after
unfolding came_receiving unexpected
receive_links contact f r after (command.Data payload) calls coming other sound holds made come s =
    let one = to calls (Receiving contact f) (command.Data payload) coming in
    elim (heard_file contact f (command.Data payload) calls coming other s) [
      | inl h ↦ data_links contact f payload r after calls coming other (data_flow h.there h.transfer) made come (data_feeds one other h)
          (next_of contact f payload calls coming (data_flow h.there h.transfer) (λ e. let q : command.Data payload ∷ coming ≡ [] = e in cc) h.takes)
      | inr h ↦ data_links contact f payload r after calls coming other (end_flow h.there h.transfer h.efid) made come (end_feeds one other h)
          (next_of contact f payload calls coming (end_flow h.there h.transfer h.efid) (λ e. let q : command.Data payload ∷ coming ≡ command.Efid h.efid ∷ [] = e in cc) h.takes)
    ]
receive_links contact f r after (command.Efid efid) calls coming other sound holds made come s = elim (heard_file contact f (command.Efid efid) calls coming other s) [
  | inl h ↦ absurd (not_ended contact f efid calls coming h.transfer.file.identity h.transfer.from (take h.transfer.sent (payloads_in h.there h.transfer)) h.takes)
  | inr h ↦ end_links contact f efid r after calls coming other sound holds made come h
]
receive_links contact f r after (command.Esid e) calls coming other sound holds made come s = leaves_links e.reason r after calls coming other made come
receive_links contact f r after _ calls coming other sound holds made come s = fails_links ProtocolViolation r after calls coming other made come
