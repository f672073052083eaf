-- No change takes evidence away.
use Rattle.std.proofs.Common.{◌≡◌, ℕ, zero, suc, ◌==◌, ◌||◌, true, List, [], ◌∷◌, ◌++◌, map, fold, Option, None, Some, Result, Ok, Err, refl, ap, sym, ◌∙◌, subst, inl, inr}
use Rattle.std.proofs.lemmas.Bool.{cases_Bool, cond-true, cond-false, cond_both, eq-eqb, eqb-true, or_cases}
use Rattle.oftp_register.specs.declared.change.Cause.{Cause}
use Rattle.oftp_register.specs.declared.change.Change.{Change}
use Rattle.oftp_register.specs.declared.change.Change.TheVariants as change
use Rattle.oftp_register.specs.declared.entry.Dispatch.{Dispatch}
use Rattle.oftp_register.specs.declared.entry.Dispatch.TheVariants.{Due, Sent}
use Rattle.oftp_register.specs.declared.entry.Identity.{Identity}
use Rattle.oftp_register.specs.declared.entry.IncomingState.{IncomingState}
use Rattle.oftp_register.specs.declared.entry.IncomingState.TheVariants.{Open, Whole}
use Rattle.oftp_register.specs.declared.entry.OutgoingState.{OutgoingState}
use Rattle.oftp_register.specs.declared.entry.OutgoingState.TheVariants.{Waiting, Closing, Handed, Refused, Delivered, Returned}
use Rattle.oftp_register.specs.declared.entry.ResponseKind.{ResponseKind}
use Rattle.oftp_register.specs.declared.entry.ResponseKind.TheVariants.{EndResponse, NegativeEndResponse}
use Rattle.oftp_register.specs.Register.{Register, Issued, Incoming, Outgoing, Received, same_identity}
use Rattle.oftp_register.specs.Changes.{answered, apply, at_number, closed, closing, filed, given_up, go_on_by, gone_on, handed, if_open, if_unanswered, is_closing, is_waiting, issued, issued_on, kept, mapped, marked, new_incoming, new_outgoing, on_incoming, on_outgoing, refused, reopened, sent, sent_as, settled, started, started_in, submitted}
use Rattle.oftp_register.proofs.AdditionLemmas.{filed_ok, submitted_ok}
use Rattle.oftp_register.proofs.IncomingLemmas.{gone_on_ok, if_open_ok, issued_on_ok, sent_of_ok}
use Rattle.oftp_register.proofs.NameLemmas.{same_identity-true}
use Rattle.oftp_register.proofs.NumberLemmas.{mapped_ok, one_result}
use Rattle.oftp_register.proofs.OutgoingLemmas.{allowed_ok}
use Rattle.oftp_audit.specs.Evidence.{EvidenceStays, KeepsEach, KeepsEvidence, KeepsIncoming, KeepsIssued, KeepsOutgoing, KeepsReceived, KeepsResponse, KeepsWhole, may_become, may_dispatch, was_delivered, was_handed, was_refused, was_returned}

-- ---- an entry keeps what it has

dispatch_self : (d : Dispatch) → may_dispatch d d ≡ true
dispatch_self Due = refl
dispatch_self Sent = refl

issued_self : (x : Issued) → KeepsIssued x x
issued_self x = record { kind = refl; reason = refl; text = refl; dispatch = dispatch_self x.dispatch }

response_self : (x : Option Issued) → KeepsResponse x x
response_self None = tt
response_self (Some x) = issued_self x

whole_self : (state : IncomingState) (x : Incoming) → x.state ≡ state → KeepsWhole state x x
whole_self Open x is = tt
whole_self Whole x is = (is, refl)

incoming_self : (x : Incoming) → KeepsIncoming x x
incoming_self x = record { identity = refl; whole = whole_self x.state x refl; response = response_self x.response }

pub same_number : (n : ℕ) → (n == n) ≡ true
same_number n = eq-eqb n n refl

state_self : (state : OutgoingState) → may_become state state ≡ true
state_self Waiting = refl
state_self Closing = refl
state_self Handed = refl
state_self (Refused reason) = same_number reason
state_self Delivered = refl
state_self Returned = refl

outgoing_self : (x : Outgoing) → KeepsOutgoing x x
outgoing_self x = record { content = refl; state = state_self x.state }

each_self : {A : Type 0} (P : A → A → Type 0) → ((x : A) → P x x) → (xs : List A) → KeepsEach P xs xs
each_self P self [] = tt
each_self P self (x ∷ xs) = (self x, each_self P self xs)

-- ---- what is kept twice is kept

dispatch_on : (a b c : Dispatch) → may_dispatch a b ≡ true → may_dispatch b c ≡ true → may_dispatch a c ≡ true
dispatch_on Due b c f g = refl
dispatch_on Sent Due c f g = absurd (cc)
dispatch_on Sent Sent c f g = g

issued_on_and_on : (x y z : Issued) → KeepsIssued x y → KeepsIssued y z → KeepsIssued x z
issued_on_and_on x y z f g = record {
  kind = g.kind ∙ f.kind;
  reason = g.reason ∙ f.reason;
  text = g.text ∙ f.text;
  dispatch = dispatch_on x.dispatch y.dispatch z.dispatch f.dispatch g.dispatch;
}

response_on : (x y z : Option Issued) → KeepsResponse x y → KeepsResponse y z → KeepsResponse x z
response_on None y z f g = tt
response_on (Some x) None z f g = absurd f
response_on (Some x) (Some y) None f g = absurd g
response_on (Some x) (Some y) (Some z) f g = issued_on_and_on x y z f g

whole_on : (state : IncomingState) (x y z : Incoming) → KeepsWhole state x y → KeepsWhole y.state y z → KeepsWhole state x z
whole_on Open x y z f g = tt
whole_on Whole x y z f g =
    let later : KeepsWhole Whole y z = subst (λ state. KeepsWhole state y z) f.0 g in
    (later.0, later.1 ∙ f.1)

incoming_on : (x y z : Incoming) → KeepsIncoming x y → KeepsIncoming y z → KeepsIncoming x z
incoming_on x y z f g = record {
  identity = g.identity ∙ f.identity;
  whole = whole_on x.state x y z f.whole g.whole;
  response = response_on x.response y.response z.response f.response g.response;
}

delivered_is : (state : OutgoingState) → was_delivered state ≡ true → state ≡ Delivered
delivered_is Waiting h = absurd (cc)
delivered_is Closing h = absurd (cc)
delivered_is Handed h = absurd (cc)
delivered_is (Refused reason) h = absurd (cc)
delivered_is Delivered h = refl
delivered_is Returned h = absurd (cc)

returned_is : (state : OutgoingState) → was_returned state ≡ true → state ≡ Returned
returned_is Waiting h = absurd (cc)
returned_is Closing h = absurd (cc)
returned_is Handed h = absurd (cc)
returned_is (Refused reason) h = absurd (cc)
returned_is Delivered h = absurd (cc)
returned_is Returned h = refl

refused_is : (reason : ℕ) (state : OutgoingState) → was_refused reason state ≡ true → state ≡ Refused reason
refused_is reason Waiting h = absurd (cc)
refused_is reason Closing h = absurd (cc)
refused_is reason Handed h = absurd (cc)
refused_is reason (Refused other) h = ap Refused (sym (eqb-true reason other h))
refused_is reason Delivered h = absurd (cc)
refused_is reason Returned h = absurd (cc)

handed_on : (b c : OutgoingState) → was_handed b ≡ true → may_become b c ≡ true → was_handed c ≡ true
handed_on Waiting c f g = absurd (cc)
handed_on Closing c f g = absurd (cc)
handed_on Handed c f g = g
handed_on (Refused reason) c f g = absurd (cc)
handed_on Delivered c f g = ap was_handed (delivered_is c g)
handed_on Returned c f g = ap was_handed (returned_is c g)

state_on : (a b c : OutgoingState) → may_become a b ≡ true → may_become b c ≡ true → may_become a c ≡ true
state_on Waiting b c f g = refl
state_on Closing b c f g = refl
state_on Handed b c f g = handed_on b c f g
state_on (Refused reason) b c f g = subst (λ state. may_become state c ≡ true) (refused_is reason b f) g
state_on Delivered b c f g = subst (λ state. may_become state c ≡ true) (delivered_is b f) g
state_on Returned b c f g = subst (λ state. may_become state c ≡ true) (returned_is b f) g

outgoing_on : (x y z : Outgoing) → KeepsOutgoing x y → KeepsOutgoing y z → KeepsOutgoing x z
outgoing_on x y z f g = record { content = g.content ∙ f.content; state = state_on x.state y.state z.state f.state g.state }

each_on : {A : Type 0} (P : A → A → Type 0) → ((x y z : A) → P x y → P y z → P x z) → (xs ys zs : List A) → KeepsEach P xs ys → KeepsEach P ys zs → KeepsEach P xs zs
each_on P on [] ys zs f g = tt
each_on P on (x ∷ xs) [] zs f g = absurd f
each_on P on (x ∷ xs) (y ∷ ys) [] f g = absurd g
each_on P on (x ∷ xs) (y ∷ ys) (z ∷ zs) f g = (on x y z f.0 g.0, each_on P on xs ys zs f.1 g.1)

evidence_self : (r : Register) → KeepsEvidence r r
evidence_self r = record {
  incoming = each_self KeepsIncoming incoming_self r.incoming;
  outgoing = each_self KeepsOutgoing outgoing_self r.outgoing;
  received = each_self KeepsReceived (λ x. refl) r.received;
}

evidence_on : (r s t : Register) → KeepsEvidence r s → KeepsEvidence s t → KeepsEvidence r t
evidence_on r s t f g = record {
  incoming = each_on KeepsIncoming incoming_on r.incoming s.incoming t.incoming f.incoming g.incoming;
  outgoing = each_on KeepsOutgoing outgoing_on r.outgoing s.outgoing t.outgoing f.outgoing g.outgoing;
  received = each_on KeepsReceived (λ x y z p q. q ∙ p) r.received s.received t.received f.received g.received;
}

-- ---- what a change does to a list

-- one entry was changed
each_changed : {A : Type 0} (P : A → A → Type 0) → ((x : A) → P x x) → (f : A → Result A Cause) → ((x y : A) → f x ≡ Ok y → P x y) → (n : ℕ) (xs ys : List A) → at_number f n xs ≡ Ok ys
    → KeepsEach P xs ys
each_changed P self f keeps zero xs ys h = absurd (cc)
each_changed P self f keeps (suc n) [] ys h = absurd (cc)
each_changed P self f keeps (suc zero) (x ∷ xs) ys h =
    let part = mapped_ok (λ y. y ∷ xs) (f x) ys h in
    subst (KeepsEach P (x ∷ xs)) part.2 (keeps x part.0 part.1, each_self P self xs)
each_changed P self f keeps (suc (suc n)) (x ∷ xs) ys h =
    let part = mapped_ok (λ zs. x ∷ zs) (at_number f (suc n) xs) ys h in
    subst (KeepsEach P (x ∷ xs)) part.2 (self x, each_changed P self f keeps (suc n) xs part.0 part.1)

-- one more entry
each_added : {A : Type 0} (P : A → A → Type 0) → ((x : A) → P x x) → (xs more : List A) → KeepsEach P xs (xs ++ more)
each_added P self [] more = tt
each_added P self (x ∷ xs) more = (self x, each_added P self xs more)

-- each entry was changed
each_mapped : {A : Type 0} (P : A → A → Type 0) (f : A → A) → ((x : A) → P x (f x)) → (xs : List A) → KeepsEach P xs (map f xs)
each_mapped P f keeps [] = tt
each_mapped P f keeps (x ∷ xs) = (keeps x, each_mapped P f keeps xs)

-- ---- incoming files

-- an open file may change, except for its identity and its response
open_keeps : (x y : Incoming) → x.state ≡ Open → y.identity ≡ x.identity → y.response ≡ x.response → KeepsIncoming x y
open_keeps x y is name response = record {
  identity = name;
  whole = subst (λ state. KeepsWhole state x y) (sym is) tt;
  response = subst (KeepsResponse x.response) (sym response) (response_self x.response);
}

if_open_keeps : (x y : Incoming) (rows : List (List ℕ)) (next : IncomingState) → if_open x rows next x.state ≡ Ok y → KeepsIncoming x y
if_open_keeps x y rows next h =
    let made = if_open_ok x rows next x.state y h in
    open_keeps x y made.0 (ap (λ (f : Incoming). f.identity) (sym made.1)) (ap (λ (f : Incoming). f.response) (sym made.1))

-- another response, where the state and the content stay
answer_keeps : (x : Incoming) (later : Option Issued) → KeepsResponse x.response later → KeepsIncoming x (record x { response = later })
answer_keeps x later keeps = record { identity = refl; whole = by x.state refl; response = keeps }
  where
    by : (state : IncomingState) → x.state ≡ state → KeepsWhole state x (record x { response = later })
    by Open is = tt
    by Whole is = (is, refl)

-- only a file without a response gets one
unanswered_was : (response : Issued) (x y : Incoming) (other : Option Issued) → if_unanswered response x other ≡ Ok y → other ≡ None
unanswered_was response x y None h = refl
unanswered_was response x y (Some other) h = absurd (cc)

issued_was : (response : Issued) (x y : Incoming) (state : IncomingState) → issued_on response x state ≡ Ok y → x.response ≡ None
issued_was response x y Open h = absurd (cc)
issued_was response x y Whole h = unanswered_was response x y x.response h

issued_keeps : (response : Issued) (x y : Incoming) → issued response x ≡ Ok y → KeepsIncoming x y
issued_keeps response x y h =
    let made = issued_on_ok response x x.state y h in
    subst (KeepsIncoming x) made.1
    (answer_keeps x (Some response) (subst (λ was. KeepsResponse was (Some response)) (sym (issued_was response x y x.state h)) tt))

sent_as_keeps : (was is : Issued) (dispatch : Dispatch) → was.dispatch ≡ dispatch → sent_as was dispatch ≡ Ok is → KeepsIssued was is
sent_as_keeps was is Due e h =
    let sent : record was { dispatch = Sent } ≡ is = one_result (sent_as was Due) (record was { dispatch = Sent }) is refl h in
    subst (KeepsIssued was) sent (record { kind = refl; reason = refl; text = refl; dispatch = ap (λ d. may_dispatch d Sent) e })
sent_as_keeps was is Sent e h = absurd (cc)

sent_keeps : (x y : Incoming) → sent x ≡ Ok y → KeepsIncoming x y
sent_keeps x y h =
    let made = sent_of_ok x x.response y h in
    let keeps : KeepsIssued made.0 made.1 = sent_as_keeps made.0 made.1 made.0.dispatch refl made.4 in
    subst (KeepsIncoming x) made.3 (answer_keeps x (Some made.1) (subst (λ was. KeepsResponse was (Some made.1)) (sym made.2) keeps))

on_incoming_keeps : (f : Incoming → Result Incoming Cause) → ((x y : Incoming) → f x ≡ Ok y → KeepsIncoming x y) → (n : ℕ) (r s : Register) → on_incoming f n r ≡ Ok s → KeepsEvidence r s
on_incoming_keeps f keeps n r s h =
    let part = mapped_ok (λ files. record r { incoming = files }) (at_number f n r.incoming) s h in
    let self = evidence_self r in
    subst (KeepsEvidence r) part.2
    (record { incoming = each_changed KeepsIncoming incoming_self f keeps n r.incoming part.0 part.1; outgoing = self.outgoing; received = self.received })

-- a file that starts again is open, and has the identity of its header
started_keeps : (r : Register) (header : Incoming) (count : ℕ) (files after : List Incoming) → started_in r header count files ≡ Ok after → KeepsEach KeepsIncoming files after
started_keeps r header count [] after h = tt
started_keeps r header count (file ∷ files) after h =
    let here = same_identity file.identity header.identity in
    let going : Result (List Incoming) Cause = mapped (λ f. f ∷ files) (gone_on header count file file.state) in
    let later : Result (List Incoming) Cause = mapped (λ fs. file ∷ fs) (started_in r header count files) in
    elim (cases_Bool here) [
      | inl e ↦ (let part = mapped_ok (λ f. f ∷ files) (gone_on header count file file.state) after (sym (cond-true here going later e) ∙ h) in
          let made = gone_on_ok header count file file.state part.0 part.1 in
          let name : part.0.identity ≡ file.identity = ap (λ (f : Incoming). f.identity) (sym made.1) ∙ sym (same_identity-true file.identity header.identity e) in
          let first : KeepsIncoming file part.0 = open_keeps file part.0 made.0 name (ap (λ (f : Incoming). f.response) (sym made.1)) in
          subst (KeepsEach KeepsIncoming (file ∷ files)) part.2 (first, each_self KeepsIncoming incoming_self files))
      | inr e ↦ (let part = mapped_ok (λ fs. file ∷ fs) (started_in r header count files) after (sym (cond-false here going later e) ∙ h) in
          subst (KeepsEach KeepsIncoming (file ∷ files)) part.2 (incoming_self file, started_keeps r header count files part.0 part.1))
    ]

start_keeps : (r s : Register) (header : Incoming) (count : ℕ) → started r header count ≡ Ok s → KeepsEvidence r s
start_keeps r s header count h =
    let part = mapped_ok (λ files. record r { incoming = files }) (started_in r header count r.incoming) s h in
    let self = evidence_self r in
    subst (KeepsEvidence r) part.2 (record { incoming = started_keeps r header count r.incoming part.0 part.1; outgoing = self.outgoing; received = self.received })

-- ---- outgoing files

-- a file in another state, whatever its mark
state_keeps : (x : Outgoing) (mark : ℕ) (state : OutgoingState) → may_become x.state state ≡ true → KeepsOutgoing x (record x { mark = mark; state = state })
state_keeps x mark state may = record { content = refl; state = may }

waiting_may : (x later : OutgoingState) → is_waiting x ≡ true → may_become x later ≡ true
waiting_may Waiting later h = refl
waiting_may Closing later h = refl
waiting_may Handed later h = absurd (cc)
waiting_may (Refused reason) later h = absurd (cc)
waiting_may Delivered later h = absurd (cc)
waiting_may Returned later h = absurd (cc)

closing_may : (x later : OutgoingState) → is_closing x ≡ true → may_become x later ≡ true
closing_may Waiting later h = refl
closing_may Closing later h = refl
closing_may Handed later h = absurd (cc)
closing_may (Refused reason) later h = absurd (cc)
closing_may Delivered later h = absurd (cc)
closing_may Returned later h = absurd (cc)

marked_keeps : (rows : ℕ) (x y : Outgoing) → marked rows x ≡ Ok y → KeepsOutgoing x y
marked_keeps rows x y h =
    let made = allowed_ok _ (record x { mark = rows }) y h in
    subst (KeepsOutgoing x) made.1 (state_keeps x rows x.state (state_self x.state))

closing_keeps : (x y : Outgoing) → closing x ≡ Ok y → KeepsOutgoing x y
closing_keeps x y h =
    let made = allowed_ok (is_waiting x.state) (record x { state = Closing }) y h in
    subst (KeepsOutgoing x) made.1 (state_keeps x x.mark Closing (waiting_may x.state Closing made.0))

handed_keeps : (x y : Outgoing) → handed x ≡ Ok y → KeepsOutgoing x y
handed_keeps x y h =
    let made = allowed_ok (is_closing x.state) (record x { state = Handed }) y h in
    subst (KeepsOutgoing x) made.1 (state_keeps x x.mark Handed (closing_may x.state Handed made.0))

refused_keeps : (reason : ℕ) (x y : Outgoing) → refused reason x ≡ Ok y → KeepsOutgoing x y
refused_keeps reason x y h =
    let made = allowed_ok (is_waiting x.state || is_closing x.state) (record x { state = Refused reason }) y h in
    let may : may_become x.state (Refused reason) ≡ true = elim (or_cases (is_waiting x.state) (is_closing x.state) made.0) [
      | inl e ↦ waiting_may x.state (Refused reason) e
      | inr e ↦ closing_may x.state (Refused reason) e
    ] in
    subst (KeepsOutgoing x) made.1 (state_keeps x x.mark (Refused reason) may)

reopened_keeps : (x y : Outgoing) → reopened x ≡ Ok y → KeepsOutgoing x y
reopened_keeps x y h =
    let made = allowed_ok (is_closing x.state) (record x { state = Waiting; mark = 0 }) y h in
    subst (KeepsOutgoing x) made.1 (state_keeps x 0 Waiting (closing_may x.state Waiting made.0))

on_outgoing_keeps : (f : Outgoing → Result Outgoing Cause) → ((x y : Outgoing) → f x ≡ Ok y → KeepsOutgoing x y) → (n : ℕ) (r s : Register) → on_outgoing f n r ≡ Ok s → KeepsEvidence r s
on_outgoing_keeps f keeps n r s h =
    let part = mapped_ok (λ files. record r { outgoing = files }) (at_number f n r.outgoing) s h in
    let self = evidence_self r in
    subst (KeepsEvidence r) part.2
    (record { incoming = self.incoming; outgoing = each_changed KeepsOutgoing outgoing_self f keeps n r.outgoing part.0 part.1; received = self.received })

submit_keeps : (r s : Register) (file : Outgoing) → submitted r file ≡ Ok s → KeepsEvidence r s
submit_keeps r s file h =
    let self = evidence_self r in
    subst (KeepsEvidence r) (submitted_ok r s file h).1
    (record { incoming = self.incoming; outgoing = each_added KeepsOutgoing outgoing_self r.outgoing (file ∷ []); received = self.received })

-- ---- received responses

answered_may : (kind : ResponseKind) (state : OutgoingState) → may_become state (answered kind state) ≡ true
answered_may kind Waiting = refl
answered_may kind Closing = refl
answered_may EndResponse Handed = refl
answered_may NegativeEndResponse Handed = refl
answered_may kind (Refused reason) = same_number reason
answered_may kind Delivered = refl
answered_may kind Returned = refl

settled_keeps : (kind : ResponseKind) (identity : Identity) (x : Outgoing) → KeepsOutgoing x (settled kind identity x)
settled_keeps kind identity x =
    cond_both (same_identity x.identity identity) (record x { state = answered kind x.state }) x (KeepsOutgoing x)
    (λ _. state_keeps x x.mark (answered kind x.state) (answered_may kind x.state)) (λ _. outgoing_self x)

file_keeps : (r s : Register) (response : Received) → filed r response ≡ Ok s → KeepsEvidence r s
file_keeps r s response h =
    let self = evidence_self r in
    subst (KeepsEvidence r) (filed_ok r s response h).1 (record {
      incoming = self.incoming;
      outgoing = each_mapped KeepsOutgoing (settled response.kind response.identity) (settled_keeps response.kind response.identity) r.outgoing;
      received = each_added KeepsReceived (λ x. refl) r.received (response ∷ []);
    })

-- ---- a change, and a list of changes

change_keeps : (r : Register) (k : Change) (s : Register) → apply r k ≡ Ok s → KeepsEvidence r s
unfolding apply
change_keeps r (change.Submit identity format longest description rows) s h = submit_keeps r s (new_outgoing identity format longest description rows) h
change_keeps r (change.Start identity format longest description count) s h = start_keeps r s (new_incoming identity format longest description) count h
change_keeps r (change.Keep n rows) s h = on_incoming_keeps (kept rows) (λ x y. if_open_keeps x y (x.rows ++ rows) Open) n r s h
change_keeps r (change.Close n rows) s h = on_incoming_keeps (closed rows) (λ x y. if_open_keeps x y (x.rows ++ rows) Whole) n r s h
change_keeps r (change.GiveUp n) s h = on_incoming_keeps given_up (λ x y. if_open_keeps x y [] Open) n r s h
change_keeps r (change.File kind identity reason creator text) s h =
    file_keeps r s (record { kind = kind; identity = identity; reason = reason; creator = creator; text = text }) h
change_keeps r (change.Issue n kind reason text) s h =
    let response : Issued = record { kind = kind; reason = reason; text = text; dispatch = Due } in
    on_incoming_keeps (issued response) (issued_keeps response) n r s h
change_keeps r (change.Mark n rows) s h = on_outgoing_keeps (marked rows) (marked_keeps rows) n r s h
change_keeps r (change.BeginClosing n) s h = on_outgoing_keeps closing closing_keeps n r s h
change_keeps r (change.HandOver n) s h = on_outgoing_keeps handed handed_keeps n r s h
change_keeps r (change.Refuse n reason) s h = on_outgoing_keeps (refused reason) (refused_keeps reason) n r s h
change_keeps r (change.Reopen n) s h = on_outgoing_keeps reopened reopened_keeps n r s h
change_keeps r (change.Send n) s h = on_incoming_keeps sent sent_keeps n r s h

-- after a refusal nothing goes on
pub refused_stays : (cause : Cause) (ks : List Change) (s : Register) → fold go_on_by (Err cause) ks ≡ Ok s → ⊥
refused_stays cause [] s h = cc
refused_stays cause (k ∷ ks) s h = refused_stays cause ks s h

pub evidence_stays : EvidenceStays
evidence_stays r [] s h = let same : r ≡ s = cc in subst (KeepsEvidence r) same (evidence_self r)
evidence_stays r (k ∷ ks) s h = by (apply r k) refl h (λ t g. evidence_stays t ks s g)
  where
    by : (made : Result Register Cause) → apply r k ≡ made → fold go_on_by made ks ≡ Ok s → ((t : Register) → fold go_on_by (Ok t) ks ≡ Ok s → KeepsEvidence t s) → KeepsEvidence r s
    by (Ok t) e g later = evidence_on r t s (change_keeps r k t e) (later t g)
    by (Err cause) e g later = absurd (refused_stays cause ks s g)
