-- Each change that is in its ranges leaves such a register, and so does an operator's call.
use Rattle.std.proofs.Common.{◌≡◌, ℕ, zero, suc, ◌+◌, ◌<◌, Bool, true, false, cond, ◌&&◌, nat_le, is_some, List, [], ◌∷◌, ◌++◌, length, All, Option, None, Some, Result, Ok, Err, refl, sym, subst, inl, inr, arith}
use Rattle.std.proofs.lemmas.Bool.{and_parts, cond_both, leb-true}
use Rattle.std.proofs.lemmas.List.Elements.{All-cons, All-head, All-map, All-nil, All-push, All-tail, All-weaker}
use Rattle.std.proofs.lemmas.Slice.Eq.{bytes_eq-Decides}
use Rattle.std.proofs.lemmas.Str.{IsUtf8-nil}
use Rattle.std.specs.List.{AllByRecursion}
use Rattle.std.specs.Option.{IfSome}
use Rattle.std.specs.Prelude.{codes}
use Rattle.std.specs.Str.{IsUtf8, bytes_eq}
use Rattle.oftp_wire.specs.Octets.{IsName}
use Rattle.oftp_vfile.specs.declared.limits.Limits.{Limits}
use Rattle.oftp_partners.specs.Book.{BookData, IsBook, IsPartner, partner_at}
use Rattle.oftp_partners.specs.declared.partner.Partner.{Partner}
use Rattle.oftp_register.specs.declared.change.Cause.{Cause}
use Rattle.oftp_register.specs.declared.change.Change.{Change}
use Rattle.oftp_register.specs.declared.change.Change.TheVariants as change
use Rattle.oftp_register.specs.declared.entry.Dispatch.{Dispatch}
use Rattle.oftp_register.specs.declared.entry.Dispatch.TheVariants.{Due, Sent}
use Rattle.oftp_register.specs.declared.entry.Identity.{Identity}
use Rattle.oftp_register.specs.declared.entry.IncomingState.{IncomingState}
use Rattle.oftp_register.specs.declared.entry.IncomingState.TheVariants.{Open, Whole}
use Rattle.oftp_register.specs.declared.entry.OutgoingState.{OutgoingState}
use Rattle.oftp_register.specs.declared.entry.OutgoingState.TheVariants.{Closing, Handed, Refused, Waiting}
use Rattle.oftp_register.specs.declared.entry.ResponseKind.{ResponseKind}
use Rattle.oftp_register.specs.declared.entry.ResponseKind.TheVariants.{EndResponse, NegativeEndResponse}
use Rattle.oftp_register.specs.Register.{Incoming, Issued, Outgoing, Received, Register, empty, same_identity}
use Rattle.oftp_register.specs.Changes.{answered, apply, at_number, begun, closed, closing, filed, given_up, gone_on, handed, if_allowed, if_open, is_closing, is_outgoing, issued, kept, mapped, marked}
use Rattle.oftp_register.specs.Changes.{new_incoming, new_outgoing, on_incoming, on_outgoing, refused, reopened, sent, sent_as, settled, started, started_in, submitted}
use Rattle.oftp_register.specs.Soundness.{AtNumber}
use Rattle.oftp_register.proofs.AdditionLemmas.{filed_ok, submitted_ok}
use Rattle.oftp_register.proofs.IncomingLemmas.{begun_ok, gone_on_ok, if_open_ok, issued_on_ok, sent_of_ok}
use Rattle.oftp_register.proofs.NumberLemmas.{at_number_keeps, mapped_ok, one_result}
use Rattle.oftp_register.proofs.OutgoingLemmas.{allowed_ok}
use Rattle.oftp_session.specs.Calls.{Makes}
use Rattle.oftp_engine.specs.declared.operating.Operator.{Operator}
use Rattle.oftp_engine.specs.declared.operating.Operator.TheVariants as operator
use Rattle.oftp_engine.specs.declared.operating.Refusal.TheVariants as refusal
use Rattle.oftp_engine.specs.declared.submitting.Submission.{Submission}
use Rattle.oftp_engine.specs.Operating.{AreInRange, Deed, IsDeed, decided, identity_of, is_too_big, makes, refuses, registered, submitted as submits}
use Rattle.oftp_engine.specs.Ranges.{AreWords, HasWords, IsIdentity, IsSpellable, IsSpellableAnswer, IsSpellableIncoming, IsSpellableOutgoing}

-- what a change adds is in its ranges
abbrev pub IsSpellableChange : Change → Type 0
IsSpellableChange (change.Submit identity format longest description rows) = IsIdentity identity × AreWords description
IsSpellableChange (change.Start identity format longest description count) = IsIdentity identity
IsSpellableChange (change.Issue n kind reason text) = (reason < 100) × AreWords text
IsSpellableChange _ = Unit {0}

-- incoming files

still_open : (file : Incoming) (rows : List (List ℕ)) (next : IncomingState) (after : Incoming) → IsSpellableIncoming file → if_open file rows next file.state ≡ Ok after → IsSpellableIncoming after
still_open file rows next after it h =
    subst IsSpellableIncoming (if_open_ok file rows next file.state after h).1 (record { identity = it.identity; response = it.response })

issued_spellable : (response : Issued) (file after : Incoming) → IsSpellableAnswer response → IsSpellableIncoming file → issued response file ≡ Ok after → IsSpellableIncoming after
issued_spellable response file after says it h =
    subst IsSpellableIncoming (issued_on_ok response file file.state after h).1 (record { identity = it.identity; response = says })

sent_says : (was answer : Issued) (dispatch : Dispatch) → sent_as was dispatch ≡ Ok answer → IsSpellableAnswer was → IsSpellableAnswer answer
sent_says was answer Due h says =
    subst IsSpellableAnswer (one_result (sent_as was Due) (record was { dispatch = Sent }) answer refl h) (record { reason = says.reason; text = says.text })
sent_says was answer Sent h says = absurd (cc)

sent_spellable : (file after : Incoming) → IsSpellableIncoming file → sent file ≡ Ok after → IsSpellableIncoming after
sent_spellable file after it h =
    let made = sent_of_ok file file.response after h in
    let was : IsSpellableAnswer made.0 = subst (λ o. IfSome o IsSpellableAnswer) made.2 it.response in
    subst IsSpellableIncoming made.3 (record { identity = it.identity; response = sent_says made.0 made.1 made.0.dispatch made.4 was })

started_spellable : (r : Register) (header : Incoming) (count : ℕ) (files after : List Incoming) → IsSpellableIncoming header → All IsSpellableIncoming files
    → started_in r header count files ≡ Ok after → All IsSpellableIncoming after
started_spellable r header count [] after it all h =
    let part = mapped_ok (λ f. f ∷ []) (begun r header count) after h in
    subst (All IsSpellableIncoming) part.2
    (All-cons IsSpellableIncoming part.0 [] (subst IsSpellableIncoming (begun_ok r header count part.0 part.1).0 it) (All-nil IsSpellableIncoming))
started_spellable r header count (file ∷ files) after it all h =
    by (λ fs. started_spellable r header count files fs it (All-tail IsSpellableIncoming file files all)) (same_identity file.identity header.identity) h
  where
    gone : (x : Incoming) → gone_on header count file file.state ≡ Ok x → IsSpellableIncoming x
    gone x g =
        let was = All-head IsSpellableIncoming file files all in
        subst IsSpellableIncoming (gone_on_ok header count file file.state x g).1 (record { identity = it.identity; response = was.response })

    by : ((fs : List Incoming) → started_in r header count files ≡ Ok fs → All IsSpellableIncoming fs) → (named : Bool)
        → cond named (mapped (λ f. f ∷ files) (gone_on header count file file.state)) (mapped (λ fs. file ∷ fs) (started_in r header count files)) ≡ Ok after
        → All IsSpellableIncoming after
    by later true g =
        let part = mapped_ok (λ f. f ∷ files) (gone_on header count file file.state) after g in
        subst (All IsSpellableIncoming) part.2 (All-cons IsSpellableIncoming part.0 files (gone part.0 part.1) (All-tail IsSpellableIncoming file files all))
    by later false g =
        let part = mapped_ok (λ fs. file ∷ fs) (started_in r header count files) after g in
        subst (All IsSpellableIncoming) part.2 (All-cons IsSpellableIncoming file part.0 (All-head IsSpellableIncoming file files all) (later part.0 part.1))

-- outgoing files

allowed_spellable : (allowed : Bool) (file after : Outgoing) → IsSpellableOutgoing file → if_allowed allowed file ≡ Ok after → IsSpellableOutgoing after
allowed_spellable allowed file after it h = subst IsSpellableOutgoing (allowed_ok allowed file after h).1 it

marked_spellable : (rows : ℕ) (file after : Outgoing) → IsSpellableOutgoing file → marked rows file ≡ Ok after → IsSpellableOutgoing after
marked_spellable rows file after it h = allowed_spellable _ (record file { mark = rows }) after (record { identity = it.identity; description = it.description }) h

in_state : (file : Outgoing) (state : OutgoingState) → IsSpellableOutgoing file → IsSpellableOutgoing (record file { state = state })
in_state file state it = record { identity = it.identity; description = it.description }

reopened_spellable : (file after : Outgoing) → IsSpellableOutgoing file → reopened file ≡ Ok after → IsSpellableOutgoing after
reopened_spellable file after it h =
    allowed_spellable (is_closing file.state) (record file { state = Waiting; mark = 0 }) after (record { identity = it.identity; description = it.description }) h

settled_spellable : (kind : ResponseKind) (identity : Identity) (file : Outgoing) → IsSpellableOutgoing file → IsSpellableOutgoing (settled kind identity file)
settled_spellable kind identity file it =
    cond_both (same_identity file.identity identity) (record file { state = answered kind file.state }) file IsSpellableOutgoing (λ _. in_state file (answered kind file.state) it) (λ _. it)

-- registers

any_number : {A : Type 0} (n : ℕ) (xs : List A) → AtNumber (λ _. Unit {0}) n xs
any_number zero xs = tt
any_number (suc n) [] = tt
any_number (suc zero) (x ∷ xs) = tt
any_number (suc (suc n)) (x ∷ xs) = any_number (suc n) xs

on_incoming_spellable : (f : Incoming → Result Incoming Cause) → ((x y : Incoming) → IsSpellableIncoming x → f x ≡ Ok y → IsSpellableIncoming y)
    → (n : ℕ) (r s : Register) → IsSpellable r → on_incoming f n r ≡ Ok s → IsSpellable s
on_incoming_spellable f keeps n r s it h =
    let part = mapped_ok (λ files. record r { incoming = files }) (at_number f n r.incoming) s h in
    let all = at_number_keeps IsSpellableIncoming (λ _. Unit {0}) f (λ x y p q. keeps x y p) n r.incoming part.0 it.incoming (any_number n r.incoming) part.1 in
    subst IsSpellable part.2 (record { incoming = all; outgoing = it.outgoing })

on_outgoing_spellable : (f : Outgoing → Result Outgoing Cause) → ((x y : Outgoing) → IsSpellableOutgoing x → f x ≡ Ok y → IsSpellableOutgoing y)
    → (n : ℕ) (r s : Register) → IsSpellable r → on_outgoing f n r ≡ Ok s → IsSpellable s
on_outgoing_spellable f keeps n r s it h =
    let part = mapped_ok (λ files. record r { outgoing = files }) (at_number f n r.outgoing) s h in
    let all = at_number_keeps IsSpellableOutgoing (λ _. Unit {0}) f (λ x y p q. keeps x y p) n r.outgoing part.0 it.outgoing (any_number n r.outgoing) part.1 in
    subst IsSpellable part.2 (record { incoming = it.incoming; outgoing = all })

submitted_spellable : (r s : Register) (file : Outgoing) → IsSpellable r → IsSpellableOutgoing file → submitted r file ≡ Ok s → IsSpellable s
submitted_spellable r s file it new h =
    subst IsSpellable (submitted_ok r s file h).1 (record { incoming = it.incoming; outgoing = All-push IsSpellableOutgoing r.outgoing file it.outgoing new })

start_spellable : (r s : Register) (header : Incoming) (count : ℕ) → IsSpellable r → IsSpellableIncoming header → started r header count ≡ Ok s → IsSpellable s
start_spellable r s header count it new h =
    let part = mapped_ok (λ files. record r { incoming = files }) (started_in r header count r.incoming) s h in
    subst IsSpellable part.2 (record { incoming = started_spellable r header count r.incoming part.0 new it.incoming part.1; outgoing = it.outgoing })

filed_spellable : (r s : Register) (response : Received) → IsSpellable r → filed r response ≡ Ok s → IsSpellable s
filed_spellable r s response it h =
    let settle = settled response.kind response.identity in
    let all = All-map IsSpellableOutgoing settle r.outgoing
    (All-weaker IsSpellableOutgoing (λ f. IsSpellableOutgoing (settle f)) (λ f x. settled_spellable response.kind response.identity f x) r.outgoing it.outgoing) in
    subst IsSpellable (filed_ok r s response h).1 (record { incoming = it.incoming; outgoing = all })

-- each change
pub apply_spellable : (r : Register) (k : Change) (s : Register) → IsSpellable r → IsSpellableChange k → apply r k ≡ Ok s → IsSpellable s
unfolding apply
apply_spellable r (change.Submit identity format longest description rows) s it new h =
    submitted_spellable r s (new_outgoing identity format longest description rows) it (record { identity = new.0; description = new.1 }) h
apply_spellable r (change.Start identity format longest description count) s it new h =
    start_spellable r s (new_incoming identity format longest description) count it (record { identity = new; response = tt }) h
apply_spellable r (change.Keep n rows) s it new h = on_incoming_spellable (kept rows) (λ x y p. still_open x (x.rows ++ rows) Open y p) n r s it h
apply_spellable r (change.Close n rows) s it new h = on_incoming_spellable (closed rows) (λ x y p. still_open x (x.rows ++ rows) Whole y p) n r s it h
apply_spellable r (change.GiveUp n) s it new h = on_incoming_spellable given_up (λ x y p. still_open x [] Open y p) n r s it h
apply_spellable r (change.File kind identity reason creator text) s it new h =
    filed_spellable r s (record { kind = kind; identity = identity; reason = reason; creator = creator; text = text }) it h
apply_spellable r (change.Issue n kind reason text) s it new h =
    let response : Issued = record { kind = kind; reason = reason; text = text; dispatch = Due } in
    on_incoming_spellable (issued response) (λ x y p. issued_spellable response x y (record { reason = new.0; text = new.1 }) p) n r s it h
apply_spellable r (change.Mark n rows) s it new h = on_outgoing_spellable (marked rows) (marked_spellable rows) n r s it h
apply_spellable r (change.BeginClosing n) s it new h = on_outgoing_spellable closing (λ x y p. allowed_spellable _ (record x { state = Closing }) y (in_state x Closing p)) n r s it h
apply_spellable r (change.HandOver n) s it new h = on_outgoing_spellable handed (λ x y p. allowed_spellable _ (record x { state = Handed }) y (in_state x Handed p)) n r s it h
apply_spellable r (change.Refuse n reason) s it new h =
    on_outgoing_spellable (refused reason) (λ x y p. allowed_spellable _ (record x { state = Refused reason }) y (in_state x (Refused reason) p)) n r s it h
apply_spellable r (change.Reopen n) s it new h = on_outgoing_spellable reopened reopened_spellable n r s it h
apply_spellable r (change.Send n) s it new h = on_incoming_spellable sent sent_spellable n r s it h

pub empty_spellable : (limits : Limits) → IsSpellable (empty limits)
empty_spellable limits = record { incoming = All-nil IsSpellableIncoming; outgoing = All-nil IsSpellableOutgoing }

-- a change that is made, if one is
pub makes_spellable : (r s : Register) (k : Option Change) → IsSpellable r → IfSome k IsSpellableChange → Makes k r s → IsSpellable s
makes_spellable r s None it new made = subst IsSpellable (sym made) it
makes_spellable r s (Some k) it new made = apply_spellable r k s it new made

-- an operator's call

decided_spellable : (verb : List ℕ) (n : ℕ) (k : Change) (result : Result Register Cause) → IsSpellableChange k → IfSome (decided verb n k result).change IsSpellableChange
decided_spellable verb n k (Ok after) new = new
decided_spellable verb n k (Err cause) new = tt

either : (b : Bool) (d e : Deed) → IfSome d.change IsSpellableChange → IfSome e.change IsSpellableChange → IfSome (cond b d e).change IsSpellableChange
either true d e h k = h
either false d e h k = k

-- the code of a partner in the book is a name
found_partner : (code : List ℕ) (ps : List Partner) (p : Partner) → AllByRecursion IsPartner ps → partner_at code ps ≡ Some p → IsPartner p × (p.code ≡ code)
found_partner code [] p all h = absurd (cc)
found_partner code (q ∷ qs) p all h = by (found_partner code qs p all.1) (bytes_eq q.code code) refl h
  where
    by : (partner_at code qs ≡ Some p → IsPartner p × (p.code ≡ code)) → (b : Bool) → bytes_eq q.code code ≡ b → cond b (Some q) (partner_at code qs) ≡ Some p
        → IsPartner p × (p.code ≡ code)
    by later true e g = let is : q ≡ p = cc in subst (λ (x : Partner). IsPartner x × (x.code ≡ code)) is (all.0, (bytes_eq-Decides q.code code).0 e)
    by later false e g = later g

pub partner_is : (book : BookData) (code : List ℕ) (p : Partner) → IsBook book → partner_at code book.partners ≡ Some p → IsPartner p
partner_is book code p it h = (found_partner code book.partners p it.partners.ranges h).0

to_name : (book : BookData) (code : List ℕ) → IsBook book → (found : Option Partner) → partner_at code book.partners ≡ found → is_some found ≡ true → IsName 25 code
to_name book code it None h some = absurd (cc)
to_name book code it (Some p) h some = let is = found_partner code book.partners p it.partners.ranges h in subst (IsName 25) is.1 is.0.code.1

submitted_change : (book : BookData) (r : Register) (s : Submission) (rows : List (List ℕ)) → IsBook book → AreInRange s → IsUtf8 s.description.now
    → IfSome (submits book r s rows).change IsSpellableChange
submitted_change book r s rows it fields words = by (is_some (partner_at s.to.now book.partners)) refl
  where
    named : is_some (partner_at s.to.now book.partners) ≡ true → IsSpellableChange (change.Submit (identity_of book s) s.format s.longest s.description.now rows)
    named e =
        let to = to_name book s.to.now it (partner_at s.to.now book.partners) refl e in
        (record { dataset = fields.dataset; date = fields.date; time = fields.time; originator = it.station.code.1; destination = to }, (fields.description, words))

    submit : Change
    submit = change.Submit (identity_of book s) s.format s.longest s.description.now rows

    by : (known : Bool) → is_some (partner_at s.to.now book.partners) ≡ known
        → (let d : Deed = cond known (cond (is_outgoing r (identity_of book s)) (refuses refusal.Duplicate)
        (cond (is_too_big r.limits rows) (refuses refusal.Limit) (registered (identity_of book s) s rows r))) (refuses refusal.Unknown) in
        IfSome d.change IsSpellableChange)
    by false e = tt
    by true e =
        let sent = registered (identity_of book s) s rows r in
        let within : Deed = cond (is_too_big r.limits rows) (refuses refusal.Limit) sent in
        either (is_outgoing r (identity_of book s)) (refuses refusal.Duplicate) within tt
        (either (is_too_big r.limits rows) (refuses refusal.Limit) sent tt (decided_spellable (codes "done: submit ") (1 + length r.outgoing) submit (apply r submit) (named e)))

deed_spellable : (book : BookData) (r : Register) (call : Operator) (deed : Deed) → IsBook book → HasWords call → IsDeed book r call deed → IfSome deed.change IsSpellableChange
deed_spellable book r (operator.Submit s) deed it words (inl (rows, file, is)) =
    subst (λ (d : Deed). IfSome d.change IsSpellableChange) (sym is) (submitted_change book r s rows it file.fields words)
deed_spellable book r (operator.Submit s) deed it words (inr (none, is)) = subst (λ (d : Deed). IfSome d.change IsSpellableChange) (sym is) tt
deed_spellable book r (operator.Release n) deed it words is =
    let issue = change.Issue n EndResponse 0 [] in
    let empty : IsSpellableChange issue = (omega arith, (omega arith, IsUtf8-nil)) in
    subst (λ (d : Deed). IfSome d.change IsSpellableChange) (sym is) (decided_spellable (codes "done: release ") n issue (apply r issue) empty)
deed_spellable book r (operator.Refuse n reason text) deed it words is =
    subst (λ (d : Deed). IfSome d.change IsSpellableChange) (sym is) (by (nat_le reason 99 && nat_le (length text.now) 999) refl)
  where
    issue : Change
    issue = change.Issue n NegativeEndResponse reason text.now

    by : (b : Bool) → (nat_le reason 99 && nat_le (length text.now) 999) ≡ b
        → (let d : Deed = cond b (makes (codes "done: refuse ") n issue r) (refuses refusal.Field) in IfSome d.change IsSpellableChange)
    by true e =
        let parts = and_parts (nat_le reason 99) (nat_le (length text.now) 999) e in
        let short = leb-true reason 99 parts.0 in
        let told : IsSpellableChange issue = (omega (arith, short), (leb-true (length text.now) 999 parts.1, words)) in
        decided_spellable (codes "done: refuse ") n issue (apply r issue) told
    by false e = tt

pub calls_keep : (book : BookData) (r s : Register) (call : Operator) (deed : Deed) → IsBook book → IsSpellable r → HasWords call → IsDeed book r call deed
    → Makes deed.change r s → IsSpellable s
calls_keep book r s call deed it spellable words is made = makes_spellable r s deed.change spellable (deed_spellable book r call deed it words is) made
