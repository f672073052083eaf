-- Each change preserves a sound register.
use Rattle.std.proofs.Common.{◌≡◌, ℕ, zero, suc, List, [], ◌∷◌, ◌++◌, map, All, Result, Ok, refl, sym, ◌∙◌, subst, arith}
use Rattle.std.proofs.lemmas.List.{map-append}
use Rattle.std.proofs.lemmas.List.Elements.{All-push}
use Rattle.oftp_register.specs.declared.change.Cause.{Cause}
use Rattle.oftp_register.specs.declared.change.Change.{Change}
use Rattle.oftp_register.specs.declared.change.Change.TheVariants as change
use Rattle.oftp_register.specs.declared.entry.Dispatch.TheVariants.{Due}
use Rattle.oftp_register.specs.Register.{Register, Incoming, Outgoing, Received, Issued, same_identity}
use Rattle.oftp_register.specs.Changes.{apply, at_number, closed, closing, filed, given_up, handed, issued, kept, marked, new_incoming, new_outgoing, on_incoming, on_outgoing, refused, reopened, sent, started, started_in, submitted}
use Rattle.oftp_register.specs.Soundness.{AreNamedOnce, AtNumber, Ends, GoesOn, IfOpen, IsFit, IsSound, IsSoundIncoming, IsSoundOutgoing, IsSoundReceived, MayStart}
use Rattle.oftp_register.proofs.NameLemmas.{filed-append, list_any-map, once-append}
use Rattle.oftp_register.proofs.NumberLemmas.{at_number_keeps, at_number_same, mapped_ok}
use Rattle.oftp_register.proofs.AdditionLemmas.{filed_ok, submitted_ok}
use Rattle.oftp_register.proofs.IncomingLemmas.{Begins, closed_same, closed_sound, given_up_same, given_up_sound, issued_same, issued_sound, kept_same, kept_sound, sent_same, sent_sound, started_once, started_sound}
use Rattle.oftp_register.proofs.OutgoingLemmas.{all_settled_same, all_settled_sound, closing_same, closing_sound, handed_same, handed_sound, marked_same, marked_sound, refused_same, refused_sound, reopened_same, reopened_sound}

-- a fact that always holds, of the entry with a number
at_number_any : {A : Type 0} (n : ℕ) (xs : List A) → AtNumber (λ _. Unit {0}) n xs
at_number_any zero xs = tt
at_number_any (suc n) [] = tt
at_number_any (suc zero) (x ∷ xs) = tt
at_number_any (suc (suc n)) (x ∷ xs) = at_number_any (suc n) xs

-- other incoming files
with_incoming : (r : Register) (files : List Incoming) → IsSound r → All IsSoundIncoming files → AreNamedOnce (map (λ (f : Incoming). f.identity) files) → IsSound (record r { incoming = files })
with_incoming r files sound all once =
    record {
      few = sound.few;
      small = sound.small;
      incoming = all;
      outgoing = sound.outgoing;
      received = sound.received;
      incoming_once = once;
      outgoing_once = sound.outgoing_once;
      received_once = sound.received_once;
    }

-- other outgoing files
with_outgoing : (r : Register) (files : List Outgoing) → IsSound r → All IsSoundOutgoing files → AreNamedOnce (map (λ (f : Outgoing). f.identity) files) → IsSound (record r { outgoing = files })
with_outgoing r files sound all once =
    record {
      few = sound.few;
      small = sound.small;
      incoming = sound.incoming;
      outgoing = all;
      received = sound.received;
      incoming_once = sound.incoming_once;
      outgoing_once = once;
      received_once = sound.received_once;
    }

-- a change of one incoming file
on_incoming_keeps : (Q : Incoming → Type 0) (f : Incoming → Result Incoming Cause) → ((x y : Incoming) → IsSoundIncoming x → Q x → f x ≡ Ok y → IsSoundIncoming y)
    → ((x y : Incoming) → f x ≡ Ok y → y.identity ≡ x.identity) → (n : ℕ) (r s : Register) → IsSound r → AtNumber Q n r.incoming → on_incoming f n r ≡ Ok s → IsSound s
on_incoming_keeps Q f keeps same n r s sound fit h =
    let part = mapped_ok (λ files. record r { incoming = files }) (at_number f n r.incoming) s h in
    subst IsSound part.2 (with_incoming r part.0 sound (at_number_keeps IsSoundIncoming Q f keeps n r.incoming part.0 sound.incoming fit part.1)
    (subst AreNamedOnce (sym (at_number_same (λ (x : Incoming). x.identity) f same n r.incoming part.0 part.1)) sound.incoming_once))

-- a change of one outgoing file
on_outgoing_keeps : (f : Outgoing → Result Outgoing Cause) → ((x y : Outgoing) → IsSoundOutgoing x → f x ≡ Ok y → IsSoundOutgoing y)
    → ((x y : Outgoing) → f x ≡ Ok y → y.identity ≡ x.identity) → (n : ℕ) (r s : Register) → IsSound r → on_outgoing f n r ≡ Ok s → IsSound s
on_outgoing_keeps f keeps same n r s sound h =
    let part = mapped_ok (λ files. record r { outgoing = files }) (at_number f n r.outgoing) s h in
    let all = at_number_keeps IsSoundOutgoing (λ _. Unit {0}) f (λ x y p q. keeps x y p) n r.outgoing part.0 sound.outgoing (at_number_any n r.outgoing) part.1 in
    subst IsSound part.2 (with_outgoing r part.0 sound all
    (subst AreNamedOnce (sym (at_number_same (λ (x : Outgoing). x.identity) f same n r.outgoing part.0 part.1)) sound.outgoing_once))

-- a file to be sent
submitted_sound : (r s : Register) (file : Outgoing) → IsSound r → IsSoundOutgoing file → submitted r file ≡ Ok s → IsSound s
submitted_sound r s file sound fit h =
    let name = λ (f : Outgoing). f.identity in
    let made = submitted_ok r s file h in
    subst IsSound made.1
    (with_outgoing r (r.outgoing ++ file ∷ []) sound (All-push IsSoundOutgoing r.outgoing file sound.outgoing fit)
    (subst AreNamedOnce (sym (map-append name r.outgoing (file ∷ [])))
    (once-append (map name r.outgoing) file.identity sound.outgoing_once (list_any-map (λ x. same_identity x file.identity) name r.outgoing ∙ made.0))))

-- an incoming file
start_keeps : (r s : Register) (header : Incoming) (count : ℕ) → IsSound r → Begins header
    → All (MayStart header.identity header.format header.longest count) r.incoming → started r header count ≡ Ok s → IsSound s
start_keeps r s header count sound begins fit h =
    let part = mapped_ok (λ files. record r { incoming = files }) (started_in r header count r.incoming) s h in
    let all = started_sound r header count r.incoming part.0 begins sound.incoming fit part.1 in
    let once = started_once r header count r.incoming part.0 sound.incoming_once part.1 in
    subst IsSound part.2 (with_incoming r part.0 sound all once)

-- a received response
filed_sound : (r s : Register) (response : Received) → IsSound r → IsSoundReceived response → filed r response ≡ Ok s → IsSound s
filed_sound r s response sound fit h =
    let made = filed_ok r s response h in
    subst IsSound made.1 (record {
      few = sound.few;
      small = sound.small;
      incoming = sound.incoming;
      outgoing = all_settled_sound response.kind response.identity r.outgoing sound.outgoing;
      received = All-push IsSoundReceived r.received response sound.received fit;
      incoming_once = sound.incoming_once;
      outgoing_once = subst AreNamedOnce (sym (all_settled_same response.kind response.identity r.outgoing)) sound.outgoing_once;
      received_once = filed-append r.received response sound.received_once made.0;
    })

-- a change that is fit preserves a sound register
pub apply_keeps : (r : Register) (k : Change) (s : Register) → IsSound r → IsFit r k → apply r k ≡ Ok s → IsSound s
unfolding apply IsFit
apply_keeps r (change.Submit identity format longest description rows) s sound fit h =
    submitted_sound r s (new_outgoing identity format longest description rows) sound
    (record { longest = fit.longest; few = fit.few; fits = fit.fits; marked = omega arith }) h
apply_keeps r (change.Start identity format longest description count) s sound fit h =
    start_keeps r s (new_incoming identity format longest description) count sound
    (record { longest = fit.0; state = refl; rows = refl; response = refl }) fit.1 h
apply_keeps r (change.Keep n rows) s sound fit h = on_incoming_keeps (λ (f : Incoming). IfOpen f.state (GoesOn rows f)) (kept rows) (kept_sound rows) (kept_same rows) n r s sound fit h
apply_keeps r (change.Close n rows) s sound fit h = on_incoming_keeps (λ (f : Incoming). IfOpen f.state (Ends rows f)) (closed rows) (closed_sound rows) (closed_same rows) n r s sound fit h
apply_keeps r (change.GiveUp n) s sound fit h = on_incoming_keeps (λ _. Unit {0}) given_up (λ x y p _. given_up_sound x y p) given_up_same n r s sound (at_number_any n r.incoming) h
apply_keeps r (change.File kind identity reason creator text) s sound fit h =
    filed_sound r s (record { kind = kind; identity = identity; reason = reason; creator = creator; text = text }) sound fit h
apply_keeps r (change.Issue n kind reason text) s sound fit h =
    let response : Issued = record { kind = kind; reason = reason; text = text; dispatch = Due } in
    on_incoming_keeps (λ _. Unit {0}) (issued response) (λ x y p _. issued_sound response x y p fit) (issued_same response) n r s sound (at_number_any n r.incoming) h
apply_keeps r (change.Mark n rows) s sound fit h = on_outgoing_keeps (marked rows) (marked_sound rows) (marked_same rows) n r s sound h
apply_keeps r (change.BeginClosing n) s sound fit h = on_outgoing_keeps closing closing_sound closing_same n r s sound h
apply_keeps r (change.HandOver n) s sound fit h = on_outgoing_keeps handed handed_sound handed_same n r s sound h
apply_keeps r (change.Refuse n reason) s sound fit h = on_outgoing_keeps (refused reason) (refused_sound reason) (refused_same reason) n r s sound h
apply_keeps r (change.Reopen n) s sound fit h = on_outgoing_keeps reopened reopened_sound reopened_same n r s sound h
apply_keeps r (change.Send n) s sound fit h = on_incoming_keeps (λ _. Unit {0}) sent (λ x y p _. sent_sound x y p) sent_same n r s sound (at_number_any n r.incoming) h
