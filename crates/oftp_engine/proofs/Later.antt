-- What a station's register never loses, so that what is on its way to the other stays true.
use Rattle.std.proofs.Common.{◌≡◌, ℕ, Bool, true, false, cond, ◌||◌, ◌&&◌, nat_le, List, [], ◌++◌, length, map, Option, None, Some, Result, Ok, refl, ap, sym, ◌∙◌, subst}
use Rattle.std.specs.Option.{option_map}
use Rattle.oftp_register.specs.declared.change.Cause.{Cause}
use Rattle.oftp_register.specs.declared.change.Change.{Change}
use Rattle.oftp_register.specs.declared.change.Change.TheVariants as change
use Rattle.oftp_register.specs.declared.entry.Identity.{Identity}
use Rattle.oftp_register.specs.declared.entry.IncomingState.{IncomingState}
use Rattle.oftp_register.specs.declared.entry.IncomingState.TheVariants.{Open, Whole}
use Rattle.oftp_register.specs.declared.entry.OutgoingState.TheVariants.{Waiting, Closing, Handed, Refused}
use Rattle.oftp_register.specs.declared.entry.ResponseKind.{ResponseKind}
use Rattle.oftp_register.specs.declared.entry.Dispatch.TheVariants.{Due}
use Rattle.oftp_register.specs.Register.{Register, Incoming, Outgoing, Issued, Received, same_identity}
use Rattle.oftp_register.specs.Changes.{apply, at_number, on_incoming, on_outgoing, started, started_in, if_open, kept, closed, given_up, answered, settled, issued, sent, is_waiting, is_closing, if_allowed, marked, closing, handed, refused, reopened}
use Rattle.oftp_register.specs.Soundness.{AreNamedOnce, IsSound}
use Rattle.oftp_register.proofs.NumberLemmas.{mapped_ok}
use Rattle.oftp_register.proofs.IncomingLemmas.{kept_same, closed_same, given_up_same, issued_same, sent_same, if_open_ok, issued_on_ok, sent_of_ok}
use Rattle.oftp_register.proofs.OutgoingLemmas.{marked_same, closing_same, handed_same, refused_same, reopened_same, allowed_ok}
use Rattle.oftp_register.specs.ByIdentity.{out_at, in_at, incoming_name, named, outgoing_name, WasStarted, or_else}
use Rattle.oftp_engine.specs.TwoStations.{IsAnsweredBy}
use Rattle.oftp_register.proofs.AdditionLemmas.{filed_ok, submitted_ok}
use Rattle.oftp_register.proofs.ByIdentityLemmas.{changed_named, started_named, named_push, named_map, settled_name}
use Rattle.oftp_engine.proofs.Fitting.{IsSameContent, issued_first, sent_answers}

-- what an incoming file never loses
pub record IsLaterFile (e e' : Incoming) : Type 0 where
  pub whole : e.state ≡ Whole → e'.state ≡ Whole
  pub answered : (kind : ResponseKind) → IsAnsweredBy kind e → IsAnsweredBy kind e'

-- an entry, if there was one, and what it is now
abbrev pub Stays : {A : Type 0} → (A → A → Type 0) → Option A → Option A → Type 0
Stays R None now = Unit {0}
Stays R (Some x) None = ⊥
Stays R (Some x) (Some y) = R x y

-- a later register: the outgoing files have their content, the whole files are whole, and the responses are issued
pub record IsLater (r s : Register) : Type 0 where
  pub outgoing : (i : Identity) → Stays IsSameContent (out_at r i) (out_at s i)
  pub incoming : (i : Identity) → Stays IsLaterFile (in_at r i) (in_at s i)

same_file : (f : Outgoing) → IsSameContent f f
same_file f = record { format = refl; longest = refl; rows = refl }

same_incoming : (e : Incoming) → IsLaterFile e e
same_incoming e = record { whole = λ w. w; answered = λ k a. a }

stays_out : (o : Option Outgoing) → Stays IsSameContent o o
stays_out None = tt
stays_out (Some f) = same_file f

stays_in : (o : Option Incoming) → Stays IsLaterFile o o
stays_in None = tt
stays_in (Some e) = same_incoming e

pub later_self : (r : Register) → IsLater r r
later_self r = record { outgoing = λ i. stays_out (out_at r i); incoming = λ i. stays_in (in_at r i) }

step_out : (o : Option Outgoing) (x y : Outgoing) → IsSameContent x y → Stays IsSameContent o (Some x) → Stays IsSameContent o (Some y)
step_out None x y h k = tt
step_out (Some f) x y h k = record { format = h.format ∙ k.format; longest = h.longest ∙ k.longest; rows = h.rows ∙ k.rows }

step_in : (o : Option Incoming) (x y : Incoming) → IsLaterFile x y → Stays IsLaterFile o (Some x) → Stays IsLaterFile o (Some y)
step_in None x y h k = tt
step_in (Some e) x y h k = record { whole = λ w. h.whole (k.whole w); answered = λ kind a. h.answered kind (k.answered kind a) }

-- one entry is changed to a later one: each entry stays or is later
changed_stays : {A : Type 0} (R : A → A → Type 0) (name : A → Identity) (f : A → Result A Cause) → ((o : Option A) → Stays R o o)
    → ((o : Option A) (x y : A) → R x y → Stays R o (Some x) → Stays R o (Some y)) → ((x y : A) → f x ≡ Ok y → name y ≡ name x) → ((x y : A) → f x ≡ Ok y → R x y)
    → (n : ℕ) (xs ys : List A) → AreNamedOnce (map name xs) → at_number f n xs ≡ Ok ys → (i : Identity) → Stays R (named name i xs) (named name i ys)
changed_stays R name f stays later same step n xs ys once h =
    changed_named name f same (λ i e. Stays R (named name i xs) e) n xs ys once h (λ x y e d was. later (named name (name x) xs) x y (step x y d) was) (λ i. stays (named name i xs))

on_incoming_later : (f : Incoming → Result Incoming Cause) → ((x y : Incoming) → f x ≡ Ok y → y.identity ≡ x.identity) → (n : ℕ) (r s : Register) → IsSound r → on_incoming f n r ≡ Ok s
    → ((x y : Incoming) → f x ≡ Ok y → IsLaterFile x y) → IsLater r s
on_incoming_later f same n r s sound h step =
    let part = mapped_ok (λ files. record r { incoming = files }) (at_number f n r.incoming) s h in
    subst (IsLater r) part.2 (record {
      outgoing = λ i. stays_out (out_at r i);
      incoming = changed_stays IsLaterFile incoming_name f stays_in step_in same step n r.incoming part.0 sound.incoming_once part.1;
    })

on_outgoing_later : (f : Outgoing → Result Outgoing Cause) → ((x y : Outgoing) → f x ≡ Ok y → y.identity ≡ x.identity) → (n : ℕ) (r s : Register) → IsSound r → on_outgoing f n r ≡ Ok s
    → ((x y : Outgoing) → f x ≡ Ok y → IsSameContent x y) → IsLater r s
on_outgoing_later f same n r s sound h step =
    let part = mapped_ok (λ files. record r { outgoing = files }) (at_number f n r.outgoing) s h in
    subst (IsLater r) part.2 (record {
      incoming = λ i. stays_in (in_at r i);
      outgoing = changed_stays IsSameContent outgoing_name f stays_out step_out same step n r.outgoing part.0 sound.outgoing_once part.1;
    })

open_later : (x : Incoming) (rows : List (List ℕ)) (next : IncomingState) (y : Incoming) → if_open x rows next x.state ≡ Ok y → IsLaterFile x y
open_later x rows next y h =
    let made = if_open_ok x rows next x.state y h in
    subst (IsLaterFile x) made.1 (record { whole = λ w. absurd (let q : Open ≡ Whole = sym made.0 ∙ w in cc); answered = λ k a. record { response = a.response; issued = a.issued; same = a.same } })

content : (allowed : Bool) (x now y : Outgoing) → if_allowed allowed now ≡ Ok y → IsSameContent x now → IsSameContent x y
content allowed x now y h same = subst (IsSameContent x) (allowed_ok allowed now y h).1 same

issued_is_later : (response : Issued) (x y : Incoming) → issued response x ≡ Ok y → IsLaterFile x y
issued_is_later response x y h =
    let none = issued_first response x x.state y h in
    subst (IsLaterFile x) (issued_on_ok response x x.state y h).1
    (record { whole = λ w. w; answered = λ k a. absurd (let q : None ≡ Some a.response = sym none ∙ a.issued in cc) })

sent_later : (x y : Incoming) → sent x ≡ Ok y → IsLaterFile x y
sent_later x y h =
    let made = sent_of_ok x x.response y h in
    record { whole = λ w. ap (λ (f : Incoming). f.state) (sym made.3) ∙ w; answered = λ k a. sent_answers x y k h a }

pushed : (o : Option Outgoing) (file : Outgoing) (b : Bool) → Stays IsSameContent o (or_else o (cond b (Some file) None))
pushed None file b = tt
pushed (Some f) file b = same_file f

settled_content : (kind : ResponseKind) (identity : Identity) (x : Outgoing) → IsSameContent x (settled kind identity x)
settled_content kind identity x = by (same_identity x.identity identity)
  where
    by : (b : Bool) → let y : Outgoing = cond b (record x { state = answered kind x.state }) x in IsSameContent x y
    by true = record { format = refl; longest = refl; rows = refl }
    by false = same_file x

settled_stays : (kind : ResponseKind) (identity : Identity) (o : Option Outgoing) → Stays IsSameContent o (option_map (settled kind identity) o)
settled_stays kind identity None = tt
settled_stays kind identity (Some x) = settled_content kind identity x

started_stays : (header : Incoming) (count : ℕ) (o old : Option Incoming) (new : Incoming) → WasStarted header count old new → Stays IsLaterFile o old → Stays IsLaterFile o (Some new)
started_stays header count None old new was k = tt
started_stays header count (Some e) None new was k = absurd k
started_stays header count (Some e) (Some old) new was k =
    step_in (Some e) old new (record {
      whole = λ w. absurd (let q : Open ≡ Whole = sym was.0 ∙ w in cc);
      answered = λ kind a. record { response = a.response; issued = ap (λ (f : Incoming). f.response) was.2 ∙ a.issued; same = a.same };
    }) k

started_later : (r s : Register) (header : Incoming) (count : ℕ) → started r header count ≡ Ok s → IsLater r s
started_later r s header count h =
    let part = mapped_ok (λ files. record r { incoming = files }) (started_in r header count r.incoming) s h in
    subst (IsLater r) part.2 (record {
      outgoing = λ i. stays_out (out_at r i);
      incoming = started_named (λ i e. Stays IsLaterFile (in_at r i) e) r header count r.incoming part.0 part.1
          (λ old new is was before. started_stays header count (in_at r header.identity) old new was before) (λ i. stays_in (in_at r i));
    })

-- each change leaves a later register
pub apply_later : (r : Register) (k : Change) (s : Register) → IsSound r → apply r k ≡ Ok s → IsLater r s
unfolding apply
apply_later r (change.Submit identity format longest description rows) s sound h =
    let file : Outgoing = record { identity = identity; format = format; longest = longest; description = description; rows = rows; mark = 0; state = Waiting } in
    subst (IsLater r) (submitted_ok r s file h).1 (record {
      outgoing = λ i. subst (Stays IsSameContent (out_at r i)) (sym (named_push outgoing_name i r.outgoing file)) (pushed (out_at r i) file (same_identity file.identity i));
      incoming = λ i. stays_in (in_at r i);
    })
apply_later r (change.Start identity format longest description count) s sound h =
    started_later r s (record { identity = identity; format = format; longest = longest; description = description; state = Open; rows = []; response = None }) count h
apply_later r (change.Keep n rows) s sound h = on_incoming_later (kept rows) (kept_same rows) n r s sound h (λ x y d. open_later x (x.rows ++ rows) Open y d)
apply_later r (change.Close n rows) s sound h = on_incoming_later (closed rows) (closed_same rows) n r s sound h (λ x y d. open_later x (x.rows ++ rows) Whole y d)
apply_later r (change.GiveUp n) s sound h = on_incoming_later given_up given_up_same n r s sound h (λ x y d. open_later x [] Open y d)
apply_later r (change.File kind identity reason creator text) s sound h =
    let response : Received = record { kind = kind; identity = identity; reason = reason; creator = creator; text = text } in
    subst (IsLater r) (filed_ok r s response h).1 (record {
      outgoing = λ i. subst (Stays IsSameContent (out_at r i)) (sym (named_map outgoing_name (settled kind identity) (settled_name kind identity) i r.outgoing))
          (settled_stays kind identity (out_at r i));
      incoming = λ i. stays_in (in_at r i);
    })
apply_later r (change.Issue n kind reason text) s sound h =
    let response : Issued = record { kind = kind; reason = reason; text = text; dispatch = Due } in
    on_incoming_later (issued response) (issued_same response) n r s sound h (λ x y d. issued_is_later response x y d)
apply_later r (change.Mark n rows) s sound h = on_outgoing_later (marked rows) (marked_same rows) n r s sound h
    (λ x y d. content (is_waiting x.state && nat_le rows (length x.rows)) x (record x { mark = rows }) y d (record { format = refl; longest = refl; rows = refl }))
apply_later r (change.BeginClosing n) s sound h = on_outgoing_later closing closing_same n r s sound h
    (λ x y d. content (is_waiting x.state) x (record x { state = Closing }) y d (record { format = refl; longest = refl; rows = refl }))
apply_later r (change.HandOver n) s sound h = on_outgoing_later handed handed_same n r s sound h
    (λ x y d. content (is_closing x.state) x (record x { state = Handed }) y d (record { format = refl; longest = refl; rows = refl }))
apply_later r (change.Refuse n reason) s sound h = on_outgoing_later (refused reason) (refused_same reason) n r s sound h
    (λ x y d. content (is_waiting x.state || is_closing x.state) x (record x { state = Refused reason }) y d (record { format = refl; longest = refl; rows = refl }))
apply_later r (change.Reopen n) s sound h = on_outgoing_later reopened reopened_same n r s sound h
    (λ x y d. content (is_closing x.state) x (record x { state = Waiting; mark = 0 }) y d (record { format = refl; longest = refl; rows = refl }))
apply_later r (change.Send n) s sound h = on_incoming_later sent sent_same n r s sound h sent_later
