-- Each change that has its grounds keeps the files of two stations consistent: whole registers.
use Rattle.std.proofs.Common.{◌≡◌, ℕ, Bool, true, false, cond, [], ◌++◌, Option, None, Some, is_some, Result, Ok, refl, ap, sym, ◌∙◌, subst}
use Rattle.std.proofs.lemmas.Bool.{false≢true}
use Rattle.std.specs.Option.{option_map}
use Rattle.oftp_register.specs.declared.change.Cause.{Cause}
use Rattle.oftp_register.specs.declared.change.Change.{Change}
use Rattle.oftp_register.specs.declared.change.Change.TheVariants as change
use Rattle.oftp_register.specs.declared.entry.Identity.{Identity}
use Rattle.oftp_register.specs.declared.entry.IncomingState.{IncomingState}
use Rattle.oftp_register.specs.declared.entry.IncomingState.TheVariants.{Open, Whole}
use Rattle.oftp_register.specs.declared.entry.OutgoingState.TheVariants.{Waiting}
use Rattle.oftp_register.specs.declared.entry.ResponseKind.{ResponseKind}
use Rattle.oftp_register.specs.declared.entry.Dispatch.TheVariants.{Due}
use Rattle.oftp_register.specs.Register.{Register, Incoming, Outgoing, Issued, Received, same_identity}
use Rattle.oftp_register.specs.Changes.{apply, at_number, on_incoming, on_outgoing, submitted, started, started_in, kept, closed, given_up, answered, settled, filed, issued, sent, marked, closing, handed, refused, reopened}
use Rattle.oftp_register.specs.Soundness.{IsSound, IsSoundIncoming, IsAnsweredWhole}
use Rattle.oftp_register.specs.LookUps.{entry_at}
use Rattle.oftp_register.proofs.NameLemmas.{same_identity-true}
use Rattle.oftp_register.proofs.NumberLemmas.{mapped_ok}
use Rattle.oftp_register.proofs.IncomingLemmas.{kept_same, closed_same, given_up_same, issued_same, sent_same, if_open_ok}
use Rattle.oftp_register.proofs.OutgoingLemmas.{marked_same, closing_same, handed_same, refused_same, reopened_same}
use Rattle.oftp_register.specs.ByIdentity.{or_else, out_at, in_at, incoming_name, outgoing_name}
use Rattle.oftp_engine.specs.TwoStations.{Has, is_handed, IsAnsweredBy}
use Rattle.oftp_vfile.specs.VirtualFile.{BeginsWith}
use Rattle.oftp_engine.proofs.Standing.{FileFits, AllFit}
use Rattle.oftp_engine.proofs.Grounds.{Grounds}
use Rattle.oftp_register.proofs.AdditionLemmas.{filed_ok, submitted_ok}
use Rattle.oftp_register.proofs.ByIdentityLemmas.{changed_named, named_all, named_is, named_map, named_push, settled_name, started_named}
use Rattle.oftp_engine.proofs.Fitting.{marked_fits, closing_fits, refused_fits, reopened_fits, handed_fits, opened_fits, closed_fits, issued_fits, sent_still_fits, started_fits, settle_state}

-- the two sides, of the files with such identities in each direction
abbrev pub BothFit : (Identity → Type 0) → (Identity → Type 0) → Register → Register → Type 0
BothFit There Back r there = AllFit There r there × AllFit Back there r

-- a change of one incoming file
on_incoming_fits : {There Back : Identity → Type 0} (f : Incoming → Result Incoming Cause) → ((x y : Incoming) → f x ≡ Ok y → y.identity ≡ x.identity) → (n : ℕ) (r s there : Register)
    → IsSound r
    → on_incoming f n r ≡ Ok s
    → ((x y : Incoming) → entry_at n r.incoming ≡ Some x → f x ≡ Ok y → FileFits (out_at there x.identity) (Some x) → FileFits (out_at there x.identity) (Some y))
    → BothFit There Back r there → BothFit There Back s there
on_incoming_fits {There = There} {Back = Back} f same n r s there sound h step fit =
    let part = mapped_ok (λ files. record r { incoming = files }) (at_number f n r.incoming) s h in
    subst (λ (z : Register). BothFit There Back z there) part.2
    (fit.0, changed_named incoming_name f same (λ i e. Back i → FileFits (out_at there i) e) n r.incoming part.0 sound.incoming_once part.1 (λ x y e d was q. step x y e d (was q)) fit.1)

-- a change of one outgoing file
on_outgoing_fits : {There Back : Identity → Type 0} (f : Outgoing → Result Outgoing Cause) → ((x y : Outgoing) → f x ≡ Ok y → y.identity ≡ x.identity) → (n : ℕ) (r s there : Register)
    → IsSound r → on_outgoing f n r ≡ Ok s
    → ((x y : Outgoing) → entry_at n r.outgoing ≡ Some x → f x ≡ Ok y → FileFits (Some x) (in_at there x.identity) → FileFits (Some y) (in_at there x.identity)) → BothFit There Back r there
    → BothFit There Back s there
on_outgoing_fits {There = There} {Back = Back} f same n r s there sound h step fit =
    let part = mapped_ok (λ files. record r { outgoing = files }) (at_number f n r.outgoing) s h in
    subst (λ (z : Register). BothFit There Back z there) part.2
    (changed_named outgoing_name f same (λ i e. There i → FileFits e (in_at there i)) n r.outgoing part.0 sound.outgoing_once part.1 (λ x y e d was q. step x y e d (was q)) fit.0, fit.1)

-- a file is submitted
fits_new : (file : Outgoing) (found : Option Outgoing) (b : Bool) (there : Option Incoming) → is_handed file.state ≡ false → FileFits found there
    → FileFits (or_else found (cond b (Some file) None)) there
fits_new file (Some f) b there h fit = fit
fits_new file None true None h fit = h
fits_new file None true (Some e) h fit = absurd fit
fits_new file None false there h fit = fit

submitted_fits : {There Back : Identity → Type 0} (r s there : Register) (file : Outgoing) → is_handed file.state ≡ false → submitted r file ≡ Ok s → BothFit There Back r there
    → BothFit There Back s there
submitted_fits {There = There} {Back = Back} r s there file new h fit =
    subst (λ (z : Register). BothFit There Back z there) (submitted_ok r s file h).1 (
      λ i p. subst (λ o. FileFits o (in_at there i)) (sym (named_push outgoing_name i r.outgoing file))
          (fits_new file (out_at r i) (same_identity file.identity i) (in_at there i) new (fit.0 i p)),
      fit.1,
    )

-- a response is added

-- a response was issued only to a whole file
pub answered_whole : (kind : ResponseKind) (e : Incoming) → IsSoundIncoming e → IsAnsweredBy kind e → e.state ≡ Whole
answered_whole kind e sound a = by e.state refl
  where
    by : (state : IncomingState) → state ≡ e.state → e.state ≡ Whole
    by Whole is = sym is
    by Open is =
        let none : is_some e.response ≡ false = subst (λ s. IsAnsweredWhole s e.response) (sym is) sound.answered in
        absurd (false≢true (sym none ∙ ap is_some a.issued))

settle_one : (kind : ResponseKind) (identity : Identity) (x : Outgoing) (e : Option Incoming) → (x.identity ≡ identity → Has e (λ e. (e.state ≡ Whole) × IsAnsweredBy kind e))
    → FileFits (Some x) e → FileFits (Some (settled kind identity x)) e
settle_one kind identity x e g fit = by (same_identity x.identity identity) refl
  where
    has : (e : Option Incoming) → Has e (λ e. (e.state ≡ Whole) × IsAnsweredBy kind e) → FileFits (Some x) e → let y : Outgoing = record x { state = answered kind x.state } in FileFits (Some y) e
    has None g fit = absurd g
    has (Some e) g fit = settle_state x kind e x.state refl g.0 g.1 fit

    by : (b : Bool) → same_identity x.identity identity ≡ b → let y : Outgoing = cond b (record x { state = answered kind x.state }) x in FileFits (Some y) e
    by true h = has e (g (same_identity-true x.identity identity h)) fit
    by false h = fit

settle_found : (kind : ResponseKind) (identity i : Identity) (found : Option Outgoing) (e : Option Incoming)
    → ((x : Outgoing) → found ≡ Some x → x.identity ≡ identity → Has e (λ e. (e.state ≡ Whole) × IsAnsweredBy kind e)) → FileFits found e → FileFits (option_map (settled kind identity) found) e
settle_found kind identity i None e g fit = fit
settle_found kind identity i (Some x) e g fit = settle_one kind identity x e (g x refl) fit

has_whole : (kind : ResponseKind) (e : Option Incoming) → ((x : Incoming) → e ≡ Some x → IsSoundIncoming x) → Has e (IsAnsweredBy kind) → Has e (λ e. (e.state ≡ Whole) × IsAnsweredBy kind e)
has_whole kind None sound g = g
has_whole kind (Some e) sound g = (answered_whole kind e (sound e refl) g, g)

filed_fits : {There Back : Identity → Type 0} (r s there : Register) (response : Received) → IsSound there → Has (in_at there response.identity) (IsAnsweredBy response.kind)
    → filed r response ≡ Ok s → BothFit There Back r there
    → BothFit There Back s there
filed_fits {There = There} {Back = Back} r s there response sound g h fit =
    let kind = response.kind in
    let identity = response.identity in
    let whole = has_whole kind (in_at there identity) (λ x e. named_all incoming_name IsSoundIncoming identity there.incoming x sound.incoming e) g in
    subst (λ (z : Register). BothFit There Back z there) (filed_ok r s response h).1 (
      λ i p. subst (λ o. FileFits o (in_at there i)) (sym (named_map outgoing_name (settled kind identity) (settled_name kind identity) i r.outgoing))
          (settle_found kind identity i (out_at r i) (in_at there i)
          (λ x e is. subst (λ j. Has (in_at there j) (λ e. (e.state ≡ Whole) × IsAnsweredBy kind e)) (sym is ∙ named_is outgoing_name i r.outgoing x e) whole)
          (fit.0 i p)),
      fit.1,
    )

-- a file starts
started_both : {There Back : Identity → Type 0} (r s there : Register) (header : Incoming) (count : ℕ) → header.state ≡ Open → header.rows ≡ []
    → Has (out_at there header.identity) (λ f. (header.format ≡ f.format) × (header.longest ≡ f.longest))
    → started r header count ≡ Ok s → BothFit There Back r there → BothFit There Back s there
started_both {There = There} {Back = Back} r s there header count o none g h fit =
    let part = mapped_ok (λ files. record r { incoming = files }) (started_in r header count r.incoming) s h in
    subst (λ (z : Register). BothFit There Back z there) part.2 (
      fit.0,
      started_named (λ i e. Back i → FileFits (out_at there i) e) r header count r.incoming part.0 part.1
          (λ old new is was before q. started_fits (out_at there header.identity) header count old new o none g was (before q)) fit.1,
    )

-- each change
pub apply_fits : {There Back : Identity → Type 0} (r : Register) (k : Change) (s there : Register) → IsSound r → IsSound there → Grounds r there k → apply r k ≡ Ok s
    → BothFit There Back r there → BothFit There Back s there
unfolding apply
apply_fits r (change.Submit identity format longest description rows) s there sound sound' g h fit =
    submitted_fits r s there (record { identity = identity; format = format; longest = longest; description = description; rows = rows; mark = 0; state = Waiting }) refl h fit
apply_fits r (change.Start identity format longest description count) s there sound sound' g h fit =
    started_both r s there (record { identity = identity; format = format; longest = longest; description = description; state = Open; rows = []; response = None }) count refl refl g h fit
apply_fits r (change.Keep n rows) s there sound sound' g h fit =
    on_incoming_fits (kept rows) (kept_same rows) n r s there sound h
    (λ x y e d was. let made = if_open_ok x (x.rows ++ rows) Open x.state y d in
    subst (λ (z : Incoming). FileFits (out_at there x.identity) (Some z)) made.1 (opened_fits (out_at there x.identity) x (x.rows ++ rows) made.0 (g x e) was)) fit
apply_fits r (change.Close n rows) s there sound sound' g h fit =
    on_incoming_fits (closed rows) (closed_same rows) n r s there sound h
    (λ x y e d was. let made = if_open_ok x (x.rows ++ rows) Whole x.state y d in
    subst (λ (z : Incoming). FileFits (out_at there x.identity) (Some z)) made.1 (closed_fits (out_at there x.identity) x (x.rows ++ rows) made.0 (g x e) was)) fit
apply_fits r (change.GiveUp n) s there sound sound' g h fit =
    on_incoming_fits given_up given_up_same n r s there sound h
    (λ x y e d was. let made = if_open_ok x [] Open x.state y d in
    subst (λ (z : Incoming). FileFits (out_at there x.identity) (Some z)) made.1 (opened_fits (out_at there x.identity) x [] made.0 (given_up_begins (out_at there x.identity) x was) was)) fit
  where
    given_up_begins : (out : Option Outgoing) (x : Incoming) → FileFits out (Some x) → Has out (λ f. BeginsWith f.rows [])
    given_up_begins None x was = was
    given_up_begins (Some f) x was = (f.rows, refl)
apply_fits r (change.File kind identity reason creator text) s there sound sound' g h fit =
    filed_fits r s there (record { kind = kind; identity = identity; reason = reason; creator = creator; text = text }) sound' g h fit
apply_fits r (change.Issue n kind reason text) s there sound sound' g h fit =
    let response : Issued = record { kind = kind; reason = reason; text = text; dispatch = Due } in
    on_incoming_fits (issued response) (issued_same response) n r s there sound h (λ x y e d was. issued_fits response (out_at there x.identity) x y d was) fit
apply_fits r (change.Mark n rows) s there sound sound' g h fit =
    on_outgoing_fits (marked rows) (marked_same rows) n r s there sound h (λ x y e d was. marked_fits rows x y (in_at there x.identity) d was) fit
apply_fits r (change.BeginClosing n) s there sound sound' g h fit = on_outgoing_fits closing closing_same n r s there sound h (λ x y e d was. closing_fits x y (in_at there x.identity) d was) fit
apply_fits r (change.HandOver n) s there sound sound' g h fit = on_outgoing_fits handed handed_same n r s there sound h (λ x y e d was. handed_fits x y (in_at there x.identity) d (g x e) was) fit
apply_fits r (change.Refuse n reason) s there sound sound' g h fit =
    on_outgoing_fits (refused reason) (refused_same reason) n r s there sound h (λ x y e d was. refused_fits reason x y (in_at there x.identity) d was) fit
apply_fits r (change.Reopen n) s there sound sound' g h fit = on_outgoing_fits reopened reopened_same n r s there sound h (λ x y e d was. reopened_fits x y (in_at there x.identity) d was) fit
apply_fits r (change.Send n) s there sound sound' g h fit = on_incoming_fits sent sent_same n r s there sound h (λ x y e d was. sent_still_fits (out_at there x.identity) x y d was) fit
