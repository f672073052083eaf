-- Each change that has its grounds keeps the files of two stations consistent.
use Rattle.std.proofs.Common.{◌≡◌, ℕ, true, false, ◌||◌, ◌&&◌, nat_le, List, [], ◌++◌, length, Option, None, Some, Ok, refl, ap, sym, ◌∙◌, subst, inl, inr}
use Rattle.std.proofs.lemmas.Bool.{cases_Bool, and_parts, false≢true}
use Rattle.std.proofs.lemmas.List.{append-nil}
use Rattle.oftp_register.specs.declared.entry.IncomingState.{IncomingState}
use Rattle.oftp_register.specs.declared.entry.IncomingState.TheVariants.{Open, Whole}
use Rattle.oftp_register.specs.declared.entry.OutgoingState.{OutgoingState}
use Rattle.oftp_register.specs.declared.entry.OutgoingState.TheVariants.{Waiting, Closing, Handed, Refused, Delivered, Returned}
use Rattle.oftp_register.specs.declared.entry.ResponseKind.{ResponseKind}
use Rattle.oftp_register.specs.declared.entry.ResponseKind.TheVariants.{EndResponse, NegativeEndResponse}
use Rattle.oftp_register.specs.declared.entry.Dispatch.{Dispatch}
use Rattle.oftp_register.specs.declared.entry.Dispatch.TheVariants.{Due, Sent}
use Rattle.oftp_register.specs.Register.{Incoming, Outgoing, Issued}
use Rattle.oftp_register.specs.Changes.{answered, answered_as, issued, issued_on, if_unanswered, sent, sent_as, is_waiting, is_closing, marked, closing, handed, refused, reopened}
use Rattle.oftp_register.proofs.IncomingLemmas.{issued_on_ok, sent_of_ok}
use Rattle.oftp_register.proofs.OutgoingLemmas.{allowed_ok}
use Rattle.oftp_engine.proofs.PartRows.{cut_begins}
use Rattle.oftp_engine.specs.TwoStations.{Has, is_handed, IsAnsweredBy}
use Rattle.oftp_vfile.specs.VirtualFile.{BeginsWith}
use Rattle.oftp_engine.proofs.Standing.{IsPartOf, FileFits}
use Rattle.oftp_register.specs.ByIdentity.{WasStarted}

-- states that differ
pub not_handed : (state : OutgoingState) → is_handed state ≡ false → (state ≡ Delivered → ⊥) × (state ≡ Returned → ⊥)
not_handed state h = (
  λ e. absurd (let q : is_handed Delivered ≡ false = subst (λ s. is_handed s ≡ false) e h in let b : true ≡ false = q in cc),
  λ e. absurd
      (let q : is_handed Returned ≡ false = subst (λ s. is_handed s ≡ false) e h in let b : true ≡ false = q in cc),
)

open_or_whole : (state : IncomingState) → state ≡ Open → state ≡ Whole → ⊥
open_or_whole state h k = cc

-- Changes of an outgoing file.

-- the same content in another state
pub record IsSameContent (x y : Outgoing) : Type 0 where
  pub format : y.format ≡ x.format
  pub longest : y.longest ≡ x.longest
  pub rows : y.rows ≡ x.rows

-- a file that isn't held as handed over now
refit : (x y : Outgoing) (e : Option Incoming) → IsSameContent x y → is_handed y.state ≡ false → FileFits (Some x) e → FileFits (Some y) e
refit x y None same h fit = h
refit x y (Some e) same h fit = record {
  format = fit.format ∙ sym same.format;
  longest = fit.longest ∙ sym same.longest;
  begins = (fit.begins.0, same.rows ∙ fit.begins.1);
  whole = λ w. fit.whole w ∙ sym same.rows;
  handed = λ k. absurd (false≢true (sym h ∙ k));
  delivered = λ k. absurd ((not_handed y.state h).0 k);
  returned = λ k. absurd ((not_handed y.state h).1 k);
}

-- a file in another state, where it is whole there
whole_fits : (x : Outgoing) (e : Incoming) (state : OutgoingState) → e.state ≡ Whole → (state ≡ Delivered → IsAnsweredBy EndResponse e) → (state ≡ Returned → IsAnsweredBy NegativeEndResponse e)
    → IsPartOf x e → let y : Outgoing = record x { state = state } in IsPartOf y e
whole_fits x e state w delivered returned fit = record {
  format = fit.format;
  longest = fit.longest;
  begins = fit.begins;
  whole = fit.whole;
  handed = λ k. w;
  delivered = delivered;
  returned = returned;
}

-- a file that is handed over, if it is whole there
hand_over : (x : Outgoing) (e : Option Incoming) → Has e (λ e. e.state ≡ Whole) → FileFits (Some x) e → let y : Outgoing = record x { state = Handed } in FileFits (Some y) e
hand_over x None w fit = absurd w
hand_over x (Some e) w fit = whole_fits x e Handed w (λ k. absurd (let q : Handed ≡ Delivered = k in cc)) (λ k. absurd (let q : Handed ≡ Returned = k in cc)) fit

-- a file that a response answers, which was issued to the whole file there
pub answered_fits : (x : Outgoing) (kind : ResponseKind) (e : Incoming) → e.state ≡ Whole → IsAnsweredBy kind e → IsPartOf x e → let y : Outgoing =
    record x { state = answered_as kind } in IsPartOf y e
answered_fits x EndResponse e w a fit = whole_fits x e Delivered w (λ k. a) (λ k. absurd (let q : Delivered ≡ Returned = k in cc)) fit
answered_fits x NegativeEndResponse e w a fit = whole_fits x e Returned w (λ k. absurd (let q : Returned ≡ Delivered = k in cc)) (λ k. a) fit

pub settle_state : (x : Outgoing) (kind : ResponseKind) (e : Incoming) (state : OutgoingState) → state ≡ x.state → e.state ≡ Whole → IsAnsweredBy kind e → IsPartOf x e
    → let y : Outgoing = record x { state = answered kind state } in IsPartOf y e
settle_state x kind e Waiting is w a fit = subst (λ (s : OutgoingState). let y : Outgoing = record x { state = s } in IsPartOf y e) (sym is) fit
settle_state x kind e Closing is w a fit = answered_fits x kind e w a fit
settle_state x kind e Handed is w a fit = answered_fits x kind e w a fit
settle_state x kind e (Refused reason) is w a fit = subst (λ (s : OutgoingState). let y : Outgoing = record x { state = s } in IsPartOf y e) (sym is) fit
settle_state x kind e Delivered is w a fit = subst (λ (s : OutgoingState). let y : Outgoing = record x { state = s } in IsPartOf y e) (sym is) fit
settle_state x kind e Returned is w a fit = subst (λ (s : OutgoingState). let y : Outgoing = record x { state = s } in IsPartOf y e) (sym is) fit

waits : (state : OutgoingState) → is_waiting state ≡ true → is_handed state ≡ false
waits Waiting h = refl
waits Closing h = refl
waits Handed h = absurd (cc)
waits (Refused reason) h = refl
waits Delivered h = absurd (cc)
waits Returned h = absurd (cc)

pub marked_fits : (rows : ℕ) (x y : Outgoing) (e : Option Incoming) → marked rows x ≡ Ok y → FileFits (Some x) e → FileFits (Some y) e
marked_fits rows x y e h fit =
    let made = allowed_ok (is_waiting x.state && nat_le rows (length x.rows)) (record x { mark = rows }) y h in
    let now : Outgoing = record x { mark = rows } in
    subst (λ (z : Outgoing). FileFits (Some z) e) made.1 (refit x now e (record { format = refl; longest = refl; rows = refl })
    (waits x.state (and_parts (is_waiting x.state) (nat_le rows (length x.rows)) made.0).0) fit)

pub closing_fits : (x y : Outgoing) (e : Option Incoming) → closing x ≡ Ok y → FileFits (Some x) e → FileFits (Some y) e
closing_fits x y e h fit =
    let now : Outgoing = record x { state = Closing } in
    subst (λ (z : Outgoing). FileFits (Some z) e) (allowed_ok (is_waiting x.state) now y h).1 (refit x now e (record { format = refl; longest = refl; rows = refl }) refl fit)

pub refused_fits : (reason : ℕ) (x y : Outgoing) (e : Option Incoming) → refused reason x ≡ Ok y → FileFits (Some x) e → FileFits (Some y) e
refused_fits reason x y e h fit =
    let now : Outgoing = record x { state = Refused reason } in
    subst (λ (z : Outgoing). FileFits (Some z) e) (allowed_ok (is_waiting x.state || is_closing x.state) now y h).1 (refit x now e (record { format = refl; longest = refl; rows = refl }) refl fit)

pub reopened_fits : (x y : Outgoing) (e : Option Incoming) → reopened x ≡ Ok y → FileFits (Some x) e → FileFits (Some y) e
reopened_fits x y e h fit =
    let now : Outgoing = record x { state = Waiting; mark = 0 } in
    subst (λ (z : Outgoing). FileFits (Some z) e) (allowed_ok (is_closing x.state) now y h).1 (refit x now e (record { format = refl; longest = refl; rows = refl }) refl fit)

pub handed_fits : (x y : Outgoing) (e : Option Incoming) → handed x ≡ Ok y → Has e (λ e. e.state ≡ Whole) → FileFits (Some x) e → FileFits (Some y) e
handed_fits x y e h w fit = subst (λ (z : Outgoing). FileFits (Some z) e) (allowed_ok (is_closing x.state) (record x { state = Handed }) y h).1 (hand_over x e w fit)

-- Changes of an incoming file.

-- a file that is open there isn't held as handed over
unhanded : (f : Outgoing) (e : Incoming) → e.state ≡ Open → IsPartOf f e → is_handed f.state ≡ false
unhanded f e o fit = elim (cases_Bool (is_handed f.state)) [ inl k ↦ absurd (open_or_whole e.state o (fit.handed k)) | inr k ↦ k ]

-- an open file, with other rows
pub opened_fits : (out : Option Outgoing) (x : Incoming) (rows : List (List ℕ)) → x.state ≡ Open → Has out (λ f. BeginsWith f.rows rows) → FileFits out (Some x) → let y : Incoming =
    record x { rows = rows; state = Open } in FileFits out (Some y)
opened_fits None x rows o g fit = absurd fit
opened_fits (Some f) x rows o g fit =
    let un = unhanded f x o fit in
    record {
      format = fit.format;
      longest = fit.longest;
      begins = g;
      whole = λ k. absurd (let q : Open ≡ Whole = k in cc);
      handed = λ k. absurd (false≢true (sym un ∙ k));
      delivered = λ k. absurd ((not_handed f.state un).0 k);
      returned = λ k. absurd ((not_handed f.state un).1 k);
    }

pub closed_fits : (out : Option Outgoing) (x : Incoming) (rows : List (List ℕ)) → x.state ≡ Open → Has out (λ f. rows ≡ f.rows) → FileFits out (Some x) → let y : Incoming =
    record x { rows = rows; state = Whole } in FileFits out (Some y)
closed_fits None x rows o g fit = absurd fit
closed_fits (Some f) x rows o g fit =
    let un = unhanded f x o fit in
    record {
      format = fit.format;
      longest = fit.longest;
      begins = ([], sym g ∙ sym (append-nil rows));
      whole = λ k. g;
      handed = λ k. refl;
      delivered = λ k. absurd ((not_handed f.state un).0 k);
      returned = λ k. absurd ((not_handed f.state un).1 k);
    }

-- another response, of the same kind where there was one
pub answer_fits : (out : Option Outgoing) (x : Incoming) (response : Option Issued)
    → ((kind : ResponseKind) → IsAnsweredBy kind x → let y : Incoming = record x { response = response } in IsAnsweredBy kind y) → FileFits out (Some x) → let y : Incoming =
    record x { response = response } in FileFits out (Some y)
answer_fits None x response a fit = absurd fit
answer_fits (Some f) x response a fit = record {
  format = fit.format;
  longest = fit.longest;
  begins = fit.begins;
  whole = fit.whole;
  handed = fit.handed;
  delivered = λ k. a EndResponse (fit.delivered k);
  returned = λ k. a NegativeEndResponse (fit.returned k);
}

-- a response is issued to a file that has none
pub issued_first : (response : Issued) (file : Incoming) (state : IncomingState) (after : Incoming) → issued_on response file state ≡ Ok after → file.response ≡ None
issued_first response file Open after h = absurd (cc)
issued_first response file Whole after h = first file.response h
  where
    first : (other : Option Issued) → if_unanswered response file other ≡ Ok after → other ≡ None
    first None g = refl
    first (Some other) g = absurd (cc)

pub issued_fits : (response : Issued) (out : Option Outgoing) (x y : Incoming) → issued response x ≡ Ok y → FileFits out (Some x) → FileFits out (Some y)
issued_fits response out x y h fit =
    let none = issued_first response x x.state y h in
    subst (λ (z : Incoming). FileFits out (Some z)) (issued_on_ok response x x.state y h).1
    (answer_fits out x (Some response) (λ kind a. absurd (let q : None ≡ Some a.response = sym none ∙ a.issued in cc)) fit)

-- a response that was sent is of the kind that it was
sent_kind : (was answer : Issued) (dispatch : Dispatch) → sent_as was dispatch ≡ Ok answer → answer.kind ≡ was.kind
sent_kind was answer Due h = let is : (let i : Issued = record was { dispatch = Sent } in i) ≡ answer = cc in ap (λ (i : Issued). i.kind) (sym is)
sent_kind was answer Sent h = absurd (cc)

-- so it answers the file as before
pub sent_answers : (x y : Incoming) (kind : ResponseKind) → sent x ≡ Ok y → IsAnsweredBy kind x → IsAnsweredBy kind y
sent_answers x y kind h a =
    let made = sent_of_ok x x.response y h in
    let was : made.0 ≡ a.response = (let q : Some made.0 ≡ Some a.response = sym made.2 ∙ a.issued in cc) in
    record {
      response = made.1;
      issued = ap (λ (f : Incoming). f.response) (sym made.3);
      same = sent_kind made.0 made.1 made.0.dispatch made.4 ∙ ap (λ (i : Issued). i.kind) was ∙ a.same;
    }

pub sent_still_fits : (out : Option Outgoing) (x y : Incoming) → sent x ≡ Ok y → FileFits out (Some x) → FileFits out (Some y)
sent_still_fits out x y h fit =
    let made = sent_of_ok x x.response y h in
    let answers : (kind : ResponseKind) → IsAnsweredBy kind x → let z : Incoming = record x { response = Some made.1 } in IsAnsweredBy kind z =
    λ kind a. subst (IsAnsweredBy kind) (sym made.3) (sent_answers x y kind h a) in
    subst (λ (z : Incoming). FileFits out (Some z)) made.3 (answer_fits out x (Some made.1) answers fit)

-- a file that starts, with the header of the other's file
pub started_fits : (out : Option Outgoing) (header : Incoming) (count : ℕ) (old : Option Incoming) (new : Incoming) → header.state ≡ Open → header.rows ≡ []
    → Has out (λ f. (header.format ≡ f.format) × (header.longest ≡ f.longest))
    → WasStarted header count old new → FileFits out old → FileFits out (Some new)
started_fits None header count old new o none g was fit = absurd g
started_fits (Some f) header count None new o none g was fit =
    subst (λ (z : Incoming). IsPartOf f z) (sym was.0) (record {
      format = g.0;
      longest = g.1;
      begins = (f.rows, ap (λ x. x ++ f.rows) (sym none));
      whole = λ k. absurd (open_or_whole header.state o k);
      handed = λ k. absurd (false≢true (sym fit ∙ k));
      delivered = λ k. absurd ((not_handed f.state fit).0 k);
      returned = λ k. absurd ((not_handed f.state fit).1 k);
    })
started_fits (Some f) header count (Some old) new o none g was fit =
    let un = unhanded f old was.0 fit in
    subst (λ (z : Incoming). IsPartOf f z) (sym was.2) (record {
      format = g.0;
      longest = g.1;
      begins = cut_begins f.rows old.rows fit.begins count;
      whole = λ k. absurd (open_or_whole header.state o k);
      handed = λ k. absurd (false≢true (sym un ∙ k));
      delivered = λ k. absurd ((not_handed f.state un).0 k);
      returned = λ k. absurd ((not_handed f.state un).1 k);
    })
