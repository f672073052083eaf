-- What an audit tells of entries, and what holds of them.
use Rattle.std.proofs.Common.{◌≡◌, ℕ, ◌==◌, ◌||◌, Bool, true, false, List, [], ◌∷◌, length, Option, None, Some, refl, ap, sym, ◌∙◌, subst, arith}
use Rattle.std.proofs.lemmas.Bool.{eq-eqb, eqb-true}
use Rattle.std.proofs.lemmas.Slice.Eq.{bytes_eq-Decides}
use Rattle.std.specs.Str.{bytes_eq}
use Rattle.oftp_vfile.specs.declared.format.Format.{Format}
use Rattle.oftp_vfile.specs.declared.format.Format.TheVariants.{Fixed, Variable, Unstructured, Text}
use Rattle.oftp_register.specs.declared.entry.Identity.{Identity}
use Rattle.oftp_register.specs.declared.entry.IncomingState.{IncomingState}
use Rattle.oftp_register.specs.declared.entry.IncomingState.TheVariants.{Open, Whole}
use Rattle.oftp_register.specs.declared.entry.ResponseKind.{ResponseKind}
use Rattle.oftp_register.specs.declared.entry.ResponseKind.TheVariants.{EndResponse, NegativeEndResponse}
use Rattle.oftp_register.specs.Register.{Issued, Incoming, Outgoing, Received, same_identity, same_kind}
use Rattle.oftp_register.specs.Verdicts.{same_format}
use Rattle.oftp_register.proofs.ByIdentityLemmas.{same_self}
use Rattle.oftp_register.proofs.NameLemmas.{same_identity-true}
use Rattle.oftp_audit.specs.Evidence.{Content, KeepsIncoming, KeepsOutgoing, KeepsReceived, KeepsResponse, KeepsWhole, content_in, content_out, may_become, may_dispatch}
use Rattle.oftp_audit.specs.Losses.{is_open, may_come, unless}
use Rattle.oftp_audit.specs.Passing.{AuditIsExact, IncomingPasses, OutgoingPasses, ReceivedPasses, ResponsePasses, RowsPass, WholeRowsPass}
use Rattle.oftp_audit.specs.declared.loss.Loss.{Loss}
use Rattle.oftp_audit.specs.declared.loss.Loss.TheVariants as loss
use Rattle.oftp_audit.proofs.EvidenceLemmas.{same_number}

-- ---- what is told and what holds

pub told : (b : Bool) (l : Loss) → b ≡ true → unless b l ≡ None
told b l e = ap (λ c. unless c l) e

pub holds : (b : Bool) (l : Loss) → unless b l ≡ None → b ≡ true
holds true l h = refl
holds false l h = absurd (cc)

number_is : (n m : ℕ) → m ≡ n → (n == m) ≡ true
number_is n m e = eq-eqb n m (sym e)

octets_are : (x y : List ℕ) → y ≡ x → bytes_eq x y ≡ true
octets_are x y e = (bytes_eq-Decides x y).1 (sym e)

octets_back : (x y : List ℕ) → bytes_eq x y ≡ true → y ≡ x
octets_back x y h = sym ((bytes_eq-Decides x y).0 h)

identity_is : (a b : Identity) → b ≡ a → same_identity a b ≡ true
identity_is a b e = ap (same_identity a) e ∙ same_self a

format_self : (f : Format) → same_format f f ≡ true
format_self Fixed = refl
format_self Variable = refl
format_self Unstructured = refl
format_self Text = refl

format_is : (a b : Format) → b ≡ a → same_format a b ≡ true
format_is a b e = ap (same_format a) e ∙ format_self a

format_back : (a b : Format) → same_format a b ≡ true → b ≡ a
format_back Fixed Fixed h = refl
format_back Fixed Variable h = absurd (cc)
format_back Fixed Unstructured h = absurd (cc)
format_back Fixed Text h = absurd (cc)
format_back Variable Fixed h = absurd (cc)
format_back Variable Variable h = refl
format_back Variable Unstructured h = absurd (cc)
format_back Variable Text h = absurd (cc)
format_back Unstructured Fixed h = absurd (cc)
format_back Unstructured Variable h = absurd (cc)
format_back Unstructured Unstructured h = refl
format_back Unstructured Text h = absurd (cc)
format_back Text Fixed h = absurd (cc)
format_back Text Variable h = absurd (cc)
format_back Text Unstructured h = absurd (cc)
format_back Text Text h = refl

kind_self : (k : ResponseKind) → same_kind k k ≡ true
kind_self EndResponse = refl
kind_self NegativeEndResponse = refl

kind_is : (a b : ResponseKind) → b ≡ a → same_kind a b ≡ true
kind_is a b e = ap (same_kind a) e ∙ kind_self a

kind_back : (a b : ResponseKind) → same_kind a b ≡ true → b ≡ a
kind_back EndResponse EndResponse h = refl
kind_back EndResponse NegativeEndResponse h = absurd (cc)
kind_back NegativeEndResponse EndResponse h = absurd (cc)
kind_back NegativeEndResponse NegativeEndResponse h = refl

-- ---- what is asked of a whole file alone

if_whole : (state : IncomingState) (c : Bool) → (state ≡ Whole → c ≡ true) → (is_open state || c) ≡ true
if_whole Open c h = refl
if_whole Whole c h = h refl

when_whole : (state : IncomingState) (c : Bool) → (is_open state || c) ≡ true → state ≡ Whole → c ≡ true
when_whole Open c h e = absurd (cc)
when_whole Whole c h e = h

come_is : (a b : IncomingState) → (a ≡ Whole → b ≡ Whole) → may_come a b ≡ true
come_is Open b h = refl
come_is Whole b h = ap (may_come Whole) (h refl)

come_back : (a b : IncomingState) → may_come a b ≡ true → a ≡ Whole → b ≡ Whole
come_back Open b h e = absurd (cc)
come_back Whole Open h e = absurd (cc)
come_back Whole Whole h e = refl

whole_is : (state : IncomingState) (x y : Incoming) → KeepsWhole state x y → state ≡ Whole → (y.state ≡ Whole) × (content_in y ≡ content_in x)
whole_is Open x y h e = absurd (cc)
whole_is Whole x y h e = h

whole_back : (state : IncomingState) (x y : Incoming) → (state ≡ Whole → (y.state ≡ Whole) × (content_in y ≡ content_in x)) → KeepsWhole state x y
whole_back Open x y h = tt
whole_back Whole x y h = h refl

-- ---- rows

rows_self : (xs : List (List ℕ)) → RowsPass xs xs
rows_self [] = tt
rows_self (x ∷ xs) = (told (bytes_eq x x) loss.Octets (octets_are x x refl), rows_self xs)

rows_are : (xs ys : List (List ℕ)) → ys ≡ xs → RowsPass xs ys
rows_are xs ys e = subst (RowsPass xs) (sym e) (rows_self xs)

rows_back : (xs ys : List (List ℕ)) → length ys ≡ length xs → RowsPass xs ys → ys ≡ xs
rows_back [] [] e h = refl
rows_back [] (y ∷ ys) e h = let no : ⊥ = omega (arith, e) in absurd no
rows_back (x ∷ xs) [] e h = let no : ⊥ = omega (arith, e) in absurd no
rows_back (x ∷ xs) (y ∷ ys) e h =
    let first : y ≡ x = octets_back x y (holds (bytes_eq x y) loss.Octets h.0) in
    let rest : ys ≡ xs = rows_back xs ys (omega (arith, e)) h.1 in
    ap (λ z. z ∷ ys) first ∙ ap (λ zs. x ∷ zs) rest

whole_rows : (state : IncomingState) (xs ys : List (List ℕ)) → (state ≡ Whole → ys ≡ xs) → WholeRowsPass state xs ys
whole_rows Open xs ys h = tt
whole_rows Whole xs ys h = rows_are xs ys (h refl)

whole_rows_back : (state : IncomingState) (xs ys : List (List ℕ)) → WholeRowsPass state xs ys → state ≡ Whole → RowsPass xs ys
whole_rows_back Open xs ys h e = absurd (cc)
whole_rows_back Whole xs ys h e = h

-- ---- responses

response_is : (x y : Option Issued) → KeepsResponse x y → ResponsePasses x y
response_is None y h = tt
response_is (Some x) None h = absurd h
response_is (Some x) (Some y) h = (
  told (same_kind x.kind y.kind) loss.Kind (kind_is x.kind y.kind h.kind),
  (
    told (x.reason == y.reason) loss.Reason (number_is x.reason y.reason h.reason),
    (
      told (bytes_eq x.text y.text) loss.Words (octets_are x.text y.text h.text),
      (
        told (may_dispatch x.dispatch y.dispatch) loss.Dispatch h.dispatch,
        tt,
      ),
    ),
  ),
)

response_back : (x y : Option Issued) → ResponsePasses x y → KeepsResponse x y
response_back None y h = tt
response_back (Some x) None h = let no : Some loss.Missing ≡ None = h.0 in absurd (cc)
response_back (Some x) (Some y) h = record {
  kind = kind_back x.kind y.kind (holds (same_kind x.kind y.kind) loss.Kind h.0);
  reason = sym (eqb-true x.reason y.reason (holds (x.reason == y.reason) loss.Reason h.1.0));
  text = octets_back x.text y.text (holds (bytes_eq x.text y.text) loss.Words h.1.1.0);
  dispatch = holds (may_dispatch x.dispatch y.dispatch) loss.Dispatch h.1.1.1.0;
}

-- ---- incoming files

-- contents with equal parts are equal
abbrev made : Identity → Format → ℕ → List ℕ → List (List ℕ) → Content
made identity format longest description rows = record { identity = identity; format = format; longest = longest; description = description; rows = rows }

content_is : (a b : Content) → b.identity ≡ a.identity → b.format ≡ a.format → b.longest ≡ a.longest → b.description ≡ a.description → b.rows ≡ a.rows → b ≡ a
content_is a b identity format longest description rows =
    ap (λ i. made i b.format b.longest b.description b.rows) identity
    ∙ ap (λ f. made a.identity f b.longest b.description b.rows) format
    ∙ ap (λ l. made a.identity a.format l b.description b.rows) longest
    ∙ ap (λ d. made a.identity a.format a.longest d b.rows) description
    ∙ ap (λ r. made a.identity a.format a.longest a.description r) rows

incoming_passes : (x y : Incoming) → KeepsIncoming x y → IncomingPasses x y
incoming_passes x y keeps =
    let content : x.state ≡ Whole → content_in y ≡ content_in x = λ e. (whole_is x.state x y keeps.whole e).1 in
    let state : x.state ≡ Whole → y.state ≡ Whole = λ e. (whole_is x.state x y keeps.whole e).0 in
    record {
      entry = (
        told _ loss.Identity (identity_is x.identity y.identity keeps.identity),
        (
          told _ loss.State (come_is x.state y.state state),
          (
            told _ loss.Format (if_whole x.state _ (λ e. format_is x.format y.format (ap (λ (c : Content). c.format) (content e)))),
            (
              told _ loss.Longest (if_whole x.state _ (λ e. number_is x.longest y.longest (ap (λ (c : Content). c.longest) (content e)))),
              (
                told _ loss.Description (if_whole x.state _ (λ e. octets_are x.description y.description (ap (λ (c : Content). c.description) (content e)))),
                (
                  told _ loss.Count (if_whole x.state _ (λ e. number_is (length x.rows) (length y.rows) (ap (λ (c : Content). length c.rows) (content e)))),
                  tt,
                ),
              ),
            ),
          ),
        ),
      );
      rows = whole_rows x.state x.rows y.rows (λ e. ap (λ (c : Content). c.rows) (content e));
      response = response_is x.response y.response keeps.response;
    }

incoming_back : (x y : Incoming) → IncomingPasses x y → KeepsIncoming x y
incoming_back x y passes =
    let entry = passes.entry in
    let name : y.identity ≡ x.identity = sym (same_identity-true x.identity y.identity (holds (same_identity x.identity y.identity) loss.Identity entry.0)) in
    let state : x.state ≡ Whole → y.state ≡ Whole = come_back x.state y.state (holds (may_come x.state y.state) loss.State entry.1.0) in
    let format : x.state ≡ Whole → y.format ≡ x.format = λ e.
    format_back x.format y.format (when_whole x.state (same_format x.format y.format) (holds (is_open x.state || same_format x.format y.format) loss.Format entry.1.1.0) e) in
    let longest : x.state ≡ Whole → y.longest ≡ x.longest = λ e.
    sym (eqb-true x.longest y.longest (when_whole x.state (x.longest == y.longest) (holds (is_open x.state || (x.longest == y.longest)) loss.Longest entry.1.1.1.0) e)) in
    let text : x.state ≡ Whole → y.description ≡ x.description = λ e.
    octets_back x.description y.description
    (when_whole x.state (bytes_eq x.description y.description) (holds (is_open x.state || bytes_eq x.description y.description) loss.Description entry.1.1.1.1.0) e) in
    let count : x.state ≡ Whole → length y.rows ≡ length x.rows = λ e.
    sym (eqb-true (length x.rows) (length y.rows)
    (when_whole x.state (length x.rows == length y.rows) (holds (is_open x.state || (length x.rows == length y.rows)) loss.Count entry.1.1.1.1.1.0) e)) in
    let rows : x.state ≡ Whole → y.rows ≡ x.rows = λ e. rows_back x.rows y.rows (count e) (whole_rows_back x.state x.rows y.rows passes.rows e) in
    record {
      identity = name;
      whole = whole_back x.state x y (λ e. (state e, content_is (content_in x) (content_in y) name (format e) (longest e) (text e) (rows e)));
      response = response_back x.response y.response passes.response;
    }

-- ---- outgoing files

outgoing_passes : (x y : Outgoing) → KeepsOutgoing x y → OutgoingPasses x y
outgoing_passes x y keeps =
    let content = keeps.content in
    record {
      entry = (
        told _ loss.Identity (identity_is x.identity y.identity (ap (λ (c : Content). c.identity) content)),
        (
          told _ loss.State keeps.state,
          (
            told _ loss.Format (format_is x.format y.format (ap (λ (c : Content). c.format) content)),
            (
              told _ loss.Longest (number_is x.longest y.longest (ap (λ (c : Content). c.longest) content)),
              (
                told _ loss.Description (octets_are x.description y.description (ap (λ (c : Content). c.description) content)),
                (
                  told _ loss.Count (number_is (length x.rows) (length y.rows) (ap (λ (c : Content). length c.rows) content)),
                  tt,
                ),
              ),
            ),
          ),
        ),
      );
      rows = rows_are x.rows y.rows (ap (λ (c : Content). c.rows) content);
    }

outgoing_back : (x y : Outgoing) → OutgoingPasses x y → KeepsOutgoing x y
outgoing_back x y passes =
    let entry = passes.entry in
    let name : y.identity ≡ x.identity = sym (same_identity-true x.identity y.identity (holds (same_identity x.identity y.identity) loss.Identity entry.0)) in
    let format : y.format ≡ x.format = format_back x.format y.format (holds (same_format x.format y.format) loss.Format entry.1.1.0) in
    let longest : y.longest ≡ x.longest = sym (eqb-true x.longest y.longest (holds (x.longest == y.longest) loss.Longest entry.1.1.1.0)) in
    let text : y.description ≡ x.description = octets_back x.description y.description (holds (bytes_eq x.description y.description) loss.Description entry.1.1.1.1.0) in
    let count : length y.rows ≡ length x.rows = sym (eqb-true (length x.rows) (length y.rows) (holds (length x.rows == length y.rows) loss.Count entry.1.1.1.1.1.0)) in
    record {
      content = content_is (content_out x) (content_out y) name format longest text (rows_back x.rows y.rows count passes.rows);
      state = holds (may_become x.state y.state) loss.State entry.1.0;
    }

-- ---- received responses

received_self : (x : Received) → ReceivedPasses x x
received_self x = (
  told (same_kind x.kind x.kind) loss.Kind (kind_self x.kind),
  (
    told (same_identity x.identity x.identity) loss.Identity (same_self x.identity),
    (
      told (x.reason == x.reason) loss.Reason (same_number x.reason),
      (
        told (bytes_eq x.creator x.creator) loss.Creator (octets_are x.creator x.creator refl),
        (
          told (bytes_eq x.text x.text) loss.Words (octets_are x.text x.text refl),
          tt,
        ),
      ),
    ),
  ),
)

received_passes : (x y : Received) → KeepsReceived x y → ReceivedPasses x y
received_passes x y keeps = subst (ReceivedPasses x) (sym keeps) (received_self x)

-- responses with equal parts are equal
abbrev filed : ResponseKind → Identity → ℕ → List ℕ → List ℕ → Received
filed kind identity reason creator text = record { kind = kind; identity = identity; reason = reason; creator = creator; text = text }

received_back : (x y : Received) → ReceivedPasses x y → KeepsReceived x y
received_back x y passes =
    ap (λ k. filed k y.identity y.reason y.creator y.text) (kind_back x.kind y.kind (holds (same_kind x.kind y.kind) loss.Kind passes.0))
    ∙ ap (λ i. filed x.kind i y.reason y.creator y.text) (sym (same_identity-true x.identity y.identity (holds (same_identity x.identity y.identity) loss.Identity passes.1.0)))
    ∙ ap (λ r. filed x.kind x.identity r y.creator y.text) (sym (eqb-true x.reason y.reason (holds (x.reason == y.reason) loss.Reason passes.1.1.0)))
    ∙ ap (λ c. filed x.kind x.identity x.reason c y.text) (octets_back x.creator y.creator (holds (bytes_eq x.creator y.creator) loss.Creator passes.1.1.1.0))
    ∙ ap (λ t. filed x.kind x.identity x.reason x.creator t) (octets_back x.text y.text (holds (bytes_eq x.text y.text) loss.Words passes.1.1.1.1.0))

pub audit_is_exact : AuditIsExact
audit_is_exact = record {
  incoming = λ x y. (incoming_passes x y, incoming_back x y);
  outgoing = λ x y. (outgoing_passes x y, outgoing_back x y);
  received = λ x y. (received_passes x y, received_back x y);
}
