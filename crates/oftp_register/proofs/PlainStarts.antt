-- What the start of a file does to the incoming files.
use Rattle.std.proofs.Common.{◌≡◌, ℕ, zero, suc, ◌<◌, ◌≤◌, ◌+◌, Bool, true, false, not, cond, ◌||◌, nat_lt, List, [], ◌∷◌, ◌++◌, length, map, set, get_or, Option, Some, None, Result, refl, ap, sym, ◌∙◌, inl, inr, arith}
use Rattle.std.proofs.lemmas.Bool.{cond-true, cond-false, cases_Bool, ltb-false, or_parts}
use Rattle.std.proofs.lemmas.List.Quantifiers.{position-Some}
use Rattle.std.specs.List.{list_any, position, position_or_len}
use Rattle.std.specs.Vec.{with_item}
use Rattle.oftp_register.specs.declared.plain.incoming.IncomingFile.{IncomingFile}
use Rattle.oftp_register.specs.declared.plain.lists.Lists.{Lists}
use Rattle.oftp_register.specs.declared.office.OfficeFault.{OfficeFault}
use Rattle.oftp_register.specs.Register.{Register, Incoming, same_identity}
use Rattle.oftp_register.specs.Changes.{mapped, begun, gone_on, started, started_in}
use Rattle.oftp_register.specs.Lists.{CarriesOut, incoming_of, newly_started, register_in}
use Rattle.oftp_register.proofs.Places.{mapped-mapped, makes_at, makes_part}

-- the first file of this identity goes on
pub started_in-found : (r : Register) (header : Incoming) (count : ℕ) (files : List IncomingFile) (i : ℕ) (x : IncomingFile) → i < length files → x ≡ get_or files i x
    → same_identity x.identity header.identity ≡ true → ((k : ℕ) → k < i → same_identity (get_or files k x).identity header.identity ≡ false)
    → started_in r header count (map incoming_of files) ≡ mapped (λ y. set (map incoming_of files) i y) (gone_on header count (incoming_of x) x.state)
started_in-found r header count [] i x within is named first = absurd (omega arith)
started_in-found r header count (f ∷ files) zero x within is named first =
    cond-true (same_identity f.identity header.identity) _ _ (ap (λ (g : IncomingFile). same_identity g.identity header.identity) (sym is) ∙ named)
    ∙ ap (λ (g : IncomingFile). mapped (λ y. y ∷ map incoming_of files) (gone_on header count (incoming_of g) g.state)) (sym is)
started_in-found r header count (f ∷ files) (suc i) x within is named first =
    cond-false (same_identity f.identity header.identity) _ _ (first 0 (omega arith))
    ∙ ap (mapped (λ fs. incoming_of f ∷ fs)) (started_in-found r header count files i x (omega arith) is named (λ k below. first (suc k) (omega arith)))
    ∙ mapped-mapped (λ fs. incoming_of f ∷ fs) (λ y. set (map incoming_of files) i y) (gone_on header count (incoming_of x) x.state)

-- no file has this identity
pub started_in-new : (r : Register) (header : Incoming) (count : ℕ) (files : List IncomingFile) → list_any (λ (f : IncomingFile). same_identity f.identity header.identity) files ≡ false
    → started_in r header count (map incoming_of files) ≡ mapped (λ file. map incoming_of files ++ file ∷ []) (begun r header count)
started_in-new r header count [] none = refl
started_in-new r header count (f ∷ files) none =
    let parts = or_parts (same_identity f.identity header.identity) (list_any (λ (g : IncomingFile). same_identity g.identity header.identity) files) none in
    cond-false (same_identity f.identity header.identity) _ _ parts.0
    ∙ ap (mapped (λ fs. incoming_of f ∷ fs)) (started_in-new r header count files parts.1)
    ∙ mapped-mapped (λ fs. incoming_of f ∷ fs) (λ file. map incoming_of files ++ file ∷ []) (begun r header count)

-- if no first place is found, no element passes
none_of : (b : Bool) (n rest : ℕ) (more : Bool) → suc n ≤ cond (not b) (1 + rest) 0 → (n ≤ rest → more ≡ false) → (b || more) ≡ false
none_of true n rest more h k = absurd (omega arith)
none_of false n rest more h k = k (omega arith)

none_before_len : {X : Type 0} (p : X → Bool) (xs : List X) → length xs ≤ position_or_len p xs → list_any p xs ≡ false
none_before_len p [] h = refl
none_before_len p (x ∷ xs) h = none_of (p x) (length xs) (position_or_len p xs) (list_any p xs) h (none_before_len p xs)

pub position-None : {X : Type 0} (p : X → Bool) (xs : List X) → position p xs ≡ None → list_any p xs ≡ false
position-None p xs h =
    let at = position_or_len p xs in
    none_before_len p xs (elim (cases_Bool (nat_lt at (length xs))) [
      | inl e ↦ (let bad : Some at ≡ None = sym (cond-true (nat_lt at (length xs)) (Some at) None e) ∙ h in absurd (cc))
      | inr e ↦ ltb-false at (length xs) e
    ])

-- the start of a file that exists
pub start_found : {T : Type 0} (o : Lists) (header : Incoming) (count : ℕ) (files : List IncomingFile) (found : Option ℕ) (i : ℕ) (x y : IncomingFile) (result : Result T OfficeFault)
    → files ≡ o.incoming.items
    → found ≡ position (λ (f : IncomingFile). same_identity f.identity header.identity) files → found ≡ Some i → x ≡ get_or o.incoming.items i x
    → CarriesOut incoming_of (gone_on header count (incoming_of x) x.state) x y result
    → CarriesOut register_in (started (register_in o) header count) o (record o { incoming = with_item o.incoming i y }) result
start_found o header count files found i x y result lent is at there h =
    let named = λ (f : IncomingFile). same_identity f.identity header.identity in
    let all = o.incoming.items in
    let first : position named all ≡ Some i = ap (position named) (sym lent) ∙ sym is ∙ at in
    let facts = position-Some named all i x first in
    let wanted : started_in (register_in o) header count (map incoming_of all) ≡ mapped (λ z. set (map incoming_of all) i z) (gone_on header count (incoming_of x) x.state)
    = started_in-found (register_in o) header count all i x facts.0 there (ap named there ∙ facts.1) facts.2 in
    let after : Lists = record o { incoming = with_item o.incoming i y } in
    let with_files = λ (entries : List Incoming). let r : Register = record (register_in o) { incoming = entries } in r in
    makes_part (map incoming_of) register_in with_files (started_in (register_in o) header count (map incoming_of all)) all (set all i y) o after result
    refl refl (rw wanted (makes_at incoming_of (gone_on header count (incoming_of x) x.state) all i x y result there h))

-- the start of a new file
pub start_new : (o : Lists) (header : Incoming) (count : ℕ) (files : List IncomingFile) (found : Option ℕ) → files ≡ o.incoming.items
    → found ≡ position (λ (f : IncomingFile). same_identity f.identity header.identity) files → found ≡ None → started (register_in o) header count ≡ newly_started (register_in o) header count
start_new o header count files found lent is none =
    let named = λ (f : IncomingFile). same_identity f.identity header.identity in
    let all = o.incoming.items in
    ap (mapped (λ entries. record (register_in o) { incoming = entries }))
    (started_in-new (register_in o) header count all (position-None named all (ap (position named) (sym lent) ∙ sym is ∙ none)))
    ∙ mapped-mapped (λ entries. record (register_in o) { incoming = entries }) (λ file. map incoming_of all ++ file ∷ []) (begun (register_in o) header count)
