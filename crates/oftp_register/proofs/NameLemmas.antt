-- Entries that differ by their identities.
use Rattle.std.proofs.Common.{◌≡◌, ℕ, Bool, true, false, ◌&&◌, ◌||◌, List, [], ◌∷◌, ◌++◌, map, refl, ap, ◌∙◌}
use Rattle.std.specs.Str.{bytes_eq}
use Rattle.std.specs.List.{list_any}
use Rattle.std.proofs.lemmas.Bool.{and_parts, or_parts, or_from}
use Rattle.std.proofs.lemmas.List.Folds.{list_any-append}
use Rattle.std.proofs.lemmas.Slice.Eq.{bytes_eq-Decides}
use Rattle.oftp_register.specs.declared.entry.Identity.{Identity}
use Rattle.oftp_register.specs.Register.{Received, is_response_to, same_identity}
use Rattle.oftp_register.specs.Soundness.{AreFiledOnce, AreNamedOnce}

-- identities with equal fields are equal
abbrev made : List ℕ → List ℕ → List ℕ → List ℕ → List ℕ → Identity
made dataset date time originator destination = record { dataset = dataset; date = date; time = time; originator = originator; destination = destination }

-- identities of the same file are equal
pub same_identity-true : (a b : Identity) → same_identity a b ≡ true → a ≡ b
same_identity-true a b h =
    let all = and_parts (bytes_eq a.dataset b.dataset) (bytes_eq a.date b.date && (bytes_eq a.time b.time && (bytes_eq a.originator b.originator && bytes_eq a.destination b.destination))) h in
    let dated = and_parts (bytes_eq a.date b.date) (bytes_eq a.time b.time && (bytes_eq a.originator b.originator && bytes_eq a.destination b.destination)) all.1 in
    let timed = and_parts (bytes_eq a.time b.time) (bytes_eq a.originator b.originator && bytes_eq a.destination b.destination) dated.1 in
    let ends = and_parts (bytes_eq a.originator b.originator) (bytes_eq a.destination b.destination) timed.1 in
    ap (λ x. made x a.date a.time a.originator a.destination) ((bytes_eq-Decides a.dataset b.dataset).0 all.0)
    ∙ ap (λ x. made b.dataset x a.time a.originator a.destination) ((bytes_eq-Decides a.date b.date).0 dated.0)
    ∙ ap (λ x. made b.dataset b.date x a.originator a.destination) ((bytes_eq-Decides a.time b.time).0 timed.0)
    ∙ ap (λ x. made b.dataset b.date b.time x a.destination) ((bytes_eq-Decides a.originator b.originator).0 ends.0)
    ∙ ap (λ x. made b.dataset b.date b.time b.originator x) ((bytes_eq-Decides a.destination b.destination).0 ends.1)

-- one more identity that is new
pub once-append : (xs : List Identity) (y : Identity) → AreNamedOnce xs → list_any (λ x. same_identity x y) xs ≡ false → AreNamedOnce (xs ++ y ∷ [])
once-append [] y once new = (refl, tt)
once-append (x ∷ xs) y once new =
    let parts = or_parts (same_identity x y) (list_any (λ z. same_identity z y) xs) new in
    let last = or_from (same_identity x y) false parts.0 refl in
    let all = or_from (list_any (λ z. same_identity x z) xs) (same_identity x y || false) once.0 last in
    (list_any-append (λ z. same_identity x z) xs (y ∷ []) ∙ all, once-append xs y once.1 parts.1)

-- one more response that is new
pub filed-append : (xs : List Received) (y : Received) → AreFiledOnce xs → list_any (is_response_to y.kind y.identity) xs ≡ false → AreFiledOnce (xs ++ y ∷ [])
filed-append [] y once new = (refl, tt)
filed-append (x ∷ xs) y once new =
    let parts = or_parts (is_response_to y.kind y.identity x) (list_any (is_response_to y.kind y.identity) xs) new in
    let last = or_from (is_response_to y.kind y.identity x) false parts.0 refl in
    let all = or_from (list_any (λ (z : Received). is_response_to z.kind z.identity x) xs) (is_response_to y.kind y.identity x || false) once.0 last in
    (list_any-append (λ (z : Received). is_response_to z.kind z.identity x) xs (y ∷ []) ∙ all, filed-append xs y once.1 parts.1)

-- a test of values is a test of what they come from
pub list_any-map : {A B : Type 0} (p : B → Bool) (f : A → B) (xs : List A) → list_any p (map f xs) ≡ list_any (λ x. p (f x)) xs
list_any-map p f [] = refl
list_any-map p f (x ∷ xs) = ap (λ b. p (f x) || b) (list_any-map p f xs)
