-- What a change of the entry with a number preserves.
use Rattle.std.proofs.Common.{◌≡◌, ℕ, zero, suc, List, [], ◌∷◌, map, All, Result, Ok, Err, refl, ap, sym, ◌∙◌, subst}
use Rattle.std.proofs.lemmas.List.Elements.{All-cons, All-head, All-tail}
use Rattle.oftp_register.specs.declared.change.Cause.{Cause}
use Rattle.oftp_register.specs.Changes.{at_number, mapped}
use Rattle.oftp_register.specs.Soundness.{AtNumber}

-- what a mapped result comes from
pub mapped_ok : {A B : Type 0} (f : A → B) (r : Result A Cause) (y : B) → mapped f r ≡ Ok y → (x : A) × (r ≡ Ok x) × (f x ≡ y)
mapped_ok f (Ok x) y h = (x, refl, cc)
mapped_ok f (Err cause) y h = absurd (cc)

-- a result is one value
pub one_result : {A : Type 0} (r : Result A Cause) (x y : A) → r ≡ Ok x → r ≡ Ok y → x ≡ y
one_result r x y g h = cc

pub not_both : {A : Type 0} (r : Result A Cause) (cause : Cause) (x : A) → r ≡ Err cause → r ≡ Ok x → ⊥
not_both r cause x g h = cc

-- a fact of each entry
pub at_number_keeps : {A : Type 0} (P Q : A → Type 0) (f : A → Result A Cause) → ((x y : A) → P x → Q x → f x ≡ Ok y → P y) → (n : ℕ) (xs ys : List A) → All P xs → AtNumber Q n xs
    → at_number f n xs ≡ Ok ys → All P ys
at_number_keeps P Q f keeps zero xs ys all at h = absurd (cc)
at_number_keeps P Q f keeps (suc n) [] ys all at h = absurd (cc)
at_number_keeps P Q f keeps (suc zero) (x ∷ xs) ys all at h =
    let part = mapped_ok (λ y. y ∷ xs) (f x) ys h in
    subst (All P) part.2 (All-cons P part.0 xs (keeps x part.0 (All-head P x xs all) at part.1) (All-tail P x xs all))
at_number_keeps P Q f keeps (suc (suc n)) (x ∷ xs) ys all at h =
    let part = mapped_ok (λ zs. x ∷ zs) (at_number f (suc n) xs) ys h in
    subst (All P) part.2 (All-cons P x part.0 (All-head P x xs all) (at_number_keeps P Q f keeps (suc n) xs part.0 (All-tail P x xs all) at part.1))

-- the identities of the entries
pub at_number_same : {A B : Type 0} (name : A → B) (f : A → Result A Cause) → ((x y : A) → f x ≡ Ok y → name y ≡ name x) → (n : ℕ) (xs ys : List A) → at_number f n xs ≡ Ok ys
    → map name ys ≡ map name xs
at_number_same name f same zero xs ys h = absurd (cc)
at_number_same name f same (suc n) [] ys h = absurd (cc)
at_number_same name f same (suc zero) (x ∷ xs) ys h =
    let part = mapped_ok (λ y. y ∷ xs) (f x) ys h in
    ap (map name) (sym part.2) ∙ ap (λ b. b ∷ map name xs) (same x part.0 part.1)
at_number_same name f same (suc (suc n)) (x ∷ xs) ys h =
    let part = mapped_ok (λ zs. x ∷ zs) (at_number f (suc n) xs) ys h in
    ap (map name) (sym part.2) ∙ ap (λ bs. name x ∷ bs) (at_number_same name f same (suc n) xs part.0 part.1)
