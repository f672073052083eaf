-- A book is not shown where one of its passwords is unknown.
use Rattle.std.proofs.Common.{◌≡◌, ℕ, ◌<◌, List, [], Option, None, Some, length, take, get_or, refl, subst}
use Rattle.std.proofs.lemmas.List.Folds.{fold_stuck}
use Rattle.oftp_contents.specs.Books.{Part}
use Rattle.oftp_contents.specs.Hiding.{Gives, Known, joined, shown_part, shown_parts}
use Rattle.oftp_contents.specs.declared.hiding.Shown.{Shown}
use Rattle.oftp_contents.specs.declared.hiding.Shown.TheVariants.{Unknown}

unknown_at : (known : List Known) (parts : List Part) (i : ℕ) (d : Part) (text : List ℕ) → i < length parts → shown_parts known (take i parts) ≡ Some text
    → joined (Some text) (shown_part known (get_or parts i d)) ≡ None → None ≡ shown_parts known parts
unknown_at known parts i d text within before unknown =
    fold_stuck (λ (sofar : Option (List ℕ)) (part : Part). joined sofar (shown_part known part)) None (λ part. refl) (Some []) parts i d within (rw before unknown)

is_none : (shown : Shown) (text : Option (List ℕ)) (now : List ℕ) → shown ≡ Unknown → Gives shown text now → text ≡ None
is_none shown text now unknown gives = rw unknown at gives

pub unknown_part : (known others : List Known) (parts : List Part) (i : ℕ) (part : Part) (text now : List ℕ) (shown : Shown) → i < length parts → part ≡ get_or parts i part
    → shown_parts known (take i parts) ≡ Some text → others ≡ known → shown ≡ Unknown → Gives shown (joined (Some text) (shown_part others part)) now
    → None ≡ shown_parts known parts
unknown_part known others parts i part text now shown within is before same unknown gives =
    let gone = is_none shown (joined (Some text) (shown_part others part)) now unknown gives in
    let by_known = subst (λ (k : List Known). joined (Some text) (shown_part k part) ≡ None) same gone in
    let by_place = subst (λ (p : Part). joined (Some text) (shown_part known p) ≡ None) is by_known in
    unknown_at known parts i part text within before by_place
