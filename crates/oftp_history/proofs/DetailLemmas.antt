-- Details one behind another.
use Rattle.std.proofs.Common.{◌≡◌, ◌∙◌, ℕ, List, [], ◌∷◌, OnOk, Result, Ok, Err, ap, fold, refl}
use Rattle.oftp_history.specs.Details.{detail_texts, with_detail, with_texts}
use Rattle.oftp_history.specs.declared.detail.Detail.{Detail}

-- a text with details is one with their texts
pub with_all : (ds : List Detail) (text : List ℕ) → fold with_detail text ds ≡ with_texts text (detail_texts ds)
with_all [] text = refl
with_all (d ∷ ds) text = with_all ds (with_detail text d)

-- what holds where a call succeeds follows from what it ensures there
pub on_ok : {T E P Q : Type 0} (r : Result T E) → (P → Q) → OnOk r P → OnOk r Q
on_ok (Ok x) f p = f p
on_ok (Err e) f p = p

-- a text with details that have these texts
pub with_told : (ds : List Detail) (texts : List (List ℕ)) (before after : List ℕ) → detail_texts ds ≡ texts → after ≡ fold with_detail before ds
    → after ≡ with_texts before texts
with_told ds texts before after are is = is ∙ (with_all ds before ∙ ap (with_texts before) are)
