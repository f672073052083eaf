-- The error of an opening that `?` passes on.
use Rattle.std.proofs.Common.{◌≡◌, ◌↔◌, ◌∙◌, Result, Err, ap}
use Rattle.std.specs.Result.{IsErrAnd}
use Rattle.std.proofs.lemmas.Result.{err_from_is_err_and}

-- it is another one exactly where it was
pub handed_on : {X Y E IsKept : Type 0} (fault other : E) (r : Result X E) → IsErrAnd r (λ x. x ≡ fault) → (it : Result Y E) → it ≡ Err fault
    → (it ≡ Err other) ↔ ¬ IsKept → (r ≡ Err other) ↔ ¬ IsKept
handed_on {X} {Y} {E} fault other r h it was files =
    let e = err_from_is_err_and r h in
    let told : r ≡ Err fault = e.1 ∙ ap (λ (x : E). Err x) e.2 in
    (λ is. files.0 cc, λ unkept. let so = files.1 unkept in cc)
