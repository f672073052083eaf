-- Lines are a pause apart.
use Rattle.std.proofs.Common.{◌≡◌, ℕ, ◌-◌, true, Bool, cond, List, [], ◌∷◌, refl, sym, subst, arith}
use Rattle.std.proofs.lemmas.Bool.{cond_both, leb-true}
use Rattle.oftp_progress.specs.Laws.{IsApart, lines_at}
use Rattle.oftp_progress.specs.Progress.{asked_at, is_due}
use Rattle.oftp_progress.specs.declared.beat.Beat.{Beat}
use Rattle.oftp_progress.specs.declared.beat.TheConstants.{PAUSE}

-- after a line its moment is that of the last one
said_then : (beat : Beat) (moment : ℕ) → is_due beat moment ≡ true → (asked_at beat moment).said ≡ moment
said_then beat moment due = subst (λ (b : Bool). (cond b (record beat { said = moment }) beat).said ≡ moment) (sym due) refl

pub said_in_time : (beat : Beat) (moments : List ℕ) → IsApart beat.said (lines_at beat moments)
said_in_time beat [] = tt
said_in_time beat (moment ∷ moments) =
    let after : Beat = asked_at beat moment in
    cond_both (is_due beat moment) (moment ∷ lines_at after moments) (lines_at beat moments) (IsApart beat.said)
    (λ due. (omega (arith, leb-true PAUSE (moment - beat.said) due), subst (λ (m : ℕ). IsApart m (lines_at after moments)) (said_then beat moment due) (said_in_time after moments)))
    (λ _. said_in_time beat moments)
