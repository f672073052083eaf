-- A response that is new is added.
use Rattle.std.proofs.Common.{◌≡◌, ℕ, List, Bool, true, false, cond, Ok, Err, refl, is_ok}
use Rattle.oftp_register.specs.declared.change.Cause.{Cause}
use Rattle.oftp_register.specs.declared.change.Change.TheVariants.{File}
use Rattle.oftp_register.specs.declared.entry.Identity.{Identity}
use Rattle.oftp_register.specs.declared.entry.ResponseKind.{ResponseKind}
use Rattle.oftp_register.specs.Register.{Register, has_received}
use Rattle.oftp_register.specs.Changes.{apply}
use Rattle.oftp_register.specs.Soundness.{IsFit, IsResponse}
use Rattle.oftp_session.specs.Inside.{IsAccepted}

accepted : (b : Bool) (after : Register) (cause : Cause) → b ≡ false → is_ok (cond b (Err cause) (Ok after)) ≡ true
accepted true after cause h = absurd (let no : ⊥ = cc in no)
accepted false after cause h = refl

pub files_new : (r : Register) (kind : ResponseKind) (identity : Identity) (reason : ℕ) (creator text : List ℕ)
    → has_received r kind identity ≡ false → IsAccepted r (File kind identity reason creator text)
unfolding apply
files_new r kind identity reason creator text new = accepted (has_received r kind identity) _ _ new

pub files_fit : (r : Register) (kind : ResponseKind) (identity : Identity) (reason : ℕ) (creator text : List ℕ)
    → IsResponse kind reason creator text → IsFit r (File kind identity reason creator text)
unfolding IsFit
files_fit r kind identity reason creator text fit = fit
