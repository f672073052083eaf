-- An error that a command line's reader passes on.
use Rattle.std.proofs.Common.{◌≡◌, subst, sym}
use Rattle.std.specs.Prelude.{Err, IfErr, Ok, Result}
use Rattle.std.specs.Result.{IsErrAnd}
use Rattle.oftp_command_line.specs.declared.line.LineFault.{LineFault}

pub handed_on : {A : Type 0} (r : Result A LineFault) (e : LineFault) (P : LineFault → Type 0) → IsErrAnd r (λ y. y ≡ e) → P e → IfErr r P
handed_on (Ok a) e P is p = tt
handed_on (Err y) e P is p = subst P (sym is) p
