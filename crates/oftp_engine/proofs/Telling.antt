-- The errors of a writer, whatever the office did.
use Rattle.std.proofs.Common.{◌≡◌, ◌∙◌, ap, inl, inr, Result, Err}
use Rattle.std.specs.Result.{IsErrAnd}
use Rattle.std.proofs.lemmas.Result.{err_from_is_err_and}
use Rattle.oftp_register.specs.Offices.{next_count}
use Rattle.oftp_io.specs.declared.port.Port.{Port}
use Rattle.oftp_engine.specs.declared.serving.RunFault.{RunFault}
use Rattle.oftp_engine.specs.declared.serving.RunFault.TheVariants as fault
use Rattle.oftp_engine.specs.Served.{WriterErr}

-- the errors of a writer in a call, if it returned none before
pub told_on : {W : Type 0} (a b d : Port W) (f : RunFault) → b.faults ≡ a.faults → WriterErr b d f → WriterErr a d f
told_on a b d fault.Read e h = h ∙ e
told_on a b d fault.Write e h = h ∙ ap next_count e
told_on a b d fault.Office e h = elim h [ inl none ↦ inl (none ∙ e) | inr one ↦ inr (one ∙ ap next_count e) ]
told_on a b d fault.Memory e h = h ∙ e

-- the error that `?` passes on
pub handed_on : {T : Type 0} (r : Result T RunFault) (f : RunFault) → IsErrAnd r (λ x. x ≡ f) → r ≡ Err f
handed_on r f h = let e = err_from_is_err_and r h in e.1 ∙ ap (λ (x : RunFault). Err x) e.2
