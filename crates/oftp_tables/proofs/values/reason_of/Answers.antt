use Rattle.std.proofs.Common.{◌∙◌, sym, ap, subst}
use Rattle.oftp_wire.specs.Octets.{IsDigits}
use Rattle.oftp_tables.specs.Tables.{reason_text}
use Rattle.oftp_tables.proofs.ReaderLemmas.{two_digits}
use Rattle.oftp_tables.proofs.values.reason_of.Goals as goal

pub returns-in-NegativeEndResponse-clause-found : goal.returns-in-NegativeEndResponse-clause-found
returns-in-NegativeEndResponse-clause-found c reason is =
    c.two_digits_of.ensures.found (subst (IsDigits 2) (sym (is ∙ ap (λ kind. reason_text kind reason) c.in-NegativeEndResponse.is)) (two_digits reason))
