use Rattle.oftp_audit.proofs.LossLemmas.{audit_is_exact}
use Rattle.oftp_audit.proofs.laws.audit_is_exact.Goals as goal

pub returns : goal.returns
returns c = audit_is_exact
