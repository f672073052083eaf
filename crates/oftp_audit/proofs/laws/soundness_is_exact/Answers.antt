use Rattle.oftp_audit.proofs.StandingLemmas.{soundness_is_exact}
use Rattle.oftp_audit.proofs.laws.soundness_is_exact.Goals as goal

pub returns : goal.returns
returns c = soundness_is_exact
