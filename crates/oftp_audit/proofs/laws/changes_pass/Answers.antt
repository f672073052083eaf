use Rattle.oftp_audit.proofs.PassingLemmas.{changes_pass}
use Rattle.oftp_audit.proofs.laws.changes_pass.Goals as goal

pub returns : goal.returns
returns c = changes_pass
