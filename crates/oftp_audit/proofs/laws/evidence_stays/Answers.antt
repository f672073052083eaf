use Rattle.oftp_audit.proofs.EvidenceLemmas.{evidence_stays}
use Rattle.oftp_audit.proofs.laws.evidence_stays.Goals as goal

pub returns : goal.returns
returns c = evidence_stays
