use Rattle.oftp_vfile.proofs.FaultLemmas.{one_fault}
use Rattle.oftp_vfile.proofs.laws.one_fault.Goals as goal

pub returns : goal.returns
returns c = one_fault
