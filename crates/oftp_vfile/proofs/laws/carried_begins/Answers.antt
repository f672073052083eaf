use Rattle.oftp_vfile.proofs.PartLemmas.{carried_begins}
use Rattle.oftp_vfile.proofs.laws.carried_begins.Goals as goal

pub returns : goal.returns
returns c = carried_begins
