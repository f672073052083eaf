use Rattle.oftp_vfile.proofs.PartLemmas.{part_begins}
use Rattle.oftp_vfile.proofs.laws.part_begins.Goals as goal

pub returns : goal.returns
returns c = part_begins
