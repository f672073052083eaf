use Rattle.oftp_vfile.proofs.PartLemmas.{part_closes}
use Rattle.oftp_vfile.proofs.laws.part_closes.Goals as goal

pub returns : goal.returns
returns c = part_closes
