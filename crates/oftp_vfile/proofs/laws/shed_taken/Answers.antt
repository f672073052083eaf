use Rattle.oftp_vfile.proofs.ShedLemmas.{shed_taken}
use Rattle.oftp_vfile.proofs.laws.shed_taken.Goals as goal

pub returns : goal.returns
returns c = shed_taken
