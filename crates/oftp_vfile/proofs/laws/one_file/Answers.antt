use Rattle.oftp_vfile.proofs.LocalLemmas.{one_file}
use Rattle.oftp_vfile.proofs.laws.one_file.Goals as goal

pub returns : goal.returns
returns c = one_file
