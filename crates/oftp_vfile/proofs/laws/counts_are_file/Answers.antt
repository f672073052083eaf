use Rattle.oftp_vfile.proofs.ClosedLemmas.{counts_file}
use Rattle.oftp_vfile.proofs.laws.counts_are_file.Goals as goal

pub returns : goal.returns
returns c = counts_file
