use Rattle.oftp_vfile.proofs.ClosedLemmas.{closed_file}
use Rattle.oftp_vfile.proofs.laws.closed_is_file.Goals as goal

pub returns : goal.returns
returns c = closed_file
