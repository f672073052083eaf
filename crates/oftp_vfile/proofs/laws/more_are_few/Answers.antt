use Rattle.oftp_vfile.proofs.MoreLemmas.{more_few}
use Rattle.oftp_vfile.proofs.laws.more_are_few.Goals as goal

pub returns : goal.returns
returns c = more_few
