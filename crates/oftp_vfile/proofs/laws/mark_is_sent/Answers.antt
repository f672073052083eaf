use Rattle.oftp_vfile.proofs.SentLemmas.{mark_sent}
use Rattle.oftp_vfile.proofs.laws.mark_is_sent.Goals as goal

pub returns : goal.returns
returns c = mark_sent
