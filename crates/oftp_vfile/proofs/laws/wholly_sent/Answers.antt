use Rattle.oftp_vfile.proofs.SentLemmas.{sent_found}
use Rattle.oftp_vfile.proofs.laws.wholly_sent.Goals as goal

pub returns : goal.returns
returns c = sent_found
