use Rattle.oftp_vfile.proofs.SentLemmas.{sent_new}
use Rattle.oftp_vfile.proofs.filling.Filler.new.Goals as goal

pub returns-clause-sent : goal.returns-clause-sent
returns-clause-sent c = λ size rows. sent_new c.args.format size c.args.from rows
