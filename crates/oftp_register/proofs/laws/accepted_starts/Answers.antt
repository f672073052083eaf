use Rattle.oftp_register.proofs.StartLemmas.{accepted_starts}
use Rattle.oftp_register.proofs.laws.accepted_starts.Goals as goal

pub returns : goal.returns
returns c = accepted_starts
