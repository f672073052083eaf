use Rattle.oftp_register.proofs.StartLemmas.{starts_are_found}
use Rattle.oftp_register.proofs.laws.starts_are_found.Goals as goal

pub returns : goal.returns
returns c = starts_are_found
