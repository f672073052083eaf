use Rattle.oftp_engine.proofs.Codes.{codes_are_needed}
use Rattle.oftp_engine.proofs.laws.codes_are_needed.Goals as goal

pub returns : goal.returns
returns c = codes_are_needed
