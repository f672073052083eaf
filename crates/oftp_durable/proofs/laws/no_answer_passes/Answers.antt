use Rattle.oftp_durable.proofs.Counts.{no_answer_passes}
use Rattle.oftp_durable.proofs.laws.no_answer_passes.Goals as goal

pub returns : goal.returns
returns c = no_answer_passes
