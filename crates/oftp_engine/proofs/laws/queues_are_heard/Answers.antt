use Rattle.oftp_engine.proofs.Queues.{queues_are_heard}
use Rattle.oftp_engine.proofs.laws.queues_are_heard.Goals as goal

pub returns : goal.returns
returns c = queues_are_heard
