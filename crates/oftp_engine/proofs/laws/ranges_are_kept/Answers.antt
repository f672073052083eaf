use Rattle.oftp_engine.proofs.Queues.{ranges_are_kept}
use Rattle.oftp_engine.proofs.laws.ranges_are_kept.Goals as goal

pub returns : goal.returns
returns c = ranges_are_kept
