use Rattle.oftp_engine.proofs.PartRuns.{no_count_passes}
use Rattle.oftp_engine.proofs.laws.no_count_passes.Goals as goal

pub returns : goal.returns
returns c = no_count_passes
