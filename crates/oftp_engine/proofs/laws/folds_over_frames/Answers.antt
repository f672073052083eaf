use Rattle.oftp_engine.proofs.Folding.{folds_all}
use Rattle.oftp_engine.proofs.laws.folds_over_frames.Goals as goal

pub returns : goal.returns
returns c = folds_all
