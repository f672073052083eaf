use Rattle.std.proofs.Common.{refl}
use Rattle.oftp_engine.specs.Runs.{run, started}
use Rattle.oftp_engine.proofs.Ending.{replay_all}
use Rattle.oftp_engine.proofs.laws.changes_are_made.Goals as goal

pub returns : goal.returns
returns c = λ limit setting given r sound. replay_all limit setting given r (run limit given (started setting r)).register sound refl
