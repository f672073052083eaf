use Rattle.oftp_schedule.specs.Machine.{start, run}
use Rattle.oftp_schedule.proofs.Fitting.{run_distinct}
use Rattle.oftp_schedule.proofs.Evicting.{move_evicts}
use Rattle.oftp_schedule.proofs.laws.no_needless_eviction.Goals as goal

pub returns : goal.returns
returns c = λ l ms m. move_evicts (run (start l) ms) m (run_distinct (start l) ms tt)
