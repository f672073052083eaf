use Rattle.oftp_progress.proofs.BeatLemmas.{said_in_time}
use Rattle.oftp_progress.proofs.laws.said_in_time.Goals as goal

pub returns : goal.returns
returns c = said_in_time
