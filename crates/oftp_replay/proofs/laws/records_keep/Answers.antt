use Rattle.oftp_replay.proofs.Replays.{records_keep}
use Rattle.oftp_replay.proofs.laws.records_keep.Goals as goal

pub returns : goal.returns
returns g c = λ now. records_keep c.one_file.ensures (g.O.Office.view now)
