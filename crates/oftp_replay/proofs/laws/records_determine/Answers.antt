use Rattle.oftp_replay.proofs.Replays.{records_determine}
use Rattle.oftp_replay.proofs.laws.records_determine.Goals as goal

pub returns : goal.returns
returns c = records_determine c.one_file.ensures
