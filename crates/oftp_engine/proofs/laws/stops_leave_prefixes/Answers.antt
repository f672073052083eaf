use Rattle.oftp_engine.proofs.Leaving.{stops_leave_prefixes}
use Rattle.oftp_engine.proofs.laws.stops_leave_prefixes.Goals as goal

pub returns : goal.returns
returns c = stops_leave_prefixes
