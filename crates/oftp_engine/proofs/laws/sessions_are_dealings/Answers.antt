use Rattle.oftp_engine.proofs.Dealings.{sessions_are_dealings}
use Rattle.oftp_engine.proofs.laws.sessions_are_dealings.Goals as goal

pub returns : goal.returns
returns c = sessions_are_dealings
