use Rattle.oftp_life.proofs.LifeEvents.{acts_are_events}
use Rattle.oftp_life.proofs.laws.acts_are_events.Goals as goal

pub returns : goal.returns
returns c = acts_are_events
