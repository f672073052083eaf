use Rattle.oftp_register.proofs.ByIdentityLemmas.{stays_elsewhere}
use Rattle.oftp_register.proofs.laws.changes_stay.Goals as goal

pub returns : goal.returns
returns c = stays_elsewhere
