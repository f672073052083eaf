use Rattle.oftp_listing.proofs.RememberingLemmas.{counts_stay}
use Rattle.oftp_listing.proofs.laws.counts_stay.Goals as goal

pub returns : goal.returns
returns c = counts_stay
