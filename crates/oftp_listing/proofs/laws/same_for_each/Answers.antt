use Rattle.oftp_listing.proofs.UnaskedLemmas.{nobody_asked, same_for_each}
use Rattle.oftp_listing.proofs.laws.same_for_each.Goals as goal

pub returns : goal.returns
returns c = record { same = same_for_each; unasked = nobody_asked }
