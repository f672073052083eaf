use Rattle.oftp_listing.proofs.RememberingLemmas.{commits_with}
use Rattle.oftp_listing.proofs.remembering.RememberingOfficeOffice.commit.Goals as goal

pub returns : goal.returns
returns g c = record { commits = commits_with _ c.args.self.now.counts _ _ c.commit.result c.commit.ensures.commits }
