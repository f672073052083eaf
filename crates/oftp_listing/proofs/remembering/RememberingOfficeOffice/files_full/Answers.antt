use Rattle.oftp_listing.proofs.RememberingLemmas.{looks_with}
use Rattle.oftp_listing.proofs.remembering.RememberingOfficeOffice.files_full.Goals as goal

pub returns : goal.returns
returns g c = record { looks = looks_with c.args.self.now.counts _ _ c.files_full.result c.files_full.ensures.looks }
