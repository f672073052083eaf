use Rattle.oftp_listing.proofs.RememberingLemmas.{looks_with}
use Rattle.oftp_listing.proofs.remembering.RememberingOfficeOffice.list_in.Goals as goal

pub returns : goal.returns
returns g c = record { looks = looks_with c.args.self.now.counts _ _ c.list_in.result c.list_in.ensures.looks }
