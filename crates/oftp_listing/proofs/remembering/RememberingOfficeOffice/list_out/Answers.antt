use Rattle.oftp_listing.proofs.RememberingLemmas.{looks_with}
use Rattle.oftp_listing.proofs.remembering.RememberingOfficeOffice.list_out.Goals as goal

pub returns : goal.returns
returns g c = record { looks = looks_with c.args.self.now.counts _ _ c.list_out.result c.list_out.ensures.looks }
