use Rattle.oftp_listing.proofs.RememberingLemmas.{looks_with}
use Rattle.oftp_listing.proofs.remembering.RememberingOfficeOffice.has_received.Goals as goal

pub returns : goal.returns
returns g c = record { looks = looks_with c.args.self.now.counts _ _ c.has_received.result c.has_received.ensures.looks }
