use Rattle.oftp_listing.proofs.RememberingLemmas.{looks_with}
use Rattle.oftp_listing.proofs.remembering.RememberingOfficeOffice.out_by_no.Goals as goal

pub returns-clause-looks : goal.returns-clause-looks
returns-clause-looks g c = looks_with c.args.self.now.counts _ _ c.out_by_no.result c.out_by_no.ensures.looks
