use Rattle.oftp_listing.proofs.RememberingLemmas.{looks_with}
use Rattle.oftp_listing.proofs.remembering.RememberingOfficeOffice.rows_of.Goals as goal

pub returns-clause-looks : goal.returns-clause-looks
returns-clause-looks g c = looks_with c.args.self.now.counts _ _ c.rows_of.result c.rows_of.ensures.looks
