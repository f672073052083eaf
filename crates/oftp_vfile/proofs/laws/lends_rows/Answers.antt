use Rattle.oftp_vfile.proofs.LendLemmas.{lends_rows}
use Rattle.oftp_vfile.proofs.laws.lends_rows.Goals as goal

pub returns : goal.returns
returns c = lends_rows
