use Rattle.oftp_vfile.proofs.LendLemmas.{rows_from}
use Rattle.oftp_vfile.proofs.laws.rows_from.Goals as goal

pub returns : goal.returns
returns c = rows_from
