use Rattle.oftp_vfile.proofs.FillListLemmas.{fill_fits}
use Rattle.oftp_vfile.proofs.laws.fill_fits.Goals as goal

pub returns : goal.returns
returns c = fill_fits
