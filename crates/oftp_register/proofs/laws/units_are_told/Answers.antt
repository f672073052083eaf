use Rattle.oftp_register.proofs.FormatUnitLemmas.{units_are_told}
use Rattle.oftp_register.proofs.laws.units_are_told.Goals as goal

pub returns : goal.returns
returns c = units_are_told
