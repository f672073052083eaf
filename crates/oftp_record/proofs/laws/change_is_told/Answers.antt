use Rattle.oftp_record.proofs.ChangeLemmas.{octet_told, place_told}
use Rattle.oftp_record.proofs.laws.change_is_told.Goals as goal

pub returns-clause-octet : goal.returns-clause-octet
returns-clause-octet c = octet_told

pub returns-clause-place : goal.returns-clause-place
returns-clause-place c = place_told
