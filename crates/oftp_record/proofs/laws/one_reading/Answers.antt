use Rattle.oftp_record.proofs.NextLemmas.{one_next}
use Rattle.oftp_record.proofs.ReadLemmas.{one_read, read_more, read_stop}
use Rattle.oftp_record.proofs.laws.one_reading.Goals as goal

pub returns-clause-next : goal.returns-clause-next
returns-clause-next c = one_next

pub returns-clause-one : goal.returns-clause-one
returns-clause-one c = one_read

pub returns-clause-more : goal.returns-clause-more
returns-clause-more c = read_more

pub returns-clause-stop : goal.returns-clause-stop
returns-clause-stop c = read_stop
