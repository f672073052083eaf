use Rattle.oftp_record.proofs.CutLemmas.{cut_read}
use Rattle.oftp_record.proofs.NextLemmas.{written_next}
use Rattle.oftp_record.proofs.ReadLemmas.{read_all}
use Rattle.oftp_record.proofs.laws.written_is_read.Goals as goal

pub returns-clause-entry : goal.returns-clause-entry
returns-clause-entry c = written_next

pub returns-clause-all : goal.returns-clause-all
returns-clause-all c = read_all

pub returns-clause-cut : goal.returns-clause-cut
returns-clause-cut c = cut_read
