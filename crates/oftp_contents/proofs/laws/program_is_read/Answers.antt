use Rattle.oftp_contents.proofs.ProgramLemmas.{program_is_read}
use Rattle.oftp_contents.proofs.laws.program_is_read.Goals as goal

pub returns : goal.returns
returns c = program_is_read
