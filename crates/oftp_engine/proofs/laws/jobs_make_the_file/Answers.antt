use Rattle.oftp_engine.proofs.PartRuns.{jobs_make_the_file}
use Rattle.oftp_engine.proofs.laws.jobs_make_the_file.Goals as goal

pub returns : goal.returns
returns c = jobs_make_the_file
