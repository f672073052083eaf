use Rattle.oftp_engine.proofs.PartRuns.{parts_make_the_file}
use Rattle.oftp_engine.proofs.laws.parts_make_the_file.Goals as goal

pub returns : goal.returns
returns c = parts_make_the_file
