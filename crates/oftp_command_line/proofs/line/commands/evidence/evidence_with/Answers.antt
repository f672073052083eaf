use Rattle.std.proofs.Common.{codes, refl}
use Rattle.oftp_command_line.specs.EvidenceLine.{evidence_app}
use Rattle.oftp_command_line.specs.declared.line.arguments.TheConstants.{MOST_NO}
use Rattle.oftp_command_line.proofs.line.commands.evidence.evidence_with.Goals as goal

pub number-requires : goal.number-requires
unfolding evidence_app
number-requires c = (1, (MOST_NO, c.requires.numbers 1 MOST_NO (codes "no") refl))
