use Rattle.oftp_command_line.specs.declared.line.arguments.TheConstants.{MOST_DURATION, MOST_PATIENCE}
use Rattle.oftp_command_line.proofs.line.commands.terms.terms_read.Goals as goal

pub number-requires : goal.number-requires
number-requires c = (0, (MOST_PATIENCE, c.requires.patience))

pub number-requires-2 : goal.number-requires-2
number-requires-2 c = (1, (MOST_DURATION, c.requires.longest))
